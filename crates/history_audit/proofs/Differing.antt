-- Two texts that are the same so far, and the first line that differs.
use Rattle.std.proofs.Common.{◌≡◌, ◌≤◌, ◌<◌, ℕ, zero, suc, ◌+◌, Bool, true, false, List, [], ◌∷◌, length, drop, refl, sym, ap, ◌∙◌, subst, arith}
use Rattle.std.proofs.lemmas.Bool.{eq-eqb, eqb-true}
use Rattle.std.specs.Prelude.{◌==◌, if◌then◌else◌, slice_index_or}
use Rattle.history_audit.specs.Audited.{first_differing}

-- from here on the texts are told apart as the whole ones are
pub record SameSoFar (bytes text : List ℕ) (line at : ℕ) : Type 0 where
  pub within : at ≤ length bytes
  pub short : at ≤ length text
  pub goes : first_differing 1 bytes text ≡ first_differing line (drop at bytes) (drop at text)
  pub back : drop at bytes ≡ drop at text → bytes ≡ text
  pub forth : bytes ≡ text → drop at bytes ≡ drop at text

pub same_first : (bytes text : List ℕ) → SameSoFar bytes text 1 0
same_first bytes text = record { within = omega arith; short = omega arith; goes = refl; back = λ e. e; forth = λ e. e }

drop_at : (xs : List ℕ) (k : ℕ) → k < length xs → drop k xs ≡ slice_index_or xs k 0 ∷ drop (suc k) xs
drop_at [] k lt = absurd (omega (arith, lt))
drop_at (x ∷ xs) zero lt = refl
drop_at (x ∷ xs) (suc k) lt = drop_at xs k (omega (arith, lt))

drop_end : (xs : List ℕ) (k : ℕ) → length xs ≤ k → drop k xs ≡ []
drop_end [] zero le = refl
drop_end [] (suc k) le = refl
drop_end (x ∷ xs) zero le = absurd (omega (arith, le))
drop_end (x ∷ xs) (suc k) le = drop_end xs k (omega (arith, le))

abbrev next_line : ℕ → ℕ → ℕ
next_line b line = if b == 10 then line + 1 else line

module _ (bytes text : List ℕ) (line at : ℕ) (so : SameSoFar bytes text line at) where
  pub same_more : at < length bytes → at < length text → slice_index_or bytes at 0 ≡ slice_index_or text at 0 → (after : ℕ)
      → after ≡ next_line (slice_index_or bytes at 0) line → SameSoFar bytes text after (suc at)
  same_more a b same after is =
      let here = drop_at bytes at a in
      let there = drop_at text at b in
      let step : first_differing line (drop at bytes) (drop at text)
      ≡ first_differing (next_line (slice_index_or bytes at 0) line) (drop (suc at) bytes) (drop (suc at) text) =
      ap (λ (xs : List ℕ). first_differing line xs (drop at text)) here
      ∙ (ap (λ (ys : List ℕ). first_differing line (slice_index_or bytes at 0 ∷ drop (suc at) bytes) ys) there
      ∙ ap (λ (t : Bool). if t then first_differing (next_line (slice_index_or bytes at 0) line) (drop (suc at) bytes) (drop (suc at) text) else line)
      (eq-eqb (slice_index_or bytes at 0) (slice_index_or text at 0) same)) in
      record {
        within = omega (arith, a);
        short = omega (arith, b);
        goes = so.goes ∙ (step ∙ ap (λ (l : ℕ). first_differing l (drop (suc at) bytes) (drop (suc at) text)) (sym is));
        back = λ e. so.back (here ∙ (ap (λ (x : ℕ). x ∷ drop (suc at) bytes) same
            ∙ (ap (λ (xs : List ℕ). slice_index_or text at 0 ∷ xs) e ∙ sym there)));
        forth = λ e. tail_of (slice_index_or bytes at 0) (slice_index_or text at 0) (drop (suc at) bytes) (drop (suc at) text)
            (sym here ∙ (so.forth e ∙ there));
      }
    where
      tail_of : (x y : ℕ) (xs ys : List ℕ) → x ∷ xs ≡ y ∷ ys → xs ≡ ys
      tail_of x y xs ys e = cc

  pub differs_here : at < length bytes → at < length text → (slice_index_or bytes at 0 ≡ slice_index_or text at 0 → ⊥)
      → (bytes ≡ text → ⊥) × (line ≡ first_differing 1 bytes text)
  differs_here a b other =
      let here = drop_at bytes at a in
      let there = drop_at text at b in (
        (λ e. other (head_of (slice_index_or bytes at 0) (slice_index_or text at 0) (drop (suc at) bytes) (drop (suc at) text)
            (sym here ∙ (so.forth e ∙ there)))),
        sym (so.goes ∙ (ap (λ (xs : List ℕ). first_differing line xs (drop at text)) here
            ∙ (ap (λ (ys : List ℕ). first_differing line (slice_index_or bytes at 0 ∷ drop (suc at) bytes) ys) there
            ∙ apart (slice_index_or bytes at 0) (slice_index_or text at 0) (drop (suc at) bytes) (drop (suc at) text) other))),
      )
    where
      head_of : (x y : ℕ) (xs ys : List ℕ) → x ∷ xs ≡ y ∷ ys → x ≡ y
      head_of x y xs ys e = cc

      apart : (x y : ℕ) (xs ys : List ℕ) → (x ≡ y → ⊥) → first_differing line (x ∷ xs) (y ∷ ys) ≡ line
      apart x y xs ys other = go (x == y) refl
        where
          go : (b : Bool) → (x == y) ≡ b → (if b then first_differing (next_line x line) xs ys else line) ≡ line
          go true e = absurd (other (eqb-true x y e))
          go false e = refl

  pub same_all : at ≡ length bytes → at ≡ length text → bytes ≡ text
  same_all a b = so.back (drop_end bytes at (omega (arith, a)) ∙ sym (drop_end text at (omega (arith, b))))

  none_first : (xs : List ℕ) → first_differing line xs [] ≡ line
  none_first [] = refl
  none_first (x ∷ xs) = refl

  -- one of them is over, and the other isn't
  pub text_ends : at < length bytes → length text ≤ at → (bytes ≡ text → ⊥) × (line ≡ first_differing 1 bytes text)
  text_ends a b = (
    (λ e. omega (arith, a, b, ap length e)),
    sym (so.goes ∙ (ap (λ (ys : List ℕ). first_differing line (drop at bytes) ys) (drop_end text at b) ∙ none_first (drop at bytes))),
  )

  pub bytes_end : length bytes ≤ at → length bytes < length text → (bytes ≡ text → ⊥) × (line ≡ first_differing 1 bytes text)
  bytes_end a b = (
    (λ e. omega (arith, a, b, ap length e)),
    sym (so.goes ∙ ap (λ (xs : List ℕ). first_differing line xs (drop at text)) (drop_end bytes at a)),
  )
