-- What a string stands for, from left to right.
use Rattle.std.proofs.Common.{◌≡◌, ℕ, ◌+◌, ◌<◌, List, [], ◌∷◌, ◌++◌, length, drop, get_or, Bool, true, false, cond, ◌==◌, Option, Some, None, Result, Ok, Err, refl, sym, ap, ◌∙◌, subst, arith, add-one, drop-cons, append_assoc}
use Rattle.std.proofs.lemmas.Bool.{ne_eqb}
use Rattle.mojom_lexer.specs.Bytes.{backslash}
use Rattle.mojom_lexer.specs.Strings.{Part, escaped, then_text, text_of}
use Rattle.mojom_lexer.specs.Strings.Part.{Literal, Escape}
use Rattle.mojom_lexer.specs.steps.Scans.{parts_of, with_text}

-- the bytes before `i` give `text`, and with what follows the whole is `total`; a part that began with a backslash is still open
abbrev pub IsReadTo : Bool → ℕ → List ℕ → List ℕ → Result (List ℕ) ℕ → Type 0
IsReadTo after_backslash i text bs total = with_text text (text_of (cond after_backslash i (i + 1)) (parts_of after_backslash (drop i bs))) ≡ total

cut : (bs : List ℕ) (i : ℕ) → i < length bs → drop i bs ≡ get_or bs i 0 ∷ drop (i + 1) bs
cut bs i lt = rw (add-one, drop-cons bs i 0) refl

longer : (text : List ℕ) (m at : ℕ) (rest : Result (List ℕ) ℕ) → with_text text (then_text at (Some m) rest) ≡ with_text (text ++ m ∷ []) rest
longer text m at (Ok cs) = ap Ok (simp append_assoc)
longer text m at (Err bad) = refl

-- the parts from a place on, by the byte there
module _ (i : ℕ) (text bs : List ℕ) (total : Result (List ℕ) ℕ) (lt : i < length bs) where
  abbrev byte : ℕ
  byte = get_or bs i 0

  abbrev rest : List ℕ
  rest = drop (i + 1) bs

  escape_here : parts_of true (drop i bs) ≡ Escape byte ∷ parts_of false rest
  escape_here = ap (parts_of true) (cut bs i lt)

  part_here : (v : Bool) → (byte == backslash) ≡ v → parts_of false (drop i bs) ≡ cond v (parts_of true rest) (Literal byte ∷ parts_of false rest)
  part_here v e =
      ap (parts_of false) (cut bs i lt) ∙ ap (λ (b : Bool). cond b (parts_of true rest) (Literal byte ∷ parts_of false rest)) e

  -- an escape's second byte is read on to: by what it stands for
  escape_then : (meant : Option ℕ) → IsReadTo true i text bs total → escaped byte ≡ meant
      → with_text text (then_text i meant (text_of (i + 2) (parts_of false rest))) ≡ total
  escape_then meant so_far e =
      let escape : with_text text (text_of i (Escape byte ∷ parts_of false rest)) ≡ total =
      subst (λ (ps : List Part). with_text text (text_of i ps) ≡ total) escape_here so_far in
      subst (λ (x : Option ℕ). with_text text (then_text i x (text_of (i + 2) (parts_of false rest))) ≡ total) e escape

  -- behind an escape that stands for a byte
  pub escape_on : (m : ℕ) → IsReadTo true i text bs total → escaped byte ≡ Some m → IsReadTo false (i + 1) (text ++ m ∷ []) bs total
  escape_on m so_far e =
      let next : i + 2 ≡ i + 1 + 1 = omega arith in
      let more : with_text (text ++ m ∷ []) (text_of (i + 2) (parts_of false rest)) ≡ total =
      sym (longer text m i (text_of (i + 2) (parts_of false rest))) ∙ escape_then (Some m) so_far e in
      subst (λ (k : ℕ). with_text (text ++ m ∷ []) (text_of k (parts_of false rest)) ≡ total) next more

  -- an escape that stands for nothing is the first
  pub escape_bad : IsReadTo true i text bs total → escaped byte ≡ None → total ≡ Err i
  escape_bad so_far e = sym (escape_then None so_far e)

  -- behind a backslash
  pub slash_on : IsReadTo false i text bs total → (byte == backslash) ≡ true → IsReadTo true (i + 1) text bs total
  slash_on so_far e = subst (λ (ps : List Part). with_text text (text_of (i + 1) ps) ≡ total) (part_here true e) so_far

  -- behind a byte that stands for itself
  pub plain_on : IsReadTo false i text bs total → (byte == backslash) ≡ false → IsReadTo false (i + 1) (text ++ byte ∷ []) bs total
  plain_on so_far e =
      let here : with_text text (text_of (i + 1) (Literal byte ∷ parts_of false rest)) ≡ total =
      subst (λ (ps : List Part). with_text text (text_of (i + 1) ps) ≡ total) (part_here false e) so_far in
      sym (longer text byte (i + 1) (text_of (i + 1 + 1) (parts_of false rest))) ∙ here

  -- the same by what the code tells of a step: behind the second byte of an escape
  pub joined_escape : (was now : Bool) (more : List ℕ) (m : ℕ) → was ≡ true → now ≡ false → more ≡ text ++ m ∷ []
      → IsReadTo was i text bs total → escaped byte ≡ Some m → IsReadTo now (i + 1) more bs total
  joined_escape was now more m a b e so_far is =
      rw (b, e) (escape_on m (subst (λ (v : Bool). IsReadTo v i text bs total) a so_far) is)

  -- behind a backslash
  pub joined_slash : (was now : Bool) (more : List ℕ) → was ≡ false → now ≡ true → more ≡ text
      → IsReadTo was i text bs total → byte ≡ backslash → IsReadTo now (i + 1) more bs total
  joined_slash was now more a b e so_far is =
      rw (b, e) (slash_on (subst (λ (v : Bool). IsReadTo v i text bs total) a so_far) (rw is refl))

  -- behind a byte that stands for itself
  pub joined_plain : (was now : Bool) (more : List ℕ) → was ≡ false → now ≡ was → more ≡ text ++ byte ∷ []
      → IsReadTo was i text bs total → (byte ≡ backslash → ⊥) → IsReadTo now (i + 1) more bs total
  joined_plain was now more a b e so_far not_so =
      rw (b ∙ a, e) (plain_on (subst (λ (v : Bool). IsReadTo v i text bs total) a so_far) (ne_eqb byte backslash not_so))

  -- at an escape that stands for nothing
  pub joined_bad : (was : Bool) → was ≡ true → IsReadTo was i text bs total → escaped byte ≡ None → total ≡ Err i
  joined_bad was a so_far e = escape_bad (subst (λ (v : Bool). IsReadTo v i text bs total) a so_far) e
