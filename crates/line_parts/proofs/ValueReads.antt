-- How far the text of a value goes is told by reading it to the end; a blank stands there, and the value is read by itself.
use Rattle.std.proofs.Common.{◌≡◌, ℕ, zero, suc, ◌-◌, ◌≤◌, List, [], ◌∷◌, ◌++◌, length, take, drop, Ok, Err, Bool, true, false, cond, ◌==◌}
use Rattle.std.proofs.Common.{inl, inr, refl, sym, ap, ◌∙◌, subst, arith, length-append}
use Rattle.std.proofs.lemmas.List.{append-nil}
use Rattle.std.proofs.lemmas.Bool.{eqb-true}
use Rattle.byte_rules.specs.declared.stop.Stop.{Stop}
use Rattle.byte_rules.specs.declared.stop.Stop.TheVariants as stops
use Rattle.byte_rules.specs.Lang.{Lang, Read, Whole, ◌>>=◌, byte, closed, ◌then◌}
use Rattle.byte_rules.specs.Judged.{Spells, IsBad}
use Rattle.byte_rules.specs.Reading.{Fails}
use Rattle.byte_rules.specs.steps.Reading.{Judges, verdict}
use Rattle.byte_rules.proofs.Tells.{Told}
use Rattle.byte_rules.proofs.Finds.{Free, Outcome}
use Rattle.byte_rules.proofs.Good.{Good}
use Rattle.byte_rules.proofs.Judging.{judged, reads}

-- there is one first byte with which nothing goes on
one_place : {A : Type 0} (one : Lang A) (bytes : List ℕ) (a b : ℕ) → IsBad one bytes a → IsBad one bytes b → a ≡ b
one_place one bytes a b h k =
    let up : a ≤ b = k.no_more a h.within (h.begins a (omega arith)) in
    let down : b ≤ a = h.no_more b k.within (k.begins b (omega arith)) in
    omega (arith, up, down)

drop_front : (f u : List ℕ) → drop (length f) (f ++ u) ≡ u
drop_front [] u = refl
drop_front (b ∷ f) u = drop_front f u

take_front : (f u : List ℕ) → take (length f) (f ++ u) ≡ f
take_front [] u = refl
take_front (b ∷ f) u = ap (λ (l : List ℕ). b ∷ l) (take_front f u)

glue : (n : ℕ) (ts : List ℕ) → take n ts ++ drop n ts ≡ ts
glue zero ts = refl
glue (suc n) [] = refl
glue (suc n) (b ∷ bs) = ap (λ l. b ∷ l) (glue n bs)

-- where a reading stopped that didn't take all
pub data Stopped {A : Type 0} (one : Lang A) (bytes : List ℕ) (at : ℕ) : Type 0 where
  -- behind a value
  Behind : (x : A) → one.read bytes ≡ Ok (x, drop at bytes) → Spells one x (take at bytes) → Stopped one bytes at
  -- in none
  Inside : one.read bytes ≡ Err (length (drop at bytes)) → Stopped one bytes at

module _ {A : Type 0} {S more : ℕ → Bool} (one : Lang A) (g : Good S more one) (c : ℕ) (stops_at : more c ≡ false) where
  stopped : (bytes : List ℕ) (at : ℕ) → IsBad one bytes at → Stopped one bytes at
  stopped bytes at bad = of (one.read bytes) refl (g.tells bytes) (judged one g bytes)
    where
      behind : (x : A) (f u : List ℕ) (n : ℕ) → bytes ≡ f ++ u → length bytes - length u ≡ n → one.read bytes ≡ Ok (x, u) → Spells one x f → n ≡ at
          → Stopped one bytes at
      behind x f u n e l r s same =
          let size : length f ≡ at = omega (arith, ap length e, length-append f u, l, same) in
          let d : drop at bytes ≡ u = ap (λ (k : ℕ). drop k bytes) (sym size) ∙ ap (drop (length f)) e ∙ drop_front f u in
          let t : take at bytes ≡ f = ap (λ (k : ℕ). take k bytes) (sym size) ∙ ap (take (length f)) e ∙ take_front f u in
          Behind x (r ∙ ap (λ (l : List ℕ). Ok (x, l)) (sym d)) (subst (λ (l : List ℕ). Spells one x l) (sym t) s)

      of : (r : Read A) → one.read bytes ≡ r → Told one bytes r → Judges one bytes (verdict (length bytes) (one.read bytes)) → Stopped one bytes at
      of (Ok (x, [])) e t j =
          absurd (bad.none x (subst (λ (r : Read A). Judges one bytes (verdict (length bytes) r)) e j))
      of (Ok (x, b ∷ bs)) e t j =
          let here : IsBad one bytes (length bytes - length (b ∷ bs)) = subst (λ (r : Read A). Judges one bytes (verdict (length bytes) r)) e j in
          behind x t.0 (b ∷ bs) (length bytes - length (b ∷ bs)) t.1 refl e
          (subst (λ (l : List ℕ). Spells one x l) (append-nil t.0) (t.2 Whole (λ v rest. (rest ≡ []) × (v ≡ x)) [] (refl, refl)))
          (one_place one bytes (length bytes - length (b ∷ bs)) at here bad)
      of (Err left) e t j =
          let here : IsBad one bytes (length bytes - left) = subst (λ (r : Read A). Judges one bytes (verdict (length bytes) r)) e j in
          let same : length bytes - left ≡ at = one_place one bytes (length bytes - left) at here bad in
          let size : length t.0 ≡ at = omega (arith, ap length t.2, length-append t.0 t.1, t.3, same) in
          let d : drop at bytes ≡ t.1 = ap (λ (k : ℕ). drop k bytes) (sym size) ∙ ap (drop (length t.0)) t.2 ∙ drop_front t.0 t.1 in
          Inside (e ∙ ap (λ (k : ℕ). Err k) (sym t.3 ∙ ap length (sym d)))

  -- the value, and the byte that ends it
  abbrev ended : Lang A
  ended = one then λ x. closed c x

  -- the byte and these bytes stand behind this value
  abbrev Ahead : A → List ℕ → A → List ℕ → Type 0
  Ahead x r v rest = (rest ≡ c ∷ r) × (v ≡ x)

  -- the first byte, or the one that follows
  abbrev head : List ℕ → ℕ
  head [] = c
  head (b ∷ bs) = b

  free_ahead : (x : A) (r : List ℕ) → Free more (Ahead x r)
  free_ahead x r v t ts k = subst (λ (b : ℕ). more b ≡ false) (ap head (sym k.0)) stops_at

  -- the value that was read, or another
  abbrev value_or : A → Read A → A
  value_or x (Ok z) = z.0
  value_or x (Err n) = x

  -- the bytes that are left
  abbrev rest_in : Read A → List ℕ
  rest_in (Ok z) = z.1
  rest_in (Err n) = []

  followed_by : (x : A) (f r : List ℕ) (q : Read A) → q ≡ Ok (x, []) → Told one f q → one.followed Whole (Ahead x r) (f ++ c ∷ r)
  followed_by x f r (Ok (y, [])) e t = subst (λ (l : List ℕ). one.followed Whole (Ahead x r) (l ++ c ∷ r)) (sym (t.1 ∙ append-nil t.0))
      (t.2 Whole (Ahead x r) (c ∷ r) (refl, ap (value_or x) e))
  followed_by x f r (Ok (y, b ∷ bs)) e t = let k : b ∷ bs ≡ [] = ap rest_in e in absurd (cc)
  followed_by x f r (Err n) e t = absurd (cc)

  read_ahead : (x : A) (r : List ℕ) (q : Read A) → Outcome Whole (Ahead x r) [] q → q ≡ Ok (x, c ∷ r)
  read_ahead x r q (inl k) = k.3 ∙ ap (λ (l : List ℕ). Ok (k.0, l ++ [])) k.2.0 ∙ ap (λ (y : A). Ok (y, c ∷ r ++ [])) k.2.1
      ∙ ap (λ (l : List ℕ). Ok (x, l)) (append-nil (c ∷ r))
  read_ahead x r q (inr k) = absurd k

  -- a value that is spelled by itself is read before the byte
  before : (x : A) (f r : List ℕ) → Spells one x f → one.read (f ++ c ∷ r) ≡ Ok (x, c ∷ r)
  before x f r s = subst (λ (l : List ℕ). one.read l ≡ Ok (x, c ∷ r)) (append-nil (f ++ c ∷ r))
      (read_ahead x r (one.read ((f ++ c ∷ r) ++ [])) (g.finds Whole (Ahead x r) (free_ahead x r) (f ++ c ∷ r) [] refl
      (followed_by x f r (one.read f) (reads one g f x s) (g.tells f))))

  -- all bytes are a value: nothing ends it
  pub nothing_behind : (bytes : List ℕ) (x : A) → Spells one x bytes → ended.read bytes ≡ Err 0
  nothing_behind bytes x s = ap (λ (r : Read A). r >>= λ y. (closed c y.0).read y.1) (reads one g bytes x s)

  -- another byte, or none, stands where it stopped
  pub other_behind : (bytes : List ℕ) (at : ℕ) (e : Stop) → IsBad one bytes at → Fails e ((byte c).read (drop at bytes)) → Fails e (ended.read bytes)
  other_behind bytes at stops.Memory bad f = tt
  other_behind bytes at (stops.Left n) bad f = of (stopped bytes at bad)
    where
      size : (ts : List ℕ) → (byte c).read ts ≡ Err n → length ts ≡ n
      size [] e = cc
      size (b ∷ bs) e = by (b == c) e
        where
          by : (v : Bool) → cond {A = Read ℕ} v (Ok (b, bs)) (Err (length (b ∷ bs))) ≡ Err n → length (b ∷ bs) ≡ n
          by true e = absurd (cc)
          by false e = cc

      of : Stopped one bytes at → ended.read bytes ≡ Err n
      of (Behind x r s) = ap (λ (r : Read A). r >>= λ y. (closed c y.0).read y.1) r ∙ ap (λ (q : Read ℕ). q >>= λ z. Ok (x, z.1)) f
      of (Inside r) = ap (λ (r : Read A). r >>= λ y. (closed c y.0).read y.1) r ∙ ap (λ (k : ℕ). Err k) (size (drop at bytes) f)

  behind_byte : (ts after : List ℕ) (b : ℕ) → (byte c).read ts ≡ Ok (b, after) → ts ≡ c ∷ after
  behind_byte [] after b e = absurd (cc)
  behind_byte (t ∷ ts) after b e = of (t == c) refl e
    where
      of : (v : Bool) → (t == c) ≡ v → cond {A = Read ℕ} v (Ok (t, ts)) (Err (length (t ∷ ts))) ≡ Ok (b, after) → t ∷ ts ≡ c ∷ after
      of true s e = ap (λ (k : ℕ). k ∷ ts) (eqb-true t c s) ∙ ap (λ (l : List ℕ). c ∷ l) (ap rest e)
        where
          rest : Read ℕ → List ℕ
          rest (Ok x) = x.1
          rest (Err n) = ts
      of false s e = absurd (cc)

  -- the byte stands there, behind a value or not
  pub value_behind : (bytes after : List ℕ) (at b : ℕ) (x : A) → (byte c).read (drop at bytes) ≡ Ok (b, after) → Spells one x (take at bytes)
      → ended.read bytes ≡ Ok (x, after)
  value_behind bytes after at b x r s =
      let e : drop at bytes ≡ c ∷ after = behind_byte (drop at bytes) after b r in
      let whole : bytes ≡ take at bytes ++ c ∷ after = sym (glue at bytes) ∙ ap (λ (l : List ℕ). take at bytes ++ l) e in
      ap (λ (l : List ℕ). ended.read l) whole
      ∙ ap (λ (q : Read A). q >>= λ y. (closed c y.0).read y.1) (before x (take at bytes) after s)
      ∙ ap (λ (q : Read ℕ). q >>= λ z. Ok (x, z.1)) (ap (λ (l : List ℕ). (byte c).read l) (sym e) ∙ r)

  pub none_behind : (bytes : List ℕ) (at : ℕ) → IsBad one bytes at → ((x : A) → Spells one x (take at bytes) → ⊥)
      → ended.read bytes ≡ Err (length (drop at bytes))
  none_behind bytes at bad none = of (stopped bytes at bad)
    where
      of : Stopped one bytes at → ended.read bytes ≡ Err (length (drop at bytes))
      of (Behind x r s) = absurd (none x s)
      of (Inside r) = ap (λ (r : Read A). r >>= λ y. (closed c y.0).read y.1) r
