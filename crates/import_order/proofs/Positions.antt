-- The first place of a name.
use Rattle.std.proofs.Common.{◌≡◌, ℕ, zero, suc, ◌+◌, ◌<◌, List, [], ◌∷◌, length, take, get_or, refl, sym, ◌∙◌, ap, arith}
use Rattle.std.specs.Prelude.{Bool, true, false, Option, Some, None, if◌then◌else◌}
use Rattle.std.specs.Option.{option_map}
use Rattle.std.specs.Str.{bytes_eq}
use Rattle.std.specs.Map.{update}
use Rattle.std.proofs.lemmas.Slice.Eq.{bytes_eq-Decides}
use Rattle.std.specs.Option.{option_or}
use Rattle.import_order.specs.Numbers.{number_of}

or_none : {A : Type 0} (o : Option A) → option_or o None ≡ o
or_none None = refl
or_none (Some x) = refl

moved : {A : Type 0} (f : A → A) (o e : Option A) → option_map f (option_or o e) ≡ option_or (option_map f o) (option_map f e)
moved f None e = refl
moved f (Some x) e = refl

abbrev at_head : (b : Bool) → Option ℕ → Option ℕ
at_head b later = if b then Some 0 else option_map (λ (n : ℕ). n + 1) later

next : (n : ℕ) (b : Bool) → option_map (λ (n : ℕ). n + 1) (if b then Some n else None) ≡ (if b then Some (suc n) else None)
next n true = let e : n + 1 ≡ suc n = omega arith in rw e refl
next n false = refl

head_more : (b : Bool) (o e f : Option ℕ) → option_map (λ (n : ℕ). n + 1) e ≡ f → at_head b (option_or o e) ≡ option_or (at_head b o) f
head_more true o e f h = refl
head_more false o e f h = moved (λ (n : ℕ). n + 1) o e ∙ ap (λ (x : Option ℕ). option_or (option_map (λ (n : ℕ). n + 1) o) x) h

-- the number of a name in a front that is longer by one: as before, else the last place if the name stands there
pub number_more : (q : List ℕ) (xs : List (List ℕ)) (n : ℕ) (d : List ℕ)
    → n < length xs
    → number_of q (take (n + 1) xs) ≡ option_or (number_of q (take n xs)) (if bytes_eq q (get_or xs n d) then Some n else None)
number_more q [] n d lt = absurd (let bad : ⊥ = omega (arith, lt) in bad)
number_more q (x ∷ xs) zero d lt = refl
number_more q (x ∷ xs) (suc n) d lt =
    let e : suc n + 1 ≡ suc (n + 1) = omega arith in
    let later = number_more q xs n d (omega (arith, lt)) in
    rw (e, later)
    (head_more (bytes_eq q x) (number_of q (take n xs)) (if bytes_eq q (get_or xs n d) then Some n else None)
    (if bytes_eq q (get_or xs n d) then Some (suc n) else None) (next n (bytes_eq q (get_or xs n d))))

-- whether two texts are the same does not depend on their order
pub same_order : (x y : List ℕ) (b c : Bool) → bytes_eq x y ≡ b → bytes_eq y x ≡ c → b ≡ c
same_order x y true true h g = refl
same_order x y false false h g = refl
same_order x y true false h g = let e = (bytes_eq-Decides x y).0 h in sym ((bytes_eq-Decides y x).1 (sym e)) ∙ g
same_order x y false true h g = let e = (bytes_eq-Decides y x).0 g in sym h ∙ (bytes_eq-Decides x y).1 (sym e)

-- a name that had no number has the one that was noted, and the others have theirs
pub noted : (old new : List ℕ → Option ℕ) (name : List ℕ) (number : ℕ)
    → old name ≡ None → (q : List ℕ) → new q ≡ update bytes_eq old name (Some number) q
    → new q ≡ option_or (old q) (if bytes_eq q name then Some number else None)
noted old new name number fresh q e = go (bytes_eq q name) refl
  where
    go : (b : Bool) → bytes_eq q name ≡ b → new q ≡ option_or (old q) (if b then Some number else None)
    go true h =
        let is : q ≡ name = (bytes_eq-Decides q name).0 h in
        let back : bytes_eq name q ≡ true = (bytes_eq-Decides name q).1 (sym is) in
        let there : new q ≡ Some number = rw back at e in
        let none : old q ≡ None = ap old is ∙ fresh in
        rw none there
    go false h =
        let back : bytes_eq name q ≡ false = sym (same_order q name false (bytes_eq name q) h refl) in
        let kept : new q ≡ old q = rw back at e in
        kept ∙ sym (or_none (old q))
