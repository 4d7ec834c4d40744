-- Names whose numbers are noted.
use Rattle.std.proofs.Common.{◌≡◌, ◌+◌, ◌<◌, ℕ, List, length, take, get_or, refl, sym, ◌∙◌, ap}
use Rattle.std.specs.Prelude.{Bool, true, false, Option, Some, None, if◌then◌else◌, position}
use Rattle.std.specs.Map.{update}
use Rattle.std.specs.Option.{option_or}
use Rattle.std.specs.Str.{bytes_eq}
use Rattle.std.proofs.lemmas.Slice.Eq.{bytes_eq-Decides}
use Rattle.compat_model.specs.Verdicts.{is_name}
use Rattle.breaking_changes.proofs.Places.{position_next}

pub or_none : {A : Type 0} (o : Option A) → option_or o None ≡ o
or_none None = refl
or_none (Some x) = refl

-- whether two texts are the same does not depend on their order
same_order : (x y : List ℕ) (b c : Bool) → bytes_eq x y ≡ b → bytes_eq y x ≡ c → b ≡ c
same_order x y true true h g = refl
same_order x y false false h g = refl
same_order x y true false h g = let e = (bytes_eq-Decides x y).0 h in sym ((bytes_eq-Decides y x).1 (sym e)) ∙ g
same_order x y false true h g = let e = (bytes_eq-Decides y x).0 g in sym h ∙ (bytes_eq-Decides x y).1 (sym e)

-- a name that had no number has the one that was noted, and the others have theirs
pub noted : (old new : List ℕ → Option ℕ) (name : List ℕ) (number : ℕ)
    → old name ≡ None → (q : List ℕ) → new q ≡ update bytes_eq old name (Some number) q
    → new q ≡ option_or (old q) (if bytes_eq q name then Some number else None)
noted old new name number fresh q e = go (bytes_eq q name) refl
  where
    go : (b : Bool) → bytes_eq q name ≡ b → new q ≡ option_or (old q) (if b then Some number else None)
    go true h =
        let is : q ≡ name = (bytes_eq-Decides q name).0 h in
        let back : bytes_eq name q ≡ true = (bytes_eq-Decides name q).1 (sym is) in
        let there : new q ≡ Some number = rw back at e in
        let none : old q ≡ None = ap old is ∙ fresh in
        rw none there
    go false h =
        let back : bytes_eq name q ≡ false = sym (same_order q name false (bytes_eq name q) h refl) in
        let kept : new q ≡ old q = rw back at e in
        kept ∙ sym (or_none (old q))

-- in a front that is longer by one name
pub name_next : (q : List ℕ) (names : List (Option (List ℕ))) (n : ℕ) (d : Option (List ℕ)) → n < length names
    → position (is_name q) (take (n + 1) names)
    ≡ option_or (position (is_name q) (take n names)) (if is_name q (get_or names n d) then Some n else None)
name_next q names n d lt = position_next (is_name q) names n d lt
