-- Comparing with the last part of a name and what stands before it, one after the other.
use Rattle.std.proofs.Common.{◌≡◌, ◌≢◌, ℕ, List, [], ◌∷◌, ◌++◌, Bor, refl, sym, ◌∙◌, ap, append_assoc}
use Rattle.std.specs.Prelude.{Bool, true, false, Option, Some, None, MatchOption, codes}
use Rattle.std.specs.Str.{bytes_eq}
use Rattle.std.proofs.lemmas.List.{append_cancel_right}
use Rattle.std.proofs.lemmas.Slice.Eq.{bytes_eq-Decides}
use Rattle.mj_base.specs.Names.{within}

-- texts that aren't the same compare as different
pub differs : (one two : List ℕ) → one ≢ two → bytes_eq one two ≡ false
differs one two apart = go (bytes_eq one two) refl
  where
    go : (b : Bool) → bytes_eq one two ≡ b → b ≡ false
    go true same = absurd (apart ((bytes_eq-Decides one two).0 same))
    go false other = refl

-- what stands by one name in two things compares as the things do
pub outer_same : (one two name : List ℕ) → bytes_eq (within one name) (within two name) ≡ bytes_eq one two
outer_same one two name = go (bytes_eq one two) refl
  where
    go : (b : Bool) → bytes_eq one two ≡ b → bytes_eq (within one name) (within two name) ≡ b
    go true same = (bytes_eq-Decides (within one name) (within two name)).1 (ap (λ (t : List ℕ). within t name) ((bytes_eq-Decides one two).0 same))
    go false other =
        differs (within one name) (within two name)
        (λ same.
        let is : one ≡ two = append_cancel_right one two (46 ∷ name) same in
        let clash : true ≡ false = sym ((bytes_eq-Decides one two).1 is) ∙ other in
        cc)

-- bytes that don't end with a name are no name within which it stands
pub no_outer : (name bytes : List ℕ) → ((front : List ℕ) → bytes ≢ front ++ name) → (outer : List ℕ) → bytes ≢ within outer name
no_outer name bytes none outer same = none (outer ++ 46 ∷ []) (same ∙ sym (append_assoc outer (46 ∷ []) name))

-- a name stands in what is before a dot before it
pub outer_is : (name bytes rest : List ℕ) (r : Option (Bor (List ℕ))) → bytes ≡ rest ++ name
    → MatchOption r ((front : List ℕ) → rest ≢ front ++ codes ".") (λ x. rest ≡ x.now ++ codes ".")
    → MatchOption r ((outer : List ℕ) → bytes ≢ within outer name) (λ x. bytes ≡ within x.now name)
outer_is name bytes rest None is none = λ outer same.
    none outer (append_cancel_right rest (outer ++ 46 ∷ []) name (sym is ∙ (same ∙ sym (append_assoc outer (46 ∷ []) name))))
outer_is name bytes rest (Some x) is dot = is ∙ (ap (λ (t : List ℕ). t ++ name) dot ∙ append_assoc x.now (46 ∷ []) name)
