-- Full names within others.
use Rattle.std.proofs.Common.{◌≡◌, ℕ, List, ◌∷◌, refl, append_assoc}
use Rattle.std.specs.Prelude.{Option, Some, None}
use Rattle.mj_base.specs.Names.{within, named_in, full_name}

-- what stands in a definition stands, by the two own names, in the module
pub full_name_is : (module_name outer : Option (List ℕ)) (name : List ℕ) → full_name module_name outer name ≡ named_in module_name (named_in outer name)
full_name_is module_name None name = refl
full_name_is None (Some outer) name = refl
full_name_is (Some around) (Some outer) name = append_assoc around (46 ∷ outer) (46 ∷ name)

-- what stands in what stands in a thing stands, by the two own names, in the thing
pub within_twice : (outer first last : List ℕ) → within (within outer first) last ≡ within outer (within first last)
within_twice outer first last = append_assoc outer (46 ∷ first) (46 ∷ last)
