-- Full names: those of the module, of the enclosing definition and the own one, with dots between them.
use Rattle.std.specs.Prelude.{ℕ, List, ◌++◌, codes, Option, Some, None}
use Rattle.std.specs.Option.{option_map}

-- the full name of what stands in another thing: the two names with a dot between them
abbrev pub within : List ℕ → List ℕ → List ℕ
within outer inner = outer ++ (codes "." ++ inner)

-- the full name of what may stand in another thing
abbrev pub named_in : Option (List ℕ) → List ℕ → List ℕ
named_in None name = name
named_in (Some outer) name = within outer name

-- the full name of the definition of this own name in a module, where there is one
abbrev pub around : Option (List ℕ) → Option (List ℕ) → Option (List ℕ)
around module_name outer = option_map (named_in module_name) outer

-- the full name of what stands in a module, or in the definition of an own name there
abbrev pub full_name : Option (List ℕ) → Option (List ℕ) → List ℕ → List ℕ
full_name module_name None name = named_in module_name name
full_name module_name (Some outer) name = within (named_in module_name outer) name
