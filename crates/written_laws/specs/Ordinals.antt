-- The ordinals of lists.
use Rattle.std.specs.Prelude.{ℕ, ◌<◌, ◌^◌, List, map, length}
use Rattle.std.specs.List.{AllByRecursion}
use Rattle.mojom_ast.specs.declared.definitions.DefinitionItem.{DefinitionItem}
use Rattle.written_laws.specs.Entries.{Entry, Counted, counted, struct_lists, choice_lists, AreApart}

-- the ordinals of a list, as they are written or counted on
abbrev pub ordinals : List Entry → List ℕ
ordinals entries = map (λ (c : Counted). c.ordinal) (counted entries)

-- n ordinals are the numbers from 0 to n - 1, each once
pub record AreWhole (entries : List Entry) : Type 0 where
  pub below : AllByRecursion (λ (ordinal : ℕ). ordinal < length entries) (ordinals entries)
  pub apart : AreApart (ordinals entries)

-- ordinals are numbers of 32 bits, each once
pub record AreChoices (entries : List Entry) : Type 0 where
  pub small : AllByRecursion (λ (ordinal : ℕ). ordinal < 2 ^ 32) (ordinals entries)
  pub apart : AreApart (ordinals entries)

-- the ordinals of the fields of a struct and of parameters are whole; tags and the ordinals of methods stand once
pub record HasOrdinals (item : DefinitionItem) : Type 0 where
  pub structs : AllByRecursion AreWhole (struct_lists item)
  pub choices : AllByRecursion AreChoices (choice_lists item)
