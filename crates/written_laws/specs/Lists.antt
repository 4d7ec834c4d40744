-- How many there are in a list, and what they are called.
use Rattle.std.specs.Prelude.{ℕ, ◌≤◌, List, map, length}
use Rattle.std.specs.List.{AllByRecursion}
use Rattle.mojom_ast.specs.declared.definitions.DefinitionItem.{DefinitionItem}
use Rattle.mojom_ast.specs.declared.definitions.Enumerator.{Enumerator}
use Rattle.mojom_files.specs.Definitions.{enumerators_of}
use Rattle.written_laws.specs.Entries.{Entry, AreApart, struct_lists, choice_lists}

-- at most 4,096 names, each once
pub record AreNames (names : List (List ℕ)) : Type 0 where
  pub few : length names ≤ 4096
  pub apart : AreApart names

-- the names of those in a list
abbrev pub names_of : List Entry → List (List ℕ)
names_of entries = map (λ (e : Entry). e.name) entries

-- the names of fields, parameters, methods and enumerators
pub record HasNames (item : DefinitionItem) : Type 0 where
  pub structs : AllByRecursion (λ (entries : List Entry). AreNames (names_of entries)) (struct_lists item)
  pub choices : AllByRecursion (λ (entries : List Entry). AreNames (names_of entries)) (choice_lists item)
  pub enumerators : AreNames (map (λ (e : Enumerator). e.name.text) (enumerators_of item))
