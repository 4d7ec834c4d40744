-- What is held under names, by the numbers of the names.
use Rattle.script_names.specs.Held.{held_at}
use Rattle.std.specs.Prelude.{List, [], ◌∷◌, Option, Some, None, option_and_then, set}
use Rattle.std.specs.Option.{option_map}
use Rattle.call_script.specs.declared.script.NameId.{NameId}

module _ {X : Type 0} where
  -- nothing is held under a name any more
  abbrev pub emptied : List (Option X) → NameId → List (Option X)
  emptied table n = set table n.0 None

  -- something is held under a name
  abbrev pub filled : List (Option X) → NameId → X → List (Option X)
  filled table n x = set table n.0 (Some x)

  -- where there is a name for it
  abbrev pub filled_one : Option NameId → X → List (Option X) → List (Option X)
  filled_one None x table = table
  filled_one (Some n) x table = filled table n x

  -- things come under names, the last one first
  abbrev pub given : List NameId → List X → List (Option X) → List (Option X)
  given names [] table = table
  given [] (x ∷ things) table = table
  given (n ∷ names) (x ∷ things) table = filled (given names things table) n x

  -- what was held under these names where it is taken away from one after the other; none where one of them holds nothing any more
  abbrev pub taken_from : List (Option X) → List NameId → Option (List X)
  taken_from table [] = Some []
  taken_from table (n ∷ names) =
      option_and_then (λ (x : X). option_map (λ (xs : List X). x ∷ xs) (taken_from (emptied table n) names)) (held_at table n)

  -- the table then
  abbrev pub left_by : List (Option X) → List NameId → List (Option X)
  left_by table [] = table
  left_by table (n ∷ names) = left_by (emptied table n) names

  -- the table then, where all of them held something; else it stays
  abbrev pub left_where : Option (List X) → List (Option X) → List NameId → List (Option X)
  left_where None table names = table
  left_where (Some things) table names = left_by table names
