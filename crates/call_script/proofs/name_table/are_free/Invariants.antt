use Rattle.std.proofs.Common.{◌≡◌, ℕ, List, take, false}
use Rattle.std.specs.Prelude.{map}
use Rattle.std.specs.List.{list_any}
use Rattle.call_script.specs.Script.{has_name}
use Rattle.call_script.specs.steps.Names.{IsTable}
use Rattle.call_script.proofs.name_table.are_free.Given as goal

-- the names so far are free
abbrev pub invariant-loop-name : goal.invariant-loop-name
invariant-loop-name l = (before : List (List ℕ)) → IsTable l.table before
    → list_any (has_name before) (map (λ name. name.now) (take l.name-index l.names)) ≡ false
