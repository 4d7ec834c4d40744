use Rattle.std.proofs.Common.{◌≡◌, ◌++◌, ℕ, List, take, length, true}
use Rattle.std.specs.Prelude.{map}
use Rattle.std.specs.List.{list_all}
use Rattle.call_script.specs.Script.{meant, is_set, AreNamed}
use Rattle.call_script.specs.steps.Names.{IsTable}
use Rattle.call_script.proofs.commands.find_all.Given as goal

-- the names so far are found
abbrev pub invariant-loop-name : goal.invariant-loop-name
invariant-loop-name l = (before own : List (List ℕ)) → IsTable l.scope.table.now (before ++ own) → l.scope.count ≡ length before
    → (list_all (is_set before l.scope.seq) (map (λ name. name.now) (take l.name-index l.names)) ≡ true)
    × AreNamed (before ++ own) l.ids.items (map (meant before l.scope.seq) (map (λ name. name.now) (take l.name-index l.names)))
