use Rattle.std.proofs.Common.{◌≡◌, ◌++◌, ℕ, List, take, false}
use Rattle.std.specs.Prelude.{map}
use Rattle.script_words.specs.Letters.{own_word}
use Rattle.call_script.specs.Script.{doubled}
use Rattle.call_script.specs.steps.Names.{IsTable}
use Rattle.call_script.proofs.name_table.add_with.Given as goal

-- the names so far are added
abbrev pub invariant-loop-name : goal.invariant-loop-name
invariant-loop-name l = (before : List (List ℕ)) → IsTable l.initial.table before
    → (doubled before (map (own_word l.seq) (map (λ name. name.now) (take l.name-index l.names))) ≡ false)
    × IsTable l.table (before ++ map (own_word l.seq) (map (λ name. name.now) (take l.name-index l.names)))
