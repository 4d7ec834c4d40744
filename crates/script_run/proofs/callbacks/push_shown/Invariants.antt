use Rattle.std.proofs.Common.{◌≡◌, ◌++◌, map, take}
use Rattle.callback_laws.specs.Shown.{shown}
use Rattle.script_run.proofs.callbacks.push_shown.Given as goal

-- the notes so far are added
abbrev pub invariant-loop-note : goal.invariant-loop-note
invariant-loop-note l = l.all.items ≡ l.fn.all.items ++ map (shown l.seq) (take l.note-index l.notes)
