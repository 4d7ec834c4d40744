use Rattle.std.proofs.Common.{◌≡◌, ◌+◌, ℕ, [], get_or, take}
use Rattle.std.specs.Prelude.{◌==◌, if◌then◌else◌}
use Rattle.import_order.specs.steps.Taking.{times}
use Rattle.import_order.proofs.taking.note_imports.Given as goal

abbrev pub invariant-loop-other : goal.invariant-loop-other
invariant-loop-other l =
    (one other : ℕ) → times one (get_or l.importers other [])
    ≡ times one (get_or l.initial.importers other []) + (if l.file == one then times other (take l.other-index l.imports) else 0)
