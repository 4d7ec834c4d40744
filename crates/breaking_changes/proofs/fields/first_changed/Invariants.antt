use Rattle.std.proofs.Common.{◌≡◌, drop}
use Rattle.compat_model.specs.Changes.{field_changed}
use Rattle.compat_model.specs.Members.{first_found}
use Rattle.breaking_changes.proofs.fields.first_changed.Given as goal

-- the first of what is left is the first of all
abbrev pub invariant-loop-field : goal.invariant-loop-field
invariant-loop-field l =
    first_found (field_changed l.namesakes l.newer) (drop l.field-index l.older) ≡ first_found (field_changed l.namesakes l.newer) l.older
