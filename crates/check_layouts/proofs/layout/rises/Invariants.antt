use Rattle.std.proofs.Common.{◌≡◌, map, drop}
use Rattle.mj_schema.specs.declared.rows.DraftField.{DraftField}
use Rattle.mj_schema.specs.Layout.{never_fall}
use Rattle.check_layouts.proofs.layout.rises.Given as goal

abbrev pub invariant-loop-field : goal.invariant-loop-field
invariant-loop-field l = never_fall l.version (map (λ (field : DraftField). field.min_version) (drop l.field-index l.fields))
    ≡ never_fall 0 (map (λ (field : DraftField). field.min_version) l.fields)
