use Rattle.std.proofs.Common.{◌≡◌, ◌++◌, take}
use Rattle.std.specs.List.{flat_map}
use Rattle.schema_text.specs.Listing.{union_field_line}
use Rattle.schema_text.proofs.fields.push_union_fields.Given as goal

abbrev pub invariant-loop-field : goal.invariant-loop-field
invariant-loop-field l = l.out.items ≡ l.initial.out.items ++ flat_map (union_field_line l.schema) (take l.field-index l.fields)
