use Rattle.std.proofs.Common.{◌≡◌, ◌++◌, take}
use Rattle.std.specs.List.{flat_map}
use Rattle.mojom_print.specs.Definitions.{union_field_text}
use Rattle.mojom_print.proofs.definitions.push_union_fields.Given as goal

abbrev pub invariant-loop-field : goal.invariant-loop-field
invariant-loop-field l = l.out.items ≡ l.initial.out.items ++ flat_map union_field_text (take l.field-index l.fields)
