use Rattle.std.proofs.Common.{◌≡◌, drop, map, ◌++◌}
use Rattle.kind_scope.specs.Members.{union_field_of}
use Rattle.kind_scope.specs.Views.{member_view}
use Rattle.kind_scope.proofs.member.union_fields.Given as goal

abbrev pub invariant-loop-field : goal.invariant-loop-field
invariant-loop-field l = map member_view l.found.items ++ map union_field_of (drop l.field-index l.fields) ≡ map union_field_of l.fields
