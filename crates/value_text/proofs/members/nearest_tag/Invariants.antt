use Rattle.std.proofs.Common.{◌≡◌, ◌≤◌, None, length, drop}
use Rattle.std.specs.Prelude.{decimal}
use Rattle.byte_rules.specs.Among.{nearest}
use Rattle.value_text.specs.Numbers.{fields_tags}
use Rattle.value_text.proofs.members.nearest_tag.Given as goal

abbrev pub invariant-loop-field : goal.invariant-loop-field
invariant-loop-field l = record {
  within : l.near.0 ≤ length l.bytes;
  so_far : nearest decimal l.bytes l.near (fields_tags (drop l.field-index l.fields)) ≡ nearest decimal l.bytes (0, None) (fields_tags l.fields);
}
