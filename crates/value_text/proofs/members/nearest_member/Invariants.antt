use Rattle.std.proofs.Common.{◌≡◌, ◌≤◌, None, length, drop}
use Rattle.std.specs.Fmt.{signed_decimal}
use Rattle.byte_rules.specs.Among.{nearest}
use Rattle.value_text.specs.Numbers.{members_numbers}
use Rattle.value_text.proofs.members.nearest_member.Given as goal

abbrev pub invariant-loop-member : goal.invariant-loop-member
invariant-loop-member l = record {
  within : l.near.0 ≤ length l.bytes;
  so_far : nearest signed_decimal l.bytes l.near (members_numbers (drop l.member-index l.members)) ≡ nearest signed_decimal l.bytes (0, None)
      (members_numbers l.members);
}
