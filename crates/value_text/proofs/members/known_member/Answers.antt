use Rattle.std.proofs.Common.{◌≡◌, ◌^◌, ◌-◌, ℤ, true, subst, sym, ◌∙◌, rules, to_z, of_z, Ok, SFits, w32}
use Rattle.std.specs.Int.{w128}
use Rattle.std.specs.List.{list_any}
use Rattle.std.specs.Ordering.{int_eq}
use Rattle.mj_schema.specs.declared.rows.MemberRow.{MemberRow}
use Rattle.byte_rules.specs.Among.{IsAmong}
use Rattle.value_text.specs.Numbers.{integer, members_numbers}
use Rattle.value_text.proofs.KnownNumbers.{has, known_read}
use Rattle.value_text.proofs.members.known_member.Goals as goal

-- the number of 128 bits that was read, and the member's of 32
read : (c : goal.Then-has_number) → (integer (2 ^ 31) (2 ^ 31 - 1)).read c.args.bytes.now ≡ Ok (to_z w128 (of_z w128 c.in-Ok.number), c.in-Ok.rest.now)
read c = search rules

fits : (c : goal.Then-has_number) → SFits w32 c.in-Some.small
fits c = search rules

found : (c : goal.Then-has_number) → list_any (λ (member : MemberRow). int_eq member.number c.in-Some.small) c.args.members.now ≡ true
found c = search rules

pub returns-in-Some : goal.returns-in-Some
returns-in-Some c =
    known_read c.args.members.now c.args.bytes.now c.in-Ok.rest.now (to_z w128 (of_z w128 c.in-Ok.number)) (read c)
    (sym c.is_digit_next.ensures ∙ c.if-is_digit_next.false)
    (subst (λ (z : ℤ). IsAmong z (members_numbers c.args.members.now)) c.in-Some.ensures (has c.in-Some.small c.args.members.now (fits c) (found c)))
