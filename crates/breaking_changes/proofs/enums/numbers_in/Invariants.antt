use Rattle.std.proofs.Common.{◌≡◌, ◌++◌, drop, map}
use Rattle.mj_schema.specs.declared.rows.MemberRow.{MemberRow}
use Rattle.breaking_changes.proofs.enums.numbers_in.Given as goal

-- what is made and what is left are all
abbrev pub invariant-loop-member : goal.invariant-loop-member
invariant-loop-member l =
    l.made.items ++ map (λ (member : MemberRow). member.number) (drop l.member-index l.members) ≡ map (λ (member : MemberRow). member.number) l.members
