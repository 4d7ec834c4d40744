use Rattle.std.proofs.Common.{◌≡◌, drop}
use Rattle.compat_model.specs.Changes.{member_gone}
use Rattle.compat_model.specs.Members.{first_found}
use Rattle.breaking_changes.proofs.enums.first_gone.Given as goal

-- the first of what is left is the first of all
abbrev pub invariant-loop-number : goal.invariant-loop-number
invariant-loop-number l = first_found (member_gone l.newer) (drop l.number-index l.numbers) ≡ first_found (member_gone l.newer) l.numbers
