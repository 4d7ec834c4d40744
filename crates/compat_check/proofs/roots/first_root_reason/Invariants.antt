use Rattle.std.proofs.Common.{◌≡◌, drop}
use Rattle.compat_model.specs.Members.{first_found}
use Rattle.compat_model.specs.Verdicts.{root_reason}
use Rattle.compat_check.proofs.roots.first_root_reason.Given as goal

-- the first of what is left is the first of all
abbrev pub invariant-loop-root : goal.invariant-loop-root
invariant-loop-root l =
    first_found (root_reason l.old l.new) (drop l.root-index l.roots) ≡ first_found (root_reason l.old l.new) l.roots
