use Rattle.std.proofs.Common.{◌≡◌, ◌++◌, drop, map}
use Rattle.compat_check.specs.steps.Roots.{namesake}
use Rattle.compat_check.proofs.roots.all_namesakes.Given as goal

-- what is made and what is left are all
abbrev pub invariant-loop-row : goal.invariant-loop-row
invariant-loop-row l =
    l.made.items ++ map (namesake l.new.schema.now) (drop l.row-index l.interfaces) ≡ map (namesake l.new.schema.now) l.interfaces
