use Rattle.std.proofs.Common.{◌≡◌, ◌++◌, drop, map}
use Rattle.mj_schema.specs.declared.rows.MethodRow.{MethodRow}
use Rattle.breaking_changes.proofs.interfaces.ordinals_in.Given as goal

-- what is made and what is left are all
abbrev pub invariant-loop-method : goal.invariant-loop-method
invariant-loop-method l =
    l.made.items ++ map (λ (method : MethodRow). method.ordinal) (drop l.method-index l.methods) ≡ map (λ (method : MethodRow). method.ordinal) l.methods
