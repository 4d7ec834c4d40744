use Rattle.std.proofs.Common.{◌≡◌, take, ℕ}
use Rattle.std.specs.Prelude.{◌==◌, position}
use Rattle.std.specs.Bool.{nat_eq}
use Rattle.std.specs.HashMap.{get}
use Rattle.mj_schema.specs.declared.rows.MethodRow.{MethodRow}
use Rattle.breaking_changes.proofs.method_table.MethodTable.new.Given as goal

-- what was passed has its places
abbrev pub invariant-loop-place : goal.invariant-loop-place
invariant-loop-place l = (q : ℕ) → get nat_eq l.places q ≡ position (λ (method : MethodRow). method.ordinal == q) (take l.place l.fn.methods)
