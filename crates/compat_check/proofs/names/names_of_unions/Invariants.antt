use Rattle.std.proofs.Common.{◌≡◌, ◌++◌, drop, map, Some}
use Rattle.mj_schema.specs.declared.rows.UnionRow.{UnionRow}
use Rattle.compat_check.proofs.names.names_of_unions.Given as goal

-- what is made and what is left are all
abbrev pub invariant-loop-row : goal.invariant-loop-row
invariant-loop-row l =
    l.made.items ++ map (λ (row : UnionRow). Some row.name) (drop l.row-index l.unions) ≡ map (λ (row : UnionRow). Some row.name) l.unions
