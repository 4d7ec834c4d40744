use Rattle.std.proofs.Common.{◌≡◌, ◌++◌, drop, map, Some}
use Rattle.mj_schema.specs.declared.rows.InterfaceRow.{InterfaceRow}
use Rattle.compat_check.proofs.names.names_of_interfaces.Given as goal

-- what is made and what is left are all
abbrev pub invariant-loop-row : goal.invariant-loop-row
invariant-loop-row l =
    l.made.items ++ map (λ (row : InterfaceRow). Some row.name) (drop l.row-index l.interfaces) ≡ map (λ (row : InterfaceRow). Some row.name) l.interfaces
