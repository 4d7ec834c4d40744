use Rattle.std.proofs.Common.{◌≡◌, ◌++◌, drop, map}
use Rattle.mj_schema.specs.declared.rows.UnionFieldRow.{UnionFieldRow}
use Rattle.breaking_changes.proofs.unions.tags_in.Given as goal

-- what is made and what is left are all
abbrev pub invariant-loop-field : goal.invariant-loop-field
invariant-loop-field l =
    l.made.items ++ map (λ (field : UnionFieldRow). field.tag) (drop l.field-index l.fields) ≡ map (λ (field : UnionFieldRow). field.tag) l.fields
