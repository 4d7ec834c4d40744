use Rattle.std.proofs.Common.{◌≡◌, map, ◌++◌}
use Rattle.std.specs.List.{AllByRecursion}
use Rattle.mj_schema.specs.Layout.{IsLaidOut, draft_of}
use Rattle.schema_laws.specs.Whole.{CanBeLaidOut}
use Rattle.mojom_compile.proofs.tables.lay_out_all.Given as goal

abbrev pub invariant-loop-draft : goal.invariant-loop-draft
invariant-loop-draft l = record {
  drafts : map draft_of l.rows.items ++ l.draft-iterator.rest.items ≡ l.fn.drafts.items;
  laid_out : AllByRecursion IsLaidOut l.rows.items;
  left : AllByRecursion CanBeLaidOut l.draft-iterator.rest.items;
}
