use Rattle.std.proofs.Common.{◌≡◌, ◌∙◌, ap, subst, sym}
use Rattle.std.specs.Prelude.{IfOk}
use Rattle.std.specs.Arc.{arc_value}
use Rattle.mj_schema.specs.declared.schema.Schema.{Schema}
use Rattle.bind_core.specs.Play.{Play}
use Rattle.load_run.specs.Counts.{AreLoadCounts}
use Rattle.load_run.specs.steps.Doing.{HasAll}
use Rattle.load_run.proofs.whole.load.Goals as goal

pub run-core-requires-clause-rested : goal.run-core-requires-clause-rested
run-core-requires-clause-rested c =
    subst (λ (p : Play). HasAll p c.new_pairs-pairs.result) (sym c.in-Ok-new_core.ensures) (c.new_pairs-pairs.ensures _)

pub returns : goal.returns
returns c =
    let schema = arc_value c.args.schema in
    let is : c.in-Ok-new_core.core.schema ≡ schema = ap (λ (p : Play). p.schema) c.in-Ok-new_core.ensures ∙ c.in-Ok.ensures in
    subst (λ (s : Schema). IfOk c.run-core.result.2 (AreLoadCounts s c.args.seed c.args.messages)) is c.run-core.ensures
