use Rattle.std.proofs.Common.{subst}
use Rattle.std.specs.Prelude.{IfOk}
use Rattle.mj_base.specs.declared.ids.EndId.{EndId}
use Rattle.bind_model.specs.declared.asked.Asked.TheVariants as asks
use Rattle.load_run.specs.steps.Doing.{ToldOne}
use Rattle.load_run.proofs.asking.take.Goals as goal

pub returns-clause-took : goal.returns-clause-took
returns-clause-took c =
    subst (λ (end : EndId). IfOk c.tell.result.2 (λ found. ToldOne c.args.seq (asks.Take end) found c.args.core c.tell.result.0))
    c.end_of.ensures c.tell.ensures.told
