use Rattle.std.proofs.Common.{subst}
use Rattle.std.specs.Prelude.{IfOk}
use Rattle.wire_model.specs.Trees.{Tree}
use Rattle.load_run.specs.steps.Doing.{IsOutgoing}
use Rattle.load_run.proofs.outgoing.answer_out.Goals as goal

pub outgoing-requires : goal.outgoing-requires
outgoing-requires c = c.requires.answer

pub returns : goal.returns
returns c =
    subst (λ (v : Tree). IfOk c.outgoing.result (IsOutgoing c.args.schema.now c.args.targets.answer v)) c.in-Ok.ensures c.outgoing.ensures
