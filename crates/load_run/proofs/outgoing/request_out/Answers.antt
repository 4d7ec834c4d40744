use Rattle.std.proofs.Common.{Option, sym, subst}
use Rattle.std.specs.Prelude.{IfOk, IfSome}
use Rattle.wire_encoder.specs.Prepared.{HasTarget}
use Rattle.wire_model.specs.Trees.{Tree}
use Rattle.wire_model.specs.declared.target.Target.{Target}
use Rattle.load_run.specs.Messages.{request_tree}
use Rattle.load_run.specs.steps.Doing.{IsOutgoing}
use Rattle.load_run.proofs.Loading.{there_request}
use Rattle.load_run.proofs.outgoing.request_out.Goals as goal

pub outgoing-requires : goal.outgoing-requires
outgoing-requires c =
    subst (λ (t : Option Target). IfSome t (HasTarget c.args.schema.now)) (sym c.request_target.ensures)
    (there_request c.args.schema.now c.args.targets c.args.message c.requires)

pub returns : goal.returns
returns c =
    subst (λ (t : Option Target). IfOk c.outgoing.result (IsOutgoing c.args.schema.now t (request_tree c.args.message))) c.request_target.ensures
    (subst (λ (v : Tree). IfOk c.outgoing.result (IsOutgoing c.args.schema.now c.request_target.result v)) c.in-Ok.ensures c.outgoing.ensures)
