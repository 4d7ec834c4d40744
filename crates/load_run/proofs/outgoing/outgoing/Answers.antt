use Rattle.std.proofs.Common.{Option, Some, ap, sym, subst, ◌∙◌}
use Rattle.std.proofs.lemmas.Result.{IfOk-weaker}
use Rattle.wire_encoder.specs.declared.prepared.Prepared.{Prepared}
use Rattle.wire_model.specs.Trees.{view}
use Rattle.wire_model.specs.declared.target.Target.{Target}
use Rattle.load_run.specs.Messages.{Stays}
use Rattle.load_run.specs.steps.Doing.{IsOutgoing}
use Rattle.load_run.proofs.outgoing.outgoing.Goals as goal

pub returns-in_default : goal.returns-in_default
returns-in_default c = subst (λ (t : Option Target). Stays c.args.schema.now t (view c.args.value)) (sym c.in_default.is) tt

pub prepare-requires : goal.prepare-requires
prepare-requires c = rw c.in-Some.is at c.requires

pub returns-in-Ok : goal.returns-in-Ok
returns-in-Ok c =
    let ok = c.in-Ok.ensures.ok in
    record {
      there = c.in-Some.is ∙ ap (λ (t : Target). Some t) (sym ok.0);
      same = ap view ok.1;
      prepared = ok.2;
    }

pub returns-in-Err : goal.returns-in-Err
returns-in-Err c =
    let tree = view c.args.value in
    IfOk-weaker c.refused.result _ _
    (λ found h.
    subst (λ (f : Option Prepared). IsOutgoing c.args.schema.now c.args.target tree f) (sym h.0)
    (subst (λ (t : Option Target). Stays c.args.schema.now t tree) (sym c.in-Some.is) (c.in-Err.error.0, h.1, c.in-Err.ensures.refused.1)))
    c.refused.ensures
