use Rattle.std.proofs.Common.{false}
use Rattle.std.proofs.lemmas.Result.{IfOk-weaker}
use Rattle.mj_schema.specs.KindTrees.{StructKind}
use Rattle.wire_encoder.specs.Checks.{checks}
use Rattle.wire_model.specs.Trees.{view}
use Rattle.bind_model.specs.WireOf.{endpoints_named}
use Rattle.event_takes.proofs.reading.admit_named.Goals as goal

pub returns : goal.returns
returns c =
    let checked = c.args.checked.now in
    IfOk-weaker c.admit.result _ _
    (λ admitted h. h (endpoints_named (checks checked.schema.now 0 false (StructKind checked.number false) (view c.args.value.now)))
    (λ k lt. rw c.deref.ensures.value (c.in_ok-slots.ensures.named k lt)))
    c.admit.ensures
