use Rattle.std.proofs.Common.{◌≡◌, List, ap, ◌∙◌}
use Rattle.wire_model.specs.Trees.{Tree}
use Rattle.handle_table.specs.declared.thing.Thing.{Thing}
use Rattle.bind_model.specs.Machine.{Entry}
use Rattle.bind_model.specs.Replies.{pendings_at}
use Rattle.bind_model.specs.declared.endpoint.PendingId.{PendingId}
use Rattle.bind_model.specs.declared.told.Got.{Got}
use Rattle.core_taking.specs.Founds.{pending_ids}
use Rattle.core_taking.proofs.receive.note_got.Goals as goal

pub returns : goal.returns
returns c =
    let a = c.args.arrived.now in
    let got : Tree → List Thing → List PendingId → Got = λ t hs ps. record {
      id = a.id;
      target = a.target;
      parameters = t;
      request = a.request;
      handles = hs;
      pendings = ps;
      gone = c.args.gone;
      moment = a.moment;
    } in
    let names : c.in_ok-pendings.pendings ≡ pendings_at c.args.end (pending_ids a.admitted.entries.items) =
    c.in_ok-pendings.ensures ∙ ap (λ (es : List Entry). pendings_at c.args.end (pending_ids es)) c.as_slice.ensures.value in
    c.in_ok-noted.ensures
    ∙ (ap (λ (t : Tree). got t c.in_ok-handles.handles c.in_ok-pendings.pendings) (c.in_ok-parameters.ensures ∙ c.value.ensures)
    ∙ (ap (λ (hs : List Thing). got a.parameters hs c.in_ok-pendings.pendings) c.in_ok-handles.ensures ∙ ap (got a.parameters a.named) names))
