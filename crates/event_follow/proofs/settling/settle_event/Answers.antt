use Rattle.std.proofs.Common.{ap, refl, ◌∙◌}
use Rattle.plain_names.specs.Held.{named_in}
use Rattle.script_names.specs.Autos.{due_for}
use Rattle.event_follow.specs.steps.Places.{due_in}
use Rattle.event_follow.proofs.Running.{ok_both}
use Rattle.event_follow.proofs.Turning.{named_then}
use Rattle.event_follow.proofs.settling.settle_event.Goals as goal

pub returns : goal.returns
returns c =
    let schema = c.args.schema.now in
    let autos = c.args.autos.now in
    let line = c.args.line.now in
    let event = c.args.event.now in
    let before = named_in c.args.place.now.names in
    ok_both c.settle.result _ _ _ c.settle.ensures.named c.settle.ensures.have
    (λ named have. record {
      named =
          named
          ∙ named_then schema autos line event before c.responder_of-responder.result c.named_right-right.result (due_in c.due_reply-due.result)
          c.responder_of-responder.ensures c.due_reply-due.ensures c.named_right-right.ensures;
      names = have;
      due = c.due_reply-due.ensures ∙ ap (due_for autos event.seq) c.responder_of-responder.ensures;
      lines = refl;
      done = refl;
    })
