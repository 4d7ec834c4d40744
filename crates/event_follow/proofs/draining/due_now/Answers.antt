use Rattle.std.proofs.Common.{List, ap, sym, ◌∙◌}
use Rattle.mj_base.specs.declared.ids.SeqId.{SeqId}
use Rattle.bind_model.specs.Replies.{responders_handed}
use Rattle.bind_model.specs.WireOf.{wire_of}
use Rattle.bind_model.specs.declared.event.Event.{Event}
use Rattle.call_script.specs.declared.script.AutoReply.{AutoReply}
use Rattle.event_tables.specs.AsCore.{past_by}
use Rattle.script_names.specs.Autos.{due_for}
use Rattle.script_names.specs.Settling.{list_of}
use Rattle.event_follow.proofs.Running.{last_came, never_none}
use Rattle.event_follow.proofs.draining.due_now.Goals as goal

pub returns-in-Some : goal.returns-in-Some
returns-in-Some c = λ e past is mine.
    let wire = wire_of c.args.schema.now in
    let seq = c.args.seq in
    let autos = c.args.script.now.autos in
    let handed = list_of c.responder_of.result in
    let same = last_came e past (past_by c.args.machine.now.tables) is c.last_event.result c.last_event.ensures c.in-Some.event c.in-Some.is in
    c.due_reply.ensures
    ∙ (ap (λ (rs : List AutoReply). due_for rs seq handed) c.as_slice.ensures
    ∙ (ap (due_for autos seq) c.responder_of.ensures
    ∙ (ap (λ (x : Event). due_for autos seq (responders_handed wire x.told x.asked)) same
    ∙ ap (λ (q : SeqId). due_for autos q (responders_handed wire e.told e.asked)) (sym mine))))

pub returns-in-None : goal.returns-in-None
returns-in-None c = λ e past is mine.
    absurd (never_none e past (past_by c.args.machine.now.tables) is c.last_event.result c.last_event.ensures c.in-None.is)
