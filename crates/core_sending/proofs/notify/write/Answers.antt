use Rattle.std.proofs.Common.{◌<◌, false, [], ap, sym, ◌∙◌, refl, subst}
use Rattle.mj_base.specs.declared.limits.TheConstants.{MAX_EVENTS}
use Rattle.control_bytes.specs.Controls.{HasNumber, written_control}
use Rattle.control_bytes.specs.declared.control.Control.{Control}
use Rattle.bind_model.specs.Machine.{control_of}
use Rattle.bind_model.specs.declared.told.Notified.{Notified}
use Rattle.end_notices.specs.Seen.{Seen}
use Rattle.core_sending.proofs.Notifying.{flushes_few, notify_done, numbered, queries_few, room, there}
use Rattle.core_sending.proofs.notify.write.Goals as goal

pub message_of-requires : goal.message_of-requires
message_of-requires c =
    subst (λ (control : Control). HasNumber control)
    (sym (c.control_of.ensures ∙ ap (λ (told : Notified). control_of c.args.notice told) c.told_of-told.ensures))
    (numbered c.args.state.now c.args.seq c.args.end c.args.notice c.requires.can c.args.peer c.requires.free)

pub put_message-requires-clause-there : goal.put_message-requires-clause-there
put_message-requires-clause-there c =
    there c.args.state.now c.args.seq c.args.end c.args.notice c.requires.can c.args.peer c.requires.free

pub put_message-requires-clause-room : goal.put_message-requires-clause-room
put_message-requires-clause-room c =
    room c.args.state.now c.args.seq c.args.end c.args.notice c.requires.can c.args.peer c.requires.free

pub note-requires-clause-queries : goal.note-requires-clause-queries
note-requires-clause-queries c = λ id.
    subst (λ (seen : Seen). seen.queries id < MAX_EVENTS) (sym (c.reserve.ensures.same c.args.end))
    (queries_few c.args.state.now c.requires.can.able.holds c.requires.can.able.few c.args.end id)

pub note-requires-clause-flushes : goal.note-requires-clause-flushes
note-requires-clause-flushes c =
    subst (λ (seen : Seen). seen.flushes < MAX_EVENTS) (sym (c.reserve.ensures.same c.args.end))
    (flushes_few c.args.state.now c.requires.can.able.holds c.requires.can.able.few c.args.end)

pub returns-clause-done : goal.returns-clause-done
returns-clause-done c =
    notify_done c.args.state.now c.args.seq c.args.end c.args.notice c.requires.can c.args.peer c.requires.free _
    c.told_of-told.result c.in-Ok.message c.reserve.new.self c.told_of-told.ensures
    (c.in-Ok.ensures
    ∙ ap (λ (control : Control). record { bytes = written_control control; handles = []; emitted = false })
    (c.control_of.ensures ∙ ap (λ (told : Notified). control_of c.args.notice told) c.told_of-told.ensures))
    refl refl refl refl c.in-Ok-put_message.ensures.ok refl c.reserve.ensures.same c.note.ensures c.push_reserved.ensures.events
