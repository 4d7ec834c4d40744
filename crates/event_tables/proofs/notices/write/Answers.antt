use Rattle.std.proofs.Common.{◌<◌, false, [], ap, sym, ◌∙◌, refl, subst}
use Rattle.mj_base.specs.declared.limits.TheConstants.{MAX_EVENTS}
use Rattle.control_bytes.specs.Controls.{HasNumber, written_control}
use Rattle.control_bytes.specs.declared.control.Control.{Control}
use Rattle.bind_model.specs.Machine.{control_of}
use Rattle.bind_model.specs.declared.commands.Command.TheVariants as commands
use Rattle.bind_model.specs.declared.commands.Reply.TheVariants as replies
use Rattle.bind_model.specs.declared.told.Notified.{Notified}
use Rattle.end_notices.specs.Seen.{Seen}
use Rattle.core_sending.proofs.Notifying.{flushes_few, notify_done, numbered, queries_few, there}
use Rattle.event_tables.specs.AsCore.{state_of}
use Rattle.event_tables.proofs.Stepping.{steps_of}
use Rattle.event_tables.proofs.notices.write.Goals as goal

pub message_of-requires : goal.message_of-requires
message_of-requires c =
    subst (λ (control : Control). HasNumber control)
    (sym (c.control_of.ensures ∙ ap (λ (told : Notified). control_of c.args.notice told) c.told_of-told.ensures))
    (numbered (state_of c.args.tables.now) c.args.seq c.args.end c.args.notice (record { able = c.requires.able; prepared = tt })
    c.args.peer c.requires.free)

pub put_message-requires : goal.put_message-requires
put_message-requires c =
    there (state_of c.args.tables.now) c.args.seq c.args.end c.args.notice (record { able = c.requires.able; prepared = tt })
    c.args.peer c.requires.free

pub note-requires-clause-queries : goal.note-requires-clause-queries
note-requires-clause-queries c = λ id.
    subst (λ (seen : Seen). seen.queries id < MAX_EVENTS) (sym (c.reserve.ensures.same c.args.end))
    (queries_few (state_of c.args.tables.now) c.requires.able.holds c.requires.able.few c.args.end id)

pub note-requires-clause-flushes : goal.note-requires-clause-flushes
note-requires-clause-flushes c =
    subst (λ (seen : Seen). seen.flushes < MAX_EVENTS) (sym (c.reserve.ensures.same c.args.end))
    (flushes_few (state_of c.args.tables.now) c.requires.able.holds c.requires.able.few c.args.end)

pub returns : goal.returns
returns c =
    let s = state_of c.args.tables.now in
    steps_of s _ c.args.seq (commands.Notify c.args.end c.args.notice) (replies.Notified c.told_of-told.result)
    (notify_done s c.args.seq c.args.end c.args.notice (record { able = c.requires.able; prepared = tt }) c.args.peer c.requires.free _
    c.told_of-told.result c.in_ok-message.message c.reserve.new.self c.told_of-told.ensures
    (c.in_ok-message.ensures
    ∙ ap (λ (control : Control). record { bytes = written_control control; handles = []; emitted = false })
    (c.control_of.ensures ∙ ap (λ (told : Notified). control_of c.args.notice told) c.told_of-told.ensures))
    refl refl refl refl c.in_ok-put_message.ensures refl c.reserve.ensures.same c.note.ensures c.push_reserved.ensures.events)
