use Rattle.std.proofs.Common.{◌≡◌, ◌++◌, List, map, ap, ◌∙◌}
use Rattle.mj_base.specs.declared.ids.SeqId.{SeqId}
use Rattle.history_text.specs.declared.notes.Note as text
use Rattle.remote_receiver.specs.Held.{kept_of}
use Rattle.callback_laws.specs.Shown.{shown}
use Rattle.script_run.specs.declared.seat.Seat.{Seat}
use Rattle.script_run.proofs.Ending.{woken_noted}
use Rattle.script_run.proofs.desks.finish_one.Goals as goal

pub wake_one-desk-requires-clause-called : goal.wake_one-desk-requires-clause-called
wake_one-desk-requires-clause-called c = λ rest here. (c.requires.rested rest here).drawn

pub returns-in-Ok-clause-notes : goal.returns-in-Ok-clause-notes
returns-in-Ok-clause-notes c =
    let desk = c.wake_one-desk.result in
    let seq : c.finish-core.result.0.seq ≡ c.args.seq = ap (λ (s : Seat). s.seq) c.finish-core.ensures.stepper ∙ c.wake_one-desk.ensures.seq in
    let notes = c.as_slice.ensures.value ∙ c.finish-core.ensures.notes in
    c.in-Ok.ensures
    ∙ ap (λ (ns : List text.Note). c.args.notes.now.items ++ ns)
    (ap (λ (s : SeqId). map (shown s) c.as_slice.result.now) seq
    ∙ (ap (map (shown c.args.seq)) notes
    ∙ woken_noted c.args.core c.args.seq c.args.rests.now c.wake_one-desk.new.rests desk.stepper.core desk.stepper.seq (kept_of desk.jobs)
    c.requires.legal c.requires.few c.requires.within c.requires.rested c.wake_one-desk.ensures))
