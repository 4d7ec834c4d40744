use Rattle.history_text.specs.History.{note_line}
use Rattle.history_text.proofs.Lists.{line_next}
use Rattle.history_text.proofs.history.push_notes.Goals as goal

pub loop-note-preserved : goal.loop-note-preserved
loop-note-preserved c =
    line_next note_line c.args.out.now.items c.loop-note.out.items _ c.args.notes.now c.loop-note.note-index _ c.loop-note-test.true
    c.loop-note.invariant c.in_ok-push_note.ensures
