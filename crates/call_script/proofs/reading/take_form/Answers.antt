use Rattle.script_forms.specs.Views.{form_view}
use Rattle.call_script.proofs.LineLemmas.{takes, too_many}
use Rattle.call_script.proofs.reading.take_form.Goals as goal

pub returns-then-number-gt-MAX_SCRIPT_LINES : goal.returns-then-number-gt-MAX_SCRIPT_LINES
returns-then-number-gt-MAX_SCRIPT_LINES c seqs past there read placed numbered =
    too_many c.args.indexed.now.schema.now seqs c.args.reader.now c.set_names.new.table c.note_method.new.table (form_view c.args.form.now) c.len-count.result
    c.args.number c.in_ok-part.part past
    (record {
      sound = c.requires.form;
      added = rw c.in-Ok-true.field-0-test at c.in-Ok-true.ensures;
      noted = rw c.in-Ok-true-note_method.field-0-test at c.in-Ok-true-note_method.ensures;
      counted = c.len-count.ensures.len;
    })
    c.in_ok-part.ensures read placed numbered there c.if-number-gt-MAX_SCRIPT_LINES.true

pub returns : goal.returns
returns c =
    takes c.args.indexed.now.schema.now c.args.reader.now c.push_part.new.reader c.set_names.new.table c.note_method.new.table (form_view c.args.form.now)
    c.len-count.result c.args.number c.in_ok-part.part c.push_part.result
    (record {
      sound = c.requires.form;
      added = rw c.in-Ok-true.field-0-test at c.in-Ok-true.ensures;
      noted = rw c.in-Ok-true-note_method.field-0-test at c.in-Ok-true-note_method.ensures;
      counted = c.len-count.ensures.len;
    })
    c.in_ok-part.ensures c.if-number-gt-MAX_SCRIPT_LINES.false (rw c.is_setup.ensures at c.push_part.ensures)
