use Rattle.std.proofs.Common.{sym, arith}
use Rattle.std.specs.Prelude.{map}
use Rattle.script_forms.specs.Views.{form_view}
use Rattle.call_script.proofs.LineLemmas.{misplaced}
use Rattle.call_script.proofs.reading.read_line.Goals as goal

pub returns-then-reader : goal.returns-then-reader
returns-then-reader c past read numbered =
    misplaced c.args.indexed.now.schema.now c.args.seqs c.args.reader.now past (map (λ word. word.now) c.args.words.now) (form_view c.in-Ok-Some.form)
    (omega (arith, c.ranges.seqs.fits)) (rw c.in-Ok-Some.field-0-is at c.in-Ok-Some.ensures) (sym c.if-is_setup.ensures) c.if-reader.true read
