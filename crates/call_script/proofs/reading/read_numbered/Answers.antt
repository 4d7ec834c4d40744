use Rattle.std.proofs.Common.{[], refl, lit≤, subst, Err}
use Rattle.std.specs.Prelude.{map}
use Rattle.call_script.specs.steps.Lines.{ReadsOn}
use Rattle.call_script.proofs.LoopLemmas.{goes_on, stops, ends, lines_more, lines_around, lines_all}
use Rattle.call_script.proofs.reading.read_numbered.Goals as goal

pub loop-line-init : goal.loop-line-init
loop-line-init c = record {
  past = [];
  read = record {
    parts = [];
    taken = tt;
    autos = c.new.ensures.items;
    lines = c.new-2.ensures.items;
    table = c.no_names.ensures;
    methods = c.no_names-2.ensures;
    setup = refl;
  };
  words = refl;
  next = refl;
  few = lit≤ tt;
}

pub loop-line-preserved : goal.loop-line-preserved
loop-line-preserved c =
    rw (lines_more c.args.lines.now c.loop-line.line-index c.line-item.result c.loop-line-test.true, ← c.line-item.is)
    (goes_on c.args.indexed.now.schema.now c.args.seqs c.loop-line.reader c.read_line.new.reader _ _ c.loop-line.number c.loop-line.invariant
    (rw c.as_slice-words.ensures.value at c.in_default.ensures))

pub returns-in-Err-clause-answers : goal.returns-in-Err-clause-answers
returns-in-Err-clause-answers c =
    stops c.args.indexed.now.schema.now c.args.seqs c.loop-line.reader c.read_line.new.reader _ _ _ _
    c.loop-line.number c.in-Err.stop c.error_of.result c.requires.count c.loop-line.invariant
    (subst (λ words. ReadsOn c.args.indexed.now.schema.now c.args.seqs c.loop-line.reader c.read_line.new.reader (map (λ word. word.now) words)
    c.loop-line.number (Err c.in-Err.stop))
    c.as_slice-words.ensures.value c.in-Err.ensures)
    (rw (← c.line-item.is) at (lines_around c.args.lines.now c.loop-line.line-index c.line-item.result c.loop-line-test.true))
    c.error_of.ensures

pub returns-clause-answers : goal.returns-clause-answers
returns-clause-answers c =
    ends c.args.indexed.now.schema.now c.loop-line.reader _ c.loop-line.number _ c.requires.count
    (rw (lines_all c.args.lines.now c.loop-line.line-index c.loop-line-test.false) at c.loop-line.invariant)
    c.from_vec.ensures c.from_vec-2.ensures c.len.ensures.len
