use Rattle.std.proofs.Common.{None, Ok, List, ℕ, take, refl, sym, ap, ◌∙◌}
use Rattle.std.proofs.lemmas.List.{take_rest}
use Rattle.line_parts.specs.declared.names.Entry.{Entry}
use Rattle.line_parts.specs.steps.Reading.{nearest_in}
use Rattle.line_parts.proofs.KeywordReads.{entries, within_on, row_on}
use Rattle.line_parts.proofs.NameReads.{text_ok, text_err}
use Rattle.line_parts.proofs.names.text_of.Goals as goal

pub loop-entry-preserved : goal.loop-entry-preserved
loop-entry-preserved g c =
    let bytes = c.args.bytes.now in
    let near = c.loop-entry.near in
    record {
      within = within_on c.as_slice.result.now bytes tt near c.nearer-near.result c.nearer-near.ensures c.loop-entry.invariant.within;
      so_far = row_on (λ (e : Entry g.row.T.Denot). tt) (λ (e : Entry g.row.T.Denot). e.text) c.args.entries.now c.loop-entry.entry-index
          c.entry-item.result tt c.as_slice.result.now bytes near c.nearer-near.result
          (nearest_in bytes (0, None) (entries (λ (e : Entry g.row.T.Denot). tt) (λ (e : Entry g.row.T.Denot). e.text) c.args.entries.now))
          c.loop-entry-test.true c.entry-item.is refl c.as_slice.ensures c.nearer-near.ensures c.loop-entry.invariant.so_far;
    }

pub returns-in-Some : goal.returns-in-Some
returns-in-Some g c =
    let bytes = c.args.bytes.now in
    let near = c.loop-entry.near in
    text_ok bytes (λ (e : Entry g.row.T.Denot). e.text) c.args.entries.now c.loop-entry.entry-index near c.loop-entry-test.false
    c.loop-entry.invariant.so_far c.in-Some.is ∙ ap (λ (l : List ℕ). Ok (take near.0 bytes, l)) (sym (take_rest bytes near.0))

pub returns-in-None : goal.returns-in-None
returns-in-None g c =
    text_err c.args.bytes.now (λ (e : Entry g.row.T.Denot). e.text) c.args.entries.now c.loop-entry.entry-index c.loop-entry.near c.loop-entry-test.false
    c.loop-entry.invariant.so_far c.in-None.is
