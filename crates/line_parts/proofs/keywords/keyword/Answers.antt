use Rattle.std.proofs.Common.{None, refl, ◌∙◌}
use Rattle.line_parts.specs.steps.Reading.{nearest_in}
use Rattle.line_parts.proofs.KeywordReads.{entries, within_on, row_on, last_row, found_some, found_none}
use Rattle.line_parts.proofs.keywords.keyword.Goals as goal

pub loop-value-preserved : goal.loop-value-preserved
loop-value-preserved g c =
    let bytes = c.args.bytes.now in
    let near = c.loop-value.near in
    let row = c.loop-value-item.result in
    record {
      within = within_on c.as_bytes.result.now bytes row.0 near c.nearer-near.result c.nearer-near.ensures c.loop-value.invariant.within;
      so_far = row_on (λ e. e.0) (λ e. e.1.now) c.args.table.now c.loop-value.value-index row row.0 c.as_bytes.result.now bytes near
          c.nearer-near.result (nearest_in bytes (0, None) (entries (λ e. e.0) (λ e. e.1.now) c.args.table.now)) c.loop-value-test.true
          c.loop-value-item.is refl c.as_bytes.ensures.value c.nearer-near.ensures c.loop-value.invariant.so_far;
    }

pub returns-in-Some : goal.returns-in-Some
returns-in-Some g c =
    let bytes = c.args.bytes.now in
    last_row (λ e. e.0) (λ e. e.1.now) c.args.table.now c.loop-value.value-index bytes c.loop-value.near c.loop-value-test.false
    c.loop-value.invariant.so_far ∙ found_some bytes c.loop-value.near c.in-Some.value c.in-Some.is

pub returns-in-None : goal.returns-in-None
returns-in-None g c =
    let bytes = c.args.bytes.now in
    last_row (λ e. e.0) (λ e. e.1.now) c.args.table.now c.loop-value.value-index bytes c.loop-value.near c.loop-value-test.false
    c.loop-value.invariant.so_far ∙ found_none bytes c.loop-value.near c.in-None.is
