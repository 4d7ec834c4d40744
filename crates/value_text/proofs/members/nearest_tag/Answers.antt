use Rattle.std.proofs.Common.{◌≤◌, ℕ, length, sym, subst, ◌∙◌}
use Rattle.std.specs.Prelude.{None, decimal}
use Rattle.byte_rules.specs.Among.{Near, nearest}
use Rattle.mj_schema.specs.declared.rows.UnionFieldRow.{UnionFieldRow}
use Rattle.byte_rules.proofs.Fronts.{nearer_within}
use Rattle.value_text.specs.Numbers.{is_uint32, fields_tags}
use Rattle.value_text.proofs.ListedReads.{is_small_tag, row_on}
use Rattle.value_text.proofs.members.nearest_tag.Goals as goal

pub loop-field-preserved : goal.loop-field-preserved
loop-field-preserved c =
    let bytes = c.args.bytes.now in
    let n = c.tag_in-tag.result in
    record {
      within = subst (λ (near : Near ℕ). near.0 ≤ length bytes) (sym c.nearer-near.ensures)
          (nearer_within c.as_bytes.result.now bytes n c.loop-field.near c.loop-field.invariant.within);
      so_far = row_on (λ (field : UnionFieldRow). field.tag) is_uint32 decimal 0 c.args.fields.now c.loop-field.field-index c.field-item.result
          n c.as_bytes.result.now bytes c.loop-field.near c.nearer-near.result (nearest decimal bytes (0, None) (fields_tags c.args.fields.now))
          c.loop-field-test.true c.field-item.is c.tag_in-tag.ensures (is_small_tag n c.tag_in-tag.type_inv)
          (c.as_bytes.ensures.value ∙ c.in_ok-word.ensures.ok) c.nearer-near.ensures c.loop-field.invariant.so_far;
    }
