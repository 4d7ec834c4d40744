use Rattle.std.proofs.Common.{◌≡◌, ◌≤◌, ℤ, true, length, sym, subst, ◌∙◌, w32, to_z, of_z}
use Rattle.std.proofs.lemmas.Int.{to_z-of_z}
use Rattle.std.specs.Prelude.{pos, None}
use Rattle.std.specs.Fmt.{signed_decimal}
use Rattle.byte_rules.specs.Among.{Near, nearest}
use Rattle.mj_schema.specs.declared.rows.MemberRow.{MemberRow}
use Rattle.byte_rules.proofs.Fronts.{nearer_within}
use Rattle.value_text.specs.Numbers.{is_int32, members_numbers}
use Rattle.value_text.proofs.ListedReads.{is_small, fits_int32, row_on}
use Rattle.value_text.proofs.members.nearest_member.Goals as goal

pub loop-member-preserved : goal.loop-member-preserved
loop-member-preserved c =
    let bytes = c.args.bytes.now in
    let z = c.number_in-number.result in
    let fits = fits_int32 z c.number_in-number.type_inv in
    let n = to_z w32 (of_z w32 z) in
    let same : n ≡ z = to_z-of_z w32 z fits in
    record {
      within = subst (λ (near : Near ℤ). near.0 ≤ length bytes) (sym c.nearer-near.ensures)
          (nearer_within c.as_bytes.result.now bytes n c.loop-member.near c.loop-member.invariant.within);
      so_far = row_on (λ (member : MemberRow). member.number) is_int32 signed_decimal
          (pos 0) c.args.members.now c.loop-member.member-index c.member-item.result
          n c.as_bytes.result.now bytes c.loop-member.near c.nearer-near.result (nearest signed_decimal bytes (0, None) (members_numbers c.args.members.now))
          c.loop-member-test.true c.member-item.is (same ∙ c.number_in-number.ensures) (subst (λ (k : ℤ). is_int32 k ≡ true) (sym same) (is_small z fits))
          (c.as_bytes.ensures.value ∙ c.in_ok-word.ensures.ok) c.nearer-near.ensures c.loop-member.invariant.so_far;
    }
