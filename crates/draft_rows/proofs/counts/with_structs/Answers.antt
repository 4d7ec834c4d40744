use Rattle.std.proofs.Common.{◌≡◌, ℕ, ◌+◌, ◌^◌, ◌<◌, true, Option, Some, refl, sym, ap, arith}
use Rattle.std.specs.Prelude.{nat_lt}
use Rattle.std.proofs.lemmas.Bool.{lt-ltb}
use Rattle.std.proofs.lemmas.List.{drop_all}
use Rattle.draft_rows.specs.RowCounts.{structs_of_all, methods_in}
use Rattle.draft_rows.specs.steps.RowNumbers.{row_number}
use Rattle.draft_rows.proofs.counts.with_structs.Goals as goal

-- 32 bits hold the number
held : (sum total : ℕ) → sum ≡ total → sum < 2 ^ 32 → ◌≡◌ {A = Option ℕ} (Some sum) (row_number total)
held sum total e small =
    let h : nat_lt sum (2 ^ 32) ≡ true = lt-ltb sum (2 ^ 32) small in
    rw (sym e, h) refl

pub returns : goal.returns
returns c =
    let all = drop_all c.loop-member.member-index c.args.members.now c.loop-member-test.false in
    let none = ap (λ ms. c.loop-member.sum + structs_of_all (methods_in ms)) all in
    held c.loop-member.sum _ (omega (arith, none, c.loop-member.invariant.rest)) c.loop-member.invariant.small
