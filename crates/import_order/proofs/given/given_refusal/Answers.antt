use Rattle.std.proofs.Common.{ℕ, ◌∙◌, ap, sym, length, below_more, arith}
use Rattle.std.specs.Prelude.{None, is_some}
use Rattle.mojom_files.specs.Refusals.{best_of}
use Rattle.import_order.specs.Order.{given_refusals_at}
use Rattle.import_order.proofs.Firsts.{first_of_found, first_of_nowhere}
use Rattle.import_order.proofs.FileNumbers.{refusal_at, is_none_of}
use Rattle.import_order.proofs.given.given_refusal.Goals as goal

pub returns-then-is_some : goal.returns-then-is_some
returns-then-is_some c =
    let here =
    refusal_at c.args.files.now c.args.table.now c.loop-number.number c.index-files-number.result c.in_ok-refusal.refusal
    c.loop-number-test.true c.index-files-number.is c.requires.named
    c.in_ok-refusal.ensures in
    let some = sym c.is_some.ensures ∙ c.if-is_some.true in
    here
    ∙ sym
    (first_of_found (λ (k : ℕ). best_of None (given_refusals_at c.args.files.now k)) (length c.args.files.now) c.loop-number.number
    c.loop-number-test.true c.loop-number.invariant (sym (ap is_some here) ∙ some))

pub loop-number-preserved : goal.loop-number-preserved
loop-number-preserved c =
    let here =
    refusal_at c.args.files.now c.args.table.now c.loop-number.number c.index-files-number.result c.in_ok-refusal.refusal
    c.loop-number-test.true c.index-files-number.is c.requires.named
    c.in_ok-refusal.ensures in
    let none = sym c.is_some.ensures ∙ c.if-is_some.false in
    below_more _ _ c.loop-number.invariant (sym here ∙ is_none_of c.in_ok-refusal.refusal none)

pub returns : goal.returns
returns c =
    sym (first_of_nowhere (λ (k : ℕ). best_of None (given_refusals_at c.args.files.now k)) (length c.args.files.now)
    (λ k lt. c.loop-number.invariant k (let le = c.loop-number-test.false in omega (arith, lt, le))))
