use Rattle.std.proofs.Common.{ℕ, ◌≡◌, arith, refl, subst}
use Rattle.load_run.specs.steps.Doing.{IsAfter}
use Rattle.load_run.proofs.Loading.{after_more, message_is, next_drawn}
use Rattle.load_run.proofs.whole.send_all.Goals as goal

pub loop-number-init : goal.loop-number-init
loop-number-init c = record { after = c.requires.started; draw = refl }

pub send_over-back-requires-clause-seqs : goal.send_over-back-requires-clause-seqs
send_over-back-requires-clause-seqs c = c.loop-number.invariant.after.seqs

pub send_over-back-requires-clause-schema : goal.send_over-back-requires-clause-schema
send_over-back-requires-clause-schema c = c.loop-number.invariant.after.schema

pub send_over-back-requires-clause-rested : goal.send_over-back-requires-clause-rested
send_over-back-requires-clause-rested c = c.loop-number.invariant.after.rests

pub send_over-back-requires-clause-few : goal.send_over-back-requires-clause-few
send_over-back-requires-clause-few c =
    let few = c.loop-number.invariant.after.few in
    omega (arith, few, c.loop-number-test.true, c.requires.messages)

pub loop-number-preserved : goal.loop-number-preserved
loop-number-preserved c =
    let i = c.loop-number.invariant in
    let n = c.loop-number.number in
    let next = c.next_draw-next.result in
    record {
      after =
          after_more c.args.schema.now c.args.seed n c.loop-number.core c.send_over-back.result.0 c.loop-number.pairs c.send_over-back.result.1
          c.message_of-message.result i.after
          (message_is c.args.seed n c.loop-number.draw next c.message_of-message.result i.draw c.next_draw-next.ensures c.message_of-message.ensures)
          (rw c.in_default.is at c.send_over-back.ensures.went) (rw c.in_default.is at c.send_over-back.ensures.rested);
      draw = next_drawn c.args.seed n c.loop-number.draw next i.draw c.next_draw-next.ensures;
    }

pub returns : goal.returns
returns c =
    let all : c.loop-number.number ≡ c.args.messages = omega (arith, c.loop-number-test.false, c.loop-number.auto.number-end) in
    subst (λ (n : ℕ). IsAfter c.args.schema.now c.args.seed n c.loop-number.core c.loop-number.pairs) all c.loop-number.invariant.after
