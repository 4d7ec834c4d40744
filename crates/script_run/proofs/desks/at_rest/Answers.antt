use Rattle.std.proofs.Common.{◌+◌, ◌∙◌, ◌≡◌, ℕ, ap, arith, length, subst, sym}
use Rattle.std.proofs.lemmas.List.{length_push}
use Rattle.script_run.proofs.Ending.{AreFresh, added, have_rested, more_fresh}
use Rattle.script_run.proofs.desks.at_rest.Goals as goal

pub loop-preserved : goal.loop-preserved
loop-preserved c =
    let rests = c.loop.rests.items in
    let items = added c.push.result rests _ c.push.new.self.items c.push.ensures.items (sym c.is_err.ensures.value ∙ c.if-is_err.false) in
    record {
      count = ap length items ∙ (length_push rests c.new.result ∙ ap (λ (n : ℕ). n + 1) c.loop.invariant.count);
      fresh = subst AreFresh (sym items) (more_fresh rests c.new.result c.new.ensures.kept c.loop.invariant.fresh);
    }

pub returns : goal.returns
returns c schema =
    let all : length c.loop.rests.items ≡ c.args.seqs = omega (arith, c.loop.invariant.count, c.loop-test.false, c.loop.auto.counter-end) in
    have_rested schema c.args.seqs c.loop.rests.items all c.loop.invariant.fresh
