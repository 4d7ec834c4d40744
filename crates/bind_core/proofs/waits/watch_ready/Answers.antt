use Rattle.bind_core.specs.Takers.{ready_taker}
use Rattle.bind_core.proofs.Waking.{all_looked, looked_at}
use Rattle.bind_core.proofs.waits.watch_ready.Goals as goal

pub loop-end-preserved : goal.loop-end-preserved
loop-end-preserved c = record {
  more = λ x h. c.watch_one.ensures.more x (c.loop-end.invariant.more x h);
  looked =
      looked_at (ready_taker c.args.state.now) c.args.ends.now c.loop-end.watched c.watch_one.new.watched c.loop-end.end-index
      (record { seq = 0; serial = 0 }) c.loop-end-test.true c.watch_one.ensures.more c.in_ok-watch_one.ensures.ready c.loop-end.invariant.looked;
}

pub returns-clause-ready : goal.returns-clause-ready
returns-clause-ready c = λ x h t.
    all_looked c.args.ends.now c.loop-end.watched c.loop-end.end-index c.loop-end-test.false x (c.loop-end.invariant.looked x h t)
