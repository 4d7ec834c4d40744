use Rattle.std.proofs.Common.{◌≡◌}
use Rattle.load_run.specs.steps.Doing.{IsAfter}
use Rattle.load_run.proofs.Loading.{draw_before}
use Rattle.load_run.proofs.whole.send_all.Given as goal

-- so many messages went their way, and the last number is that of the last one
abbrev pub invariant-loop-number : goal.invariant-loop-number
invariant-loop-number l = record {
  after : IsAfter l.schema l.seed l.number l.core l.pairs;
  draw : l.draw ≡ draw_before l.seed l.number;
}
