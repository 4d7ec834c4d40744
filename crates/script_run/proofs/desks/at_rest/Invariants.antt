use Rattle.std.proofs.Common.{◌≡◌, length}
use Rattle.script_run.proofs.Ending.{AreFresh}
use Rattle.script_run.proofs.desks.at_rest.Given as goal

-- so many desks, and none has a callback
abbrev pub invariant-loop : goal.invariant-loop
invariant-loop l = record {
  count : length l.rests.items ≡ l.counter;
  fresh : AreFresh l.rests.items;
}
