use Rattle.std.proofs.Common.{◌≡◌, ◌≤◌, ◌+◌, ◌-◌, ◌++◌}
use Rattle.std.specs.Prelude.{replicate, None, vec_len, vec_capacity}
use Rattle.script_names.proofs.held.Held.add_names.Given as goal

abbrev pub invariant-loop : goal.invariant-loop
invariant-loop g l = record {
  named : l.self.named.items ≡ l.fn.self.named.items ++ replicate l.counter None;
  room : vec_len l.self.named + (l.names - l.counter) ≤ vec_capacity l.self.named;
}
