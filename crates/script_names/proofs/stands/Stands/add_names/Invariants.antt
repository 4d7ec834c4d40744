use Rattle.std.proofs.Common.{◌≡◌, ◌≤◌, ◌+◌, ◌-◌, ◌++◌}
use Rattle.std.specs.Prelude.{replicate, None, vec_len, vec_capacity}
use Rattle.script_names.proofs.stands.Stands.add_names.Given as goal

abbrev pub invariant-loop : goal.invariant-loop
invariant-loop l = record {
  things : l.self.things.items ≡ l.fn.self.things.items ++ replicate l.counter None;
  room : vec_len l.self.things + (l.names - l.counter) ≤ vec_capacity l.self.things;
}
