use Rattle.std.proofs.Common.{◌≡◌, ◌≤◌, ◌+◌, ◌-◌, ◌++◌}
use Rattle.std.specs.Prelude.{replicate, None, vec_len, vec_capacity}
use Rattle.plain_names.proofs.slots.Slots.add_names.Given as goal

abbrev pub invariant-loop : goal.invariant-loop
invariant-loop g l = record {
  items : l.self.items.items ≡ l.fn.self.items.items ++ replicate l.counter None;
  room : vec_len l.self.items + (l.names - l.counter) ≤ vec_capacity l.self.items;
}
