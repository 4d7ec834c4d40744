use Rattle.std.proofs.Common.{◌≡◌, ◌+◌, ◌≤◌, length}
use Rattle.std.specs.Prelude.{vec_len, vec_capacity}
use Rattle.script_names.specs.Tables.{given}
use Rattle.script_names.proofs.held.Held.give.Given as goal

-- to give what is left comes to the same as to give all
abbrev pub invariant-loop-one : goal.invariant-loop-one
invariant-loop-one g l = record {
  rest : given l.names l.left.items l.self.named.items ≡ given l.names l.fn.things.items l.fn.self.named.items;
  room : vec_len l.left + vec_len l.self.others ≤ vec_capacity l.self.others;
  kept : vec_len l.left + vec_len l.self.others ≤ length l.fn.things.items + vec_len l.fn.self.others;
  same : vec_capacity l.self.others ≡ vec_capacity l.fn.self.others;
}

abbrev pub decreases-loop-one : goal.decreases-loop-one
decreases-loop-one g l = goal.left-loop-one g l
