use Rattle.std.proofs.Common.{◌≡◌, ◌≤◌, length, take, vec_capacity}
use Rattle.handle_table.specs.declared.places.Place.TheVariants as places
use Rattle.core_state.specs.Placing.{PutsAll}
use Rattle.core_taking.proofs.receive.hand_out.Given as goal

-- those so far came out, in order, and there is room for the others
abbrev pub invariant-loop-thing : goal.invariant-loop-thing
invariant-loop-thing l = record {
  handles : l.out.items ≡ take l.thing-index l.things;
  room : length l.things ≤ vec_capacity l.out;
  places : PutsAll (take l.thing-index l.things) places.Out l.initial.pipes l.pipes;
}
