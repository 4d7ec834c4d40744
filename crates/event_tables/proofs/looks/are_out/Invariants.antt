use Rattle.std.proofs.Common.{◌≡◌, drop}
use Rattle.std.specs.List.{list_all}
use Rattle.handle_table.specs.Places.{place_of}
use Rattle.handle_table.specs.declared.thing.Thing.{Thing}
use Rattle.core_state.specs.Agreement.{is_out}
use Rattle.event_tables.proofs.looks.are_out.Given as goal

-- what is left decides
abbrev pub invariant-loop-thing : goal.invariant-loop-thing
invariant-loop-thing l = list_all (λ (z : Thing). is_out (place_of l.pipes.table z)) (drop l.thing-index l.things)
    ≡ list_all (λ (z : Thing). is_out (place_of l.pipes.table z)) l.things
