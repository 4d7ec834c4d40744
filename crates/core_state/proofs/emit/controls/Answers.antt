use Rattle.std.proofs.Common.{arith, slice_index_or}
use Rattle.core_state.proofs.Emitted.{number_there}
use Rattle.core_state.proofs.emit.controls.Goals as goal

pub closed-requires : goal.closed-requires
closed-requires c =
    c.requires (slice_index_or c.args.ids.now c.loop-id.id-index 0) (number_there c.args.ids.now c.loop-id.id-index 0 (omega arith))
