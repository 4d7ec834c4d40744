use Rattle.std.proofs.Common.{List, ap}
use Rattle.queued_keys.specs.declared.keyed_end.KeyedEnd.{KeyedEnd}
use Rattle.message_pipe.specs.Slots.{seen_ends}
use Rattle.message_pipe.proofs.Turning.{none_kept}
use Rattle.message_pipe.proofs.slab_ends.SlabEnds.new.Goals as goal

pub invariant_of-result : goal.invariant_of-result
invariant_of-result c = none_kept c.new-messages.result c.new-keys.result c.new-messages.ensures.empty c.new-keys.ensures

pub returns : goal.returns
returns c = ap (λ (es : List (List KeyedEnd)). seen_ends c.new-messages.result es) c.new-keys.ensures
