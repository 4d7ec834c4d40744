use Rattle.std.proofs.Common.{◌∙◌}
use Rattle.endpoint_router.proofs.SlotLemmas.{counted_up}
use Rattle.endpoint_router.proofs.slots.count_one.Goals as goal

pub returns-clause-counts : goal.returns-clause-counts
returns-clause-counts c = λ x.
    c.set.ensures.counts x ∙ counted_up c.args.drawn.now c.args.end c.count-own.result c.count-own.ensures x
