use Rattle.endpoint_router.specs.Slots.{table_in}
use Rattle.endpoint_router.proofs.SlotLemmas.{none_indexed}
use Rattle.endpoint_router.proofs.table.EndpointTable.new.Goals as goal

pub invariant_of-result : goal.invariant_of-result
invariant_of-result c = none_indexed c.new-index.result c.new-rows.result.slots c.new-drawn.result c.new-index.ensures

pub returns : goal.returns
returns c = λ i. table_in (c.new-index.ensures i) c.new-rows.result.slots (c.new-drawn.ensures i)
