use Rattle.import_order.proofs.OneOrder.{one_order}
use Rattle.import_order.proofs.file_order.one_order.Goals as goal

pub returns : goal.returns
returns c = one_order
