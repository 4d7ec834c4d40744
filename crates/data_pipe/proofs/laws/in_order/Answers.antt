use Rattle.data_pipe.proofs.laws.in_order.Goals as goal
use Rattle.data_pipe.proofs.Flowing as all

pub returns : goal.returns
returns c = λ capacity calls. all.in_order capacity calls
