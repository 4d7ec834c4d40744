use Rattle.grammar_laws.proofs.Unique.{one_tree}
use Rattle.grammar_laws.proofs.one_tree.Goals as goal

pub returns : goal.returns
returns c = λ tokens one other s t. one_tree tokens one other s t
