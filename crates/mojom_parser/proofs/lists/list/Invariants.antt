use Rattle.std.proofs.Common.{length}
use Rattle.mojom_ast.specs.Lang.{commas, list}
use Rattle.mojom_parser.proofs.Loops.{Reads}
use Rattle.mojom_parser.proofs.lists.list.Given as goal

abbrev pub invariant-loop : goal.invariant-loop
invariant-loop g l = Reads (λ n. commas n g.L.Listed.rule) l.items.items (length l.tokens) l.counter l.rest ((list g.L.Listed.rule).read l.tokens)
