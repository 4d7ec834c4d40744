use Rattle.mojom_ast.specs.Lang.{times}
use Rattle.mojom_parser.specs.steps.Reading.{with_front}
use Rattle.mojom_parser.proofs.Loops.{Reads}
use Rattle.mojom_parser.proofs.lists.at_most.Given as goal

abbrev pub invariant-loop : goal.invariant-loop
invariant-loop g l = Reads (λ n. times n g.L.Listed.rule) l.items.items l.limit l.counter l.rest
    (with_front l.initial.items.items ((times l.limit g.L.Listed.rule).read l.tokens))
