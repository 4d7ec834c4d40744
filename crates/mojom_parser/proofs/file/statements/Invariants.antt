use Rattle.std.proofs.Common.{◌≡◌, ◌-◌}
use Rattle.mj_base.specs.declared.limits.TheConstants.{MAX_NESTED_TYPES}
use Rattle.grammar_laws.specs.steps.Factored.{statements}
use Rattle.mojom_parser.specs.steps.Reading.{with_imports}
use Rattle.mojom_parser.proofs.file.statements.Given as goal

abbrev pub invariant-loop : goal.invariant-loop
invariant-loop l = with_imports l.imports.items ((statements (l.limit - l.counter) l.limit MAX_NESTED_TYPES).read l.rest) ≡ with_imports
    l.initial.imports.items ((statements l.limit l.limit MAX_NESTED_TYPES).read l.tokens)
