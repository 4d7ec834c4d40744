-- A tree is the answer to tokens exactly where its types nest no deeper than they may.
use Rattle.std.proofs.Common.{List, length, Ok, ap}
use Rattle.std.specs.Prelude.{◌↔◌}
use Rattle.mj_base.specs.declared.limits.TheConstants.{MAX_NESTED_TYPES}
use Rattle.mojom_ast.specs.declared.token.Token.{Token}
use Rattle.mojom_ast.specs.declared.file.File.{File}
use Rattle.mojom_ast.specs.Parsed.{SpellsWithin}
use Rattle.grammar_laws.specs.steps.Factored.{factored}
use Rattle.grammar_laws.proofs.Unique.{read_at}
use Rattle.mojom_parser.specs.Parsed.{IsAnswer}
use Rattle.mojom_parser.specs.steps.Verdict.{verdict}
use Rattle.mojom_parser.proofs.Verdicts.{found_within}
use Rattle.mojom_parser.proofs.Places.{read_whole}
use Rattle.mojom_parser.proofs.Laws.{is_given, tree_is}

-- what is spelled within the bound is the answer
pub within_is_answer : (ts : List Token) (tree : File) → SpellsWithin MAX_NESTED_TYPES tree ts → IsAnswer ts (Ok tree)
within_is_answer ts tree spells = is_given ts (Ok tree) (ap (verdict (length ts)) (read_at MAX_NESTED_TYPES tree ts spells))

-- the answer is spelled within the bound
pub answer_is_within : (ts : List Token) (tree : File) → IsAnswer ts (Ok tree) → SpellsWithin MAX_NESTED_TYPES tree ts
answer_is_within ts tree answer =
    found_within ts tree (read_whole (length ts) ((factored MAX_NESTED_TYPES).read ts) tree (tree_is ts tree answer.0 answer.1))

-- for the law of this name
pub bounded_nesting : (ts : List Token) (tree : File) → SpellsWithin MAX_NESTED_TYPES tree ts ↔ IsAnswer ts (Ok tree)
bounded_nesting ts tree = (within_is_answer ts tree, answer_is_within ts tree)
