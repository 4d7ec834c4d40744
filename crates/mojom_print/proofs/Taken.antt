-- The text of a file's tree has an answer, a tree of the same text.
use Rattle.std.proofs.Common.{ℕ, List, Ok}
use Rattle.mj_base.specs.declared.limits.TheConstants.{MAX_NESTED_TYPES}
use Rattle.mojom_ast.specs.declared.token.Token.{Token}
use Rattle.mojom_ast.specs.declared.file.File.{File}
use Rattle.mojom_lexer.specs.Lexed.{AreTokens}
use Rattle.mojom_parser.specs.Parsed.{IsAnswer}
use Rattle.mojom_parser.proofs.Bounds.{within_is_answer, answer_is_within}
use Rattle.mojom_print.specs.Again.{SpelledAgain, TakenAgain}
use Rattle.mojom_print.proofs.Reprints.{spelled_again}
use Rattle.mojom_print.proofs.Placeless.{same_text}

-- for the law of this name
pub taken_again : (bytes : List ℕ) (tokens : List Token) (tree : File) → AreTokens bytes tokens → IsAnswer tokens (Ok tree) → TakenAgain tree
taken_again bytes tokens tree are answer =
    let again : SpelledAgain MAX_NESTED_TYPES tree =
    spelled_again bytes tokens tree MAX_NESTED_TYPES are (answer_is_within tokens tree answer) in
    record {
      tokens = again.tokens;
      are_tokens = again.are_tokens;
      other = again.other;
      answer = within_is_answer again.tokens again.other again.spells;
      same = again.same;
      text = same_text tree again.other again.same;
    }
