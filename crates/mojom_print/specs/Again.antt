-- A printed text, read again.
use Rattle.std.specs.Prelude.{◌≡◌, ℕ, List, Ok}
use Rattle.mojom_ast.specs.declared.token.Token.{Token}
use Rattle.mojom_ast.specs.declared.file.File.{File}
use Rattle.mojom_ast.specs.Parsed.{SpellsWithin}
use Rattle.mojom_lexer.specs.Lexed.{AreTokens}
use Rattle.mojom_parser.specs.Parsed.{IsAnswer}
use Rattle.mojom_print.specs.FileText.{file_text}
use Rattle.mojom_print.specs.Unplaced.{unplaced}

-- The text of the tree has tokens, and they are a file that differs from the tree in places alone, and nests no deeper.
pub record SpelledAgain (n : ℕ) (tree : File) : Type 0 where
  pub tokens : List Token
  pub are_tokens : AreTokens (file_text tree) tokens
  pub other : File
  pub spells : SpellsWithin n other tokens
  pub same : unplaced other ≡ unplaced tree

-- The text of the tree has tokens, and the answer to them is a tree that differs from this one in places alone, so its
-- text is the same.
pub record TakenAgain (tree : File) : Type 0 where
  pub tokens : List Token
  pub are_tokens : AreTokens (file_text tree) tokens
  pub other : File
  pub answer : IsAnswer tokens (Ok other)
  pub same : unplaced other ≡ unplaced tree
  pub text : file_text other ≡ file_text tree
