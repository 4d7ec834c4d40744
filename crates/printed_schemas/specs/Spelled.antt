-- Files whose trees are spelled by the tokens of some bytes.
use Rattle.std.specs.Prelude.{ℕ, List}
use Rattle.std.specs.List.{AllByRecursion}
use Rattle.mojom_ast.specs.declared.file.File.{File}
use Rattle.mojom_ast.specs.declared.token.Token.{Token}
use Rattle.mojom_ast.specs.Parsed.{Spells}
use Rattle.mojom_lexer.specs.Lexed.{AreTokens}
use Rattle.mojom_files.specs.declared.named_file.NamedFile.{NamedFile}

-- some bytes are tokens that spell the tree
pub record IsSpelled (tree : File) : Type 0 where
  pub bytes : List ℕ
  pub tokens : List Token
  pub are : AreTokens bytes tokens
  pub spelled : Spells tree tokens

-- so it is with the tree of each file
abbrev pub AreSpelled : List NamedFile → Type 0
AreSpelled files = AllByRecursion (λ (file : NamedFile). IsSpelled file.tree) files
