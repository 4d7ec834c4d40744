-- Which bytes have which tree, and which refusal.
use Rattle.std.specs.Prelude.{ℕ, ◌≡◌, ◌⊎◌, List, length, Some, None, slice_get}
use Rattle.mojom_ast.specs.declared.token.Token.{Token}
use Rattle.mojom_ast.specs.declared.file.File.{File}
use Rattle.mojom_ast.specs.Parsed.{Spells}
use Rattle.mojom_lexer.specs.declared.error.LexError.{LexError}
use Rattle.mojom_lexer.specs.declared.error.LexError.TheVariants as lex
use Rattle.mojom_lexer.specs.Lexed.{AreTokens, IsLexicalRefusal}
use Rattle.mojom_parser.specs.declared.error.ParseError.{ParseError}
use Rattle.mojom_parser.specs.declared.error.ParseError.TheVariants as parse
use Rattle.mojom_parser.specs.Parsed.{IsShallow, IsFault}
use Rattle.mojom_compile.specs.declared.error.Cause.{Cause}
use Rattle.mojom_compile.specs.declared.error.Cause.TheVariants as causes
use Rattle.mojom_compile.specs.declared.error.FileRefusal.{FileRefusal}
use Rattle.mojom_compile.specs.declared.error.CompileError.{CompileError}
use Rattle.mojom_compile.specs.declared.error.CompileError.TheVariants.{Refused, Memory}

-- the bytes are tokens that spell the tree
pub record IsParsed (bytes : List ℕ) (tree : File) : Type 0 where
  pub tokens : List Token
  pub are : AreTokens bytes tokens
  pub shallow : IsShallow tokens
  pub spelled : Spells tree tokens

-- the refusal of what stands at a place, by a cause that names it
abbrev pub at_its_place : ℕ → (ℕ → Cause) → CompileError
at_its_place at cause = Refused (record { at = at; cause = cause at })

-- a lexical refusal stands at its place
abbrev pub lexical : LexError → CompileError
lexical (lex.BadUtf8 at) = at_its_place at causes.BadUtf8
lexical (lex.BadChar at) = at_its_place at causes.BadChar
lexical (lex.OpenComment at) = at_its_place at causes.OpenComment
lexical (lex.OpenString at) = at_its_place at causes.OpenString
lexical (lex.LeadingZero at) = at_its_place at causes.LeadingZero
lexical (lex.NumberTooLong at) = at_its_place at causes.NumberTooLong
lexical lex.Memory = Memory

-- the place of a token, or the file's length behind the last
abbrev pub place_of_token : List ℕ → List Token → ℕ → ℕ
place_of_token bytes tokens number = elim (slice_get tokens number) [ Some token ↦ token.span.start | None ↦ length bytes ]

-- a refusal by the grammar stands at its token
abbrev pub grammatical : List ℕ → List Token → ParseError → CompileError
grammatical bytes tokens (parse.Unexpected at) = Refused (record { at = place_of_token bytes tokens at; cause = causes.Unexpected at })
grammatical bytes tokens (parse.TooNested at) = Refused (record { at = place_of_token bytes tokens at; cause = causes.TooNested at })
grammatical bytes tokens parse.Memory = Memory

-- the bytes are no tokens
pub record IsNoText (bytes : List ℕ) (refusal : FileRefusal) : Type 0 where
  pub error : LexError
  pub refused : IsLexicalRefusal bytes error
  pub named : lexical error ≡ Refused refusal

-- the tokens are no file
pub record IsNoFile (bytes : List ℕ) (refusal : FileRefusal) : Type 0 where
  pub tokens : List Token
  pub error : ParseError
  pub are : AreTokens bytes tokens
  pub fault : IsFault tokens error
  pub named : grammatical bytes tokens error ≡ Refused refusal

-- the bytes have no tree
abbrev pub IsUnread : List ℕ → FileRefusal → Type 0
IsUnread bytes refusal = IsNoText bytes refusal ⊎ IsNoFile bytes refusal

-- an error is this refusal, or want of memory
abbrev pub IsFor : (FileRefusal → Type 0) → CompileError → Type 0
IsFor Such (Refused refusal) = Such refusal
IsFor Such Memory = Unit {0}

-- bytes have just one tree or just one refusal, and never both
pub record OneTree (bytes : List ℕ) : Type 0 where
  pub some : ((tree : File) × IsParsed bytes tree) ⊎ ((refusal : FileRefusal) × IsUnread bytes refusal)
  pub one_tree : (tree other : File) → IsParsed bytes tree → IsParsed bytes other → tree ≡ other
  pub one_refusal : (refusal other : FileRefusal) → IsUnread bytes refusal → IsUnread bytes other → refusal ≡ other
  pub never_both : (tree : File) (refusal : FileRefusal) → IsParsed bytes tree → IsUnread bytes refusal → ⊥
