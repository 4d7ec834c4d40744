-- Words and symbols.
use Rattle.std.specs.Prelude.{ℕ, ◌==◌, ◌&&◌, if◌then◌else◌, Bool, false, List, [], ◌∷◌, codes, Option, Some, None}
use Rattle.std.specs.List.{list_all}
use Rattle.std.specs.Str.{bytes_eq}
use Rattle.mojom_ast.specs.declared.token.Keyword.{Keyword}
use Rattle.mojom_ast.specs.declared.token.Keyword.TheVariants.{Module, Import, Struct, Union, Enum, Interface, Const, True, False, Array, Map, Handle, PendingRemote, PendingReceiver, PendingAssociatedRemote, PendingAssociatedReceiver}
use Rattle.mojom_ast.specs.declared.token.Symbol.{Symbol}
use Rattle.mojom_ast.specs.declared.token.Symbol.TheVariants.{Semicolon, Comma, Dot, OpenParen, CloseParen, OpenBracket, CloseBracket, OpenBrace, CloseBrace, Less, Greater, Equals, Arrow, Question, At, Plus, Minus}
use Rattle.mojom_lexer.specs.Bytes.{byte_of, is_letter, goes_on}

-- a word: a letter or _, and then letters, digits and _
abbrev pub is_word : List ℕ → Bool
is_word [] = false
is_word (c ∷ cs) = is_letter c && list_all goes_on cs

-- the words that are no identifiers
abbrev pub keywords : List (List ℕ × Keyword)
keywords =
    (codes "module", Module)
    ∷ (codes "import", Import)
    ∷ (codes "struct", Struct)
    ∷ (codes "union", Union)
    ∷ (codes "enum", Enum)
    ∷ (codes "interface", Interface)
    ∷ (codes "const", Const)
    ∷ (codes "true", True)
    ∷ (codes "false", False)
    ∷ (codes "array", Array)
    ∷ (codes "map", Map)
    ∷ (codes "handle", Handle)
    ∷ (codes "pending_remote", PendingRemote)
    ∷ (codes "pending_receiver", PendingReceiver)
    ∷ (codes "pending_associated_remote", PendingAssociatedRemote)
    ∷ (codes "pending_associated_receiver", PendingAssociatedReceiver)
    ∷ []

-- what a table has for a word
abbrev pub keyword_in : List (List ℕ × Keyword) → List ℕ → Option Keyword
keyword_in [] word = None
keyword_in (entry ∷ entries) word = if bytes_eq word entry.0 then Some entry.1 else keyword_in entries word

-- the keyword that a word is
unfoldable pub keyword_of : List ℕ → Option Keyword
keyword_of word = keyword_in keywords word

-- the symbols of one character
abbrev pub symbols : List (ℕ × Symbol)
symbols =
    (byte_of (codes ";"), Semicolon)
    ∷ (byte_of (codes ","), Comma)
    ∷ (byte_of (codes "."), Dot)
    ∷ (byte_of (codes "("), OpenParen)
    ∷ (byte_of (codes ")"), CloseParen)
    ∷ (byte_of (codes "["), OpenBracket)
    ∷ (byte_of (codes "]"), CloseBracket)
    ∷ (byte_of (codes "{"), OpenBrace)
    ∷ (byte_of (codes "}"), CloseBrace)
    ∷ (byte_of (codes "<"), Less)
    ∷ (byte_of (codes ">"), Greater)
    ∷ (byte_of (codes "="), Equals)
    ∷ (byte_of (codes "?"), Question)
    ∷ (byte_of (codes "@"), At)
    ∷ (byte_of (codes "+"), Plus)
    ∷ (byte_of (codes "-"), Minus)
    ∷ []

-- what a table has for a character
abbrev pub symbol_in : List (ℕ × Symbol) → ℕ → Option Symbol
symbol_in [] c = None
symbol_in (entry ∷ entries) c = if c == entry.0 then Some entry.1 else symbol_in entries c

-- the symbol that a character is
unfoldable pub single_symbol : ℕ → Option Symbol
single_symbol c = symbol_in symbols c

-- the symbol that the bytes are: one character, or `=>`
abbrev pub symbol_of : List ℕ → Option Symbol
symbol_of [] = None
symbol_of (c ∷ []) = single_symbol c
symbol_of (c ∷ d ∷ []) = if c == byte_of (codes "=") && d == byte_of (codes ">") then Some Arrow else None
symbol_of (c ∷ d ∷ e ∷ cs) = None
