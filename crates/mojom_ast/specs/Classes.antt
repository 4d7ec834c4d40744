-- The classes of tokens. They are numbers, so that a class is tested and sets of classes are compared by computing;
-- each has a name.
use Rattle.std.specs.Prelude.{ℕ, List, [], ◌∷◌, codes, if◌then◌else◌}
use Rattle.std.specs.Str.{bytes_eq}
use Rattle.mojom_ast.specs.declared.classes.TheConstants.{IDENTIFIER, NUMBER, STRING, MODULE, IMPORT, STRUCT, UNION, ENUM, INTERFACE, CONST, TRUE, FALSE, ARRAY, MAP, HANDLE, PENDING_REMOTE, PENDING_RECEIVER, PENDING_ASSOCIATED_REMOTE, PENDING_ASSOCIATED_RECEIVER, SEMICOLON, COMMA, DOT, OPEN_PAREN, CLOSE_PAREN, OPEN_BRACKET, CLOSE_BRACKET, OPEN_BRACE, CLOSE_BRACE, LESS, GREATER, EQUALS, ARROW, QUESTION, AT, PLUS, MINUS, MESSAGE_PIPE, DATA_PIPE_CONSUMER, DATA_PIPE_PRODUCER, SHARED_BUFFER, PLATFORM}
use Rattle.mojom_ast.specs.declared.token.Keyword.{Keyword}
use Rattle.mojom_ast.specs.declared.token.Keyword.TheVariants as keywords
use Rattle.mojom_ast.specs.declared.token.Symbol.{Symbol}
use Rattle.mojom_ast.specs.declared.token.Symbol.TheVariants as symbols
use Rattle.mojom_ast.specs.declared.token.Sort.{Sort}
use Rattle.mojom_ast.specs.declared.token.Sort.TheVariants as sorts
use Rattle.mojom_ast.specs.declared.token.Token.{Token}

-- the class of a keyword
abbrev pub keyword_class : Keyword → ℕ
keyword_class keywords.Module = MODULE
keyword_class keywords.Import = IMPORT
keyword_class keywords.Struct = STRUCT
keyword_class keywords.Union = UNION
keyword_class keywords.Enum = ENUM
keyword_class keywords.Interface = INTERFACE
keyword_class keywords.Const = CONST
keyword_class keywords.True = TRUE
keyword_class keywords.False = FALSE
keyword_class keywords.Array = ARRAY
keyword_class keywords.Map = MAP
keyword_class keywords.Handle = HANDLE
keyword_class keywords.PendingRemote = PENDING_REMOTE
keyword_class keywords.PendingReceiver = PENDING_RECEIVER
keyword_class keywords.PendingAssociatedRemote = PENDING_ASSOCIATED_REMOTE
keyword_class keywords.PendingAssociatedReceiver = PENDING_ASSOCIATED_RECEIVER

-- the class of a symbol
abbrev pub symbol_class : Symbol → ℕ
symbol_class symbols.Semicolon = SEMICOLON
symbol_class symbols.Comma = COMMA
symbol_class symbols.Dot = DOT
symbol_class symbols.OpenParen = OPEN_PAREN
symbol_class symbols.CloseParen = CLOSE_PAREN
symbol_class symbols.OpenBracket = OPEN_BRACKET
symbol_class symbols.CloseBracket = CLOSE_BRACKET
symbol_class symbols.OpenBrace = OPEN_BRACE
symbol_class symbols.CloseBrace = CLOSE_BRACE
symbol_class symbols.Less = LESS
symbol_class symbols.Greater = GREATER
symbol_class symbols.Equals = EQUALS
symbol_class symbols.Arrow = ARROW
symbol_class symbols.Question = QUESTION
symbol_class symbols.At = AT
symbol_class symbols.Plus = PLUS
symbol_class symbols.Minus = MINUS

-- an identifier has a class of its own where its text is a sort of handles
unfoldable pub identifier_class : List ℕ → ℕ
identifier_class text =
    if bytes_eq text (codes "message_pipe") then MESSAGE_PIPE
    else (if bytes_eq text (codes "data_pipe_consumer") then DATA_PIPE_CONSUMER
    else (if bytes_eq text (codes "data_pipe_producer") then DATA_PIPE_PRODUCER
    else (if bytes_eq text (codes "shared_buffer") then SHARED_BUFFER
    else (if bytes_eq text (codes "platform") then PLATFORM
    else IDENTIFIER))))

-- the class of what a token is
abbrev pub class_of : Sort → ℕ
class_of (sorts.Identifier text) = identifier_class text
class_of (sorts.Number n) = NUMBER
class_of (sorts.String bytes) = STRING
class_of (sorts.Keyword k) = keyword_class k
class_of (sorts.Symbol s) = symbol_class s

-- the class of a token
abbrev pub class : Token → ℕ
class t = class_of t.sort

-- the classes of identifiers, whatever their text
abbrev pub identifiers : List ℕ
identifiers = IDENTIFIER ∷ MESSAGE_PIPE ∷ DATA_PIPE_CONSUMER ∷ DATA_PIPE_PRODUCER ∷ SHARED_BUFFER ∷ PLATFORM ∷ []
