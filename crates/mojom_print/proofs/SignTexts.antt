-- Signs, and the blanks round them.
use Rattle.std.proofs.Common.{◌≡◌, ℕ, zero, suc, [], ◌∷◌, ◌++◌, Bool, true, not, refl, codes}
use Rattle.std.proofs.Common.{lit<}
use Rattle.mojom_ast.specs.declared.token.Keyword.TheVariants as keywords
use Rattle.mojom_ast.specs.declared.token.Symbol.TheVariants.{Semicolon, Comma, Dot, OpenParen, CloseParen, OpenBracket, CloseBracket, OpenBrace, CloseBrace, Less, Greater, Equals, Arrow, Question, At, Minus}
use Rattle.mojom_ast.specs.declared.token.Sort.TheVariants as sorts
use Rattle.mojom_lexer.specs.Bytes.{goes_on}
use Rattle.mojom_lexer.specs.Words.{keyword_of, single_symbol}
use Rattle.mojom_print.specs.Words.{indent}
use Rattle.mojom_print.proofs.Lexes.{Tells, none, ◌then◌, nothing, blanks}
use Rattle.mojom_print.proofs.WordTexts.{word_tells, symbol_tells, equals_tells, arrow_tells, greater}
use Rattle.mojom_print.proofs.Sorts.{key, sign}

semicolon_sign : {p : ℕ → Bool} → not (p 59) ≡ true → Tells p none (59 ∷ []) (sign Semicolon)
unfolding single_symbol
semicolon_sign f = symbol_tells 59 Semicolon refl refl refl (lit< tt) f

comma_sign : {p : ℕ → Bool} → not (p 44) ≡ true → Tells p none (44 ∷ []) (sign Comma)
unfolding single_symbol
comma_sign f = symbol_tells 44 Comma refl refl refl (lit< tt) f

dot_sign : {p : ℕ → Bool} → not (p 46) ≡ true → Tells p none (46 ∷ []) (sign Dot)
unfolding single_symbol
dot_sign f = symbol_tells 46 Dot refl refl refl (lit< tt) f

open_paren_sign : {p : ℕ → Bool} → not (p 40) ≡ true → Tells p none (40 ∷ []) (sign OpenParen)
unfolding single_symbol
open_paren_sign f = symbol_tells 40 OpenParen refl refl refl (lit< tt) f

close_paren_sign : {p : ℕ → Bool} → not (p 41) ≡ true → Tells p none (41 ∷ []) (sign CloseParen)
unfolding single_symbol
close_paren_sign f = symbol_tells 41 CloseParen refl refl refl (lit< tt) f

open_bracket_sign : {p : ℕ → Bool} → not (p 91) ≡ true → Tells p none (91 ∷ []) (sign OpenBracket)
unfolding single_symbol
open_bracket_sign f = symbol_tells 91 OpenBracket refl refl refl (lit< tt) f

close_bracket_sign : {p : ℕ → Bool} → not (p 93) ≡ true → Tells p none (93 ∷ []) (sign CloseBracket)
unfolding single_symbol
close_bracket_sign f = symbol_tells 93 CloseBracket refl refl refl (lit< tt) f

open_brace_sign : {p : ℕ → Bool} → not (p 123) ≡ true → Tells p none (123 ∷ []) (sign OpenBrace)
unfolding single_symbol
open_brace_sign f = symbol_tells 123 OpenBrace refl refl refl (lit< tt) f

close_brace_sign : {p : ℕ → Bool} → not (p 125) ≡ true → Tells p none (125 ∷ []) (sign CloseBrace)
unfolding single_symbol
close_brace_sign f = symbol_tells 125 CloseBrace refl refl refl (lit< tt) f

less_sign : {p : ℕ → Bool} → not (p 60) ≡ true → Tells p none (60 ∷ []) (sign Less)
unfolding single_symbol
less_sign f = symbol_tells 60 Less refl refl refl (lit< tt) f

greater_sign : {p : ℕ → Bool} → not (p 62) ≡ true → Tells p none (62 ∷ []) (sign Greater)
unfolding single_symbol
greater_sign f = symbol_tells 62 Greater refl refl refl (lit< tt) f

question_sign : {p : ℕ → Bool} → not (p 63) ≡ true → Tells p none (63 ∷ []) (sign Question)
unfolding single_symbol
question_sign f = symbol_tells 63 Question refl refl refl (lit< tt) f

at_sign : {p : ℕ → Bool} → not (p 64) ≡ true → Tells p none (64 ∷ []) (sign At)
unfolding single_symbol
at_sign f = symbol_tells 64 At refl refl refl (lit< tt) f

minus_sign : {p : ℕ → Bool} → not (p 45) ≡ true → Tells p none (45 ∷ []) (sign Minus)
unfolding single_symbol
minus_sign f = symbol_tells 45 Minus refl refl refl (lit< tt) f

-- these may stand behind a word and behind a value

-- for texts: `;` at the end of a line
pub end_line : {p : ℕ → Bool} → not (p 59) ≡ true → Tells p none (codes ";\n") (sign Semicolon)
end_line f = semicolon_sign f then blanks 10 ([]) refl refl

-- for texts: `,` at the end of a line
pub comma_line : {p : ℕ → Bool} → not (p 44) ≡ true → Tells p none (codes ",\n") (sign Comma)
comma_line f = comma_sign f then blanks 10 ([]) refl refl

-- for texts: `, `
pub comma_blank : {p : ℕ → Bool} → not (p 44) ≡ true → Tells p none (codes ", ") (sign Comma)
comma_blank f = comma_sign f then blanks 32 ([]) refl refl

-- for texts: `.`
pub dot : {p : ℕ → Bool} → not (p 46) ≡ true → Tells p none (codes ".") (sign Dot)
dot f = dot_sign f

-- for texts: `@`
pub at : {p : ℕ → Bool} → not (p 64) ≡ true → Tells p none (codes "@") (sign At)
at f = at_sign f

-- for texts: `-`
pub minus : {p : ℕ → Bool} → not (p 45) ≡ true → Tells p none (codes "-") (sign Minus)
minus f = minus_sign f

-- for texts: `?`
pub question : {p : ℕ → Bool} → not (p 63) ≡ true → Tells p none (codes "?") (sign Question)
question f = question_sign f

-- for texts: `<`
pub less : {p : ℕ → Bool} → not (p 60) ≡ true → Tells p none (codes "<") (sign Less)
less f = less_sign f

-- for texts: `>`
pub more : {p : ℕ → Bool} → not (p 62) ≡ true → Tells p none (codes ">") (sign Greater)
more f = greater_sign f

-- for texts: `(`
pub open_paren : {p : ℕ → Bool} → not (p 40) ≡ true → Tells p none (codes "(") (sign OpenParen)
open_paren f = open_paren_sign f

-- for texts: `)`
pub close_paren : {p : ℕ → Bool} → not (p 41) ≡ true → Tells p none (codes ")") (sign CloseParen)
close_paren f = close_paren_sign f

-- for texts: `[`
pub open_bracket : {p : ℕ → Bool} → not (p 91) ≡ true → Tells p none (codes "[") (sign OpenBracket)
open_bracket f = open_bracket_sign f

-- for texts: `]`
pub close_bracket : {p : ℕ → Bool} → not (p 93) ≡ true → Tells p none (codes "]") (sign CloseBracket)
close_bracket f = close_bracket_sign f

-- for texts: a blank
pub one_blank : {p : ℕ → Bool} → not (p 32) ≡ true → Tells p none (codes " ") ([])
one_blank f = blanks 32 ([]) refl f

-- for texts: the end of a line
pub line_end : {p : ℕ → Bool} → not (p 10) ≡ true → Tells p none (codes "\n") ([])
line_end f = blanks 10 ([]) refl f

-- for texts: ` {` at the end of a line
pub open_block : {p : ℕ → Bool} → not (p 32) ≡ true → Tells p none (codes " {\n") (sign OpenBrace)
open_block f = blanks 32 ([]) refl f then (open_brace_sign refl then blanks 10 ([]) refl refl)

-- for texts: `};` at the end of a line
pub close_block : {p : ℕ → Bool} → not (p 125) ≡ true → Tells p none (codes "};\n") (sign CloseBrace ++ sign Semicolon)
close_block f = close_brace_sign f then (semicolon_sign refl then blanks 10 ([]) refl refl)

-- for texts: ` = `
pub equals_blanks : {p : ℕ → Bool} → not (p 32) ≡ true → Tells p none (codes " = ") (sign Equals)
equals_blanks f = blanks 32 ([]) refl f then (equals_tells refl then blanks 32 ([]) refl refl)

-- for texts: ` => `
pub arrow_blanks : {p : ℕ → Bool} → not (p 32) ≡ true → Tells p none (codes " => ") (sign Arrow)
arrow_blanks f = blanks 32 ([]) refl f then (arrow_tells refl then blanks 32 ([]) refl refl)

-- `=` with no blanks
pub equals : {p : ℕ → Bool} → not (p 61) ≡ true → Tells p greater (codes "=") (sign Equals)
equals f = equals_tells f

-- keywords

-- for texts: `module`
pub module_word : Tells none goes_on (codes "module") (key keywords.Module)
unfolding keyword_of
module_word = word_tells 109 (codes "odule") (sorts.Keyword keywords.Module) refl (refl, refl)

-- for texts: `import`
pub import_word : Tells none goes_on (codes "import") (key keywords.Import)
unfolding keyword_of
import_word = word_tells 105 (codes "mport") (sorts.Keyword keywords.Import) refl (refl, refl)

-- for texts: `struct`
pub struct_word : Tells none goes_on (codes "struct") (key keywords.Struct)
unfolding keyword_of
struct_word = word_tells 115 (codes "truct") (sorts.Keyword keywords.Struct) refl (refl, refl)

-- for texts: `union`
pub union_word : Tells none goes_on (codes "union") (key keywords.Union)
unfolding keyword_of
union_word = word_tells 117 (codes "nion") (sorts.Keyword keywords.Union) refl (refl, refl)

-- for texts: `enum`
pub enum_word : Tells none goes_on (codes "enum") (key keywords.Enum)
unfolding keyword_of
enum_word = word_tells 101 (codes "num") (sorts.Keyword keywords.Enum) refl (refl, refl)

-- for texts: `interface`
pub interface_word : Tells none goes_on (codes "interface") (key keywords.Interface)
unfolding keyword_of
interface_word = word_tells 105 (codes "nterface") (sorts.Keyword keywords.Interface) refl (refl, refl)

-- for texts: `const`
pub const_word : Tells none goes_on (codes "const") (key keywords.Const)
unfolding keyword_of
const_word = word_tells 99 (codes "onst") (sorts.Keyword keywords.Const) refl (refl, refl)

-- for texts: `true`
pub true_word : Tells none goes_on (codes "true") (key keywords.True)
unfolding keyword_of
true_word = word_tells 116 (codes "rue") (sorts.Keyword keywords.True) refl (refl, refl)

-- for texts: `false`
pub false_word : Tells none goes_on (codes "false") (key keywords.False)
unfolding keyword_of
false_word = word_tells 102 (codes "alse") (sorts.Keyword keywords.False) refl (refl, refl)

-- for texts: `array`
pub array_word : Tells none goes_on (codes "array") (key keywords.Array)
unfolding keyword_of
array_word = word_tells 97 (codes "rray") (sorts.Keyword keywords.Array) refl (refl, refl)

-- for texts: `map`
pub map_word : Tells none goes_on (codes "map") (key keywords.Map)
unfolding keyword_of
map_word = word_tells 109 (codes "ap") (sorts.Keyword keywords.Map) refl (refl, refl)

-- for texts: `handle`
pub handle_word : Tells none goes_on (codes "handle") (key keywords.Handle)
unfolding keyword_of
handle_word = word_tells 104 (codes "andle") (sorts.Keyword keywords.Handle) refl (refl, refl)

-- for texts: `pending_remote`
pub remote_word : Tells none goes_on (codes "pending_remote") (key keywords.PendingRemote)
unfolding keyword_of
remote_word = word_tells 112 (codes "ending_remote") (sorts.Keyword keywords.PendingRemote) refl (refl, refl)

-- for texts: `pending_receiver`
pub receiver_word : Tells none goes_on (codes "pending_receiver") (key keywords.PendingReceiver)
unfolding keyword_of
receiver_word = word_tells 112 (codes "ending_receiver") (sorts.Keyword keywords.PendingReceiver) refl (refl, refl)

-- for texts: `pending_associated_remote`
pub associated_remote_word : Tells none goes_on (codes "pending_associated_remote") (key keywords.PendingAssociatedRemote)
unfolding keyword_of
associated_remote_word = word_tells 112 (codes "ending_associated_remote") (sorts.Keyword keywords.PendingAssociatedRemote) refl (refl, refl)

-- for texts: `pending_associated_receiver`
pub associated_receiver_word : Tells none goes_on (codes "pending_associated_receiver") (key keywords.PendingAssociatedReceiver)
unfolding keyword_of
associated_receiver_word = word_tells 112 (codes "ending_associated_receiver") (sorts.Keyword keywords.PendingAssociatedReceiver) refl (refl, refl)

-- for texts: `module `
pub module_blank : Tells none none (codes "module ") (key keywords.Module)
module_blank = module_word then one_blank refl

-- for texts: `import `
pub import_blank : Tells none none (codes "import ") (key keywords.Import)
import_blank = import_word then one_blank refl

-- for texts: `struct `
pub struct_blank : Tells none none (codes "struct ") (key keywords.Struct)
struct_blank = struct_word then one_blank refl

-- for texts: `union `
pub union_blank : Tells none none (codes "union ") (key keywords.Union)
union_blank = union_word then one_blank refl

-- for texts: `enum `
pub enum_blank : Tells none none (codes "enum ") (key keywords.Enum)
enum_blank = enum_word then one_blank refl

-- for texts: `interface `
pub interface_blank : Tells none none (codes "interface ") (key keywords.Interface)
interface_blank = interface_word then one_blank refl

-- for texts: `const `
pub const_blank : Tells none none (codes "const ") (key keywords.Const)
const_blank = const_word then one_blank refl

-- for texts: `array<`
pub array_less : Tells none none (codes "array<") (key keywords.Array ++ sign Less)
array_less = array_word then less refl

-- for texts: `map<`
pub map_less : Tells none none (codes "map<") (key keywords.Map ++ sign Less)
map_less = map_word then less refl

-- the indent of a line
pub indent_tells : (depth : ℕ) → Tells none none (indent depth) []
indent_tells zero = nothing
indent_tells (suc depth) = blanks 32 (32 ∷ []) refl refl then indent_tells depth
