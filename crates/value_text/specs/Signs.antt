-- The bytes that part the text of a value, and those that its parts begin with.
use Rattle.std.specs.Prelude.{ℕ}

-- `"`, on both sides of a text
abbrev pub quote : ℕ
quote = 34

-- `%`, before the index of a handle
abbrev pub percent : ℕ
percent = 37

-- `(`, what a struct begins with
abbrev pub open_round : ℕ
open_round = 40

-- `)`, what a struct ends with
abbrev pub close_round : ℕ
close_round = 41

-- `,`, between elements, pairs or fields
abbrev pub comma : ℕ
comma = 44

-- `-`, before a number below zero
abbrev pub dash : ℕ
dash = 45

-- `:`, between a key and its value, or a tag and what it holds
abbrev pub colon : ℕ
colon = 58

-- `<`, what a union begins with
abbrev pub open_angle : ℕ
open_angle = 60

-- `>`, what a union ends with
abbrev pub close_angle : ℕ
close_angle = 62

-- `@`, before the version of a remote
abbrev pub at_sign : ℕ
at_sign = 64

-- `[`, what an array begins with
abbrev pub open_square : ℕ
open_square = 91

-- `\`, before what is escaped in a text
abbrev pub backslash : ℕ
backslash = 92

-- `]`, what an array ends with
abbrev pub close_square : ℕ
close_square = 93

-- `^`, before the index of an associated endpoint
abbrev pub caret : ℕ
caret = 94

-- `{`, what a map begins with
abbrev pub open_curly : ℕ
open_curly = 123

-- `}`, what a map ends with
abbrev pub close_curly : ℕ
close_curly = 125

-- what null begins with
abbrev pub letter_n : ℕ
letter_n = 110

-- what true begins with
abbrev pub letter_t : ℕ
letter_t = 116

-- behind a backslash, before two hexadecimal digits
abbrev pub letter_x : ℕ
letter_x = 120
