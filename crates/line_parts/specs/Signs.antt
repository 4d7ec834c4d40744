-- The bytes that part the text of a history, and the letters that its names of things begin with.
use Rattle.std.specs.Prelude.{ℕ}

-- the byte behind each line
abbrev pub line_end : ℕ
line_end = 10

-- the byte between the words of a line
abbrev pub blank : ℕ
blank = 32

-- `#`, between an end and the id of an endpoint there
abbrev pub hash : ℕ
hash = 35

-- `,`, between the items of a list
abbrev pub comma : ℕ
comma = 44

-- `-`, where no bytes are, or no version is
abbrev pub dash : ℕ
dash = 45

-- `.`, between two numbers of one name
abbrev pub dot : ℕ
dot = 46

-- `@`, before the request of a responder
abbrev pub at_sign : ℕ
at_sign = 64

-- what a list begins with
abbrev pub opens : ℕ
opens = 91

-- what a list ends with
abbrev pub closes : ℕ
closes = 93

-- what the name of an end begins with
abbrev pub letter_e : ℕ
letter_e = 101

-- what the name of a pending endpoint begins with
abbrev pub letter_p : ℕ
letter_p = 112

-- what the name of a responder begins with
abbrev pub letter_r : ℕ
letter_r = 114

-- what the name of a token begins with
abbrev pub letter_t : ℕ
letter_t = 116

-- what the line of a callback begins with, behind those of events
abbrev pub letter_c : ℕ
letter_c = 99

-- what the line of a thing that is left begins with, behind those of callbacks
abbrev pub letter_l : ℕ
letter_l = 108

-- what the last line begins with
abbrev pub letter_d : ℕ
letter_d = 100
