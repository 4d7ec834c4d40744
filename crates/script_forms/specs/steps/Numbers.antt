-- What the readers of numbers and endpoints answer.
use Rattle.std.specs.Prelude.{ℕ, ℤ, ◌≡◌, ◌<◌, ◌^◌, true, FitsSigned, List, decimal, Option, Some, None}
use Rattle.std.specs.Fmt.{signed_decimal}
use Rattle.std.specs.Int.{w64}
use Rattle.script_words.specs.Letters.{endpoint_word, is_name}
use Rattle.script_forms.specs.Forms.{AreSequences}

-- the number of this spelling, where there is one below 2 ^ 32
abbrev pub SpellsNumber : List ℕ → Option ℕ → Type 0
SpellsNumber word (Some n) = word ≡ decimal n
SpellsNumber word None = (n : ℕ) → n < 2 ^ 32 → word ≡ decimal n → ⊥

-- the moment of this spelling, where there is one of 64 bits
abbrev pub SpellsMoment : List ℕ → Option ℤ → Type 0
SpellsMoment word (Some z) = word ≡ signed_decimal z
SpellsMoment word None = (z : ℤ) → FitsSigned w64 z → word ≡ signed_decimal z → ⊥

-- an endpoint, by the name of its end and its id, in this spelling
abbrev pub IsEndpoint : List ℕ → List ℕ → ℕ → Type 0
IsEndpoint word name id = (word ≡ endpoint_word name id) × (is_name name ≡ true) × (id < 2 ^ 32)

-- no endpoint has this spelling
abbrev pub NoEndpoint : List ℕ → Type 0
NoEndpoint word = (name : List ℕ) (id : ℕ) → IsEndpoint word name id → ⊥

-- how many sequences there are in a script, in this spelling
abbrev pub SpellsCount : List ℕ → Option ℕ → Type 0
SpellsCount word (Some seqs) = (word ≡ decimal seqs) × AreSequences seqs
SpellsCount word None = (seqs : ℕ) → AreSequences seqs → word ≡ decimal seqs → ⊥
