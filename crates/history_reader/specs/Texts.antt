-- What reading a text answers.
use Rattle.std.specs.Prelude.{◌≡◌, ℕ, List, Result, Ok, Err}
use Rattle.byte_rules.specs.Lang.{Lang}
use Rattle.byte_rules.specs.Judged.{Spells, IsBad}
use Rattle.value_text.specs.declared.text_error.TextError.{TextError}
use Rattle.value_text.specs.declared.text_error.TextError.TheVariants as errors

-- a value is the one that the bytes spell; a refusal is at the first byte with which no text goes on
abbrev pub Tells : {A : Type 0} → Lang A → List ℕ → Result A TextError → Type 0
Tells {A} one bytes (Ok x) = Spells one x bytes × ((other : A) → Spells one other bytes → other ≡ x)
Tells one bytes (Err (errors.BadText at)) = IsBad one bytes at
Tells one bytes (Err errors.Memory) = Unit {0}

-- this was read, unless memory ran out
abbrev pub ReadsBack : {A : Type 0} → A → Result A TextError → Type 0
ReadsBack expected (Ok x) = x ≡ expected
ReadsBack expected (Err (errors.BadText at)) = ⊥
ReadsBack expected (Err errors.Memory) = Unit {0}
