-- What reading a text answers.
use Rattle.std.specs.Prelude.{◌≡◌, ℕ, List, Result, Ok, Err}
use Rattle.wire_model.specs.Trees.{Tree, view}
use Rattle.wire_model.specs.declared.value.Value.{Value}
use Rattle.byte_rules.specs.Lang.{Lang}
use Rattle.byte_rules.specs.Judged.{Spells, IsBad}
use Rattle.value_text.specs.declared.text_error.TextError.{TextError}
use Rattle.value_text.specs.declared.text_error.TextError.TheVariants as errors

-- a value is the one that the bytes spell; a refusal is at the first byte with which no text goes on
abbrev pub Tells : Lang Tree → List ℕ → Result Value TextError → Type 0
Tells one bytes (Ok v) = Spells one (view v) bytes × ((tree : Tree) → Spells one tree bytes → tree ≡ view v)
Tells one bytes (Err (errors.BadText at)) = IsBad one bytes at
Tells one bytes (Err errors.Memory) = Unit {0}

-- the value that was written, unless memory ran out
abbrev pub ReadsBack : Tree → Result Value TextError → Type 0
ReadsBack tree (Ok v) = view v ≡ tree
ReadsBack tree (Err (errors.BadText at)) = ⊥
ReadsBack tree (Err errors.Memory) = Unit {0}
