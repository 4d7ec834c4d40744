use Rattle.std.proofs.Common.{◌≡◌, ◌<◌, ℕ, length}
use Rattle.std.specs.Prelude.{slice_get, Some}
use Rattle.const_meanings.specs.declared.meaning.Meaning.{Meaning}
use Rattle.const_meanings.specs.Meanings.{IsMeaning}
use Rattle.const_meanings.proofs.meaning.meanings.Given as goal

abbrev pub invariant-loop-number : goal.invariant-loop-number
invariant-loop-number l = record {
  count : length l.meanings.items ≡ l.number;
  each : (thing : ℕ) → thing < l.number → (meaning : Meaning) → slice_get l.meanings.items thing ≡ Some meaning → IsMeaning l.things thing meaning;
}
