use Rattle.std.proofs.Common.{◌≡◌, ℕ, length}
use Rattle.std.specs.Prelude.{Some, slice_get}
use Rattle.event_follow.specs.declared.places.Place.{Place}
use Rattle.event_follow.specs.steps.Places.{IsFresh}
use Rattle.event_follow.proofs.places.open_places.Given as goal

-- each sequence so far has its place
abbrev pub invariant-loop-seq : goal.invariant-loop-seq
invariant-loop-seq l = record {
  count : length l.places.items ≡ l.seq;
  each : (n : ℕ) (place : Place) → slice_get l.places.items n ≡ Some place → IsFresh l.script n place;
}
