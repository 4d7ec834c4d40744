-- How the lines of callbacks are read in a loop.
use Rattle.std.proofs.Common.{◌≡◌, ℕ, ◌-◌, ◌+◌, ◌≤◌, ◌<◌, ◌⊎◌, List, [], ◌∷◌, ◌++◌, Ok, true, false}
use Rattle.byte_rules.specs.declared.stop.Stop.{Stop}
use Rattle.byte_rules.specs.Lang.{Lang, front_is}
use Rattle.byte_rules.specs.Reading.{Fails}
use Rattle.history_text.specs.declared.notes.Note.{Note}
use Rattle.history_reader.specs.Notes.{note_line}
use Rattle.history_reader.specs.Whole.{begins_tail, tail, behind}
use Rattle.history_reader.specs.steps.Reading.{with_notes}
use Rattle.line_parts.proofs.SeriesReads as series

-- a line of a callback
abbrev one : Unit {0} → Lang Note
one u = note_line

-- nothing is kept from line to line
abbrev next : Unit {0} → Note → Unit {0}
next u note = u

-- with the callbacks that were read before, what is read of so many more is all
abbrev pub Going : List ℕ → List Note → ℕ → List ℕ → Type 0
Going bytes notes n rest = series.Going begins_tail one next tail tt bytes notes n tt rest

module _ (bytes rest : List ℕ) (notes : List Note) (count i : ℕ) (so_far : Going bytes notes (count - i) rest) where
  -- the lines behind those of callbacks
  pub whole : (count ≤ i) ⊎ (front_is begins_tail rest ≡ true) → behind.read bytes ≡ with_notes notes (tail.read rest)
  unfolding behind
  whole h = series.whole begins_tail one next tail tt bytes notes count i tt rest so_far h

  -- the line of another callback, or of none
  pub broken : (e : Stop) → i < count → front_is begins_tail rest ≡ false → Fails e (note_line.read rest) → Fails e (behind.read bytes)
  unfolding behind
  broken e lt f r = series.broken begins_tail one next tail tt bytes notes count i tt rest so_far e lt f r

  pub goes : (note : Note) (after : List ℕ) → i < count → front_is begins_tail rest ≡ false → note_line.read rest ≡ Ok (note, after)
      → Going bytes (notes ++ note ∷ []) (count - (i + 1)) after
  goes note after lt f r = series.goes begins_tail one next tail tt bytes notes count i tt rest so_far note after lt f r
