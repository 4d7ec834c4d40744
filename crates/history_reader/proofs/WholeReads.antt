-- How the lines of a history are read in a loop.
use Rattle.std.proofs.Common.{◌≡◌, ℕ, ◌-◌, ◌+◌, ◌^◌, ◌≤◌, ◌<◌, ◌⊎◌, arith, List, [], ◌∷◌, ◌++◌, Ok, Err, true, false, refl, ap, ◌∙◌}
use Rattle.std.specs.Prelude.{decimal, nat_lt}
use Rattle.std.proofs.lemmas.Bool.Decides.{nat_tests}
use Rattle.mj_schema.specs.declared.schema.Schema.{Schema}
use Rattle.handle_table.specs.declared.thing.Thing.{Thing}
use Rattle.bind_model.specs.declared.event.Event.{Event}
use Rattle.byte_rules.specs.declared.stop.Stop.{Stop}
use Rattle.byte_rules.specs.declared.stop.Stop.TheVariants as stops
use Rattle.byte_rules.specs.Lang.{Read, ◌>>=◌, front_is}
use Rattle.byte_rules.specs.Reading.{Fails}
use Rattle.history_text.specs.declared.notes.Note.{Note}
use Rattle.line_parts.specs.Keywords.{word}
use Rattle.history_reader.specs.Whole.{begins_behind, event_number, event_line, behind, printed_of, history_with}
use Rattle.history_reader.specs.steps.Reading.{with_events}
use Rattle.line_parts.specs.declared.names.Names.{Names}
use Rattle.history_reader.specs.declared.printed.Printed.{Printed}
use Rattle.line_parts.proofs.SeriesReads as series

-- events are numbered
abbrev next : ℕ → Event → ℕ
next k event = k + 1

-- what stands behind the events: callbacks, what is left, and the count
abbrev Behind : Type 0
Behind = List Note × (List Thing × ℕ)

-- what a text says by what was read of it
abbrev said : Read (List Event × Behind) → Read Printed
said read = read >>= λ x. Ok (printed_of x.0, x.1)

said_with : (events : List Event) (r : Read Behind) → said (r >>= λ y. Ok ((events, y.0), y.1)) ≡ with_events events r
said_with events (Ok y) = refl
said_with events (Err n) = refl

module _ (schema : Schema) (names : Names) (bytes : List ℕ) where
  -- with the events that were read before, what is read of so many more is all
  abbrev pub Going : List Event → ℕ → ℕ → List ℕ → Type 0
  Going events n k rest = series.Going begins_behind (event_line schema names) next behind 0 bytes events n k rest

  module _ (rest : List ℕ) (events : List Event) (count i : ℕ) (so_far : Going events (count - i) i rest) where
    -- the lines behind those of events
    pub whole : (count ≤ i) ⊎ (front_is begins_behind rest ≡ true) → (history_with schema names).read bytes ≡ with_events events (behind.read rest)
    unfolding history_with
    whole h = ap said (series.whole begins_behind (event_line schema names) next behind 0 bytes events count i i rest so_far h)
        ∙ said_with events (behind.read rest)

    -- the line of another event, or of none
    pub broken : (e : Stop) → i < count → front_is begins_behind rest ≡ false → Fails e ((event_line schema names i).read rest)
        → Fails e ((history_with schema names).read bytes)
    unfolding history_with
    broken stops.Memory lt f r = tt
    broken (stops.Left n) lt f r =
        ap said (series.broken begins_behind (event_line schema names) next behind 0 bytes events count i i rest so_far (stops.Left n) lt f r)

    pub goes : (event : Event) (after : List ℕ) → i < count → front_is begins_behind rest ≡ false → (event_line schema names i).read rest ≡ Ok (event, after)
        → Going (events ++ event ∷ []) (count - (i + 1)) (i + 1) after
    goes event after lt f r = series.goes begins_behind (event_line schema names) next behind 0 bytes events count i i rest so_far event after lt f r

-- the number of an event is the word of its digits
pub number_word : (k : ℕ) (bs : List ℕ) → k < 2 ^ 64 → (event_number k).read bs ≡ (word (decimal k)).read bs
unfolding event_number
number_word k bs small = let e : nat_lt k (2 ^ 64) ≡ true = grind (arith, nat_tests) in rw e refl
