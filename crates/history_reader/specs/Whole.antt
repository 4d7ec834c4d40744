-- The whole text: a line for each event, for each callback and for each thing that is left, and the last, which says how many events there were.
use Rattle.std.specs.Prelude.{ℕ, ◌+◌, ◌^◌, ◌||◌, ◌==◌, nat_lt, Bool, true, false, List, codes, decimal}
use Rattle.mj_base.specs.declared.ids.SeqId.{SeqId}
use Rattle.mj_schema.specs.declared.schema.Schema.{Schema}
use Rattle.handle_table.specs.declared.thing.Thing.{Thing}
use Rattle.bind_model.specs.declared.asked.Asked.{Asked}
use Rattle.bind_model.specs.declared.event.Event.{Event}
use Rattle.bind_model.specs.declared.told.Told.{Told}
use Rattle.byte_rules.specs.Lang.{Lang, as_value, closed, many, never, ◌then◌, ◌▸◌}
use Rattle.history_text.specs.declared.notes.Note.{Note}
use Rattle.line_parts.specs.Signs.{line_end, blank, letter_c, letter_d, letter_l}
use Rattle.line_parts.specs.Keywords.{word}
use Rattle.line_parts.specs.Series.{series}
use Rattle.line_parts.specs.Names.{names_of}
use Rattle.line_parts.specs.Ids.{wide, sequence, thing}
use Rattle.history_reader.specs.Commands.{asked}
use Rattle.history_reader.specs.Replies.{told}
use Rattle.history_reader.specs.Notes.{note_line}
use Rattle.line_parts.specs.declared.names.Names.{Names}
use Rattle.history_reader.specs.declared.printed.Printed.{Printed}

-- the event of a sequence, by what was asked and what was told
abbrev pub event_of : SeqId → Asked → Told → Event
event_of seq asked told = record { seq = seq; asked = asked; told = told }

-- the number of an event: of 64 bits, or no byte goes on
abbrev pub number_if : Bool → ℕ → Lang (Unit {0})
number_if true k = word (decimal k)
number_if false k = never tt

-- this number of an event, where it has 64 bits
unfoldable pub event_number : ℕ → Lang (Unit {0})
event_number k = number_if (nat_lt k (2 ^ 64)) k

-- the line of the event of this number
unfoldable pub event_line : Schema → Names → ℕ → Lang Event
event_line schema names k = event_number k then λ u. blank ▸ sequence then λ seq. blank ▸ asked schema names then λ a.
    as_value (event_of seq a) (told schema names)

-- the line of a thing that is left
unfoldable pub left_line : Lang Thing
left_line = word (codes "left") then λ u. blank ▸ thing then λ x. closed line_end x

-- all behind the `d` of `done`
abbrev pub done_after : List Thing → Lang (List Thing × ℕ)
done_after left = word (codes "one") then λ u. blank ▸ wide then λ count. closed line_end (left, count)

-- the lines behind those of callbacks
unfoldable pub tail : Lang (List Thing × ℕ)
tail = many letter_d left_line then done_after

-- what the lines behind those of callbacks begin with
abbrev pub begins_tail : ℕ → Bool
begins_tail b = (b == letter_l) || (b == letter_d)

-- the lines behind those of events
unfoldable pub behind : Lang (List Note × (List Thing × ℕ))
behind = series begins_tail (λ (u : Unit {0}). note_line) (λ (u : Unit {0}) (note : Note). u) tail tt

-- what the lines behind those of events begin with
abbrev pub begins_behind : ℕ → Bool
begins_behind b = ((b == letter_c) || (b == letter_l)) || (b == letter_d)

-- what a text says
abbrev pub printed_of : List Event × (List Note × (List Thing × ℕ)) → Printed
printed_of (events, (notes, (left, count))) = record { events = events; notes = notes; left = left; count = count }

-- the texts of histories over a schema whose names are these
unfoldable pub history_with : Schema → Names → Lang Printed
history_with schema names = as_value printed_of (series begins_behind (event_line schema names) (λ k event. k + 1) behind 0)

-- the texts of histories over a schema
abbrev pub history : Schema → Lang Printed
history schema = history_with schema (names_of schema)
