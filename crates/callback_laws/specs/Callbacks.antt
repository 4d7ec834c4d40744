-- Which callbacks of a history ran: those of the calls whose responses were got.
use Rattle.std.specs.Prelude.{ℕ, ◌==◌, ◌&&◌, Bool, true, false, List, [], ◌∷◌, ◌++◌, if◌then◌else◌}
use Rattle.std.specs.List.{flat_map, list_any}
use Rattle.mj_base.specs.declared.ids.EndId.{EndId}
use Rattle.mj_base.specs.declared.ids.SeqId.{SeqId}
use Rattle.handle_table.specs.Things.{same_end}
use Rattle.bind_model.specs.Laws.{up_from}
use Rattle.bind_model.specs.Replies.{is_response}
use Rattle.bind_model.specs.declared.asked.Asked.{Asked}
use Rattle.bind_model.specs.declared.asked.Asked.TheVariants.{Call, Take}
use Rattle.bind_model.specs.declared.event.Event.{Event}
use Rattle.bind_model.specs.declared.told.Told.{Told}
use Rattle.bind_model.specs.declared.told.Told.TheVariants.{Sent, Taken}
use Rattle.bind_model.specs.Seen.{own_of}
use Rattle.history_text.specs.declared.notes.Fate.{Fate}
use Rattle.history_text.specs.declared.notes.Fate.TheVariants.{Ran, Dropped}
use Rattle.history_text.specs.declared.notes.Note.{Note}

-- whether a take got the response to the request of this number, at the endpoint that it was sent from
abbrev pub gets_response : EndId → ℕ → ℕ → Told → Asked → Bool
gets_response x id request (Taken g) (Take y) = same_end y x && (g.id == id) && is_response g.target.side && (g.request == request)
gets_response x id request told asked = false

-- whether one of these events did
abbrev pub is_answered : EndId → ℕ → ℕ → List Event → Bool
is_answered x id request later = list_any (λ (event : Event). gets_response x id request event.told event.asked) later

-- what became of a callback, by whether its response came
abbrev pub fate_of : Bool → Fate
fate_of true = Ran
fate_of false = Dropped

-- the callback of a call that was sent and has a response to come, by the events behind it
abbrev pub callback_of : SeqId → Told → Asked → List Event → List Note
callback_of seq (Sent request bytes) (Call x id outgoing) later =
    if request == 0 then [] else record { seq = seq; end = x; id = id; request = request; fate = fate_of (is_answered x id request later) } ∷ []
callback_of seq told asked later = []

-- those of the calls among these events, in order
abbrev pub callbacks_in : List Event → List Note
callbacks_in [] = []
callbacks_in (event ∷ later) = callback_of event.seq event.told event.asked later ++ callbacks_in later

-- of all calls of a history: by sequence, and in order. What a sequence called is taken by its own events
abbrev pub callbacks : ℕ → List Event → List Note
callbacks seqs history = flat_map (λ (n : ℕ). callbacks_in (own_of (record { 0 = n }) history)) (up_from 0 seqs)
