-- Responses that were got, by the names of their requests, and the callbacks of these.
use Rattle.std.specs.Prelude.{ℕ, ◌≡◌, ◌==◌, Bool, List, [], ◌∷◌, Option, Some, None, if◌then◌else◌}
use Rattle.std.specs.List.{list_any}
use Rattle.mj_base.specs.declared.ids.EndId.{EndId}
use Rattle.mj_base.specs.declared.ids.SeqId.{SeqId}
use Rattle.bind_model.specs.Names.{request_name, same_request}
use Rattle.bind_model.specs.Replies.{is_response}
use Rattle.bind_model.specs.declared.asked.Asked.{Asked}
use Rattle.bind_model.specs.declared.asked.Asked.TheVariants.{Call, Take}
use Rattle.bind_model.specs.declared.event.Event.{Event}
use Rattle.bind_model.specs.declared.names.RequestName.{RequestName}
use Rattle.bind_model.specs.declared.told.Told.{Told}
use Rattle.bind_model.specs.declared.told.Told.TheVariants.{Sent, Taken}
use Rattle.callback_laws.specs.Callbacks.{fate_of, is_answered}
use Rattle.history_text.specs.declared.notes.Note.{Note}

-- whether a request is one of these
abbrev pub has_request : List RequestName → RequestName → Bool
has_request names q = list_any (λ (name : RequestName). same_request q name) names

-- these are the requests whose responses were got in these events
abbrev pub Knows : List RequestName → List Event → Type 0
Knows names later = (q : RequestName) → has_request names q ≡ is_answered q.endpoint.end q.endpoint.id q.request later

-- the request whose response was got
abbrev pub response_of : Told → Asked → Option RequestName
response_of (Taken g) (Take y) = if is_response g.target.side then Some (request_name y g.id g.request) else None
response_of told asked = None

-- what is there, as a list
abbrev pub listed : Option Note → List Note
listed None = []
listed (Some note) = note ∷ []

-- the callback of a request, whose response was got or wasn't
abbrev pub noted : SeqId → EndId → ℕ → ℕ → Bool → List Note
noted seq x id request ran =
    if request == 0 then [] else record { seq = seq; end = x; id = id; request = request; fate = fate_of ran } ∷ []

-- the callback of an event's call, by the requests whose responses were got behind it
abbrev pub called : List RequestName → SeqId → Told → Asked → List Note
called names seq (Sent request bytes) (Call x id outgoing) = noted seq x id request (has_request names (request_name x id request))
called names seq told asked = []
