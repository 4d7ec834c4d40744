-- What one event makes of the routers of all ends.
use Rattle.bind_model.specs.declared.told.Noted.TheVariants as noted
use Rattle.std.proofs.Common.{◌≡◌, ℕ, ◌+◌, Bool, true, false, List, [], ◌∷◌, ◌++◌, length, Some, refl, sym, ap, ◌∙◌, subst}
use Rattle.std.specs.Prelude.{if◌then◌else◌, not, ◌==◌, ◌&&◌, Option}
use Rattle.std.specs.Option.{option_map}
use Rattle.std.proofs.lemmas.Bool.{eqb-true}
use Rattle.std.proofs.lemmas.List.{append-nil}
use Rattle.mj_base.specs.declared.ids.EndId.{EndId}
use Rattle.mj_base.specs.declared.ids.SeqId.{SeqId}
use Rattle.handle_table.specs.Things.{same_end}
use Rattle.handle_table.specs.declared.thing.Thing.{Thing}
use Rattle.wire_encoder.specs.declared.endpoint.EndpointSide.{EndpointSide}
use Rattle.message_pipe.specs.Contents.{Contents}
use Rattle.bind_model.specs.Machine.{Entry, associated, associates, bound_on, changes, endpoint_at, enters, written}
use Rattle.bind_model.specs.Laws.{has_number}
use Rattle.bind_model.specs.Replies.{answers, drawn, draws, is_response}
use Rattle.bind_model.specs.Tables.{ids_of_entries}
use Rattle.bind_model.specs.Wire.{Wire}
use Rattle.bind_model.specs.declared.asked.Asked.{Asked}
use Rattle.bind_model.specs.declared.asked.Asked.TheVariants as asks
use Rattle.bind_model.specs.declared.asked.Closing.TheVariants as closings
use Rattle.bind_model.specs.declared.asked.Outgoing.{Outgoing}
use Rattle.bind_model.specs.declared.endpoint.Endpoint.{Endpoint}
use Rattle.bind_model.specs.declared.endpoint.State.TheVariants as states
use Rattle.bind_model.specs.declared.event.Event.{Event}
use Rattle.bind_model.specs.declared.told.Got.{Got}
use Rattle.bind_model.specs.declared.told.Told.{Told}
use Rattle.bind_model.specs.declared.told.Told.TheVariants as tells
use Rattle.endpoint_router.specs.Agreement.{Agrees as AgreesAt, answered_row, entered_row, row_told, row_with}
use Rattle.endpoint_router.specs.Changes.{in_state, marked, with_request, without_request}
use Rattle.endpoint_router.specs.Rows.{RowSeen, row_at, row_of}
use Rattle.endpoint_router.proofs.Agreeing.{endpoint_told}
use Rattle.endpoint_router.proofs.Stepping.{none_enters}
use Rattle.endpoint_router.proofs.Turning.{bound_row, closed_row, control_row, dropped_row, row_moves, sent_row, taken_row}
use Rattle.core_state.specs.Agreement.{Agrees}
use Rattle.core_state.specs.Routers.{Routers, found_at, router_at}
use Rattle.core_state.specs.Requests.{SendsAt, AnswersAt}
use Rattle.core_state.specs.Entries.{AllEnterAt}
use Rattle.endpoint_router.specs.Turns.{IsSame}
use Rattle.core_state.specs.Turns.{EntersAt, TurnsAt}
use Rattle.core_state.proofs.Numbers.{IsFresh}

-- all routers are those that the events give
abbrev pub AllAgree : Wire → List Event → Routers → Type 0
AllAgree wire past all = (x : EndId) → AgreesAt wire past x (router_at all x)

-- the endpoints that are found
pub found_is : {wire : Wire} {past : List Event} {pipes : Contents} {all : Routers} → Agrees wire past pipes all → (x : EndId) (id : ℕ)
    → found_at all x id ≡ endpoint_at wire past x id
found_is {wire} {past} {pipes} {all} a x id = endpoint_told wire past x (router_at all x) (a.routers x) id

-- routers that look the same agree too
pub all_same : (wire : Wire) (past : List Event) (old new : Routers) → ((x : EndId) → IsSame (router_at old x) (router_at new x)) → AllAgree wire past old
    → AllAgree wire past new
all_same wire past old new s a = λ x. record { rows = λ id. (s x).rows id ∙ (a x).rows id; drawn = (s x).drawn ∙ (a x).drawn }

-- ## Events that leave them as they were

-- what an event is that sends and answers no request, makes no id and changes no endpoint
pub record IsSteady (wire : Wire) (event : Event) (past : List Event) : Type 0 where
  pub draws : (x : EndId) (id : ℕ) → draws event.told event.asked x id ≡ []
  pub answers : (x : EndId) (id : ℕ) → answers event.told event.asked x id ≡ []
  pub associates : (x : EndId) → associates event.told x ≡ []
  pub endpoints : (x : EndId) (id : ℕ) → changes wire past (written wire past) (endpoint_at wire past) event.seq event.told event.asked x id
      ≡ endpoint_at wire past x id

-- no ids are made
same_drawn : (past : List Event) (event : Event) (x : EndId) → associates event.told x ≡ [] → length (associated past x) ≡ length (associated (event ∷ past) x)
same_drawn past event x e =
    sym (ap (λ (ids : List ℕ). length (associated past x ++ ids)) e ∙ ap (λ (ids : List ℕ). length ids) (append-nil (associated past x)))

pub steady : (wire : Wire) (event : Event) (past : List Event) → IsSteady wire event past → (all : Routers) → AllAgree wire past all
    → AllAgree wire (event ∷ past) all
steady wire event past s all a = λ x.
    record {
      rows = λ id.
          (a x).rows id
          ∙ sym (row_moves wire past event.seq event.asked event.told x id (s.draws x id) (s.answers x id)
          ∙ ap (λ (o : Option Endpoint). option_map (row_with past x id) o) (s.endpoints x id));
      drawn = (a x).drawn ∙ same_drawn past event x (s.associates x);
    }

-- ## Events that turn one row

module _ (wire : Wire) (past : List Event) (seq : SeqId) (old new : Routers) (a : AllAgree wire past old) where
  abbrev event_of : Asked → Told → Event
  event_of asked told = record { seq = seq; asked = asked; told = told }

  -- an endpoint that is closed
  pub close_turns : (y : EndId) (n : ℕ) (gone : List Thing) → TurnsAt (in_state states.Closed) y n old new
      → AllAgree wire (event_of (asks.Close (closings.Endpoint y n)) (tells.Closed gone) ∷ past) new
  close_turns y n gone t = λ x.
      record {
        rows = λ id.
            (t x).rows id
            ∙ (ap (λ (o : Option RowSeen). if same_end y x && (n == id) then option_map (in_state states.Closed) o else o) ((a x).rows id)
            ∙ sym (closed_row wire past seq y n gone x id));
        drawn =
            (t x).drawn
            ∙ ((a x).drawn ∙ same_drawn past (event_of (asks.Close (closings.Endpoint y n)) (tells.Closed gone)) x refl);
      }

  -- one whose peer is closed
  pub control_turns : (y : EndId) (n : ℕ) → TurnsAt marked y n old new → AllAgree wire (event_of (asks.Take y) (tells.Control (noted.Closed n)) ∷ past) new
  control_turns y n t = λ x.
      record {
        rows = λ id.
            (t x).rows id
            ∙ (ap (λ (o : Option RowSeen). if same_end y x && (n == id) then option_map marked o else o) ((a x).rows id)
            ∙ sym (control_row wire past seq y n x id));
        drawn = (t x).drawn ∙ ((a x).drawn ∙ same_drawn past (event_of (asks.Take y) (tells.Control (noted.Closed n))) x refl);
      }

  -- one that enters at its binding
  pub bind_enters : (z : EndId) (y : Thing) (side : EndpointSide) (interface : ℕ) → drawn past z 0 ≡ [] → EntersAt (bound_on seq side interface) z 0 old new
      → AllAgree wire (event_of (asks.Bind y side interface) (tells.Bound z) ∷ past) new
  bind_enters z y side interface none t = λ x.
      record {
        rows = λ id.
            (t x).rows id
            ∙ (ap (λ (o : Option RowSeen). if same_end z x && (0 == id) then Some (row_of (bound_on seq side interface)) else o) ((a x).rows id)
            ∙ sym (bound_row wire past seq z y side interface none x id));
        drawn = (t x).drawn ∙ ((a x).drawn ∙ same_drawn past (event_of (asks.Bind y side interface) (tells.Bound z)) x refl);
      }

  swap : (b c d : Bool) → ((b && d) && c) ≡ ((b && c) && d)
  swap true true d = and_true d
    where
      and_true : (b : Bool) → (b && true) ≡ b
      and_true true = refl
      and_true false = refl
  swap true false true = refl
  swap true false false = refl
  swap false c d = refl

  -- a request that is sent, whose number is the next one or 0
  pub call_turns : (y : EndId) (n request : ℕ) (outgoing : Outgoing) (bytes : List ℕ)
      → ((request == 0) ≡ false → request ≡ length (drawn past y n) + 1) → IsFresh past y n (length (drawn past y n) + 1)
      → SendsAt y n request outgoing.target.method old new
      → AllAgree wire (event_of (asks.Call y n outgoing) (tells.Sent request bytes) ∷ past) new
  call_turns y n request outgoing bytes next fresh t = λ x.
      record {
        rows = λ id.
            (t x).rows id
            ∙ (ap (λ (b : Bool). if b then option_map (with_request outgoing.target.method) (row_at (router_at old x) id) else row_at (router_at old x) id)
            (swap (same_end y x) (n == id) (not (request == 0)))
            ∙ (ap (λ (o : Option RowSeen).
            if same_end y x && (n == id) && not (request == 0) then option_map (with_request outgoing.target.method) o else o) ((a x).rows id)
            ∙ sym (sent_row wire past seq y n request outgoing bytes next fresh.drawn fresh.answered x id)));
        drawn = (t x).drawn ∙ ((a x).drawn ∙ same_drawn past (event_of (asks.Call y n outgoing) (tells.Sent request bytes)) x refl);
      }

  -- a row whose request has ended where this holds
  abbrev less : Got → Bool → Option RowSeen → Option RowSeen
  less g b before = if b then option_map (without_request g.request) before else before

  -- what is got, whose ids enter, and then a response ends its request; no id enters that is there
  pub got_turns : (y : EndId) (g : Got) (entries : List Entry) (mid : Routers)
      → enters wire past y (written wire past y) (endpoint_at wire past y) (tells.Taken g) ≡ entries
      → ((id : ℕ) → has_number (ids_of_entries (enters wire past y (written wire past y) (endpoint_at wire past y) (tells.Taken g))) id ≡ true
      → drawn past y id ≡ [])
      → has_number (ids_of_entries entries) g.id ≡ false
      → AllEnterAt entries y old mid → AnswersAt y g.id g.request g.target.side mid new
      → AllAgree wire (event_of (asks.Take y) (tells.Taken g) ∷ past) new
  got_turns y g entries mid is none there e t = λ x.
      record {
        rows = λ id.
            (t x).rows id
            ∙ (ap (λ (o : Option RowSeen). less g ((same_end y x && is_response g.target.side) && (g.id == id)) o)
            ((e x).rows id ∙ ap (λ (o : Option RowSeen). if same_end y x then entered_row entries id o else o) ((a x).rows id))
            ∙ (turned (same_end y x) id (row_told wire past x id)
            ∙ (ap (λ (es : List Entry). if same_end y x then entered_row es id (answered_row g id (row_told wire past x id)) else row_told wire past x id)
            (sym is)
            ∙ sym (taken_row wire past seq y g none x id))));
        drawn =
            (t x).drawn ∙ ((e x).drawn ∙ ((a x).drawn ∙ same_drawn past (event_of (asks.Take y) (tells.Taken g)) x refl));
      }
    where
      and_swap : (b c : Bool) → (b && c) ≡ (c && b)
      and_swap true true = refl
      and_swap true false = refl
      and_swap false true = refl
      and_swap false false = refl

      -- what ends no row that enters may end its row before
      ended : (id : ℕ) (o : Option RowSeen) (b : Bool) → (g.id == id) ≡ b
          → less g (b && is_response g.target.side) (entered_row entries id o) ≡ entered_row entries id (less g (b && is_response g.target.side) o)
      ended id o false h = refl
      ended id o true h =
          let absent : has_number (ids_of_entries entries) id ≡ false = subst (λ (n : ℕ). has_number (ids_of_entries entries) n ≡ false)
          (eqb-true g.id id h) there in
          ap (λ (row : Option RowSeen). less g (is_response g.target.side) row) (none_enters entries id o absent)
          ∙ sym (none_enters entries id (less g (is_response g.target.side) o) absent)

      turned : (b : Bool) (id : ℕ) (o : Option RowSeen)
          → less g ((b && is_response g.target.side) && (g.id == id)) (if b then entered_row entries id o else o)
          ≡ (if b then entered_row entries id (answered_row g id o) else o)
      turned true id o =
          ap (λ (c : Bool). less g c (entered_row entries id o)) (and_swap (is_response g.target.side) (g.id == id)) ∙ ended id o (g.id == id) refl
      turned false id o = refl

  -- a dropped message, whose ids enter
  pub dropped_turns : (y : EndId) (n : ℕ) (gone : List Thing) (entries : List Entry)
      → enters wire past y (written wire past y) (endpoint_at wire past y) (tells.Dropped n gone) ≡ entries
      → ((id : ℕ) → has_number (ids_of_entries (enters wire past y (written wire past y) (endpoint_at wire past y) (tells.Dropped n gone))) id ≡ true
      → drawn past y id ≡ [])
      → AllEnterAt entries y old new → AllAgree wire (event_of (asks.Take y) (tells.Dropped n gone) ∷ past) new
  dropped_turns y n gone entries is none t = λ x.
      record {
        rows = λ id.
            (t x).rows id
            ∙ (ap (λ (o : Option RowSeen). if same_end y x then entered_row entries id o else o) ((a x).rows id)
            ∙ (ap (λ (es : List Entry). if same_end y x then entered_row es id (row_told wire past x id) else row_told wire past x id) (sym is)
            ∙ sym (dropped_row wire past seq y n gone none x id)));
        drawn = (t x).drawn ∙ ((a x).drawn ∙ same_drawn past (event_of (asks.Take y) (tells.Dropped n gone)) x refl);
      }
