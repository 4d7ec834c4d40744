-- What one event more makes of the rows that the events give.
use Rattle.std.proofs.Common.{◌≡◌, ℕ, ◌+◌, Bool, true, false, List, [], ◌∷◌, ◌++◌, length, Some, None, refl, ap, ◌∙◌}
use Rattle.std.specs.Prelude.{if◌then◌else◌, not, ◌==◌, ◌&&◌, ◌||◌, Option}
use Rattle.std.specs.List.{list_any}
use Rattle.std.specs.Option.{option_map}
use Rattle.std.proofs.lemmas.Bool.{eqb-true}
use Rattle.std.proofs.lemmas.List.{append-nil, length-append}
use Rattle.std.proofs.lemmas.List.Folds.{list_any-append}
use Rattle.mj_base.specs.declared.ids.EndId.{EndId}
use Rattle.mj_base.specs.declared.ids.SeqId.{SeqId}
use Rattle.handle_table.specs.Things.{same_end}
use Rattle.handle_table.specs.declared.thing.Thing.{Thing}
use Rattle.handle_table.proofs.ThingsLemmas.{and_left, and_right, not_left, not_right, not-true, same_end-true}
use Rattle.wire_encoder.specs.declared.endpoint.EndpointSide.{EndpointSide}
use Rattle.bind_model.specs.Machine.{Entry, bound_on, changes, endpoint_at, enters, entry_in, is_local, only_at, with_peer_closed, with_state, written}
use Rattle.bind_model.specs.Replies.{Drawn, answered, answers, drawn, draws, is_response}
use Rattle.bind_model.specs.Laws.{has_number}
use Rattle.bind_model.specs.Tables.{ids_of_entries}
use Rattle.bind_model.specs.Wire.{Wire}
use Rattle.bind_model.specs.declared.asked.Asked.{Asked}
use Rattle.bind_model.specs.declared.asked.Asked.TheVariants as asks
use Rattle.bind_model.specs.declared.asked.Closing.TheVariants as closings
use Rattle.bind_model.specs.declared.asked.Outgoing.{Outgoing}
use Rattle.bind_model.specs.declared.endpoint.Endpoint.{Endpoint}
use Rattle.bind_model.specs.declared.endpoint.PendingId.{PendingId}
use Rattle.bind_model.specs.declared.endpoint.State.TheVariants.{Bound, Closed}
use Rattle.bind_model.specs.declared.event.Event.{Event}
use Rattle.bind_model.specs.declared.told.Noted.TheVariants as noted
use Rattle.bind_model.specs.declared.told.Got.{Got}
use Rattle.bind_model.specs.declared.told.Told.{Told}
use Rattle.bind_model.specs.declared.told.Told.TheVariants as tells
use Rattle.endpoint_router.specs.Agreement.{answered_row, entered_row, row_told, row_with}
use Rattle.endpoint_router.specs.Changes.{in_state, marked, with_request, without_request}
use Rattle.endpoint_router.specs.Rows.{RowSeen, row_of}

-- a row with requests that these lists give
abbrev row_by : List Drawn → List ℕ → Endpoint → RowSeen
row_by ds ns endpoint = record {
  endpoint = endpoint;
  next = length ds + 1;
  asked = λ request method. list_any (λ (d : Drawn). (d.request == request) && (d.method == method)) ds && not (list_any (λ k. k == request) ns);
}

-- an event
abbrev pub event_of : SeqId → Asked → Told → Event
event_of seq asked told = record { seq = seq; asked = asked; told = told }

module _ (wire : Wire) (past : List Event) (seq : SeqId) where
  -- ## Events that send and answer nothing

  -- the rows are those of the endpoints then
  pub row_moves : (asked : Asked) (told : Told) (x : EndId) (id : ℕ) → draws told asked x id ≡ [] → answers told asked x id ≡ []
      → row_told wire (event_of seq asked told ∷ past) x id
      ≡ option_map (row_with past x id) (changes wire past (written wire past) (endpoint_at wire past) seq told asked x id)
  row_moves asked told x id d a =
      let p : drawn past x id ++ draws told asked x id ≡ drawn past x id = ap (λ (ds : List Drawn). drawn past x id ++ ds) d ∙ append-nil (drawn past x id) in
      let q : answered past x id ++ answers told asked x id ≡ answered past x id = ap (λ (ns : List ℕ). answered past x id ++ ns) a
      ∙ append-nil (answered past x id) in
      λ i. option_map (row_by (p i) (q i)) (changes wire past (written wire past) (endpoint_at wire past) seq told asked x id)

  -- where one endpoint turns into another
  mapped : (x : EndId) (id : ℕ) (f : Endpoint → Endpoint) (g : RowSeen → RowSeen) → ((e : Endpoint) → row_with past x id (f e) ≡ g (row_with past x id e))
      → (here : Bool) (o : Option Endpoint)
      → option_map (row_with past x id) (if here then option_map f o else o)
      ≡ (if here then option_map g (option_map (row_with past x id) o) else option_map (row_with past x id) o)
  mapped x id f g same true None = refl
  mapped x id f g same true (Some e) = ap (λ (row : RowSeen). Some row) (same e)
  mapped x id f g same false o = refl

  pub attached_row : (p : PendingId) (t : SeqId) (n : ℕ) (x : EndId) (id : ℕ)
      → row_told wire (event_of seq (asks.Attach p t) (tells.Attached n) ∷ past) x id
      ≡ (if same_end p.end x && (p.id == id) then option_map (in_state (Bound t)) (row_told wire past x id) else row_told wire past x id)
  attached_row p t n x id =
      row_moves (asks.Attach p t) (tells.Attached n) x id refl refl
      ∙ mapped x id (with_state (Bound t)) (in_state (Bound t)) (λ e. refl) (same_end p.end x && (p.id == id)) (endpoint_at wire past x id)

  pub control_row : (y : EndId) (n : ℕ) (x : EndId) (id : ℕ)
      → row_told wire (event_of seq (asks.Take y) (tells.Control (noted.Closed n)) ∷ past) x id
      ≡ (if same_end y x && (n == id) then option_map marked (row_told wire past x id) else row_told wire past x id)
  control_row y n x id =
      row_moves (asks.Take y) (tells.Control (noted.Closed n)) x id refl refl
      ∙ mapped x id with_peer_closed marked (λ e. refl) (same_end y x && (n == id)) (endpoint_at wire past x id)

  pub closed_row : (y : EndId) (n : ℕ) (gone : List Thing) (x : EndId) (id : ℕ)
      → row_told wire (event_of seq (asks.Close (closings.Endpoint y n)) (tells.Closed gone) ∷ past) x id
      ≡ (if same_end y x && (n == id) then option_map (in_state Closed) (row_told wire past x id) else row_told wire past x id)
  closed_row y n gone x id =
      row_moves (asks.Close (closings.Endpoint y n)) (tells.Closed gone) x id refl refl
      ∙ mapped x id (with_state Closed) (in_state Closed) (λ e. refl) (same_end y x && (n == id)) (endpoint_at wire past x id)

  -- a pending that was made here, and one that was received
  pub unsent_row : (p : PendingId) (gone : List Thing) → is_local past p ≡ true → (x : EndId) (id : ℕ)
      → row_told wire (event_of seq (asks.Close (closings.Pending p)) (tells.Closed gone) ∷ past) x id
      ≡ (if same_end p.end x && (p.id == id) then option_map marked (row_told wire past x id) else row_told wire past x id)
  unsent_row p gone here x id =
      row_moves (asks.Close (closings.Pending p)) (tells.Closed gone) x id refl refl
      ∙ (rw here (mapped x id with_peer_closed marked (λ e. refl) (same_end p.end x && (p.id == id)) (endpoint_at wire past x id)))

  pub unbound_row : (p : PendingId) (gone : List Thing) → is_local past p ≡ false → (x : EndId) (id : ℕ)
      → row_told wire (event_of seq (asks.Close (closings.Pending p)) (tells.Closed gone) ∷ past) x id
      ≡ (if same_end p.end x && (p.id == id) then option_map (in_state Closed) (row_told wire past x id) else row_told wire past x id)
  unbound_row p gone here x id =
      row_moves (asks.Close (closings.Pending p)) (tells.Closed gone) x id refl refl
      ∙ (rw here (mapped x id (with_state Closed) (in_state Closed) (λ e. refl) (same_end p.end x && (p.id == id)) (endpoint_at wire past x id)))

  -- ## Endpoints that enter where none was

  -- from which nothing was sent
  fresh : (x : EndId) (id : ℕ) → drawn past x id ≡ [] → (e : Endpoint) → row_with past x id e ≡ row_of e
  fresh x id none e = λ i. row_by (none i) (answered past x id) e

  entered : (y : EndId) (n : ℕ) → drawn past y n ≡ [] → (e : Endpoint) (x : EndId) (id : ℕ)
      → option_map (row_with past x id) (only_at y n x id (Some e) (endpoint_at wire past x id))
      ≡ (if same_end y x && (n == id) then Some (row_of e) else row_told wire past x id)
  entered y n none e x id = go (same_end y x && (n == id)) refl
    where
      go : (b : Bool) → (same_end y x && (n == id)) ≡ b
          → option_map (row_with past x id) (if b then Some e else endpoint_at wire past x id) ≡ (if b then Some (row_of e) else row_told wire past x id)
      go true h =
          let at : y ≡ x = same_end-true y x (and_left (same_end y x) (n == id) h) in
          let is : n ≡ id = eqb-true n id (and_right (same_end y x) (n == id) h) in
          ap (λ (row : RowSeen). Some row) (fresh x id (rw (← at, ← is) none) e)
      go false h = refl

  pub bound_row : (z : EndId) (y : Thing) (side : EndpointSide) (interface : ℕ) → drawn past z 0 ≡ [] → (x : EndId) (id : ℕ)
      → row_told wire (event_of seq (asks.Bind y side interface) (tells.Bound z) ∷ past) x id
      ≡ (if same_end z x && (0 == id) then Some (row_of (bound_on seq side interface)) else row_told wire past x id)
  bound_row z y side interface none x id =
      row_moves (asks.Bind y side interface) (tells.Bound z) x id refl refl ∙ entered z 0 none (bound_on seq side interface) x id

  pub associated_row : (p : PendingId) (y : EndId) (side : EndpointSide) (interface : ℕ) → drawn past p.end p.id ≡ [] → (x : EndId) (id : ℕ)
      → row_told wire (event_of seq (asks.Associate y side interface) (tells.Associated p) ∷ past) x id
      ≡ (if same_end p.end x && (p.id == id) then Some (row_of (bound_on seq side interface)) else row_told wire past x id)
  associated_row p y side interface none x id =
      row_moves (asks.Associate y side interface) (tells.Associated p) x id refl refl ∙ entered p.end p.id none (bound_on seq side interface) x id

  -- ## A request that is sent

  module _ (ds : List Drawn) (ns : List ℕ) (method : ℕ) where
    -- one more, whose number neither a request nor a response has
    abbrev one : Drawn
    one = record { request = length ds + 1; method = method }

    none_by : (a b c : Bool) → a ≡ false → c ≡ false → ((a && b) || c) ≡ false
    none_by a b c e f = rw (e, f) refl

    none_of : (es : List Drawn) (n m : ℕ) → list_any (λ (d : Drawn). d.request == n) es ≡ false
        → list_any (λ (d : Drawn). (d.request == n) && (d.method == m)) es ≡ false
    none_of [] n m h = refl
    none_of (d ∷ es) n m h =
        none_by (d.request == n) (d.method == m) (list_any (λ (e : Drawn). (e.request == n) && (e.method == m)) es)
        (not_left (d.request == n) (list_any (λ (e : Drawn). e.request == n) es) h)
        (none_of es n m (not_right (d.request == n) (list_any (λ (e : Drawn). e.request == n) es) h))

    asked_now : list_any (λ (d : Drawn). d.request == length ds + 1) ds ≡ false → list_any (λ k. k == length ds + 1) ns ≡ false → (e : Endpoint) (n m : ℕ)
        → (row_by (ds ++ one ∷ []) ns e).asked n m ≡ (if length ds + 1 == n then method == m else (row_by ds ns e).asked n m)
    asked_now d a e n m = rw list_any-append (go (length ds + 1 == n) refl)
      where
        go : (b : Bool) → (length ds + 1 == n) ≡ b
            → ((list_any (λ (q : Drawn). (q.request == n) && (q.method == m)) ds || ((b && (method == m)) || false)) && not (list_any (λ k. k == n) ns))
            ≡ (if b then method == m else (row_by ds ns e).asked n m)
        go true h =
            let is : length ds + 1 ≡ n = eqb-true (length ds + 1) n h in
            let f : list_any (λ (q : Drawn). q.request == n) ds ≡ false = rw (← is) d in
            let g : list_any (λ k. k == n) ns ≡ false = rw (← is) a in
            rw (none_of ds n m f, g) (two (method == m))
          where
            two : (c : Bool) → ((c || false) && true) ≡ c
            two true = refl
            two false = refl
        go false h = two (list_any (λ (q : Drawn). (q.request == n) && (q.method == m)) ds)
          where
            two : (c : Bool) → ((c || (false || false)) && not (list_any (λ k. k == n) ns)) ≡ (c && not (list_any (λ k. k == n) ns))
            two true = refl
            two false = refl

    pub one_more : list_any (λ (d : Drawn). d.request == length ds + 1) ds ≡ false → list_any (λ k. k == length ds + 1) ns ≡ false → (e : Endpoint)
        → row_by (ds ++ one ∷ []) ns e ≡ with_request method (row_by ds ns e)
    one_more d a e = λ i. record { endpoint = e; next = number i; asked = λ n m. asked_now d a e n m i }
      where
        number : length (ds ++ one ∷ []) + 1 ≡ length ds + 1 + 1
        number = ap (λ n. n + 1) (length-append ds (one ∷ []))

  -- a call, whose number is the next one or 0
  pub sent_row : (y : EndId) (n request : ℕ) (outgoing : Outgoing) (bytes : List ℕ)
      → ((request == 0) ≡ false → request ≡ length (drawn past y n) + 1)
      → list_any (λ (d : Drawn). d.request == length (drawn past y n) + 1) (drawn past y n) ≡ false
      → list_any (λ k. k == length (drawn past y n) + 1) (answered past y n) ≡ false
      → (x : EndId) (id : ℕ)
      → row_told wire (event_of seq (asks.Call y n outgoing) (tells.Sent request bytes) ∷ past) x id
      ≡ (if same_end y x && (n == id) && not (request == 0) then option_map (with_request outgoing.target.method) (row_told wire past x id)
      else row_told wire past x id)
  sent_row y n request outgoing bytes next d a x id = go (same_end y x && (n == id) && not (request == 0)) refl (endpoint_at wire past x id)
    where
      go : (b : Bool) → (same_end y x && (n == id) && not (request == 0)) ≡ b → (o : Option Endpoint)
          → option_map (row_by (drawn past x id ++ (if b then record { request = request; method = outgoing.target.method } ∷ [] else []))
          (answered past x id ++ [])) o
          ≡ (if b then option_map (with_request outgoing.target.method) (option_map (row_with past x id) o) else option_map (row_with past x id) o)
      go false h o = rw (append-nil (drawn past x id), append-nil (answered past x id)) refl
      go true h None = refl
      go true h (Some e) =
          let both = and_left (same_end y x && (n == id)) (not (request == 0)) h in
          let at : y ≡ x = same_end-true y x (and_left (same_end y x) (n == id) both) in
          let is : n ≡ id = eqb-true n id (and_right (same_end y x) (n == id) both) in
          let some : (request == 0) ≡ false = not-true (request == 0) (and_right (same_end y x && (n == id)) (not (request == 0)) h) in
          let number : request ≡ length (drawn past x id) + 1 = rw (← at, ← is) (next some) in
          rw (append-nil (answered past x id), number)
          (ap (λ (row : RowSeen). Some row)
          (one_more (drawn past x id) (answered past x id) outgoing.target.method (rw (← at, ← is) d) (rw (← at, ← is) a) e))

  -- ## A message that is consumed

  -- where endpoints enter from which nothing was sent
  entered_all : (ds : List Drawn) (ns : List ℕ) (id : ℕ) (entries : List Entry) → (has_number (ids_of_entries entries) id ≡ true → ds ≡ [])
      → (o : Option Endpoint) → option_map (row_by ds ns) (entry_in entries id o) ≡ entered_row entries id (option_map (row_by ds ns) o)
  entered_all ds ns id [] none o = refl
  entered_all ds ns id (e ∷ entries) none o =
      go (e.id == id) (λ f. none (rw f refl)) (λ f. entered_all ds ns id entries (λ h. none (rw (f, h) refl)) o) refl
    where
      go : (b : Bool) → ((e.id == id) ≡ true → ds ≡ [])
          → ((e.id == id) ≡ false → option_map (row_by ds ns) (entry_in entries id o) ≡ entered_row entries id (option_map (row_by ds ns) o))
          → (e.id == id) ≡ b
          → option_map (row_by ds ns) (if b then Some e.endpoint else entry_in entries id o)
          ≡ (if b then Some (row_of e.endpoint) else entered_row entries id (option_map (row_by ds ns) o))
      go true here rest f = λ i. Some (row_by (here f i) ns e.endpoint)
      go false here rest f = rest f

  pub dropped_row : (y : EndId) (n : ℕ) (gone : List Thing)
      → ((id : ℕ) → has_number (ids_of_entries (enters wire past y (written wire past y) (endpoint_at wire past y) (tells.Dropped n gone))) id ≡ true
      → drawn past y id ≡ [])
      → (x : EndId) (id : ℕ)
      → row_told wire (event_of seq (asks.Take y) (tells.Dropped n gone) ∷ past) x id
      ≡ (if same_end y x
      then entered_row (enters wire past y (written wire past y) (endpoint_at wire past y) (tells.Dropped n gone)) id (row_told wire past x id)
      else row_told wire past x id)
  dropped_row y n gone none x id = row_moves (asks.Take y) (tells.Dropped n gone) x id refl refl ∙ go (same_end y x) refl
    where
      entries : List Entry
      entries = enters wire past y (written wire past y) (endpoint_at wire past y) (tells.Dropped n gone)

      go : (b : Bool) → same_end y x ≡ b
          → option_map (row_with past x id) (if b then entry_in entries id (endpoint_at wire past x id) else endpoint_at wire past x id)
          ≡ (if b then entered_row entries id (row_told wire past x id) else row_told wire past x id)
      go true h =
          let at : y ≡ x = same_end-true y x h in
          entered_all (drawn past x id) (answered past x id) id entries (λ f. rw (← at) (none id f)) (endpoint_at wire past x id)
      go false h = refl

  -- a response that is got
  one_less : (ds : List Drawn) (ns : List ℕ) (request : ℕ) (e : Endpoint) → row_by ds (ns ++ request ∷ []) e ≡ without_request request (row_by ds ns e)
  one_less ds ns request e = λ i. record { endpoint = e; next = length ds + 1; asked = λ n m. asked_now n m i }
    where
      asked_now : (n m : ℕ) → (row_by ds (ns ++ request ∷ []) e).asked n m ≡ ((row_by ds ns e).asked n m && not (request == n))
      asked_now n m =
          rw list_any-append
          (go (list_any (λ (d : Drawn). (d.request == n) && (d.method == m)) ds) (list_any (λ k. k == n) ns) (request == n))
        where
          go : (a b c : Bool) → (a && not (b || (c || false))) ≡ ((a && not b) && not c)
          go true true true = refl
          go true true false = refl
          go true false true = refl
          go true false false = refl
          go false b c = refl

  pub taken_row : (y : EndId) (g : Got)
      → ((id : ℕ) → has_number (ids_of_entries (enters wire past y (written wire past y) (endpoint_at wire past y) (tells.Taken g))) id ≡ true
      → drawn past y id ≡ [])
      → (x : EndId) (id : ℕ)
      → row_told wire (event_of seq (asks.Take y) (tells.Taken g) ∷ past) x id
      ≡ (if same_end y x
      then entered_row (enters wire past y (written wire past y) (endpoint_at wire past y) (tells.Taken g)) id (answered_row g id (row_told wire past x id))
      else row_told wire past x id)
  taken_row y g none x id =
      ap (λ (ds : List Drawn).
      option_map (row_by ds (answered past x id ++ (if same_end y x && (g.id == id) && is_response g.target.side then g.request ∷ [] else [])))
      (if same_end y x then entry_in entries id (endpoint_at wire past x id) else endpoint_at wire past x id)) (append-nil (drawn past x id))
      ∙ go (same_end y x) refl
    where
      entries : List Entry
      entries = enters wire past y (written wire past y) (endpoint_at wire past y) (tells.Taken g)

      ends : (c : Bool) (o : Option Endpoint)
          → option_map (row_by (drawn past x id) (answered past x id ++ (if c then g.request ∷ [] else []))) o
          ≡ (if c then option_map (without_request g.request) (option_map (row_with past x id) o) else option_map (row_with past x id) o)
      ends true None = refl
      ends true (Some e) = ap (λ (row : RowSeen). Some row) (one_less (drawn past x id) (answered past x id) g.request e)
      ends false o = rw (append-nil (answered past x id)) refl

      go : (b : Bool) → same_end y x ≡ b
          → option_map (row_by (drawn past x id) (answered past x id ++ (if b && (g.id == id) && is_response g.target.side then g.request ∷ [] else [])))
          (if b then entry_in entries id (endpoint_at wire past x id) else endpoint_at wire past x id)
          ≡ (if b then entered_row entries id (answered_row g id (row_told wire past x id)) else row_told wire past x id)
      go true h =
          let at : y ≡ x = same_end-true y x h in
          entered_all (drawn past x id) (answered past x id ++ (if (g.id == id) && is_response g.target.side then g.request ∷ [] else [])) id entries
          (λ f. rw (← at) (none id f)) (endpoint_at wire past x id)
          ∙ ap (entered_row entries id) (ends ((g.id == id) && is_response g.target.side) (endpoint_at wire past x id))
      go false h = rw (append-nil (answered past x id)) refl
