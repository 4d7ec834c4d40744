-- Nothing is got where an endpoint was closed: closed stays closed.
use Rattle.std.proofs.Common.{◌≡◌, ◌≤◌, ℕ, Bool, true, false, List, [], ◌∷◌, length, refl, sym, ap, ◌∙◌, subst, arith, inl, inr}
use Rattle.std.specs.Prelude.{Option, Some, if◌then◌else◌, ◌==◌, ◌&&◌, not}
use Rattle.std.specs.Option.{option_map}
use Rattle.std.proofs.lemmas.Bool.{true≢false, eqb-true}
use Rattle.mj_base.specs.declared.ids.EndId.{EndId}
use Rattle.mj_base.specs.declared.ids.SeqId.{SeqId}
use Rattle.mj_base.specs.declared.limits.TheConstants.{MAX_EVENTS}
use Rattle.handle_table.specs.declared.thing.Thing.TheVariants.{End}
use Rattle.handle_table.specs.Things.{same_end}
use Rattle.handle_table.proofs.ThingsLemmas.{and_left, and_right, has-front, or_cases, same_end-true}
use Rattle.message_pipe.specs.declared.message.Message.{Message}
use Rattle.bind_model.specs.declared.asked.Asked.{Asked}
use Rattle.bind_model.specs.declared.asked.Asked.TheVariants.{Take}
use Rattle.bind_model.specs.declared.endpoint.Endpoint.{Endpoint}
use Rattle.bind_model.specs.declared.endpoint.State.TheVariants as states
use Rattle.bind_model.specs.declared.event.Event.{Event}
use Rattle.bind_model.specs.declared.told.Told.{Told}
use Rattle.bind_model.specs.Machine.{endpoint_at, gone, gone_by, is_closed, is_gone, is_local, with_peer_closed, with_state}
use Rattle.bind_model.specs.Replies.{legal}
use Rattle.bind_model.specs.Wire.{Wire, Header, Content}
use Rattle.bind_model.proofs.Fresh.{kept}
use Rattle.bind_model.proofs.Outcomes.{Outcome, Gets, outcome, gets, closes_pending, closes_end, closes_endpoint, is_true}
use Rattle.bind_model.proofs.PendingFacts.{pending_there}
use Rattle.ending_laws.specs.Closings.{closes_at, was_closed, IsGotOpen, AllGotOpen}
use Rattle.ending_laws.proofs.Shown.{at_end}
use Rattle.ending_laws.proofs.Standing.{stands_on}

-- an endpoint that is closed, or whose end has gone
data IsClosed (wire : Wire) (past : List Event) (x : EndId) (id : ℕ) : Type 0 where
  lost : is_gone past x ≡ true → IsClosed wire past x id
  shut : (r : Endpoint) → endpoint_at wire past x id ≡ Some r → is_closed r ≡ true → IsClosed wire past x id

-- it stays so
closed_on : (wire : Wire) (seqs : ℕ) (event : Event) (past : List Event) → legal wire seqs (event ∷ past) → length (event ∷ past) ≤ MAX_EVENTS
    → (x : EndId) (id : ℕ) → IsClosed wire past x id → IsClosed wire (event ∷ past) x id
closed_on wire seqs event past h few x id (lost e) = lost (has-front (gone past) (gone_by event.told) (End x) e)
closed_on wire seqs event past h few x id (shut r there s) =
    let t = stands_on wire seqs event past h few x id r there in shut t.0 t.1 (t.2.closed s)

-- what an event makes of the endpoint that it closes
closed_at : (b : Bool) (o : Option Endpoint) (r : Endpoint) → b ≡ true → o ≡ Some r
    → (if b then option_map (with_state states.Closed) o else o) ≡ Some (with_state states.Closed r)
closed_at b o r at there =
    ap (λ c. if c then option_map (with_state states.Closed) o else o) at ∙ ap (option_map (with_state states.Closed)) there

half_closed : (local b : Bool) (o : Option Endpoint) (r : Endpoint) → local ≡ false → b ≡ true → o ≡ Some r
    → (if b then (if local then option_map with_peer_closed o else option_map (with_state states.Closed) o) else o) ≡ Some (with_state states.Closed r)
half_closed true b o r l at there = absurd (true≢false l)
half_closed false b o r l at there = closed_at b o r at there

module _ (wire : Wire) (seqs : ℕ) (past : List Event) (seq : SeqId) (h : legal wire seqs past) (few : length past ≤ MAX_EVENTS) where
  abbrev Then : Asked → Told → List Event
  Then asked told = record { seq = seq; asked = asked; told = told } ∷ past

  -- an event that closes an endpoint leaves it closed
  closed_by : {asked : Asked} {told : Told} → Outcome wire seqs past seq asked told → (x : EndId) (id : ℕ) → closes_at past told asked x id ≡ true
      → IsClosed wire (Then asked told) x id
  closed_by (closes_pending {p = p} o e) x id s =
      let local : is_local past p ≡ false = is_true (is_local past p) (and_left (not (is_local past p)) (same_end p.end x && (p.id == id)) s) in
      let at : (same_end p.end x && (p.id == id)) ≡ true = and_right (not (is_local past p)) (same_end p.end x && (p.id == id)) s in
      let end : p.end ≡ x = same_end-true p.end x (and_left (same_end p.end x) (p.id == id) at) in
      let number : p.id ≡ id = eqb-true p.id id (and_right (same_end p.end x) (p.id == id) at) in
      let made = pending_there wire seqs past h few p o in
      let there : endpoint_at wire past x id ≡ Some made.0 = subst (λ z. endpoint_at wire past z id ≡ Some made.0) end
      (subst (λ n. endpoint_at wire past p.end n ≡ Some made.0) number made.1) in
      shut (with_state states.Closed made.0)
      (half_closed (is_local past p) (same_end p.end x && (p.id == id)) (endpoint_at wire past x id) made.0 local at there) refl
  closed_by (closes_end {y = y} {id = n} {goes = goes} q i o e) x id s =
      lost (at_end wire seqs past seq (kept wire seqs past h) y x goes (and_left (same_end y x) (n == id) s) e)
  closed_by (closes_endpoint {y = y} {id = n} q i o e) x id s =
      let end : y ≡ x = same_end-true y x (and_left (same_end y x) (n == id) s) in
      let number : n ≡ id = eqb-true n id (and_right (same_end y x) (n == id) s) in
      let there : endpoint_at wire past x id ≡ Some q = subst (λ z. endpoint_at wire past z id ≡ Some q) end
      (subst (λ k. endpoint_at wire past y k ≡ Some q) number o.here) in
      shut (with_state states.Closed q) (closed_at (same_end y x && (n == id)) (endpoint_at wire past x id) q s there) refl
  closed_by o x id s = absurd (true≢false (sym s))

-- an endpoint that was closed is
closed_now : (wire : Wire) (seqs : ℕ) (past : List Event) → legal wire seqs past → length past ≤ MAX_EVENTS → (x : EndId) (id : ℕ)
    → was_closed past x id ≡ true → IsClosed wire past x id
closed_now wire seqs [] h few x id w = absurd (true≢false (sym w))
closed_now wire seqs (event ∷ past) h few x id w =
    let fewer : length past ≤ MAX_EVENTS = omega (arith, few) in
    elim (or_cases (closes_at past event.told event.asked x id) (was_closed past x id) w) [
      | inl s ↦ closed_by wire seqs past event.seq h.2 fewer (outcome wire seqs past event.seq event.asked event.told h.1) x id s
      | inr s ↦ closed_on wire seqs event past h few x id (closed_now wire seqs past h.2 fewer x id s)
    ]

-- where a message is got
not_closed : (wire : Wire) (past : List Event) (seq : SeqId) (y : EndId) (m : Message) (hd : Header) (r : Endpoint) (c : Content)
    → Gets wire past seq y m hd r c → IsClosed wire past y hd.id → ⊥
not_closed wire past seq y m hd r c f (lost e) = true≢false (sym e ∙ f.front.open_here)
not_closed wire past seq y m hd r c f (shut q found s) =
    let same : q ≡ r = some_same q r (sym found ∙ f.at) in
    let state : is_closed r ≡ false = rw f.state refl in
    true≢false (sym (subst (λ z. is_closed z ≡ true) same s) ∙ state)
  where
    some_same : (q r : Endpoint) → ◌≡◌ {A = Option Endpoint} (Some q) (Some r) → q ≡ r
    some_same q r e = cc

module _ (wire : Wire) (seqs : ℕ) (past : List Event) (seq : SeqId) (h : legal wire seqs past) (few : length past ≤ MAX_EVENTS) where
  open_step : {asked : Asked} {told : Told} → Outcome wire seqs past seq asked told → IsGotOpen past told asked
  open_step (gets {y = y} m hd r c f {g = g} e) =
      subst (λ t. IsGotOpen past t (Take y)) (sym e) (f.front.open_here, go (was_closed past y hd.id) refl)
    where
      go : (b : Bool) → was_closed past y hd.id ≡ b → b ≡ false
      go false over = refl
      go true over = absurd (not_closed wire past seq y m hd r c f (closed_now wire seqs past h few y hd.id over))
  open_step o = tt

pub all_got_open : (wire : Wire) (seqs : ℕ) (past : List Event) → legal wire seqs past → length past ≤ MAX_EVENTS → AllGotOpen past
all_got_open wire seqs [] h few = tt
all_got_open wire seqs (event ∷ past) h few =
    let fewer : length past ≤ MAX_EVENTS = omega (arith, few) in
    (open_step wire seqs past event.seq h.2 fewer (outcome wire seqs past event.seq event.asked event.told h.1), all_got_open wire seqs past h.2 fewer)
