-- That a message is dropped, by what the parts did.
use Rattle.std.proofs.Common.{◌≡◌, ℕ, suc, Bool, true, false, List, [], ◌∷◌, ◌++◌, refl, sym, ap, ◌∙◌, subst, inl, inr}
use Rattle.std.specs.Option.{option_map}
use Rattle.std.specs.Prelude.{if◌then◌else◌, ◌==◌, ◌||◌, IsSome, is_some, Option, None, Some, Result, Ok, Err}
use Rattle.mj_base.specs.declared.ids.EndId.{EndId}
use Rattle.mj_base.specs.declared.ids.SeqId.{SeqId}
use Rattle.mj_base.specs.declared.fault.Fault.{Fault}
use Rattle.handle_table.specs.Things.{has}
use Rattle.handle_table.specs.declared.thing.Thing.{Thing}
use Rattle.handle_table.specs.declared.thing.Thing.TheVariants.{End}
use Rattle.handle_table.proofs.ThingsLemmas.{or_cases, or_left, or_right}
use Rattle.message_pipe.specs.Contents.{Becomes, Closes, Contents}
use Rattle.message_pipe.specs.Ends.{carried_in, end_of, peer_of, spread, unread_at, with_messages, without_front}
use Rattle.message_pipe.specs.Mail.{front_of}
use Rattle.message_pipe.specs.declared.message.Message.{Message}
use Rattle.message_pipe.specs.declared.pipe_end.PipeEnd.{PipeEnd}
use Rattle.bind_model.specs.declared.asked.Asked.TheVariants as asks
use Rattle.bind_model.specs.declared.commands.Command.TheVariants as commands
use Rattle.bind_model.specs.declared.commands.Reply.TheVariants as replies
use Rattle.bind_model.specs.declared.endpoint.Endpoint.{Endpoint}
use Rattle.bind_model.specs.declared.event.Event.{Event}
use Rattle.bind_model.specs.declared.told.Told.TheVariants as tells
use Rattle.bind_model.specs.Laws.{WasDropped, all_differ, has_number}
use Rattle.bind_model.specs.Machine.{Endpoints, Entry, closed_ids, endpoint_at, endpoint_named, enters, entries_of, goes_behind, is_strange, made, written}
use Rattle.bind_model.specs.Tables.{ids_of_entries}
use Rattle.bind_model.specs.Wire.{Header, Named}
use Rattle.bind_model.proofs.Controls.{closed_in}
use Rattle.bind_model.proofs.Entering.{entered_new, entering_dropped}
use Rattle.bind_model.proofs.Fresh.{kept}
use Rattle.bind_model.proofs.Kept.{Kept, bound_made}
use Rattle.bind_model.proofs.Outcomes.{Fronts, Outcome, drops, outcome}
use Rattle.bind_model.proofs.TableAfter.{no_double}
use Rattle.endpoint_router.specs.Rows.{row_at}
use Rattle.endpoint_router.proofs.Entering.{unsent}
use Rattle.core_state.specs.Agreement.{Agrees, past_of, schema_of, wire_in}
use Rattle.core_state.specs.Routers.{Routers, router_at}
use Rattle.control_bytes.specs.declared.control.Control.TheVariants.{Closed}
use Rattle.core_taking.specs.declared.admit.Admitted.{Admitted}
use Rattle.core_state.specs.declared.state.State.{State}
use Rattle.core_taking.specs.Admits.{Admits}
use Rattle.core_state.specs.Doing.{Done, HasRoom, told_to}
use Rattle.core_state.specs.Emitting.{AreNamed, EmitsTo, HasPeer, controls_at}
use Rattle.core_state.specs.Entries.{AllEnterAt, AreNew, ArePlaced}
use Rattle.core_taking.specs.Founds.{IsDropped, carried_ids, front_at, things_in}
use Rattle.endpoint_router.specs.Turns.{IsSame}
use Rattle.core_state.proofs.Emitted.{emits_is, peer_there}
use Rattle.core_state.proofs.Facts.{unread_is}
use Rattle.core_taking.proofs.Fronts.{dropped_there, goes_is}
use Rattle.core_state.proofs.Held.{finish}
use Rattle.core_state.proofs.Named.{header_named}
use Rattle.core_state.proofs.Steady.{dropped_turns, found_is}
use Rattle.core_state.proofs.Still.{unseen}
use Rattle.core_taking.proofs.Taken.{none_put}
use Rattle.core_taking.proofs.Taking.{dropped_takes, taken_agrees}
use Rattle.core_state.proofs.Turned.{found_row, no_row}

-- what enters was carried
pub entries_within : (endpoints : Endpoints) (named : List Named) (k : ℕ) (earlier ids : List ℕ) (j : ℕ)
    → has_number (ids_of_entries (entries_of endpoints named k earlier ids)) j ≡ true → has_number ids j ≡ true
entries_within endpoints named k earlier [] j h = h
entries_within endpoints named k earlier (id ∷ ids) j h =
    go (is_strange endpoints earlier id) (entries_within endpoints named (suc k) (id ∷ earlier) ids j) h
  where
    go : (b : Bool) → (has_number (ids_of_entries (entries_of endpoints named (suc k) (id ∷ earlier) ids)) j ≡ true → has_number ids j ≡ true)
        → has_number (ids_of_entries (if b then entries_of endpoints named (suc k) (id ∷ earlier) ids
        else (record { id = id; endpoint = endpoint_named named k } ∷ entries_of endpoints named (suc k) (id ∷ earlier) ids))) j ≡ true
        → ((id == j) || has_number ids j) ≡ true
    go true rest g = or_right (id == j) (has_number ids j) (rest g)
    go false rest g = elim (or_cases (id == j) (has_number (ids_of_entries (entries_of endpoints named (suc k) (id ∷ earlier) ids)) j) g) [
      | inl s ↦ or_left (id == j) (has_number ids j) s
      | inr s ↦ or_right (id == j) (has_number ids j) (rest s)
    ]

none_of : (o : Option Endpoint) → is_some o ≡ false → o ≡ None
none_of None h = refl
none_of (Some e) h = absurd (let f : true ≡ false = h in cc)

-- ## What enters with the oldest message at y

module _ (s : State) (seq : SeqId) (able : HasRoom s seq) (y : EndId) (m : Message) (front : Fronts (wire_in s) (past_of s) y m) (h : Header)
    (reads : (wire_in s).header m.bytes ≡ Ok h) (named : List Named) (a : Admitted)
    (admits : Admits (endpoint_at (wire_in s) (past_of s) y) named h.ids a) where
  kept_here : Kept (wire_in s) (past_of s)
  kept_here = kept (wire_in s) s.seqs (past_of s) able.holds.legal

  pub made_here : has (made (past_of s)) (End y) ≡ true
  made_here = bound_made (wire_in s) (past_of s) kept_here (End y) (kept_here.endpoints y 0 front.main front.bound)

  pub main_row : IsSome (row_at (router_at s.endpoints y) 0)
  main_row = found_row (router_at s.endpoints y) 0 front.main (found_is able.holds.agrees y 0 ∙ front.bound)

  pub are_new : (mid : Routers) → ((x : EndId) → IsSame (router_at s.endpoints x) (router_at mid x)) → ArePlaced (router_at mid y) a.entries.items
      → AreNew (router_at mid y) a.entries.items
  are_new mid same places = record {
    once = ap (λ (es : List Entry). all_differ (ids_of_entries es)) admits.entries ∙ no_double (endpoint_at (wire_in s) (past_of s) y) named 0 [] h.ids;
    absent = λ id i.
        (same y).rows id
        ∙ no_row (router_at s.endpoints y) id
        (found_is able.holds.agrees y id
        ∙ none_of (endpoint_at (wire_in s) (past_of s) y id)
        (entered_new (endpoint_at (wire_in s) (past_of s) y) named 0 [] h.ids id
        (ap (λ (es : List Entry). has_number (ids_of_entries es) id) (sym admits.entries) ∙ i)));
    places = places;
  }

  pub are_named : AreNamed a.closed.items
  are_named j i =
      header_named (schema_of s) m.bytes h j reads
      (entries_within (endpoint_at (wire_in s) (past_of s) y) named 0 [] h.ids j
      (closed_in (entries_of (endpoint_at (wire_in s) (past_of s) y) named 0 [] h.ids) j
      (ap (λ (ids : List ℕ). has_number ids j) (sym admits.closed) ∙ i)))

  pub has_peer : HasPeer s.pipes y
  has_peer = peer_there (schema_of s) (past_of s) kept_here s.pipes s.endpoints able.holds.agrees y made_here

  -- the end is there, also where controls lie at its peer
  pub still_there : (o : Option EndId) (messages : List Message) (sent : Contents) → EmitsTo o messages s.pipes sent → IsSome (end_of s.pipes.ends y)
      → IsSome (end_of sent.ends y)
  still_there None messages sent e there = rw e there
  still_there (Some p) messages sent e there =
      ap (λ (q : Option PipeEnd). is_some q) (e.ends y) ∙ go _ (end_of s.pipes.ends y) there
    where
      go : (b : Bool) (q : Option PipeEnd) → IsSome q → is_some (if b then option_map (with_messages messages) q else q) ≡ true
      go true None h = h
      go true (Some r) h = refl
      go false q h = h

-- ## A message that is dropped

module _ (s : State) (seq : SeqId) (able : HasRoom s seq) (y : EndId) (id : ℕ) (a : Admitted)
    (d : IsDropped (wire_in s) (past_of s) y id a (told_to s seq (asks.Take y)))
    (gone : List Thing) (e : gone ≡ spread (carried_in s.pipes.ends (Some y)) s.pipes.made (things_in (front_of (unread_at s.pipes.ends y)))) where
  drop_told : tells.Dropped id gone ≡ told_to s seq (asks.Take y)
  drop_told =
      ap (tells.Dropped id) (e ∙ (goes_is (wire_in s) s.seqs (past_of s) able.holds.legal s.pipes s.endpoints able.holds.agrees y _
      ∙ ap (λ (ms : List Message). goes_behind (wire_in s) (past_of s) y (things_in (front_of ms)))
      (unread_is (wire_in s) (past_of s) (kept (wire_in s) s.seqs (past_of s) able.holds.legal) s.pipes s.endpoints able.holds.agrees y)))
      ∙ sym d.is

  abbrev Was : Type 0
  Was = (m : Message) × Fronts (wire_in s) (past_of s) y m × WasDropped (wire_in s) (past_of s) y id m

  was : Was
  was = go (outcome (wire_in s) s.seqs (past_of s) seq (asks.Take y) (tells.Dropped id gone) drop_told)
    where
      go : Outcome (wire_in s) s.seqs (past_of s) seq (asks.Take y) (tells.Dropped id gone) → Was
      go (drops m f g w) = (m, f, w)

  abbrev m : Message
  m = was.0

  front : Fronts (wire_in s) (past_of s) y m
  front = was.1

  dropped : WasDropped (wire_in s) (past_of s) y id m
  dropped = was.2

  abbrev h : Header
  h = dropped.h

  carries : carried_ids (wire_in s) (front_at (wire_in s) (past_of s) y) ≡ h.ids
  carries = ap (λ (ms : List Message). carried_ids (wire_in s) (front_of ms)) front.stands
      ∙ ap (λ (r : Result Header Fault). elim r [ Ok k ↦ k.ids | Err fault ↦ [] ]) dropped.header

  admits : Admits (endpoint_at (wire_in s) (past_of s) y) [] h.ids a
  admits = subst (λ (ids : List ℕ). Admits (endpoint_at (wire_in s) (past_of s) y) [] ids a) carries d.admits

  pub drop_main : IsSome (row_at (router_at s.endpoints y) 0)
  drop_main = main_row s seq able y m front h dropped.header [] a admits

  pub drop_new : (mid : Routers) → ((x : EndId) → IsSame (router_at s.endpoints x) (router_at mid x)) → ArePlaced (router_at mid y) a.entries.items
      → AreNew (router_at mid y) a.entries.items
  drop_new = are_new s seq able y m front h dropped.header [] a admits

  pub drop_named : AreNamed a.closed.items
  drop_named = are_named s seq able y m front h dropped.header [] a admits

  pub drop_peer : HasPeer s.pipes y
  drop_peer = has_peer s seq able y m front h dropped.header [] a admits

  pub drop_there : (o : Option EndId) (messages : List Message) (sent : Contents) → EmitsTo o messages s.pipes sent → IsSome (end_of sent.ends y)
  drop_there o messages sent g =
      still_there s seq able y m front h dropped.header [] a admits o messages sent g
      (dropped_there (wire_in s) s.seqs (past_of s) able.holds.legal s.pipes s.endpoints able.holds.agrees seq able.within y id gone drop_told)

  abbrev event : Event
  event = record { seq = seq; asked = asks.Take y; told = tells.Dropped id gone }

  enters_is : enters (wire_in s) (past_of s) y (written (wire_in s) (past_of s) y) (endpoint_at (wire_in s) (past_of s) y) (tells.Dropped id gone)
      ≡ a.entries.items
  enters_is = entering_dropped (wire_in s) (past_of s) y m (front.rest, front.stands) h id gone dropped.header ∙ sym admits.entries

  agrees_now : (mid : Routers) → ((x : EndId) → IsSame (router_at s.endpoints x) (router_at mid x)) → (sent popped new : Contents) (now : Routers)
      → EmitsTo (peer_of (end_of s.pipes.ends y)) (controls_at mid y a.closed.items) s.pipes sent
      → Becomes y without_front sent popped → Closes gone popped new → AllEnterAt a.entries.items y mid now
      → Agrees (wire_in s) (event ∷ past_of s) new now
  agrees_now mid same sent popped new now g b c t =
      let k = kept (wire_in s) s.seqs (past_of s) able.holds.legal in
      let seen = unseen (wire_in s) (past_of s) s.pipes s.endpoints mid same able.holds.agrees in
      taken_agrees (wire_in s) event (past_of s) y _ k (kept (wire_in s) s.seqs (event ∷ past_of s) (able.within, drop_told, able.holds.legal))
      (dropped_takes (wire_in s) s.seqs (past_of s) seq y k m front id gone a.closed.items
      (ap (λ (es : List Entry). closed_ids es) (enters_is ∙ admits.entries) ∙ sym admits.closed))
      s.pipes sent popped new new mid now
      (emits_is (schema_of s) Closed (past_of s) k s.pipes mid seen y (made_here s seq able y m front h dropped.header [] a admits) a.closed.items sent g)
      b c (none_put new)
      (dropped_turns (wire_in s) (past_of s) seq mid now seen.routers y id gone a.entries.items enters_is
      (unsent (wire_in s) s.seqs (past_of s) able.holds.legal y (tells.Dropped id gone)) t)
      seen

  pub drop_done : (new : State) (copy : List Thing) (mid : Routers) (sent popped : Contents) → schema_of new ≡ schema_of s → new.seqs ≡ s.seqs
      → copy ≡ gone → new.rights ≡ s.rights → new.tables ≡ s.tables
      → new.log.events ≡ s.log.events ++ record { seq = seq; asked = asks.Take y; told = tells.Dropped id gone } ∷ []
      → ((x : EndId) → IsSame (router_at s.endpoints x) (router_at mid x))
      → EmitsTo (peer_of (end_of s.pipes.ends y)) (controls_at mid y a.closed.items) s.pipes sent
      → Becomes y without_front sent popped → Closes gone popped new.pipes → AllEnterAt a.entries.items y mid new.endpoints
      → Done s new seq (commands.Take y) (replies.Dropped id copy)
  drop_done new copy mid sent popped schema seqs c unmoved unnoticed events same g b f t =
      subst (λ (z : List Thing). Done s new seq (commands.Take y) (replies.Dropped id z)) (sym c)
      (finish s new seq (commands.Take y) (replies.Dropped id gone) able schema seqs unmoved unnoticed
      (record { none = refl; handed = λ wire. refl; after = λ rs. refl; gives = refl; hands = refl; halves = λ wire past. refl })
      refl events drop_told
      (agrees_now mid same sent popped new.pipes new.endpoints g b f t) tt)
