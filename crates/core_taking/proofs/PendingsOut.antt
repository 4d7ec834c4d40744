-- The pendings that come out with what is got: which are out then, and what they stand for.
use Rattle.std.proofs.Common.{◌≡◌, ℕ, Bool, true, false, List, [], ◌∷◌, refl, sym, ap, ◌∙◌}
use Rattle.std.specs.Prelude.{if◌then◌else◌, ◌||◌, ◌&&◌, not, ◌==◌, map, filter, Option, Some, None}
use Rattle.std.proofs.lemmas.Bool.{eq-eqb, eqb-true}
use Rattle.mj_base.specs.declared.ids.EndId.{EndId}
use Rattle.mj_base.specs.declared.ids.SeqId.{SeqId}
use Rattle.handle_table.specs.Things.{same_end}
use Rattle.handle_table.proofs.ThingsLemmas.{and_left, and_right, not-true, or_right, same_end-refl}
use Rattle.bind_model.specs.Laws.{all_differ, has_number}
use Rattle.bind_model.specs.Machine.{Entry, endpoint_at, enters, entry_in, written}
use Rattle.bind_model.specs.Pendings.{Half, KnowsPendings, is_out, names_of}
use Rattle.bind_model.specs.Plain.{HandsPendings, half_of, told_of}
use Rattle.bind_model.specs.Replies.{has_pending, pendings_at, pendings_given, pendings_handed, pendings_out}
use Rattle.bind_model.specs.Tables.{ids_of_entries}
use Rattle.bind_model.specs.Wire.{Wire}
use Rattle.bind_model.specs.declared.commands.Command.TheVariants as commands
use Rattle.bind_model.specs.declared.commands.Received.{Received}
use Rattle.bind_model.specs.declared.commands.Reply.TheVariants as replies
use Rattle.bind_model.specs.declared.endpoint.Endpoint.{Endpoint}
use Rattle.bind_model.specs.declared.endpoint.PendingId.{PendingId}
use Rattle.bind_model.specs.declared.event.Event.{Event}
use Rattle.bind_model.specs.declared.names.EndpointName.{EndpointName}
use Rattle.bind_model.proofs.Entering.{entry_or}
use Rattle.bind_model.proofs.PendingLists.{more_is}
use Rattle.core_taking.specs.Founds.{is_pending, pending_ids}
use Rattle.core_taking.specs.steps.Pending.{half_entered, halves_from, pending_at}
use Rattle.core_state.proofs.Held.{event_of}

abbrev waits : Entry → Bool
waits e = is_pending e.endpoint

-- the names of those that are made
pub names_from : (y : EndId) (es : List Entry) → names_of (halves_from y es) ≡ pendings_at y (pending_ids es)
names_from y es = go (filter waits es)
  where
    go : (ds : List Entry) → names_of (map (half_entered y) ds) ≡ pendings_at y (map (λ (e : Entry). e.id) ds)
    go [] = refl
    go (d ∷ ds) = ap (λ (ps : List PendingId). pending_at y d.id ∷ ps) (go ds)

-- ## Which are out

-- those that come out at an end are out, and those that were
pub pendings_made : (event : Event) (past : List Event) (ps : List PendingId) (old new : List (EndpointName × Bool))
    → pendings_given event.told event.asked ≡ [] → pendings_handed event.told ≡ ps
    → ((p : PendingId) → is_out new p ≡ (has_pending ps p || is_out old p)) → KnowsPendings past old → KnowsPendings (event ∷ past) new
pendings_made event past ps old new g h more k p =
    more p
    ∙ (ap (λ (b : Bool). has_pending ps p || b) (k p)
    ∙ (swap (has_pending ps p) (has_pending (pendings_out past) p)
    ∙ sym (more_is (pendings_given event.told event.asked) (pendings_out past) (pendings_handed event.told) p
    ∙ (ap (λ (gs : List PendingId). (has_pending (pendings_out past) p && not (has_pending gs p)) || has_pending (pendings_handed event.told) p) g
    ∙ ap (λ (hs : List PendingId). (has_pending (pendings_out past) p && true) || has_pending hs p) h))))
  where
    swap : (a b : Bool) → (a || b) ≡ ((b && true) || a)
    swap true true = refl
    swap true false = refl
    swap false true = refl
    swap false false = refl

-- ## What they stand for

-- where no id comes twice, each has the endpoint that it entered with
halves_read : (endpoints : ℕ → Option Endpoint) (y : EndId) (es : List Entry) → all_differ (ids_of_entries es) ≡ true
    → ((id : ℕ) → has_number (ids_of_entries es) id ≡ true → endpoints id ≡ entry_in es id None)
    → halves_from y es ≡ map (λ (id : ℕ). half_of (pending_at y id) (endpoints id)) (pending_ids es)
halves_read endpoints y [] differ at = refl
halves_read endpoints y (e ∷ es) differ at =
    go (is_pending e.endpoint)
    (halves_read endpoints y es (and_right (not (has_number (ids_of_entries es) e.id)) (all_differ (ids_of_entries es)) differ) behind)
  where
    none : has_number (ids_of_entries es) e.id ≡ false
    none = not-true (has_number (ids_of_entries es) e.id) (and_left (not (has_number (ids_of_entries es) e.id)) (all_differ (ids_of_entries es)) differ)

    here : endpoints e.id ≡ Some e.endpoint
    here = rw (at e.id (rw (eq-eqb e.id e.id refl) refl), eq-eqb e.id e.id refl) refl

    other : (id : ℕ) → has_number (ids_of_entries es) id ≡ true → (b : Bool) → (e.id == id) ≡ b
        → (if b then Some e.endpoint else entry_in es id None) ≡ entry_in es id None
    other id h false f = refl
    other id h true f = absurd (
        let t : has_number (ids_of_entries es) e.id ≡ true = ap (λ (n : ℕ). has_number (ids_of_entries es) n) (eqb-true e.id id f) ∙ h in
        let c : true ≡ false = sym t ∙ none in
        cc)

    behind : (id : ℕ) → has_number (ids_of_entries es) id ≡ true → endpoints id ≡ entry_in es id None
    behind id h = at id (or_right (e.id == id) (has_number (ids_of_entries es) id) h) ∙ other id h (e.id == id) refl

    go : (b : Bool) → halves_from y es ≡ map (λ (id : ℕ). half_of (pending_at y id) (endpoints id)) (pending_ids es)
        → map (half_entered y) (if b then e ∷ filter waits es else filter waits es)
        ≡ map (λ (id : ℕ). half_of (pending_at y id) (endpoints id)) (map (λ (d : Entry). d.id) (if b then e ∷ filter waits es else filter waits es))
    go true rest =
        ap (λ (hs : List Half). half_entered y e ∷ hs) rest
        ∙ ap (λ (o : Option Endpoint). half_of (pending_at y e.id) o ∷ map (λ (id : ℕ). half_of (pending_at y id) (endpoints id)) (pending_ids es)) (sym here)
    go false rest = rest

module _ (wire : Wire) (past : List Event) (seq : SeqId) (y : EndId) (r : Received) (entries : List Entry)
    (is : enters wire past y (written wire past y) (endpoint_at wire past y) (told_of (replies.Got r)) ≡ entries) where
  abbrev event : Event
  event = event_of seq (commands.Take y) (replies.Got r)

  -- an id that entered has the endpoint that it entered with
  pub entered_at : (id : ℕ) → has_number (ids_of_entries entries) id ≡ true → endpoint_at wire (event ∷ past) y id ≡ entry_in entries id None
  entered_at id h =
      here (same_end y y) (same_end-refl y)
      ∙ (ap (λ (es : List Entry). entry_in es id (endpoint_at wire past y id)) is
      ∙ (entry_or entries id (endpoint_at wire past y id) ∙ chosen (has_number (ids_of_entries entries) id) h))
    where
      here : (b : Bool) → b ≡ true
          → (if b then entry_in (enters wire past y (written wire past y) (endpoint_at wire past y) (told_of (replies.Got r))) id (endpoint_at wire past y id)
          else endpoint_at wire past y id)
          ≡ entry_in (enters wire past y (written wire past y) (endpoint_at wire past y) (told_of (replies.Got r))) id (endpoint_at wire past y id)
      here true e = refl
      here false e = absurd cc

      chosen : (b : Bool) → b ≡ true → (if b then entry_in entries id None else endpoint_at wire past y id) ≡ entry_in entries id None
      chosen true e = refl
      chosen false e = absurd cc

  -- the pendings that were made are those that the machine hands out
  pub got_hands : all_differ (ids_of_entries entries) ≡ true → r.pendings ≡ halves_from y entries
      → HandsPendings wire (event ∷ past) (commands.Take y) (replies.Got r)
  got_hands differ made =
      made
      ∙ (halves_read (endpoint_at wire (event ∷ past) y) y entries differ entered_at
      ∙ (by_names (pending_ids entries)
      ∙ ap (λ (ps : List PendingId). map (λ (p : PendingId). half_of p (endpoint_at wire (event ∷ past) p.end p.id)) ps)
      (sym (ap (λ (hs : List Half). names_of hs) made ∙ names_from y entries))))
    where
      by_names : (ids : List ℕ) → map (λ (id : ℕ). half_of (pending_at y id) (endpoint_at wire (event ∷ past) y id)) ids
          ≡ map (λ (p : PendingId). half_of p (endpoint_at wire (event ∷ past) p.end p.id)) (pendings_at y ids)
      by_names [] = refl
      by_names (id ∷ ids) =
          ap (λ (hs : List Half). half_of (pending_at y id) (endpoint_at wire (event ∷ past) y id) ∷ hs) (by_names ids)

-- the pendings that were made are out, and those that were
pub got_known : (past : List Event) (seq : SeqId) (y : EndId) (r : Received) (entries : List Entry) (old new : List (EndpointName × Bool))
    → r.pendings ≡ halves_from y entries
    → ((p : PendingId) → is_out new p ≡ (has_pending (pendings_at y (pending_ids entries)) p || is_out old p))
    → KnowsPendings past old → KnowsPendings (event_of seq (commands.Take y) (replies.Got r) ∷ past) new
got_known past seq y r entries old new made more known =
    pendings_made (event_of seq (commands.Take y) (replies.Got r)) past (pendings_at y (pending_ids entries)) old new refl
    (ap (λ (hs : List Half). names_of hs) made ∙ names_from y entries) more known
