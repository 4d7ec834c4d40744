-- What is emitted, by the code and by the events.
use Rattle.control_bytes.specs.declared.control.Control.{Control}
use Rattle.std.proofs.Common.{◌≡◌, ◌<◌, ℕ, zero, suc, Bool, true, false, List, [], ◌∷◌, length, get_or, refl, sym, ap, ◌∙◌, arith, subst}
use Rattle.std.specs.Prelude.{if◌then◌else◌, ◌&&◌, not, ◌==◌, Option, Some, None, filter, is_some, map}
use Rattle.std.specs.Option.{option_map}
use Rattle.std.proofs.lemmas.Bool.{eq-eqb}
use Rattle.std.proofs.lemmas.List.{append-nil}
use Rattle.mj_base.specs.declared.ids.EndId.{EndId}
use Rattle.mj_schema.specs.declared.schema.Schema.{Schema}
use Rattle.handle_table.specs.Things.{has, same_end}
use Rattle.handle_table.specs.declared.thing.Thing.TheVariants.{End}
use Rattle.handle_table.proofs.ThingsLemmas.{or_left, or_right, same_end-true}
use Rattle.message_pipe.specs.Contents.{Contents}
use Rattle.message_pipe.specs.Ends.{end_of, peer_of, with_messages}
use Rattle.message_pipe.specs.Mail.{are_emitted}
use Rattle.message_pipe.specs.declared.message.Message.{Message}
use Rattle.message_pipe.specs.declared.pipe_end.PipeEnd.{PipeEnd}
use Rattle.bind_model.specs.declared.event.Event.{Event}
use Rattle.bind_model.specs.Laws.{has_number}
use Rattle.bind_model.specs.Machine.{emits, endpoint_at, is_gone, is_peer_closed, made, peer}
use Rattle.bind_model.specs.WireOf.{wire_of}
use Rattle.bind_model.proofs.Kept.{Kept}
use Rattle.core_state.specs.Agreement.{Agrees}
use Rattle.core_state.specs.Routers.{Routers, found_at}
use Rattle.core_state.specs.steps.Posted.{Adds}
use Rattle.core_state.specs.Emitting.{Emits, EmitsTo, HasPeer, control_for, emitted_at}
use Rattle.core_state.proofs.Facts.{closed_is, peer_is}
use Rattle.core_state.proofs.Steady.{found_is}

-- ## What the code makes

-- an id that stands in a list is in it
pub number_there : (ids : List ℕ) (k d : ℕ) → k < length ids → has_number ids (get_or ids k d) ≡ true
number_there [] k d h = absurd (omega arith)
number_there (id ∷ ids) zero d h = or_left (id == id) (has_number ids id) (eq-eqb id id refl)
number_there (id ∷ ids) (suc k) d h = or_right (id == get_or ids k d) (has_number ids (get_or ids k d)) (number_there ids k d (omega arith))

-- all are emitted
pub all_emitted : (control : ℕ → Control) (endpoints : Routers) (y : EndId) (ids : List ℕ) → are_emitted (emitted_at control endpoints y ids) ≡ true
all_emitted control endpoints y [] = refl
all_emitted control endpoints y (id ∷ ids) = go (not (is_peer_closed (found_at endpoints y id))) (all_emitted control endpoints y ids)
  where
    go : (b : Bool) → are_emitted (emitted_at control endpoints y ids) ≡ true
        → are_emitted (if b then control_for (control id) ∷ emitted_at control endpoints y ids else emitted_at control endpoints y ids) ≡ true
    go true rest = rest
    go false rest = rest

-- ## What the events say of it

module _ (schema : Schema) (past : List Event) (k : Kept (wire_of schema) past) (pipes : Contents) (endpoints : Routers)
    (a : Agrees (wire_of schema) past pipes endpoints) (y : EndId) (here : has (made past) (End y) ≡ true) where
  -- the other end is there
  pub peer_there : HasPeer pipes y
  peer_there p h =
      let q : peer_of (end_of pipes.ends y) ≡ Some (peer past y) = peer_is (wire_of schema) past k pipes endpoints a y here in
      let same : p ≡ peer past y = cc in
      ap (λ (o : Option PipeEnd). is_some o) (a.ends p) ∙ rw (same, k.peers y here) refl

module _ (schema : Schema) (control : ℕ → Control) where
  -- the messages of these ids
  abbrev pub written_for : List ℕ → List Message
  written_for ids = map (λ id. record { bytes = (wire_of schema).control (control id); handles = []; emitted = true }) ids

  -- a list of controls, for each id whose endpoint isn't marked
  controls_is : (endpoints : Routers) (y : EndId) (marks : ℕ → Bool) → ((id : ℕ) → is_peer_closed (found_at endpoints y id) ≡ marks id) → (ids : List ℕ)
      → emitted_at control endpoints y ids ≡ written_for (filter (λ id. not (marks id)) ids)
  unfolding wire_of
  controls_is endpoints y marks same [] = refl
  controls_is endpoints y marks same (id ∷ ids) =
      rw (same id) (go (marks id) (controls_is endpoints y marks same ids))
    where
      go : (b : Bool) → emitted_at control endpoints y ids ≡ written_for (filter (λ j. not (marks j)) ids)
          → (if not b then control_for (control id) ∷ emitted_at control endpoints y ids else emitted_at control endpoints y ids)
          ≡ written_for (if not b then id ∷ filter (λ j. not (marks j)) ids else filter (λ j. not (marks j)) ids)
      go true rest = rest
      go false rest = ap (λ (ms : List Message). control_for (control id) ∷ ms) rest

  module _ (past : List Event) (k : Kept (wire_of schema) past) (pipes : Contents) (endpoints : Routers) (a : Agrees (wire_of schema) past pipes endpoints)
      (y : EndId) (here : has (made past) (End y) ≡ true) where
    -- the controls that the events give
    abbrev pub due : List ℕ → List Message
    due ids = written_for (filter (λ id. not (is_peer_closed (endpoint_at (wire_of schema) past y id))) ids)

    pub emits_is : (ids : List ℕ) (new : Contents) → EmitsTo (peer_of (end_of pipes.ends y)) (emitted_at control endpoints y ids) pipes new
        → Emits (peer past y) (not (is_gone past (peer past y))) (due ids) pipes new
    emits_is ids new e =
        let made : emitted_at control endpoints y ids ≡ due ids =
        controls_is endpoints y (λ id. is_peer_closed (endpoint_at (wire_of schema) past y id)) (λ id. ap is_peer_closed (found_is a y id)) ids in
        subst (λ (ms : List Message). Emits (peer past y) (not (is_gone past (peer past y))) ms pipes new) made
        (subst (λ (b : Bool). Emits (peer past y) (not b) (emitted_at control endpoints y ids) pipes new)
        (closed_is (wire_of schema) past k pipes endpoints a (peer past y))
        (subst (λ (o : Option EndId). EmitsTo o (emitted_at control endpoints y ids) pipes new) (peer_is (wire_of schema) past k pipes endpoints a y here) e))

    -- at each end those that the events put there
    pub adds_is : (ids : List ℕ) (new : Contents) → EmitsTo (peer_of (end_of pipes.ends y)) (emitted_at control endpoints y ids) pipes new
        → Adds (emits (wire_of schema) past y (endpoint_at (wire_of schema) past y) control ids) pipes new
    adds_is ids new e =
        let m : Emits (peer past y) (not (is_gone past (peer past y))) (due ids) pipes new = emits_is ids new e in
        record { ends = λ x. m.ends x ∙ at x (end_of pipes.ends x); table = m.table; made = m.made }
      where
        alike : (x : EndId) (q : Bool) → same_end (peer past y) x ≡ q → (q && not (is_gone past (peer past y))) ≡ (q && not (is_gone past x))
        alike x false e = refl
        alike x true e = ap (λ z. not (is_gone past z)) (same_end-true (peer past y) x e)

        go : (b : Bool) (ms : List Message) (o : Option PipeEnd)
            → (if b then option_map (with_messages ms) o else o) ≡ option_map (with_messages (if b then ms else [])) o
        go true ms o = refl
        go false ms None = refl
        go false ms (Some e) =
            ap (λ (us : List Message). Some (record { peer = e.peer; closed = e.closed; unread = us })) (sym (append-nil e.unread))

        at : (x : EndId) (o : Option PipeEnd)
            → (if same_end (peer past y) x && not (is_gone past (peer past y)) then option_map (with_messages (due ids)) o else o)
            ≡ option_map (with_messages (emits (wire_of schema) past y (endpoint_at (wire_of schema) past y) control ids x)) o
        at x o =
            ap (λ (b : Bool). if b then option_map (with_messages (due ids)) o else o) (alike x (same_end (peer past y) x) refl)
            ∙ go (same_end (peer past y) x && not (is_gone past x)) (due ids) o
