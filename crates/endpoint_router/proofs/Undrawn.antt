-- Where no endpoint is, no request was sent.
use Rattle.std.proofs.Common.{◌≡◌, ℕ, Bool, true, false, List, [], ◌∷◌, ◌++◌, Some, None, refl, sym, ap, ◌∙◌}
use Rattle.std.specs.Prelude.{if◌then◌else◌, not, ◌==◌, ◌&&◌, ◌||◌, Option, is_some}
use Rattle.std.proofs.lemmas.Bool.{eqb-true}
use Rattle.std.proofs.lemmas.List.{append-nil}
use Rattle.std.proofs.lemmas.List.Folds.{list_any-append}
use Rattle.mj_base.specs.declared.ids.EndId.{EndId}
use Rattle.mj_base.specs.declared.ids.SeqId.{SeqId}
use Rattle.handle_table.specs.Things.{same_end}
use Rattle.handle_table.proofs.ThingsLemmas.{and_left, and_right, not_left, same_end-true}
use Rattle.bind_model.specs.Laws.{has_number}
use Rattle.bind_model.specs.Machine.{endpoint_at}
use Rattle.bind_model.specs.Replies.{drawn, draws, legal}
use Rattle.bind_model.specs.Tables.{entered, entered_by}
use Rattle.bind_model.specs.Wire.{Wire}
use Rattle.bind_model.specs.declared.asked.Asked.{Asked}
use Rattle.bind_model.specs.declared.endpoint.Endpoint.{Endpoint}
use Rattle.bind_model.specs.declared.event.Event.{Event}
use Rattle.bind_model.specs.declared.told.Told.{Told}
use Rattle.bind_model.proofs.Outcomes.{Outcome, outcome, joins, mints, binds, associates, attaches, calls, answers, writes, gets, drops}
use Rattle.bind_model.proofs.Outcomes.{controls, spoils, closes, closes_pending, closes_responder, closes_end, closes_endpoint, notifies, pauses, pipes}
use Rattle.bind_model.proofs.Outcomes.{flows, skips, refuses}
use Rattle.bind_model.proofs.TableAfter.{all_there}
use Rattle.bind_model.proofs.TableLemmas.{NoneElse, none_else}

-- no request was sent at an id that was not entered
abbrev NoneDrawn : Wire → List Event → Type 0
NoneDrawn wire past = (x : EndId) (id : ℕ) → has_number (entered wire past x) id ≡ false → drawn past x id ≡ []

module _ (wire : Wire) (seqs : ℕ) (past : List Event) (seq : SeqId) (none : NoneElse wire past) (before : NoneDrawn wire past) where
  not_before : (x : EndId) (id : ℕ) (more : List ℕ) → has_number (entered wire past x ++ more) id ≡ false → has_number (entered wire past x) id ≡ false
  not_before x id more h =
      let s : (has_number (entered wire past x) id || has_number more id) ≡ false = rw list_any-append at h in
      not_left (has_number (entered wire past x) id) (has_number more id) s

  still : (x : EndId) (id : ℕ) (more : List ℕ) → has_number (entered wire past x ++ more) id ≡ false → drawn past x id ++ [] ≡ []
  still x id more h = append-nil (drawn past x id) ∙ before x id (not_before x id more h)

  step : {asked : Asked} {told : Told} → Outcome wire seqs past seq asked told → (x : EndId) (id : ℕ)
      → has_number (entered wire past x ++ entered_by wire past told asked x) id ≡ false → drawn past x id ++ draws told asked x id ≡ []
  step (joins t j p q) x id h = still x id _ h
  step mints x id h = still x id _ h
  step (binds o) x id h = still x id _ h
  step (associates main e g q) x id h = still x id _ h
  step (attaches o g l e) x id h = still x id _ h
  step (calls {y = y} {id = n} {s = s} {request = request} r o ps mk e w b) x id h = go (same_end y x && (n == id)) refl
    where
      go : (c : Bool) → (same_end y x && (n == id)) ≡ c
          → drawn past x id ++ (if c && not (request == 0) then record { request = request; method = s.target.method } ∷ [] else []) ≡ []
      go false f = still x id _ h
      go true f =
          let at : y ≡ x = same_end-true y x (and_left (same_end y x) (n == id) f) in
          let is : n ≡ id = eqb-true n id (and_right (same_end y x) (n == id) f) in
          let some : endpoint_at wire past x id ≡ Some r = rw (← at, ← is) o.here in
          let clash : None ≡ Some r = sym (none x id (not_before x id _ h)) ∙ some in
          absurd cc
  step (answers r o rs ps e w b) x id h = still x id _ h
  step (writes o w) x id h = still x id _ h
  step (gets m hd r c f e) x id h = still x id _ h
  step (drops m f e d) x id h = still x id _ h
  step (controls m f e d) x id h = still x id _ h
  step (spoils m f e) x id h = still x id _ h
  step (closes o e) x id h = still x id _ h
  step (closes_pending o e) x id h = still x id _ h
  step (closes_responder e) x id h = still x id _ h
  step (closes_end r i o e) x id h = still x id _ h
  step (closes_endpoint r i o e) x id h = still x id _ h
  step (notifies n_r n_o n_e n_w n_s n_f n_p) x id h = still x id _ h
  step (pauses n_b n_a n_e n_f n_g n_s) x id h = still x id _ h
  step (pipes n_z n_p n_q) x id h = still x id _ h
  step (flows n_d n_o n_e n_f) x id h = still x id _ h
  step skips x id h = still x id _ h
  step refuses x id h = still x id _ h

none_drawn : (wire : Wire) (seqs : ℕ) (past : List Event) → legal wire seqs past → NoneDrawn wire past
none_drawn wire seqs [] h x id e = refl
none_drawn wire seqs (event ∷ past) h x id e =
    step wire seqs past event.seq (none_else wire seqs past h.2) (none_drawn wire seqs past h.2)
    (outcome wire seqs past event.seq event.asked event.told h.1) x id e

-- from no endpoint, no request
pub undrawn : (wire : Wire) (seqs : ℕ) (past : List Event) → legal wire seqs past → (x : EndId) (id : ℕ) → endpoint_at wire past x id ≡ None
    → drawn past x id ≡ []
undrawn wire seqs past h x id none = go (has_number (entered wire past x) id) refl
  where
    go : (b : Bool) → has_number (entered wire past x) id ≡ b → drawn past x id ≡ []
    go false e = none_drawn wire seqs past h x id e
    go true e =
        let there : is_some (endpoint_at wire past x id) ≡ true = all_there wire seqs past h x id e in
        let clash : false ≡ true = ap (λ (o : Option Endpoint). is_some o) (sym none) ∙ there in
        absurd cc
