-- What an answer is told, by its way.
use Rattle.data_pipe.specs.Agreement.{DataAgrees}
use Rattle.data_pipe.specs.Table.{Lines}
use Rattle.data_pipe.proofs.Busy.{busy_is}
use Rattle.bind_model.proofs.DataLemmas.{data_kept}
use Rattle.std.proofs.Common.{◌≡◌, ◌≤◌, ℕ, ℤ, Bool, true, false, List, ◌∷◌, length, refl, sym, ap, ◌∙◌}
use Rattle.std.specs.Prelude.{if◌then◌else◌, ◌||◌, ◌&&◌, not, ◌==◌, Option, Some, None, Result, Ok, Err}
use Rattle.std.specs.List.{list_all, list_any}
use Rattle.mj_base.specs.declared.limits.TheConstants.{MAX_EVENTS}
use Rattle.mj_base.specs.declared.ids.EndId.{EndId}
use Rattle.mj_base.specs.declared.ids.SeqId.{SeqId}
use Rattle.mj_schema.specs.declared.schema.Schema.{Schema}
use Rattle.handle_table.specs.Things.{alike, has}
use Rattle.handle_table.specs.declared.thing.Thing.TheVariants.{End}
use Rattle.handle_table.proofs.ThingsLemmas.{and_left, and_right}
use Rattle.message_pipe.specs.Contents.{Contents}
use Rattle.wire_encoder.specs.Prepared.{IsPrepared}
use Rattle.wire_encoder.specs.declared.prepared.Prepared.{Prepared}
use Rattle.wire_model.specs.declared.target.MessageSide.{MessageSide}
use Rattle.wire_model.specs.declared.target.MessageSide.TheVariants.{Request, Response}
use Rattle.bind_model.specs.declared.asked.Asked.TheVariants.{Answer}
use Rattle.bind_model.specs.declared.asked.Outgoing.{Outgoing}
use Rattle.bind_model.specs.declared.endpoint.Endpoint.{Endpoint}
use Rattle.bind_model.specs.declared.endpoint.ResponderId.{ResponderId}
use Rattle.bind_model.specs.declared.endpoint.State.{State}
use Rattle.bind_model.specs.declared.endpoint.State.TheVariants as states
use Rattle.bind_model.specs.declared.names.EndpointName.{EndpointName}
use Rattle.bind_model.specs.declared.told.Told.{Told}
use Rattle.bind_model.specs.declared.told.Told.TheVariants.{Sent, No}
use Rattle.bind_model.specs.declared.told.Why.{Why}
use Rattle.bind_model.specs.declared.told.Why.TheVariants.{NoName, Disconnected, Elsewhere, WrongMethod}
use Rattle.bind_model.specs.declared.event.Event.{Event}
use Rattle.bind_model.specs.WireOf.{wire_of}
use Rattle.bind_model.specs.Machine.{made, is_closed, is_gone, endpoint_at}
use Rattle.bind_model.specs.Pendings.{KnowsPendings}
use Rattle.bind_model.specs.Replies as machine
use Rattle.bind_model.specs.Replies.{answer, answered_with, cannot_write, distinct_pendings, elsewhere, first_of, has_pending, ids_of, is_response, legal}
use Rattle.bind_model.specs.Replies.{pendings_out, responders_out, same_responder, same_target, sent, unless, wrong_tokens}
use Rattle.bind_model.specs.Responders.{CountsResponders, count_of}
use Rattle.bind_model.specs.declared.responder.ResponderName.{ResponderName}
use Rattle.bind_model.proofs.Kept.{Kept, bound_made}
use Rattle.core_state.specs.Routers.{Routers, found_at}
use Rattle.core_state.specs.Agreement.{Agrees}
use Rattle.core_sending.specs.Answering.{answers_to, reached, reached_in, way_back, way_reached}
use Rattle.core_sending.specs.Calls.{outgoing_named, sealed_bytes}
use Rattle.core_sending.specs.Carrying.{all_own}
use Rattle.core_sending.specs.Fitting.{way_with}
use Rattle.core_sending.specs.declared.carried.CarriedNames.{CarriedNames}
use Rattle.core_sending.proofs.Calling.{sealed_is}
use Rattle.core_state.proofs.Facts.{closed_is}
use Rattle.core_sending.proofs.Fitted.{Fits, held_not, own_is, passed, test_not, test_own, told_of_way, with_fits, with_told}
use Rattle.core_state.proofs.Opening.{told_of_opened}
use Rattle.core_state.proofs.Responding.{out_counted}
use Rattle.core_state.proofs.Steady.{found_is}

-- ## The first tests

abbrev pub tested : Bool → SeqId → State → List (Option Why) → Told → Told
tested gone seq state tests done = first_of (
    unless (not (gone || (elim state [ states.Closed ↦ true | states.Pending ↦ false | states.Bound t ↦ false ]))) Disconnected
    ∷ (elim state [ states.Bound t ↦ unless (t.0 == seq.0) (Elsewhere t) | states.Pending ↦ None | states.Closed ↦ None ])
    ∷ tests) done

tested_is : (gone : Bool) (seq : SeqId) (e : Endpoint) (state : State) (tests : Endpoint → List (Option Why)) (done : Told)
    → told_of_opened (if gone then Err Disconnected else reached_in seq e state) (λ r. first_of (tests r) done) ≡ tested gone seq state (tests e) done
tested_is true seq e state tests done = refl
tested_is false seq e states.Closed tests done = refl
tested_is false seq e states.Pending tests done = refl
tested_is false seq e (states.Bound t) tests done = go (t.0 == seq.0)
  where
    go : (b : Bool) → told_of_opened (if b then Ok e else Err (Elsewhere t)) (λ r. first_of (tests r) done) ≡ first_of (unless b (Elsewhere t) ∷ tests e) done
    go true = refl
    go false = refl

reached_tests : (gone : Bool) (seq : SeqId) (e : Endpoint) (tests : Endpoint → List (Option Why)) (done : Told)
    → told_of_opened (reached seq gone (Some e)) (λ r. first_of (tests r) done)
    ≡ first_of (unless (not (gone || is_closed e)) Disconnected ∷ elsewhere seq e ∷ tests e) done
reached_tests gone seq e tests done = tested_is gone seq e e.state tests done

module _ (schema : Schema) (seqs : ℕ) (past : List Event) (k : Kept (wire_of schema) past) (pipes : Contents) (endpoints : Routers)
    (a : Agrees (wire_of schema) past pipes endpoints) (h : legal (wire_of schema) seqs past) (few : length past ≤ MAX_EVENTS)
    (flows : Lines) (flow : DataAgrees past flows)
    (table : List (EndpointName × Bool)) (known : KnowsPendings past table)
    (counts : List (ResponderName × ℕ)) (c : CountsResponders (wire_of schema) past counts)
    (seq : SeqId) (r : ResponderId) (prepared : Prepared) (p : IsPrepared schema prepared) (names : CarriedNames)
    (moment : Option ℤ) where
  abbrev pub outgoing : Outgoing
  outgoing = outgoing_named prepared names moment

  abbrev done : Told
  done = sent (wire_of schema) r.id outgoing r.request

  abbrev tests_of : Endpoint → List (Option Why)
  tests_of e =
      unless (same_target prepared.target (record { interface = r.interface; method = r.method; side = Response })) WrongMethod
      ∷ wrong_tokens (wire_of schema) past outgoing
      ∷ machine.wrong_pipe past r.end names.pendings
      ∷ cannot_write (wire_of schema) past r.end e.peer_closed names.things

  answers_is : answers_to r prepared.target ≡ same_target prepared.target (record { interface = r.interface; method = r.method; side = Response })
  answers_is = go prepared.target.side
    where
      go : (s : MessageSide)
          → (((prepared.target.interface == r.interface) && (prepared.target.method == r.method)) && is_response s)
          ≡ (((prepared.target.interface == r.interface) && (prepared.target.method == r.method)) && alike (is_response s) true)
      go Request = refl
      go Response = refl

  -- the caller has the responder, and all that goes with the answer
  abbrev responder_out : Bool
  responder_out = list_any (λ (q : ResponderId). same_responder q r) (responders_out (wire_of schema) past)

  abbrev own_past : Bool
  own_past = responder_out && machine.all_out past names.things && machine.all_pending past names.pendings

  abbrev pub own : Bool
  own = not (count_of counts r == 0) && all_own pipes table names

  outs : own_past ≡ true → list_all (λ q. has_pending (pendings_out past) q) names.pendings ≡ true
  outs e =
      and_left (list_all (λ q. has_pending (pendings_out past) q) names.pendings) (distinct_pendings names.pendings)
      (and_right (responder_out && machine.all_out past names.things) (machine.all_pending past names.pendings) e)

  own_same : own ≡ own_past
  own_same =
      ap (λ (b : Bool). not (count_of counts r == 0) && b) (own_is schema seqs past k pipes endpoints a h few prepared p names table known)
      ∙ (ap (λ (n : ℕ). not (n == 0) && (machine.all_out past names.things && machine.all_pending past names.pendings)) (c r)
      ∙ (ap (λ (b : Bool). b && (machine.all_out past names.things && machine.all_pending past names.pendings))
      (sym (out_counted (responders_out (wire_of schema) past) r))
      ∙ group responder_out (machine.all_out past names.things) (machine.all_pending past names.pendings)))
    where
      group : (b c d : Bool) → (b && (c && d)) ≡ ((b && c) && d)
      group true c d = refl
      group false c d = refl

  reached_way : own_past ≡ true → has (made past) (End r.end) ≡ true → (e : Endpoint)
      → told_of_way done (way_reached r prepared names pipes flows endpoints (Ok e)) ≡ first_of (tests_of e) done
  reached_way o m e =
      ap (λ (b : Bool). told_of_way done (if not b then Err WrongMethod else way_with prepared names pipes flows endpoints r.end e.peer_closed)) answers_is
      ∙ test_not (same_target prepared.target (record { interface = r.interface; method = r.method; side = Response })) WrongMethod
      (way_with prepared names pipes flows endpoints r.end e.peer_closed) _ done
      (with_told schema seqs past k pipes endpoints a h few prepared p names flows r.end e.peer_closed (outs o)
      (busy_is (wire_of schema) seqs past h flows (data_kept (wire_of schema) seqs past h) flow names.things) m done)

  each_way : own_past ≡ true → (o : Result Endpoint Why) → has (made past) (End r.end) ≡ true
      → told_of_way done (way_reached r prepared names pipes flows endpoints o) ≡ told_of_opened o (λ e. first_of (tests_of e) done)
  each_way held (Ok e) m = reached_way held m e
  each_way held (Err why) m = refl

  at_endpoint : (o : Option Endpoint) → endpoint_at (wire_of schema) past r.end r.id ≡ o
      → told_of_way done (if not own_past then Err NoName else way_reached r prepared names pipes flows endpoints (reached seq (is_gone past r.end) o))
      ≡ answered_with (wire_of schema) past seq r outgoing o
  at_endpoint None e = go own_past
    where
      go : (b : Bool) → told_of_way done (if not b then Err NoName else Err NoName) ≡ No NoName
      go true = refl
      go false = refl
  at_endpoint (Some e) f =
      let m : has (made past) (End r.end) ≡ true = bound_made (wire_of schema) past k (End r.end) (k.endpoints r.end r.id e f) in
      test_own own_past NoName (way_reached r prepared names pipes flows endpoints (reached seq (is_gone past r.end) (Some e))) _ done
      (λ o. each_way o (reached seq (is_gone past r.end) (Some e)) m ∙ reached_tests (is_gone past r.end) seq e tests_of done)

  -- the way of the answer, by whether its caller has all
  abbrev here : Result EndId Why
  here = way_back seq r prepared names own pipes flows endpoints

  way_told : told_of_way done here ≡ answer (wire_of schema) seqs past seq (Answer r outgoing)
  way_told =
      ap (λ (b : Bool). told_of_way done (way_back seq r prepared names b pipes flows endpoints)) own_same
      ∙ (ap (λ (o : Result Endpoint Why). told_of_way done (if not own_past then Err NoName else way_reached r prepared names pipes flows endpoints o))
      (ap (λ (b : Bool). reached seq b (found_at endpoints r.end r.id)) (closed_is (wire_of schema) past k pipes endpoints a r.end)
      ∙ ap (λ (o : Option Endpoint). reached seq (is_gone past r.end) o) (found_is a r.end r.id))
      ∙ at_endpoint (endpoint_at (wire_of schema) past r.end r.id) refl)

  -- what is asked is refused as its way is, and else sent
  pub back_refused : (why : Why) → here ≡ Err why → answer (wire_of schema) seqs past seq (Answer r outgoing) ≡ No why
  back_refused why e = sym way_told ∙ ap (λ (w : Result EndId Why). told_of_way done w) e

  pub back_sends : (x : EndId) → here ≡ Ok x
      → answer (wire_of schema) seqs past seq (Answer r outgoing) ≡ Sent r.request (sealed_bytes r.id r.request moment (ids_of names.pendings) prepared)
  back_sends x e =
      sym way_told
      ∙ (ap (λ (w : Result EndId Why). told_of_way done w) e
      ∙ ap (λ (bytes : List ℕ). Sent r.request bytes) (sealed_is schema prepared p r.id r.request moment (ids_of names.pendings)))

  -- ## What its way says

  reached_goes : own_past ≡ true → (o : Result Endpoint Why) (x : EndId) → way_reached r prepared names pipes flows endpoints o ≡ Ok x
      → Fits past pipes r.end prepared names x
  reached_goes held (Err why) x e = absurd cc
  reached_goes held (Ok f) x e =
      let b = passed (not (answers_to r prepared.target)) WrongMethod _ x e in
      with_fits schema seqs past k pipes endpoints a h few prepared p names flows r.end f.peer_closed (outs held) x b.1

  -- the caller of an answer that is sent has its responder, and what goes with it fits
  pub back_goes : (x : EndId) → here ≡ Ok x → (not (count_of counts r == 0) ≡ true) × Fits past pipes r.end prepared names x
  back_goes x e =
      let b = passed (not own) NoName _ x e in (
        and_left (not (count_of counts r == 0)) (all_own pipes table names) (held_not own b.0),
        reached_goes (sym own_same ∙ held_not own b.0) _ x b.1,
      )
