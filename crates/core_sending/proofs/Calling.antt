-- What a call is told, by its way.
use Rattle.data_pipe.specs.Agreement.{DataAgrees}
use Rattle.data_pipe.specs.Table.{Lines}
use Rattle.data_pipe.proofs.Busy.{busy_is}
use Rattle.bind_model.proofs.DataLemmas.{data_kept}
use Rattle.std.proofs.Common.{◌≡◌, ◌≤◌, ℕ, ℤ, ◌+◌, Bool, true, false, List, ◌∷◌, length, refl, sym, ap, ◌∙◌}
use Rattle.std.specs.Prelude.{if◌then◌else◌, ◌&&◌, not, ◌==◌, is_some, Option, Some, None, Result, Ok, Err}
use Rattle.std.specs.List.{list_all}
use Rattle.mj_base.specs.declared.limits.TheConstants.{MAX_EVENTS}
use Rattle.mj_base.specs.declared.ids.EndId.{EndId}
use Rattle.mj_base.specs.declared.ids.SeqId.{SeqId}
use Rattle.mj_schema.specs.declared.rows.MethodRow.{MethodRow}
use Rattle.mj_schema.specs.declared.schema.Schema.{Schema}
use Rattle.handle_table.specs.Things.{has}
use Rattle.handle_table.specs.declared.thing.Thing.TheVariants.{End}
use Rattle.handle_table.proofs.ThingsLemmas.{and_left, and_right}
use Rattle.message_pipe.specs.Contents.{Contents}
use Rattle.wire_encoder.specs.Prepared.{IsPrepared, method_of, flags_for}
use Rattle.wire_encoder.specs.declared.prepared.Prepared.{Prepared}
use Rattle.wire_model.specs.Expected.{flags_of}
use Rattle.wire_model.specs.Trees.{view}
use Rattle.wire_model.specs.declared.target.MessageSide.{MessageSide}
use Rattle.wire_model.specs.declared.target.MessageSide.TheVariants.{Request, Response}
use Rattle.wire_model.specs.declared.target.Target.{Target}
use Rattle.bind_model.specs.declared.asked.Outgoing.{Outgoing}
use Rattle.bind_model.specs.declared.asked.Asked.TheVariants.{Call}
use Rattle.bind_model.specs.declared.endpoint.Endpoint.{Endpoint}
use Rattle.bind_model.specs.declared.names.EndpointName.{EndpointName}
use Rattle.bind_model.specs.declared.told.Told.{Told}
use Rattle.bind_model.specs.declared.told.Told.TheVariants.{Sent, No}
use Rattle.bind_model.specs.declared.told.Why.{Why}
use Rattle.bind_model.specs.declared.told.Why.TheVariants.{NoName, WrongSide, WrongMethod}
use Rattle.bind_model.specs.declared.event.Event.{Event}
use Rattle.bind_model.specs.WireOf.{wire_of, has_response}
use Rattle.bind_model.specs.Machine.{made, is_gone, endpoint_at}
use Rattle.bind_model.specs.Pendings.{KnowsPendings}
use Rattle.bind_model.specs.Replies as machine
use Rattle.bind_model.specs.Replies.{answer, called, cannot_write, distinct_pendings, drawn, first_of, has_pending, ids_of, is_receiver, is_response}
use Rattle.bind_model.specs.Replies.{legal, pendings_out, request_of, unless, wrong_tokens}
use Rattle.bind_model.proofs.Kept.{Kept, bound_made}
use Rattle.core_state.specs.Agreement.{Agrees}
use Rattle.core_state.specs.Routers.{Routers, found_at}
use Rattle.core_sending.specs.Calls.{outgoing_named, request_id, sealed_bytes}
use Rattle.core_sending.specs.Carrying.{all_own}
use Rattle.core_sending.specs.Fitting.{way, way_open, way_with}
use Rattle.core_state.specs.Opens.{opened}
use Rattle.core_sending.specs.Ways.{asks_of}
use Rattle.core_sending.specs.declared.carried.CarriedNames.{CarriedNames}
use Rattle.core_state.proofs.Facts.{closed_is}
use Rattle.core_sending.proofs.Fitted.{Fits, held_not, own_is, passed, test_if, test_not, test_own, told_of_way, with_fits, with_told}
use Rattle.core_state.proofs.Opening.{told_of_opened, opened_tests}
use Rattle.core_state.proofs.Steady.{found_is}

-- ## A schema's wire

responds_by : (m : Option MethodRow) (target : Target) → is_response target.side ≡ false → has_response m ≡ not (flags_for m target == 0)
responds_by None target h = refl
responds_by (Some method) target h = go target.side method.response h
  where
    go : (s : MessageSide) (r : Option ℕ) → is_response s ≡ false → is_some r ≡ not (flags_of s r == 0)
    go Request None h = refl
    go Request (Some n) h = refl
    go Response r h = absurd cc

responds_is : (schema : Schema) (prepared : Prepared) → IsPrepared schema prepared → is_response prepared.target.side ≡ false
    → (wire_of schema).responds prepared.target.interface prepared.target.method ≡ not (prepared.flags == 0)
unfolding wire_of
responds_is schema prepared p h = rw p.flags (responds_by (method_of schema prepared.target) prepared.target h)

pub sealed_is : (schema : Schema) (prepared : Prepared) → IsPrepared schema prepared → (id request : ℕ) (moment : Option ℤ) (ids : List ℕ)
    → (wire_of schema).sealed prepared.target (view prepared.value) (record { id = id; request = request; ids = ids; moment = moment })
    ≡ sealed_bytes id request moment ids prepared
unfolding wire_of
sealed_is schema prepared p id request moment ids = rw (← p.flags, ← p.payload) refl

-- ## Calls

module _ (schema : Schema) (seqs : ℕ) (past : List Event) (k : Kept (wire_of schema) past) (pipes : Contents) (endpoints : Routers)
    (a : Agrees (wire_of schema) past pipes endpoints) (h : legal (wire_of schema) seqs past) (few : length past ≤ MAX_EVENTS)
    (flows : Lines) (flow : DataAgrees past flows)
    (table : List (EndpointName × Bool)) (known : KnowsPendings past table)
    (seq : SeqId) (y : EndId) (id : ℕ) (prepared : Prepared) (p : IsPrepared schema prepared) (names : CarriedNames)
    (moment : Option ℤ) where
  abbrev pub outgoing : Outgoing
  outgoing = outgoing_named prepared names moment

  abbrev pub sent : Told
  sent = Sent (request_of (wire_of schema) past y id prepared.target)
      ((wire_of schema).sealed prepared.target (view prepared.value)
      (record { id = id; request = request_of (wire_of schema) past y id prepared.target; ids = ids_of names.pendings; moment = moment }))

  abbrev pub tests_of : Endpoint → List (Option Why)
  tests_of r =
      unless (not (is_receiver r.side)) WrongSide
      ∷ unless ((prepared.target.interface == r.interface) && not (is_response prepared.target.side)) WrongMethod
      ∷ wrong_tokens (wire_of schema) past outgoing
      ∷ machine.wrong_pipe past y names.pendings
      ∷ cannot_write (wire_of schema) past y r.peer_closed names.things

  -- all that goes with the call is with its caller
  abbrev own_past : Bool
  own_past = machine.all_out past names.things && machine.all_pending past names.pendings

  outs : own_past ≡ true → list_all (λ q. has_pending (pendings_out past) q) names.pendings ≡ true
  outs e =
      and_left (list_all (λ q. has_pending (pendings_out past) q) names.pendings) (distinct_pendings names.pendings)
      (and_right (machine.all_out past names.things) (machine.all_pending past names.pendings) e)

  opened_way : own_past ≡ true → has (made past) (End y) ≡ true → (r : Endpoint)
      → told_of_way sent (way_open prepared names pipes flows endpoints y (Ok r)) ≡ first_of (tests_of r) sent
  opened_way own m r =
      test_if (is_receiver r.side) WrongSide _ _ sent
      (test_not (asks_of r.interface prepared.target) WrongMethod (way_with prepared names pipes flows endpoints y r.peer_closed) _ sent
      (with_told schema seqs past k pipes endpoints a h few prepared p names flows y r.peer_closed (outs own)
      (busy_is (wire_of schema) seqs past h flows (data_kept (wire_of schema) seqs past h) flow names.things) m sent))

  each_way : own_past ≡ true → (o : Result Endpoint Why) → (has (made past) (End y) ≡ true)
      → told_of_way sent (way_open prepared names pipes flows endpoints y o) ≡ told_of_opened o (λ r. first_of (tests_of r) sent)
  each_way own (Ok r) m = opened_way own m r
  each_way own (Err why) m = refl

  at_endpoint : (o : Option Endpoint) → endpoint_at (wire_of schema) past y id ≡ o
      → told_of_way sent (if not own_past then Err NoName else way_open prepared names pipes flows endpoints y (opened seq (is_gone past y) id o))
      ≡ called (wire_of schema) past seq y id outgoing o
  at_endpoint None e = go own_past
    where
      go : (b : Bool) → told_of_way sent (if not b then Err NoName else Err NoName) ≡ No NoName
      go true = refl
      go false = refl
  at_endpoint (Some r) e =
      let m : has (made past) (End y) ≡ true = bound_made (wire_of schema) past k (End y) (k.endpoints y id r e) in
      test_own own_past NoName (way_open prepared names pipes flows endpoints y (opened seq (is_gone past y) id (Some r))) _ sent
      (λ own. each_way own (opened seq (is_gone past y) id (Some r)) m ∙ opened_tests (is_gone past y) seq id r tests_of sent)

  -- the way of the call, by whether its caller has all
  abbrev here : Result EndId Why
  here = way seq y id prepared names (all_own pipes table names) pipes flows endpoints

  way_told : told_of_way sent here ≡ answer (wire_of schema) seqs past seq (Call y id outgoing)
  way_told =
      ap (λ (b : Bool). told_of_way sent (way seq y id prepared names b pipes flows endpoints))
      (own_is schema seqs past k pipes endpoints a h few prepared p names table known)
      ∙ (ap (λ (o : Result Endpoint Why). told_of_way sent (if not own_past then Err NoName else way_open prepared names pipes flows endpoints y o))
      (ap (λ (b : Bool). opened seq b id (found_at endpoints y id)) (closed_is (wire_of schema) past k pipes endpoints a y)
      ∙ ap (λ (o : Option Endpoint). opened seq (is_gone past y) id o) (found_is a y id))
      ∙ at_endpoint (endpoint_at (wire_of schema) past y id) refl)

  -- the number and the bytes of a call that is sent
  sent_is : is_response prepared.target.side ≡ false
      → sent ≡ Sent (request_id past y id prepared) (sealed_bytes id (request_id past y id prepared) moment (ids_of names.pendings) prepared)
  sent_is e =
      let n : request_of (wire_of schema) past y id prepared.target
      ≡ request_id past y id prepared = rw (responds_is schema prepared p e) (flip (prepared.flags == 0)) in
      rw (n, sealed_is schema prepared p id (request_id past y id prepared) moment (ids_of names.pendings)) refl
    where
      flip : (b : Bool) → (if not b then length (drawn past y id) + 1 else 0) ≡ (if b then 0 else length (drawn past y id) + 1)
      flip true = refl
      flip false = refl

  -- what is asked is refused as its way is, and else sent
  pub way_refused : (why : Why) → here ≡ Err why → answer (wire_of schema) seqs past seq (Call y id outgoing) ≡ No why
  way_refused why e = sym way_told ∙ ap (λ (w : Result EndId Why). told_of_way sent w) e

  pub way_sends : (x : EndId) → is_response prepared.target.side ≡ false → here ≡ Ok x
      → answer (wire_of schema) seqs past seq (Call y id outgoing)
      ≡ Sent (request_id past y id prepared) (sealed_bytes id (request_id past y id prepared) moment (ids_of names.pendings) prepared)
  way_sends x side e = sym way_told ∙ (ap (λ (w : Result EndId Why). told_of_way sent w) e ∙ sent_is side)

  -- ## What its way says

  asked_right : (b c : Bool) → not (b && not c) ≡ false → c ≡ false
  asked_right true true e = cc
  asked_right true false e = refl
  asked_right false c e = absurd cc

  pub open_ok : (o : Result Endpoint Why) (x : EndId) → way_open prepared names pipes flows endpoints y o ≡ Ok x → (r : Endpoint) × (o ≡ Ok r)
  open_ok (Err why) x e = absurd cc
  open_ok (Ok r) x e = (r, refl)

  open_goes : own_past ≡ true → (o : Result Endpoint Why) (x : EndId) → way_open prepared names pipes flows endpoints y o ≡ Ok x
      → (is_response prepared.target.side ≡ false) × Fits past pipes y prepared names x
  open_goes own (Err why) x e = absurd cc
  open_goes own (Ok r) x e =
      let b = passed (is_receiver r.side) WrongSide _ x e in
      let c = passed (not (asks_of r.interface prepared.target)) WrongMethod _ x b.1 in (
        asked_right (prepared.target.interface == r.interface) (is_response prepared.target.side) c.0,
        with_fits schema seqs past k pipes endpoints a h few prepared p names flows y r.peer_closed (outs own) x c.1,
      )

  -- a call that is sent is a request, and what goes with it fits
  pub goes : (x : EndId) → here ≡ Ok x → (is_response prepared.target.side ≡ false) × Fits past pipes y prepared names x
  goes x e =
      let b = passed (not (all_own pipes table names)) NoName _ x e in
      open_goes (sym (own_is schema seqs past k pipes endpoints a h few prepared p names table known) ∙ held_not (all_own pipes table names) b.0) _ x b.1
