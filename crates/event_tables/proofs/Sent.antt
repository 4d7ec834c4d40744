-- What is sent, by the names of what goes with it: as of a call or an answer with the handles of these.
use Rattle.std.proofs.Common.{◌≡◌, ℕ, List, [], ◌∷◌, ap, length, map, refl, subst, sym}
use Rattle.std.specs.Prelude.{◌==◌, ◌&&◌, ℤ, Option, Result, Ok, Err, not}
use Rattle.mj_base.specs.declared.ids.EndId.{EndId}
use Rattle.mj_base.specs.declared.ids.SeqId.{SeqId}
use Rattle.wire_encoder.specs.Prepared.{IsPrepared}
use Rattle.wire_encoder.specs.declared.endpoint.EndpointSide.TheVariants.{Remote}
use Rattle.wire_encoder.specs.declared.prepared.Prepared.{Prepared}
use Rattle.wire_model.specs.Message.{AreIds}
use Rattle.bind_model.specs.Pendings.{Half, names_of}
use Rattle.bind_model.specs.Plain.{asked_of}
use Rattle.bind_model.specs.Replies.{ids_of}
use Rattle.bind_model.specs.Responders.{count_of}
use Rattle.bind_model.specs.declared.asked.Asked.{Asked}
use Rattle.bind_model.specs.declared.asked.Asked.TheVariants as asks
use Rattle.bind_model.specs.declared.endpoint.PendingId.{PendingId}
use Rattle.bind_model.specs.declared.endpoint.ResponderId.{ResponderId}
use Rattle.bind_model.specs.declared.told.Told.TheVariants as tells
use Rattle.bind_model.specs.declared.told.Why.{Why}
use Rattle.core_sending.specs.declared.answer.Response.{Response}
use Rattle.core_sending.specs.declared.call.Request.{Request}
use Rattle.core_sending.specs.declared.carried.Carried.{Carried}
use Rattle.core_sending.specs.declared.carried.CarriedNames.{CarriedNames}
use Rattle.core_sending.specs.Answering as answering
use Rattle.core_sending.specs.Answering.{way_back}
use Rattle.core_sending.specs.Calls as calls
use Rattle.core_sending.specs.Calls.{outgoing_named}
use Rattle.core_sending.specs.Carrying.{all_own, names_in}
use Rattle.core_sending.specs.Fitting.{way}
use Rattle.core_state.specs.Agreement.{schema_of}
use Rattle.core_state.specs.Doing.{CanDo, HasRoom, told_to}
use Rattle.core_state.specs.declared.state.State.{State}
use Rattle.core_sending.proofs.Called as called
use Rattle.core_sending.proofs.Replied as replied

-- a pending of this name; nothing else is asked of it
abbrev pub half_of : PendingId → Half
half_of p = record { name = p; side = Remote; interface = 0 }

names_back : (ps : List PendingId) → names_of (map half_of ps) ≡ ps
names_back [] = refl
names_back (p ∷ ps) = ap (λ (qs : List PendingId). p ∷ qs) (names_back ps)

-- what is of these names
abbrev pub carried_of : CarriedNames → Carried
carried_of names = record { handles = names.things; pendings = map half_of names.pendings }

pub named : (names : CarriedNames) → names_in (carried_of names) ≡ names
named names = ap {A = List PendingId} {B = CarriedNames} (λ ps. record { things = names.things; pendings = ps }) (names_back names.pendings)

-- ## A call

abbrev pub request_of : EndId → ℕ → Prepared → CarriedNames → Option ℤ → Request
request_of end id prepared names moment = record { end = end; id = id; prepared = prepared; carried = carried_of names; moment = moment }

module _ (s : State) (seq : SeqId) (able : HasRoom s seq) (end : EndId) (id : ℕ) (prepared : Prepared) (names : CarriedNames) (moment : Option ℤ)
    (is : IsPrepared (schema_of s) prepared) where
  abbrev pub request : Request
  request = request_of end id prepared names moment

  abbrev pub can_call : CanDo s seq (calls.command_of request)
  can_call = record { able = able; prepared = is }

  abbrev call_way : CarriedNames → Result EndId Why
  call_way ns = way seq end id prepared ns (all_own s.pipes s.rights.pendings ns) s.pipes s.tables.flows s.endpoints

  pub call_asked : asked_of (calls.command_of request) ≡ asks.Call end id (outgoing_named prepared names moment)
  call_asked = ap (λ (ns : CarriedNames). asks.Call end id (outgoing_named prepared ns moment)) (named names)

  pub call_no : (why : Why) → call_way names ≡ Err why → told_to s seq (asks.Call end id (outgoing_named prepared names moment)) ≡ tells.No why
  call_no why h =
      subst (λ (a : Asked). told_to s seq a ≡ tells.No why) call_asked
      (called.call_refused s seq request can_call why (subst (λ (ns : CarriedNames). call_way ns ≡ Err why) (sym (named names)) h))

  module _ (x : EndId) (free : call_way names ≡ Ok x) where
    abbrev pub call_free : call_way (names_in (carried_of names)) ≡ Ok x
    call_free = subst (λ (ns : CarriedNames). call_way ns ≡ Ok x) (sym (named names)) free

    pub call_wanted : length (ids_of names.pendings) ≡ length prepared.endpoints.items
    call_wanted =
        subst (λ (ns : CarriedNames). length (ids_of ns.pendings) ≡ length prepared.endpoints.items) (named names)
        (called.wanted s seq request can_call x call_free)

    pub call_ids : AreIds (ids_of names.pendings)
    call_ids = subst (λ (ns : CarriedNames). AreIds (ids_of ns.pendings)) (named names) (called.are_ids s seq request can_call x call_free)

-- ## An answer

abbrev pub response_of : ResponderId → Prepared → CarriedNames → Option ℤ → Response
response_of r prepared names moment = record { responder = r; prepared = prepared; carried = carried_of names; moment = moment }

module _ (s : State) (seq : SeqId) (able : HasRoom s seq) (r : ResponderId) (prepared : Prepared) (names : CarriedNames) (moment : Option ℤ)
    (is : IsPrepared (schema_of s) prepared) where
  abbrev pub response : Response
  response = response_of r prepared names moment

  abbrev pub can_answer : CanDo s seq (answering.command_of response)
  can_answer = record { able = able; prepared = is }

  abbrev answer_way : CarriedNames → Result EndId Why
  answer_way ns =
      way_back seq r prepared ns (not (count_of s.rights.responders r == 0) && all_own s.pipes s.rights.pendings ns) s.pipes s.tables.flows s.endpoints

  pub answer_asked : asked_of (answering.command_of response) ≡ asks.Answer r (outgoing_named prepared names moment)
  answer_asked = ap (λ (ns : CarriedNames). asks.Answer r (outgoing_named prepared ns moment)) (named names)

  pub answer_no : (why : Why) → answer_way names ≡ Err why → told_to s seq (asks.Answer r (outgoing_named prepared names moment)) ≡ tells.No why
  answer_no why h =
      subst (λ (a : Asked). told_to s seq a ≡ tells.No why) answer_asked
      (replied.answer_refused s seq response can_answer why (subst (λ (ns : CarriedNames). answer_way ns ≡ Err why) (sym (named names)) h))

  module _ (x : EndId) (free : answer_way names ≡ Ok x) where
    abbrev pub answer_free : answer_way (names_in (carried_of names)) ≡ Ok x
    answer_free = subst (λ (ns : CarriedNames). answer_way ns ≡ Ok x) (sym (named names)) free

    pub answer_wanted : length (ids_of names.pendings) ≡ length prepared.endpoints.items
    answer_wanted =
        subst (λ (ns : CarriedNames). length (ids_of ns.pendings) ≡ length prepared.endpoints.items) (named names)
        (replied.wanted s seq response can_answer x answer_free)

    pub answer_ids : AreIds (ids_of names.pendings)
    answer_ids = subst (λ (ns : CarriedNames). AreIds (ids_of ns.pendings)) (named names) (replied.are_ids s seq response can_answer x answer_free)
