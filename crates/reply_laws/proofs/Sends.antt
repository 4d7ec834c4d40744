-- What is known of a call and of an answer that were sent; and a responder that is with a caller was handed out.
use Rattle.std.proofs.Common.{◌≡◌, ◌≤◌, ℕ, Bool, true, false, List, [], ◌∷◌, length, refl, sym, ap, ◌∙◌, subst, arith, inl, inr}
use Rattle.std.specs.Prelude.{◌==◌, ◌&&◌, ◌||◌, not, Option, Some, None, if◌then◌else◌}
use Rattle.std.specs.List.{list_any}
use Rattle.std.proofs.lemmas.Bool.{eqb-true}
use Rattle.std.proofs.lemmas.List.{length-append}
use Rattle.std.proofs.lemmas.List.Folds.{list_any-append}
use Rattle.mj_base.specs.declared.ids.EndId.{EndId}
use Rattle.mj_base.specs.declared.ids.SeqId.{SeqId}
use Rattle.handle_table.specs.Things.{same_end, alike}
use Rattle.handle_table.proofs.ThingsLemmas.{and_left, and_right, or_cases, or_left, or_right, same_end-true}
use Rattle.wire_model.specs.declared.target.MessageSide.TheVariants.{Response}
use Rattle.wire_model.specs.declared.target.Target.{Target}
use Rattle.bind_model.specs.Machine.{endpoint_at, is_gone, is_closed}
use Rattle.bind_model.specs.Replies.{all_out, all_pending, answer, answered_with, called, cannot_write, drawn, draws, Drawn, elsewhere, ids_of, is_receiver, is_response, less_one, request_of, responders_after, responders_handed, responders_out, same_responder, same_target, tokens_right, unbound, unless, wrong_pipe, wrong_tokens}
use Rattle.bind_model.specs.Wire.{Wire}
use Rattle.bind_model.specs.declared.asked.Asked.{Asked}
use Rattle.bind_model.specs.declared.asked.Asked.TheVariants.{Answer, Call, Close, Take}
use Rattle.bind_model.specs.declared.asked.Closing.TheVariants as closings
use Rattle.bind_model.specs.declared.asked.Outgoing.{Outgoing}
use Rattle.bind_model.specs.declared.endpoint.Endpoint.{Endpoint}
use Rattle.bind_model.specs.declared.endpoint.ResponderId.{ResponderId}
use Rattle.bind_model.specs.declared.event.Event.{Event}
use Rattle.bind_model.specs.declared.told.Got.{Got}
use Rattle.bind_model.specs.declared.told.Told.{Told}
use Rattle.bind_model.specs.declared.told.Told.TheVariants.{Closed, No, Sent, Taken}
use Rattle.bind_model.specs.declared.told.Why.TheVariants.{Disconnected, NoName, WrongMethod, WrongSide, WrongTokens}
use Rattle.bind_model.proofs.Outcomes.{first_cases, held, is_true, left_true, right_true}
use Rattle.reply_laws.specs.Own.{Earlier, latest, before}

-- ## What was sent

abbrev request_in : Told → ℕ
request_in (Sent request bytes) = request
request_in told = 0

abbrev bytes_in : Told → List ℕ
bytes_in (Sent request bytes) = bytes
bytes_in told = []

pub record Called (wire : Wire) (past : List Event) (y : EndId) (id : ℕ) (s : Outgoing) (request : ℕ) (bytes : List ℕ) : Type 0 where
  pub r : Endpoint
  pub here : endpoint_at wire past y id ≡ Some r
  pub known : all_pending past s.pendings ≡ true
  pub asks : is_response s.target.side ≡ false
  pub tokens : tokens_right wire past s ≡ true
  pub number : request ≡ request_of wire past y id s.target
  pub sealed : bytes ≡ wire.sealed s.target s.parameters (record { id = id; request = request; ids = ids_of s.pendings; moment = s.moment })

pub record Answered (wire : Wire) (past : List Event) (q : ResponderId) (s : Outgoing) (bytes : List ℕ) : Type 0 where
  pub r : Endpoint
  pub here : endpoint_at wire past q.end q.id ≡ Some r
  pub known : all_pending past s.pendings ≡ true
  pub out : list_any (λ p. same_responder p q) (responders_out wire past) ≡ true
  pub target : same_target s.target (record { interface = q.interface; method = q.method; side = Response }) ≡ true
  pub tokens : tokens_right wire past s ≡ true
  pub sealed : bytes ≡ wire.sealed s.target s.parameters (record { id = q.id; request = q.request; ids = ids_of s.pendings; moment = s.moment })

module _ (wire : Wire) (seqs : ℕ) (past : List Event) (seq : SeqId) where
  call_by : (y : EndId) (id : ℕ) (s : Outgoing) (request : ℕ) (bytes : List ℕ) (o : Option Endpoint) → endpoint_at wire past y id ≡ o
      → Sent request bytes ≡ called wire past seq y id s o → Called wire past y id s request bytes
  call_by y id s request bytes None e h = absurd cc
  call_by y id s request bytes (Some r) e h = elim (first_cases (
      unless (all_out past s.handles && all_pending past s.pendings) NoName
      ∷ unless (not (is_gone past y || is_closed r)) Disconnected
      ∷ unbound id r
      ∷ elsewhere seq r
      ∷ unless (not (is_receiver r.side)) WrongSide
      ∷ unless ((s.target.interface == r.interface) && not (is_response s.target.side)) WrongMethod
      ∷ wrong_tokens wire past s
      ∷ wrong_pipe past y s.pendings
      ∷ cannot_write wire past y r.peer_closed s.handles)
      (Sent (request_of wire past y id s.target) (wire.sealed s.target s.parameters
      (record { id = id; request = request_of wire past y id s.target; ids = ids_of s.pendings; moment = s.moment }))) (Sent request bytes) h) [
        | inl n ↦ absurd (let no : Sent request bytes ≡ No n.0 = n.1 in cc)
        | inr p ↦
            let asks = right_true (s.target.interface == r.interface) (not (is_response s.target.side))
            (held ((s.target.interface == r.interface) && not (is_response s.target.side)) WrongMethod p.0.1.1.1.1.1.0) in
            let number : request ≡ request_of wire past y id s.target = ap request_in p.1 in
            record {
              r = r;
              here = e;
              known = right_true (all_out past s.handles) (all_pending past s.pendings)
                  (held (all_out past s.handles && all_pending past s.pendings) NoName p.0.0);
              asks = is_true (is_response s.target.side) asks;
              tokens = held (tokens_right wire past s) WrongTokens p.0.1.1.1.1.1.1.0;
              number = number;
              sealed = ap bytes_in p.1
                  ∙ ap (λ (n : ℕ). wire.sealed s.target s.parameters (record { id = id; request = n; ids = ids_of s.pendings; moment = s.moment }))
                  (sym number);
            }
      ]

  answer_by : (q : ResponderId) (s : Outgoing) (request : ℕ) (bytes : List ℕ) (o : Option Endpoint) → endpoint_at wire past q.end q.id ≡ o
      → Sent request bytes ≡ answered_with wire past seq q s o → Answered wire past q s bytes
  answer_by q s request bytes None e h = absurd cc
  answer_by q s request bytes (Some r) e h = elim (first_cases (
      unless (list_any (λ p. same_responder p q) (responders_out wire past) && all_out past s.handles && all_pending past s.pendings) NoName
      ∷ unless (not (is_gone past q.end || is_closed r)) Disconnected
      ∷ elsewhere seq r
      ∷ unless (same_target s.target (record { interface = q.interface; method = q.method; side = Response })) WrongMethod
      ∷ wrong_tokens wire past s
      ∷ wrong_pipe past q.end s.pendings
      ∷ cannot_write wire past q.end r.peer_closed s.handles)
      (Sent q.request (wire.sealed s.target s.parameters (record { id = q.id; request = q.request; ids = ids_of s.pendings; moment = s.moment })))
      (Sent request bytes) h) [
        | inl n ↦ absurd (let no : Sent request bytes ≡ No n.0 = n.1 in cc)
        | inr p ↦
            let all = held (list_any (λ p. same_responder p q) (responders_out wire past) && all_out past s.handles && all_pending past s.pendings) NoName
            p.0.0 in
            record {
              r = r;
              here = e;
              known = right_true (list_any (λ p. same_responder p q) (responders_out wire past) && all_out past s.handles)
                  (all_pending past s.pendings) all;
              out = left_true (list_any (λ p. same_responder p q) (responders_out wire past)) (all_out past s.handles)
                  (left_true (list_any (λ p. same_responder p q) (responders_out wire past) && all_out past s.handles)
                  (all_pending past s.pendings) all);
              target = held (same_target s.target (record { interface = q.interface; method = q.method; side = Response })) WrongMethod p.0.1.1.1.0;
              tokens = held (tokens_right wire past s) WrongTokens p.0.1.1.1.1.0;
              sealed = ap bytes_in p.1;
            }
      ]

  pub call_sent : (y : EndId) (id : ℕ) (s : Outgoing) (request : ℕ) (bytes : List ℕ) → Sent request bytes ≡ answer wire seqs past seq (Call y id s)
      → Called wire past y id s request bytes
  call_sent y id s request bytes h = call_by y id s request bytes (endpoint_at wire past y id) refl h

  pub answer_sent : (q : ResponderId) (s : Outgoing) (request : ℕ) (bytes : List ℕ) → Sent request bytes ≡ answer wire seqs past seq (Answer q s)
      → Answered wire past q s bytes
  answer_sent q s request bytes h = answer_by q s request bytes (endpoint_at wire past q.end q.id) refl h

-- an answer is a response of its responder's method
pub record OfMethod (t : Target) (q : ResponderId) : Type 0 where
  pub interface : t.interface ≡ q.interface
  pub method : t.method ≡ q.method
  pub response : is_response t.side ≡ true

pub of_method : (t : Target) (q : ResponderId) → same_target t (record { interface = q.interface; method = q.method; side = Response }) ≡ true → OfMethod t q
of_method t q h =
    let both = and_left ((t.interface == q.interface) && (t.method == q.method)) (alike (is_response t.side) true) h in
    record {
      interface = eqb-true t.interface q.interface (and_left (t.interface == q.interface) (t.method == q.method) both);
      method = eqb-true t.method q.method (and_right (t.interface == q.interface) (t.method == q.method) both);
      response = answers (is_response t.side)
          (and_right ((t.interface == q.interface) && (t.method == q.method)) (alike (is_response t.side) true) h);
    }
  where
    answers : (b : Bool) → alike b true ≡ true → b ≡ true
    answers true e = refl
    answers false e = absurd cc

-- ## Numbers of requests

draws_one : (told : Told) (asked : Asked) (x : EndId) (id : ℕ) → length (draws told asked x id) ≤ 1
draws_one (Sent request bytes) (Call y n s) x id = go (same_end y x && (n == id) && not (request == 0))
  where
    go : (b : Bool) → length {A = Drawn} (if b then record { request = request; method = s.target.method } ∷ [] else []) ≤ 1
    go true = omega arith
    go false = omega arith
draws_one told asked x id = omega arith

pub drawn_few : (past : List Event) (x : EndId) (id : ℕ) → length (drawn past x id) ≤ length past
drawn_few [] x id = omega arith
drawn_few (event ∷ past) x id =
    let all = length-append (drawn past x id) (draws event.told event.asked x id) in
    let rest = drawn_few past x id in
    let one = draws_one event.told event.asked x id in
    omega (arith, all, rest, one)

-- ## Responders

none : {A : Type 0} → false ≡ true → A
none e = absurd cc

responder-true : (q r : ResponderId) → same_responder q r ≡ true → q ≡ r
responder-true q r h =
    let a = and_left (same_end q.end r.end && (q.id == r.id) && (q.request == r.request) && (q.interface == r.interface)) (q.method == r.method) h in
    let b = and_left (same_end q.end r.end && (q.id == r.id) && (q.request == r.request)) (q.interface == r.interface) a in
    let c = and_left (same_end q.end r.end && (q.id == r.id)) (q.request == r.request) b in
    let end : q.end ≡ r.end = same_end-true q.end r.end (and_left (same_end q.end r.end) (q.id == r.id) c) in
    let id : q.id ≡ r.id = eqb-true q.id r.id (and_right (same_end q.end r.end) (q.id == r.id) c) in
    let request : q.request ≡ r.request = eqb-true q.request r.request (and_right (same_end q.end r.end && (q.id == r.id)) (q.request == r.request) b) in
    let interface : q.interface ≡ r.interface = eqb-true q.interface r.interface
    (and_right (same_end q.end r.end && (q.id == r.id) && (q.request == r.request)) (q.interface == r.interface) a) in
    let method : q.method ≡ r.method = eqb-true q.method r.method
    (and_right (same_end q.end r.end && (q.id == r.id) && (q.request == r.request) && (q.interface == r.interface)) (q.method == r.method) h) in
    λ i. record { end = end i; id = id i; request = request i; interface = interface i; method = method i }

-- the responder of a request that was got
abbrev made : EndId → Got → ResponderId
made y g = record { end = y; id = g.id; request = g.request; interface = g.target.interface; method = g.target.method }

module _ (wire : Wire) (q : ResponderId) where
  abbrev has_it : List ResponderId → Bool
  has_it rs = list_any (λ p. same_responder p q) rs

  less_any : (r : ResponderId) (rs : List ResponderId) → has_it (less_one r rs) ≡ true → has_it rs ≡ true
  less_any r [] h = h
  less_any r (s ∷ rs) h = go (same_responder s r) (λ e. less_any r rs e) h
    where
      go : (b : Bool) → (has_it (less_one r rs) ≡ true → has_it rs ≡ true) → has_it (if b then rs else s ∷ less_one r rs) ≡ true
          → (same_responder s q || has_it rs) ≡ true
      go true rest h = or_right (same_responder s q) (has_it rs) h
      go false rest h = elim (or_cases (same_responder s q) (has_it (less_one r rs)) h) [
        | inl a ↦ or_left (same_responder s q) (has_it rs) a
        | inr b ↦ or_right (same_responder s q) (has_it rs) (rest b)
      ]

  after_any : (told : Told) (asked : Asked) (rs : List ResponderId) → has_it (responders_after told asked rs) ≡ true → has_it rs ≡ true
  after_any (Sent request bytes) (Answer r s) rs h = less_any r rs h
  after_any (Closed goes) (Close (closings.Responder r)) rs h = less_any r rs h
  after_any told asked rs h = h

  only : (b : Bool) → (b || false) ≡ true → b ≡ true
  only true h = refl
  only false h = h

  pub given_one : (told : Told) (asked : Asked) → has_it (responders_handed wire told asked) ≡ true → responders_handed wire told asked ≡ q ∷ []
  given_one (Taken g) (Take y) h = go (not (is_response g.target.side) && wire.responds g.target.interface g.target.method) h
    where
      go : (b : Bool) → has_it (if b then made y g ∷ [] else []) ≡ true → (if b then made y g ∷ [] else []) ≡ q ∷ []
      go true h = ap (λ (r : ResponderId). r ∷ []) (responder-true (made y g) q (only (same_responder (made y g) q) h))
      go false h = none h
  given_one told asked h = none h

  -- a responder that is with a caller was handed out by a take
  pub handed : (past : List Event) → has_it (responders_out wire past) ≡ true → Earlier (λ old told asked. responders_handed wire told asked ≡ q ∷ []) past
  handed [] h = none h
  handed (event ∷ past) h = elim
      (or_cases (has_it (responders_after event.told event.asked (responders_out wire past))) (has_it (responders_handed wire event.told event.asked))
      (sym (list_any-append (λ p. same_responder p q) (responders_after event.told event.asked (responders_out wire past))
      (responders_handed wire event.told event.asked)) ∙ h)) [
        | inl a ↦ before (handed past (after_any event.told event.asked (responders_out wire past) a))
        | inr b ↦ latest (given_one event.told event.asked b)
      ]

  -- the take that handed it out
  pub data HandedBy : Told → Asked → Type 0 where
    by_take : {g : Got} {y : EndId} → y ≡ q.end → g.id ≡ q.id → g.request ≡ q.request → is_response g.target.side ≡ false
        → wire.responds q.interface q.method ≡ true → wire.responds g.target.interface g.target.method ≡ true → HandedBy (Taken g) (Take y)

  no_one : ◌≡◌ {A = List ResponderId} [] (q ∷ []) → ⊥
  no_one e = cc

  pub handed_by : (told : Told) (asked : Asked) → responders_handed wire told asked ≡ q ∷ [] → HandedBy told asked
  handed_by (Taken g) (Take y) e = go (not (is_response g.target.side) && wire.responds g.target.interface g.target.method) refl e
    where
      go : (b : Bool) → (not (is_response g.target.side) && wire.responds g.target.interface g.target.method) ≡ b
          → (if b then made y g ∷ [] else []) ≡ q ∷ [] → HandedBy (Taken g) (Take y)
      go true f e =
          let is : made y g ≡ q = cc in
          by_take (ap (λ (r : ResponderId). r.end) is) (ap (λ (r : ResponderId). r.id) is) (ap (λ (r : ResponderId). r.request) is)
          (is_true (is_response g.target.side)
          (and_left (not (is_response g.target.side)) (wire.responds g.target.interface g.target.method) f))
          (subst (λ (r : ResponderId). wire.responds r.interface r.method ≡ true) is
          (and_right (not (is_response g.target.side)) (wire.responds g.target.interface g.target.method) f))
          (and_right (not (is_response g.target.side)) (wire.responds g.target.interface g.target.method) f)
      go false f e = absurd (no_one e)
  handed_by told asked e = absurd (no_one e)
