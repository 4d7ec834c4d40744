-- How many requests were seen at an endpoint never falls, and a call that is sent has the next number.
use Rattle.std.proofs.Common.{◌≡◌, ◌≤◌, ◌+◌, ◌==◌, ℕ, ℤ, suc, Bool, true, false, List, [], ◌∷◌, ◌++◌, ◌⊎◌, inl, inr, ⊎_elim, length, reverse, refl, sym, ap, ◌∙◌, subst, arith, length-append}
use Rattle.std.specs.Prelude.{Option, Some, None, Result, Ok, Err, IfOk, IfErr, IfSome, is_some, if◌then◌else◌, cond, not, ◌&&◌, ◌||◌}
use Rattle.std.specs.FinMap.{FinMap, get, insert}
use Rattle.std.proofs.lemmas.List.{reverse-append}
use Rattle.std.proofs.lemmas.Bool.{true≢false, eq-eqb, eqb-true}
use Rattle.mj_base.specs.declared.ids.EndId.{EndId}
use Rattle.mj_base.specs.declared.ids.SeqId.{SeqId}
use Rattle.handle_table.proofs.ThingsLemmas.{same_end-refl}
use Rattle.handle_table.specs.declared.thing.Thing.{Thing}
use Rattle.mj_schema.specs.declared.schema.Schema.{Schema}
use Rattle.bind_model.specs.declared.asked.Outgoing.{Outgoing}
use Rattle.bind_model.specs.declared.asked.Asked.TheVariants as asks
use Rattle.bind_model.specs.declared.endpoint.Endpoint.{Endpoint}
use Rattle.bind_model.specs.declared.event.Event.{Event}
use Rattle.bind_model.specs.declared.told.Why.{Why}
use Rattle.bind_model.specs.declared.told.Why.TheVariants.{NoName, Disconnected, WrongSide, WrongMethod}
use Rattle.bind_model.specs.declared.told.Told.{Told}
use Rattle.bind_model.specs.declared.told.Told.TheVariants as tells
use Rattle.bind_model.specs.Machine.{endpoint_at, is_closed, is_gone}
use Rattle.bind_model.specs.Replies.{all_out, all_pending, called, cannot_write, drawn, draws, elsewhere, first_of, ids_of, is_receiver, is_response, request_of, unbound, unless, wrong_pipe, wrong_tokens}
use Rattle.bind_model.specs.Wire.{Wire}
use Rattle.bind_model.specs.WireOf.{wire_of}
use Rattle.bind_model.specs.Pendings.{Half}
use Rattle.bind_model.specs.Seen.{Continues, Saw, Waited}
use Rattle.bind_model.specs.Plain.{told_of, outgoing_of}
use Rattle.bind_model.specs.declared.commands.Command.{Command}
use Rattle.bind_model.specs.declared.commands.Command.TheVariants as commands
use Rattle.bind_model.specs.declared.commands.Refused.{Refused}
use Rattle.bind_model.specs.declared.commands.Reply.{Reply}
use Rattle.bind_model.specs.declared.commands.Reply.TheVariants as replies
use Rattle.wire_encoder.specs.declared.prepared.Prepared.{Prepared}
use Rattle.response_map.specs.Keys.{key_cmp}
use Rattle.response_map.specs.declared.key.Key.{Key}
use Rattle.remote_receiver.specs.declared.jobs.Waiting.{Waiting}
use Rattle.remote_receiver.specs.Notes.{Kept}
use Rattle.remote_receiver.specs.Waits.{AreDrawn}
use Rattle.remote_receiver.specs.steps.Doing.{Keeps}
use Rattle.remote_receiver.proofs.Requests.{is_one, one_key, get_put}

-- the requests that were seen at an endpoint
abbrev pub count : List Event → EndId → ℕ → ℕ
count seen x id = length (drawn (reverse seen) x id)

more_drawn : (more past : List Event) (x : EndId) (id : ℕ) → length (drawn past x id) ≤ length (drawn (more ++ past) x id)
more_drawn [] past x id = omega arith
more_drawn (event ∷ more) past x id =
    let one = more_drawn more past x id in
    let all = length-append (drawn (more ++ past) x id) (draws event.told event.asked x id) in
    omega arith

pub count_more : (seen more : List Event) (x : EndId) (id : ℕ) → count seen x id ≤ count (seen ++ more) x id
count_more seen more x id =
    subst (λ past. length (drawn (reverse seen) x id) ≤ length (drawn past x id)) (sym (reverse-append seen more))
    (more_drawn (reverse more) (reverse seen) x id)

module _ {C : Type 0} where
  -- whoever sees more sees the calls of the jobs that wait
  pub drawn_more : (seen more : List Event) (waiting : FinMap key_cmp (Waiting C)) → AreDrawn seen waiting → AreDrawn (seen ++ more) waiting
  drawn_more seen more waiting are key w there =
      let few = are key w there in
      let grows = count_more seen more key.end key.id in
      omega arith

  pub drawn_continues : (alone : Bool) (me : SeqId) (seen now : List Event) (waiting : FinMap key_cmp (Waiting C)) → Continues alone me seen now
      → AreDrawn seen waiting → AreDrawn now waiting
  drawn_continues alone me seen now waiting more are =
      subst (λ events. AreDrawn events waiting) (sym more.all) (drawn_more seen more.between waiting are)

  pub drawn_saw : (schema : Schema) (seqs : ℕ) (alone : Bool) (me : SeqId) (seen now : List Event) (command : Command) (reply : Reply)
      (waiting : FinMap key_cmp (Waiting C)) → Saw schema seqs alone me seen now command reply → AreDrawn seen waiting → AreDrawn now waiting
  drawn_saw schema seqs alone me seen now command reply waiting saw are =
      subst (λ events. AreDrawn events waiting) (sym saw.event)
      (drawn_more saw.before _ waiting (drawn_continues alone me seen saw.before waiting saw.others are))

-- ---- the reply to a call

-- it is sent, or refused
abbrev pub AnswersCall : Told → Type 0
AnswersCall (tells.Sent request bytes) = Unit {0}
AnswersCall (tells.No why) = Unit {0}
AnswersCall told = ⊥

tested : (tests : List (Option Why)) (request : ℕ) (bytes : List ℕ) → AnswersCall (first_of tests (tells.Sent request bytes))
tested [] request bytes = tt
tested (None ∷ tests) request bytes = tested tests request bytes
tested (Some why ∷ tests) request bytes = tt

-- what a call at an endpoint that is there has to pass
abbrev tests_of : Wire → List Event → SeqId → EndId → ℕ → Outgoing → Endpoint → List (Option Why)
tests_of wire past seq y id s r =
    unless (all_out past s.handles && all_pending past s.pendings) NoName
    ∷ unless (not (is_gone past y || is_closed r)) Disconnected
    ∷ unbound id r
    ∷ elsewhere seq r
    ∷ unless (not (is_receiver r.side)) WrongSide
    ∷ unless ((s.target.interface == r.interface) && not (is_response s.target.side)) WrongMethod
    ∷ wrong_tokens wire past s
    ∷ wrong_pipe past y s.pendings
    ∷ cannot_write wire past y r.peer_closed s.handles

abbrev bytes_of : Wire → List Event → EndId → ℕ → Outgoing → List ℕ
bytes_of wire past y id s =
    wire.sealed s.target s.parameters (record { id = id; request = request_of wire past y id s.target; ids = ids_of s.pendings; moment = s.moment })

pub answers_call : (wire : Wire) (past : List Event) (seq : SeqId) (y : EndId) (id : ℕ) (s : Outgoing) (e : Option Endpoint)
    → AnswersCall (called wire past seq y id s e)
answers_call wire past seq y id s None = tt
answers_call wire past seq y id s (Some r) =
    tested (tests_of wire past seq y id s r) (request_of wire past y id s.target) (bytes_of wire past y id s)

-- which no other reply is
pub only_two : (reply : Reply) → AnswersCall (told_of reply) → ((request : ℕ) (bytes : List ℕ) → reply ≡ replies.Sent request bytes → ⊥)
    → ((why : Why) (back : Command) → reply ≡ replies.No why back → ⊥) → ⊥
only_two (replies.Sent request bytes) a sent refused = sent request bytes refl
only_two (replies.No why back) a sent refused = refused why back refl
only_two reply a sent refused = a

sent_request : (tests : List (Option Why)) (request number : ℕ) (bytes sealed : List ℕ) → tells.Sent request bytes ≡ first_of tests (tells.Sent number sealed)
    → request ≡ number
sent_request [] request number bytes sealed e = cc
sent_request (None ∷ tests) request number bytes sealed e = sent_request tests request number bytes sealed e
sent_request (Some why ∷ tests) request number bytes sealed e = cc

pub call_request : (wire : Wire) (past : List Event) (seq : SeqId) (y : EndId) (id : ℕ) (s : Outgoing) (e : Option Endpoint) (request : ℕ) (bytes : List ℕ)
    → tells.Sent request bytes ≡ called wire past seq y id s e → request ≡ request_of wire past y id s.target
call_request wire past seq y id s None request bytes e = cc
call_request wire past seq y id s (Some r) request bytes e =
    sent_request (tests_of wire past seq y id s r) request (request_of wire past y id s.target) bytes (bytes_of wire past y id s) e

none_where : {X : Type 0} (o : Option X) → ((x : X) → o ≡ Some x → ⊥) → o ≡ None
none_where None never = refl
none_where (Some x) never = absurd (never x refl)

next_number : (b : Bool) (n request : ℕ) → b ≡ true → request ≡ (if b then n + 1 else 0) → request ≡ suc n
next_number true n request t e = omega arith
next_number false n request t e = absurd (true≢false (sym t))

no_number : (b : Bool) (n request : ℕ) → b ≡ false → request ≡ (if b then n + 1 else 0) → request ≡ 0
no_number true n request t e = absurd (true≢false t)
no_number false n request t e = e

-- ---- what a step of the stepper leaves

module _ {C : Type 0} where
  pub drawn_stepped : (schema : Schema) (seqs : ℕ) (alone : Bool) (me : SeqId) (seen now : List Event) (command : Command)
      (waiting : FinMap key_cmp (Waiting C)) (outcome : Result Reply Refused) → IfOk outcome (λ reply. Saw schema seqs alone me seen now command reply)
      → IfErr outcome (λ refused. Waited schema seqs alone me seen now command refused) → AreDrawn seen waiting → AreDrawn now waiting
  drawn_stepped schema seqs alone me seen now command waiting (Ok reply) saw waited are = drawn_saw schema seqs alone me seen now command reply waiting saw are
  drawn_stepped schema seqs alone me seen now command waiting (Err refused) saw waited are = drawn_continues alone me seen now waiting waited.others are

-- the events that a call's reply is read off, and the number of its request
module _ (schema : Schema) (seqs : ℕ) (alone : Bool) (me : SeqId) (seen now : List Event) (end : EndId) (id : ℕ) (prepared : Prepared)
    (handles : List Thing) (pendings : List Half) (moment : Option ℤ) where
  abbrev call : Command
  call = commands.Call end id prepared handles pendings moment

  call_told : (reply : Reply) → Saw schema seqs alone me seen now call reply
      → (before : List Event) × (told_of reply ≡ called (wire_of schema) (reverse before) me end id (outgoing_of prepared handles pendings moment)
      (endpoint_at (wire_of schema) (reverse before) end id))
  call_told reply saw = (saw.before, saw.told)

  -- the reply to a call is Sent or No
  pub is_answered : (reply : Reply) → Saw schema seqs alone me seen now call reply → AnswersCall (told_of reply)
  is_answered reply saw =
      let told = call_told reply saw in
      subst AnswersCall (sym told.1)
      (answers_call (wire_of schema) (reverse told.0) me end id (outgoing_of prepared handles pendings moment)
      (endpoint_at (wire_of schema) (reverse told.0) end id))

  pub next_request : (request : ℕ) (bytes : List ℕ) → Saw schema seqs alone me seen now call (replies.Sent request bytes)
      → (wire_of schema).responds prepared.target.interface prepared.target.method ≡ true
      → (before : List Event) × Continues alone me seen before × (request ≡ suc (count before end id))
  next_request request bytes saw responds = (
    saw.before,
    saw.others,
    next_number ((wire_of schema).responds prepared.target.interface prepared.target.method) (count saw.before end id) request responds
        (call_request (wire_of schema) (reverse saw.before) me end id (outgoing_of prepared handles pendings moment)
        (endpoint_at (wire_of schema) (reverse saw.before) end id) request bytes saw.told),
  )

  -- no job waits under the next request
  pub no_job_yet : {C : Type 0} (waiting : FinMap key_cmp (Waiting C)) (request : ℕ) (bytes : List ℕ)
      → Saw schema seqs alone me seen now call (replies.Sent request bytes)
      → (wire_of schema).responds prepared.target.interface prepared.target.method ≡ true → AreDrawn seen waiting
      → get waiting (record { end = end; id = id; request = request }) ≡ None
  no_job_yet waiting request bytes saw responds are =
      let next = next_request request bytes saw responds in
      let drawn = drawn_continues alone me seen next.0 waiting next.1 are in
      none_where _ (λ w there. let few = drawn (record { end = end; id = id; request = request }) w there in let is = next.2 in omega arith)

  count_step : (before : List Event) (event : Event) → count (before ++ event ∷ []) end id ≡ count before end id + length (draws event.told event.asked end id)
  count_step before event =
      ap (λ (past : List Event). length (drawn past end id)) (reverse-append before (event ∷ []))
      ∙ length-append (drawn (reverse before) end id) (draws event.told event.asked end id)

  -- the number of a request that was sent isn't above how many were
  pub sent_counted : (request : ℕ) (bytes : List ℕ) → Saw schema seqs alone me seen now call (replies.Sent request bytes)
      → request ≤ count now end id
  sent_counted request bytes saw =
      by (request == 0) refl ((wire_of schema).responds prepared.target.interface prepared.target.method) refl
    where
      number : request ≡ request_of (wire_of schema) (reverse saw.before) end id prepared.target
      number = call_request (wire_of schema) (reverse saw.before) me end id (outgoing_of prepared handles pendings moment)
          (endpoint_at (wire_of schema) (reverse saw.before) end id) request bytes saw.told

      counted : count now end id
          ≡ count saw.before end id + length (draws (tells.Sent request bytes) (asks.Call end id (outgoing_of prepared handles pendings moment)) end id)
      counted =
          ap (λ events. count events end id) saw.event
          ∙ count_step saw.before _
          ∙ ap (λ t. count saw.before end id + length (draws t (asks.Call end id (outgoing_of prepared handles pendings moment)) end id)) (sym saw.told)

      by : (b : Bool) → (request == 0) ≡ b → (r : Bool) → (wire_of schema).responds prepared.target.interface prepared.target.method ≡ r
          → request ≤ count now end id
      by true e r f = let zero : request ≡ 0 = eqb-true request 0 e in omega arith
      by false e true f =
          let one : length (draws (tells.Sent request bytes) (asks.Call end id (outgoing_of prepared handles pendings moment)) end id) ≡ 1 =
          rw (same_end-refl end, eq-eqb id id refl, e) refl in
          let next : request ≡ suc (count saw.before end id) = next_number _ (count saw.before end id) request f number in
          omega (arith, counted, one, next)
      by false e false f =
          let none : request ≡ 0 = no_number _ (count saw.before end id) request f number in
          omega (arith, none)

module _ {C : Type 0} where
  put_at : (b : Bool) (o : Option (Waiting C)) (v w : Waiting C) → cond b (Some v) o ≡ Some w → (b ≡ true) ⊎ (o ≡ Some w)
  put_at true o v w e = inl refl
  put_at false o v w e = inr e

  pub drawn_put : (now : List Event) (old new : FinMap key_cmp (Waiting C)) (k : Key) (v : Waiting C) → new ≡ insert old k v
      → k.request ≤ count now k.end k.id → AreDrawn now old → AreDrawn now new
  drawn_put now old new k v e few are key w there =
      ⊎_elim
      (λ is. subst (λ (q : Key). q.request ≤ count now q.end q.id) (sym (one_key key k is)) few)
      (λ was. are key w was)
      (put_at (is_one key k) (get old key) v w (sym (ap (λ m. get m key) e ∙ get_put old k v key) ∙ there))

  pub drawn_kept : (now : List Event) (old new : Kept C) (k : Key) (job : Option C) → Keeps k job old new → k.request ≤ count now k.end k.id
      → AreDrawn now old.waiting → AreDrawn now new.waiting
  drawn_kept now old new k None same few are = subst (λ (x : Kept C). AreDrawn now x.waiting) (sym same) are
  drawn_kept now old new k (Some job) keeps few are = drawn_put now old.waiting new.waiting k _ keeps.0 few are

  -- where a job came with a call, none waits under its request yet
  pub absent_yet : (schema : Schema) (seqs : ℕ) (alone : Bool) (me : SeqId) (seen now : List Event) (end : EndId) (id : ℕ) (prepared : Prepared)
      (handles : List Thing) (pendings : List Half) (moment : Option ℤ) (waiting : FinMap key_cmp (Waiting C)) (request : ℕ) (bytes : List ℕ) (job : Option C)
      → Saw schema seqs alone me seen now (commands.Call end id prepared handles pendings moment) (replies.Sent request bytes)
      → is_some job ≡ (wire_of schema).responds prepared.target.interface prepared.target.method → AreDrawn seen waiting
      → IfSome job (λ given. get waiting (record { end = end; id = id; request = request }) ≡ None)
  absent_yet schema seqs alone me seen now end id prepared handles pendings moment waiting request bytes None saw wanted are = tt
  absent_yet schema seqs alone me seen now end id prepared handles pendings moment waiting request bytes (Some job) saw wanted are =
      no_job_yet schema seqs alone me seen now end id prepared handles pendings moment waiting request bytes saw (sym wanted) are
