-- The request of a responder that was handed out has a number.
use Rattle.std.proofs.Common.{◌≡◌, ◌≤◌, ℕ, ◌+◌, ◌%◌, Bool, true, false, List, [], ◌∷◌, length, refl, sym, ap, ◌∙◌, subst, arith}
use Rattle.std.specs.Prelude.{if◌then◌else◌}
use Rattle.mj_base.specs.declared.ids.EndId.{EndId}
use Rattle.mj_base.specs.declared.ids.SeqId.{SeqId}
use Rattle.mj_base.specs.declared.limits.TheConstants.{MAX_EVENTS}
use Rattle.mj_base.specs.Bytes.{number32}
use Rattle.mj_schema.specs.declared.schema.Schema.{Schema}
use Rattle.message_pipe.specs.declared.message.Message.{Message}
use Rattle.wire_model.specs.declared.target.MessageSide.{MessageSide}
use Rattle.wire_model.specs.declared.target.MessageSide.TheVariants.{Request}
use Rattle.wire_model.specs.declared.target.Target.{Target}
use Rattle.bind_model.specs.Replies.{answer, drawn, ids_of, is_response, legal, responders_handed}
use Rattle.bind_model.specs.Wire.{Wire}
use Rattle.bind_model.specs.WireOf.{wire_of}
use Rattle.bind_model.specs.declared.asked.Asked.{Asked}
use Rattle.bind_model.specs.declared.asked.Asked.TheVariants.{Call, Take}
use Rattle.bind_model.specs.declared.endpoint.ResponderId.{ResponderId}
use Rattle.bind_model.specs.declared.event.Event.{Event}
use Rattle.bind_model.specs.declared.told.Got.{Got}
use Rattle.bind_model.specs.declared.told.Told.{Told}
use Rattle.bind_model.specs.declared.told.Told.TheVariants.{Sent, Taken}
use Rattle.bind_model.proofs.Outcomes.{Outcome, outcome, gets}
use Rattle.reply_laws.specs.Own.{Earlier, IsUnraw, IsSender}
use Rattle.reply_laws.proofs.Past.{Since, since_legal}
use Rattle.reply_laws.proofs.Reading.{asks_one, called_asks, responds_is, stood}
use Rattle.reply_laws.proofs.Sends.{call_sent, HandedBy, by_take, handed_by}
use Rattle.reply_laws.proofs.Twice.{Found, find, own_take}
use Rattle.reply_laws.proofs.Values.{Passed}
use Rattle.reply_laws.proofs.Own.{request_side}

one_message : (m n : Message) (xs ys : List Message) → ◌≡◌ {A = List Message} (m ∷ xs) (n ∷ ys) → m ≡ n
one_message m n xs ys e = cc

abbrev target_in : Target → Told → Target
target_in d (Taken g) = g.target
target_in d told = d

-- a take of a request that asks for a response got one with a number
by_sender : (schema : Schema) (seqs : ℕ) (old : List Event) → legal (wire_of schema) seqs old → {seq : SeqId} {x : EndId} {g : Got}
    → Outcome (wire_of schema) seqs old seq (Take x) (Taken g) → is_response g.target.side ≡ false
    → (wire_of schema).responds g.target.interface g.target.method ≡ true → Found (IsSender schema old x g Request) old → g.request ≡ 0 → ⊥
by_sender schema seqs old h {seq} {x} {g} (gets m hd q c f e) side asks found zero = go found.event.told found.event.asked refl refl found.is
  where
    same_target : g.target ≡ c.target
    same_target = ap (target_in g.target) e

    one : number32 m.bytes 16 % 4 ≡ 1
    one = asks_one schema q.side q.interface m.bytes c (stood schema q.side q.interface m.bytes (length m.handles) c f.stands)
        (ap (λ (t : Target). is_response t.side) (sym same_target) ∙ side)
        (ap (λ (t : Target). (wire_of schema).responds t.interface t.method) (sym same_target) ∙ asks)

    go : (told : Told) (asked : Asked) → found.event.told ≡ told → found.event.asked ≡ asked → IsSender schema old x g Request found.old told asked → ⊥
    go (Sent request bytes) (Call z k s) t a came =
        let hb = since_legal (wire_of schema) seqs found.since h in
        let told : Sent request bytes ≡ answer (wire_of schema) seqs found.old found.event.seq (Call z k s) =
        sym t ∙ hb.1 ∙ ap (answer (wire_of schema) seqs found.old found.event.seq) a in
        let call = call_sent (wire_of schema) seqs found.old found.event.seq z k s request bytes told in
        let same : m ≡ record { bytes = bytes; handles = s.handles; emitted = false } =
        one_message m (record { bytes = bytes; handles = s.handles; emitted = false }) f.front.rest came.message.0 (sym f.front.stands ∙ came.message.1) in
        let flags : number32 bytes 16 % 4 ≡ 1 = ap (λ (n : Message). number32 n.bytes 16 % 4) (sym same) ∙ one in
        let has = called_asks schema s.target s.parameters
        (record { id = k; request = request; ids = ids_of s.pendings; moment = s.moment }) bytes call.sealed call.asks flags in
        let number : request ≡ length (drawn found.old z k) + 1 =
        call.number ∙ ap (λ (b : Bool). if b then length (drawn found.old z k) + 1 else 0) (responds_is schema s.target ∙ has) in
        let none : request ≡ 0 = came.same_request ∙ zero in
        omega (arith, number, none)
    go told asked t a came = absurd came

module _ (passed : Passed) (schema : Schema) (seqs : ℕ) (top : List Event) (h : legal (wire_of schema) seqs top) (few : length top ≤ MAX_EVENTS)
    (r : ResponderId) (unraw : IsUnraw top r.end) where
  abbrev wire : Wire
  wire = wire_of schema

  by_hand : {old : List Event} (event : Event) → Since (event ∷ old) top → {told : Told} {asked : Asked} → event.told ≡ told → event.asked ≡ asked
      → HandedBy wire r told asked → r.request ≡ 0 → ⊥
  by_hand {old} event s t a (by_take {g = g} {y = x} end name request side responds asks) zero =
      let hn = since_legal wire seqs s h in
      let told : Taken g ≡ answer wire seqs old event.seq (Take x) = sym t ∙ hn.1 ∙ ap (answer wire seqs old event.seq) a in
      let own = own_take passed schema seqs top h few r.end unraw event s t a end in
      let sent : Earlier (IsSender schema old x g Request) old =
      subst (λ (d : MessageSide). Earlier (IsSender schema old x g d) old) (request_side g.target.side side) own.1 in
      by_sender schema seqs old hn.2 (outcome wire seqs old event.seq (Take x) (Taken g) told) side asks (find sent) (request ∙ zero)

  pub has_number : Earlier (λ old told asked. responders_handed wire told asked ≡ r ∷ []) top → r.request ≡ 0 → ⊥
  has_number e zero = let d = find e in by_hand d.event d.since refl refl (handed_by wire r d.event.told d.event.asked d.is) zero
