-- The value that a sealed message stands for is the one that was sealed.
use Rattle.std.proofs.Common.{◌≡◌, ◌≤◌, ◌<◌, ◌^◌, ℕ, suc, true, false, List, [], ◌∷◌, length, refl, sym, ap, ◌∙◌, subst, arith}
use Rattle.std.specs.Prelude.{Option, Some, None, Result, Ok, ◌&&◌, ◌==◌, option_and_then}
use Rattle.mj_base.specs.Bytes.{number32}
use Rattle.mj_schema.specs.KindTrees.{StructKind}
use Rattle.mj_schema.specs.Lookups.{method_in}
use Rattle.mj_schema.specs.declared.rows.MethodRow.{MethodRow}
use Rattle.mj_schema.specs.declared.schema.Schema.{Schema}
use Rattle.handle_table.proofs.ThingsLemmas.{and_right}
use Rattle.wire_model.specs.Emit.{emit}
use Rattle.wire_model.specs.Expected.{flags_of, struct_of}
use Rattle.wire_model.specs.HeaderMarks.{expects, responds}
use Rattle.wire_model.specs.Message as messages
use Rattle.wire_model.specs.Message.{AreIds, IsHead, message, moment_read, payload_start}
use Rattle.wire_model.specs.Tight.{IsEncodable, MAX_PAYLOAD_BYTES, MessageStandsFor, payload_of, tight_message, value_of}
use Rattle.wire_model.specs.Trees.{Endpoint, EndpointRemote, Fields, Flag, Handle, Items, Member, Null, Pairs, Remote, Text, Tree, Trees, Unknown, Whole, more, none}
use Rattle.wire_model.specs.declared.target.MessageSide.{MessageSide}
use Rattle.wire_model.specs.declared.target.MessageSide.TheVariants.{Request, Response}
use Rattle.wire_model.specs.declared.target.Target.{Target}
use Rattle.wire_laws.proofs.Whole.{message_stands}
use Rattle.wire_encoder.specs.Alone.{takes_text, takes_whole}
use Rattle.wire_encoder.specs.Checks.{Check, Test, checks}
use Rattle.wire_encoder.specs.FirstFailed.{Met, Refusal, first_failed, nothing, step}
use Rattle.wire_encoder.specs.Prepared.{flags_for, kind_for, method_of, parameters_of, payload_for, verdict}
use Rattle.wire_encoder.specs.declared.endpoint.EndpointSide.{EndpointSide}
use Rattle.wire_encoder.specs.declared.endpoint.WantedEndpoint.{WantedEndpoint}
use Rattle.wire_encoder.specs.declared.refusal.Flaw.{Flaw}
use Rattle.bind_model.specs.Replies.{all_suit, ids_of, suits, tokens_right}
use Rattle.bind_model.specs.Wire.{Content, Head, Wire}
use Rattle.bind_model.specs.WireOf.{comes_to, endpoints_met, handles_met, wire_of}
use Rattle.bind_model.specs.declared.asked.Outgoing.{Outgoing}
use Rattle.bind_model.specs.declared.endpoint.PendingId.{PendingId}
use Rattle.bind_model.specs.declared.event.Event.{Event}
use Rattle.reply_laws.specs.Own.{FitsMethod}
use Rattle.reply_laws.proofs.Reading.{Stood, head_for, method_read, sealed_is}

ids_long : (ps : List PendingId) → length (ids_of ps) ≡ length ps
ids_long [] = refl
ids_long (p ∷ ps) = ap suc (ids_long ps)

-- the flags of what is sent
record AreFlags (f : ℕ) : Type 0 where
  small : f < 2 ^ 32
  one_way : (expects f && responds f) ≡ false

are_flags : (o : Option MethodRow) (target : Target) → AreFlags (flags_for o target)
are_flags None target = record { small = omega arith; one_way = refl }
are_flags (Some row) target = go target.side row.response
  where
    go : (s : MessageSide) (r : Option ℕ) → AreFlags (flags_of s r)
    go Request None = record { small = omega arith; one_way = refl }
    go Request (Some n) = record { small = omega arith; one_way = refl }
    go Response r = record { small = omega arith; one_way = refl }

-- ## What passes all checks

-- the law of wire_encoder that fields that pass, in few bytes, are encodable
abbrev pub Passed : Type 0
Passed = (schema : Schema) (number : ℕ) (ts : Trees) (after : Met)
    → first_failed nothing (checks schema 0 false (StructKind number false) (Fields ts)) ≡ Ok after → length (payload_of schema number ts) ≤ MAX_PAYLOAD_BYTES
    → IsEncodable schema number ts after.handles (length after.endpoints) × (after.handles ≤ 64) × (length after.endpoints ≤ 64)

no_pass : (m after : Met) (flaw : Flaw) (path : List ℕ) (cs : List Check) → first_failed m (Test false flaw path ∷ cs) ≡ Ok after → ⊥
unfolding first_failed step
no_pass m after flaw path cs h = cc

-- only fields pass as a struct
of_fields : (schema : Schema) (number : ℕ) (t : Tree) (met : Met) → first_failed nothing (checks schema 0 false (StructKind number false) t) ≡ Ok met
    → (ts : Trees) × (t ≡ Fields ts)
unfolding checks takes_whole takes_text
of_fields schema number (Flag b) met h = absurd (no_pass nothing met _ _ _ h)
of_fields schema number (Whole n) met h = absurd (no_pass nothing met _ _ _ h)
of_fields schema number (Text bytes) met h = absurd (no_pass nothing met _ _ _ h)
of_fields schema number (Items ts) met h = absurd (no_pass nothing met _ _ _ h)
of_fields schema number (Pairs (more (Items ks) (more (Items vs) none))) met h = absurd (no_pass nothing met _ _ _ h)
of_fields schema number (Pairs ts) met h = absurd (no_pass nothing met _ _ _ h)
of_fields schema number (Fields ts) met h = (ts, refl)
of_fields schema number (Member tag t) met h = absurd (no_pass nothing met _ _ _ h)
of_fields schema number (Unknown tag) met h = absurd (no_pass nothing met _ _ _ h)
of_fields schema number (Handle index) met h = absurd (no_pass nothing met _ _ _ h)
of_fields schema number (Remote index version) met h = absurd (no_pass nothing met _ _ _ h)
of_fields schema number (Endpoint index) met h = absurd (no_pass nothing met _ _ _ h)
of_fields schema number (EndpointRemote index version) met h = absurd (no_pass nothing met _ _ _ h)
of_fields schema number Null met h = absurd (no_pass nothing met _ _ _ h)

-- as many endpoints are sent as are met
suit_long : (wire : Wire) (past : List Event) (ps : List PendingId) (ns : List WantedEndpoint) → all_suit wire past ps ns ≡ true → length ps ≡ length ns
suit_long wire past [] [] h = refl
suit_long wire past [] (n ∷ ns) h = absurd (let no : false ≡ true = h in cc)
suit_long wire past (p ∷ ps) [] h = absurd (let no : false ≡ true = h in cc)
suit_long wire past (p ∷ ps) (n ∷ ns) h = ap suc (suit_long wire past ps ns (and_right (suits wire past p n) (all_suit wire past ps ns) h))

sent_long : (schema : Schema) (past : List Event) (s : Outgoing) (met : Met) → verdict schema s.target s.parameters ≡ Ok met
    → tokens_right (wire_of schema) past s ≡ true → length s.pendings ≡ length met.endpoints
unfolding wire_of
sent_long schema past s met passes h =
    suit_long (wire_of schema) past s.pendings (endpoints_met (verdict schema s.target s.parameters))
    (and_right (length s.handles == handles_met (verdict schema s.target s.parameters))
    (all_suit (wire_of schema) past s.pendings (endpoints_met (verdict schema s.target s.parameters))) h)
    ∙ ap (λ (o : Result Met Refusal). length (endpoints_met o)) passes

-- fields that can be encoded, with as many ids as endpoints are sent
record Encodes (schema : Schema) (s : Outgoing) (number : ℕ) : Type 0 where
  fields : Trees
  handles : ℕ
  value : s.parameters ≡ Fields fields
  encodable : IsEncodable schema number fields handles (length (ids_of s.pendings))
  few : length (ids_of s.pendings) ≤ 64

encodes : Passed → (schema : Schema) (past : List Event) (s : Outgoing) (number : ℕ) → FitsMethod schema s → tokens_right (wire_of schema) past s ≡ true
    → parameters_of schema s.target ≡ Some number → Encodes schema s number
encodes passed schema past s number fits tokens struct =
    let all : first_failed nothing (checks schema 0 false (StructKind number false) s.parameters) ≡ Ok fits.met =
    ap (λ (o : Option ℕ). first_failed nothing (checks schema 0 false (kind_for o) s.parameters)) (sym struct) ∙ fits.passes in
    let found = of_fields schema number s.parameters fits.met all in
    let ran : first_failed nothing (checks schema 0 false (StructKind number false) (Fields found.0)) ≡ Ok fits.met =
    ap (λ (t : Tree). first_failed nothing (checks schema 0 false (StructKind number false) t)) (sym found.1) ∙ all in
    let same : length (payload_for schema s.target s.parameters) ≡ length (payload_of schema number found.0) =
    ap (λ (o : Option ℕ). length (emit schema false (kind_for o) s.parameters)) struct
    ∙ ap (λ (t : Tree). length (emit schema false (StructKind number false) t)) found.1 in
    let short = fits.short in
    let e = passed schema number found.0 fits.met ran (omega (arith, same, short)) in
    let long : length fits.met.endpoints ≡ length (ids_of s.pendings) = sym (ids_long s.pendings ∙ sent_long schema past s fits.met fits.passes tokens) in
    let few = e.2 in
    record {
      fields = found.0;
      handles = fits.met.handles;
      value = found.1;
      encodable = subst (λ (n : ℕ). IsEncodable schema number found.0 fits.met.handles n) long e.0;
      few = omega (arith, long, few);
    }

module _ (passed : Passed) (schema : Schema) (past : List Event) (s : Outgoing) (id request : ℕ) (bytes : List ℕ)
    (is : bytes ≡ (wire_of schema).sealed s.target s.parameters (record { id = id; request = request; ids = ids_of s.pendings; moment = s.moment }))
    (small : id < 2 ^ 32) (low : request < 2 ^ 64) (named : AreIds (ids_of s.pendings)) (tokens : tokens_right (wire_of schema) past s ≡ true)
    (fits : FitsMethod schema s) (number : ℕ) (struct : parameters_of schema s.target ≡ Some number) where
  abbrev head : Head
  head = record { id = id; request = request; ids = ids_of s.pendings; moment = s.moment }

  abbrev front : messages.Head
  front = head_for schema s.target head

  whole : Encodes schema s number
  whole = encodes passed schema past s number fits tokens struct

  room : IsHead front
  room =
      let f = are_flags (method_of schema s.target) s.target in
      let most = whole.few in
      record {
        interface = small;
        name = fits.method;
        flags = f.small;
        nonce = omega arith;
        request = low;
        moment = fits.moment;
        one_way = f.one_way;
        ids = named;
        few = omega (arith, most);
      }

  payload_is : payload_for schema s.target s.parameters ≡ payload_of schema number whole.fields
  payload_is =
      ap (λ (o : Option ℕ). emit schema false (kind_for o) s.parameters) struct
      ∙ ap (λ (t : Tree). emit schema false (StructKind number false) t) whole.value

  tight : bytes ≡ tight_message schema number whole.fields front
  tight = is ∙ sealed_is schema s.target s.parameters head ∙ ap (message front) payload_is

  stands : MessageStandsFor schema (tight_message schema number whole.fields front) front number whole.fields whole.handles
  stands = message_stands schema number whole.fields whole.handles front room whole.encodable

  value_is : value_of schema bytes (payload_start bytes) number ≡ s.parameters
  value_is =
      ap (λ (bs : List ℕ). value_of schema bs (payload_start bs) number) tight
      ∙ ap (λ (n : ℕ). value_of schema (tight_message schema number whole.fields front) n number) stands.heads.starts
      ∙ stands.stands.means
      ∙ sym whole.value

  moment_is : moment_read bytes ≡ s.moment
  moment_is = ap moment_read tight ∙ stands.heads.moment

-- what was sealed stands for its value, at its moment, at an endpoint of its interface and side
pub same_value : Passed → (schema : Schema) (past : List Event) (s : Outgoing) (id request : ℕ) (bytes : List ℕ)
    → bytes ≡ (wire_of schema).sealed s.target s.parameters (record { id = id; request = request; ids = ids_of s.pendings; moment = s.moment })
    → id < 2 ^ 32 → request < 2 ^ 64 → AreIds (ids_of s.pendings) → tokens_right (wire_of schema) past s ≡ true → FitsMethod schema s
    → (side : EndpointSide) (interface : ℕ) (c : Content) → Stood schema side interface bytes c → interface ≡ s.target.interface
    → comes_to side ≡ s.target.side → (c.target ≡ s.target) × (c.parameters ≡ s.parameters) × (c.moment ≡ s.moment)
same_value passed schema past s id request bytes is small low named tokens fits side interface c q at comes =
    let head : Head = record { id = id; request = request; ids = ids_of s.pendings; moment = s.moment } in
    let name : number32 bytes 12 ≡ s.target.method = method_read schema s.target s.parameters head bytes is fits.method in
    let target : ◌≡◌ {A = Target} (record { interface = interface; method = number32 bytes 12; side = comes_to side }) s.target =
    λ i. record { interface = at i; method = name i; side = comes i } in
    let moved : method_in schema.interfaces interface (number32 bytes 12) ≡ method_in schema.interfaces s.target.interface s.target.method =
    λ i. method_in schema.interfaces (at i) (name i) in
    let row : method_of schema s.target ≡ Some q.row = sym moved ∙ q.named in
    let struct : parameters_of schema s.target ≡ Some q.number =
    ap (λ (o : Option MethodRow). option_and_then (struct_of s.target.side) o) row
    ∙ (ap (λ (side : MessageSide). struct_of side q.row) (sym comes) ∙ q.struct) in
    let got : c.target ≡ record { interface = interface; method = number32 bytes 12; side = comes_to side } = ap (λ (x : Content). x.target) q.content in
    let read : c.parameters ≡ value_of schema bytes (payload_start bytes) q.number = ap (λ (x : Content). x.parameters) q.content in
    let timed : c.moment ≡ moment_read bytes = ap (λ (x : Content). x.moment) q.content in (
      got ∙ target,
      read ∙ value_is passed schema past s id request bytes is small low named tokens fits q.number struct,
      timed ∙ moment_is passed schema past s id request bytes is small low named tokens fits q.number struct,
    )
