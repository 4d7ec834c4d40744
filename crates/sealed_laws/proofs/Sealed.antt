-- A value that passes all checks is read as itself where it is sealed.
use Rattle.std.proofs.Common.{◌≡◌, ◌≤◌, ◌<◌, ◌^◌, ℕ, true, false, List, ◌∷◌, length, refl, sym, ap, ◌∙◌, subst, arith}
use Rattle.std.specs.Prelude.{IsSome, is_some, Option, Some, None, Ok, ◌&&◌, option_and_then}
use Rattle.mj_base.specs.Bytes.{number32}
use Rattle.mj_schema.specs.KindTrees.{StructKind}
use Rattle.mj_schema.specs.Lookups.{method_in}
use Rattle.mj_schema.specs.declared.rows.MethodRow.{MethodRow}
use Rattle.mj_schema.specs.declared.schema.Schema.{Schema}
use Rattle.wire_model.specs.Emit.{emit}
use Rattle.wire_model.specs.Expected.{Stands, flags_of, message_value, method_named, struct_of}
use Rattle.wire_model.specs.HeaderMarks.{expects, responds}
use Rattle.wire_model.specs.Message.{Head, is_plain, message, moment_read, payload_start, request_read, written_request}
use Rattle.wire_model.specs.Tight.{IsEncodable, MAX_PAYLOAD_BYTES, MessageStandsFor, payload_of, tight_message, value_of}
use Rattle.wire_model.specs.Trees.{Endpoint, EndpointRemote, Fields, Flag, Handle, Items, Member, Null, Pairs, Remote, Text, Tree, Trees, Unknown, Whole, more, none, view}
use Rattle.wire_model.specs.declared.target.MessageSide.{MessageSide}
use Rattle.wire_model.specs.declared.target.MessageSide.TheVariants.{Request, Response}
use Rattle.wire_model.specs.declared.target.Target.{Target}
use Rattle.wire_laws.proofs.Whole.{message_stands}
use Rattle.message_validator.proofs.Sealed.{tight_stands}
use Rattle.wire_encoder.specs.Alone.{takes_text, takes_whole}
use Rattle.wire_encoder.specs.Checks.{Check, Test, checks}
use Rattle.wire_encoder.specs.FirstFailed.{MAX_HANDLES, Met, first_failed, nothing, step}
use Rattle.wire_encoder.specs.Prepared.{HasTarget, flags_for, kind_for, method_of, parameters_of, payload_for, sealed_head, verdict}
use Rattle.wire_encoder.specs.declared.refusal.Flaw.{Flaw}
use Rattle.sealed_laws.specs.Sealed.{FewAreMet, IsHeadFor, IsReadAs, PassedIsRead, SealedIsRead, expected_for, said_of}
use Rattle.sealed_laws.proofs.Requests.{said_request}

-- the law of wire_encoder that fields that pass, in few bytes, are encodable
abbrev pub Passed : Type 0
Passed = (schema : Schema) (number : ℕ) (ts : Trees) (after : Met)
    → first_failed nothing (checks schema 0 false (StructKind number false) (Fields ts)) ≡ Ok after → length (payload_of schema number ts) ≤ MAX_PAYLOAD_BYTES
    → IsEncodable schema number ts after.handles (length after.endpoints) × (after.handles ≤ 64) × (length after.endpoints ≤ 64)

-- ## Only fields pass as a struct

no_pass : (m after : Met) (flaw : Flaw) (path : List ℕ) (cs : List Check) → first_failed m (Test false flaw path ∷ cs) ≡ Ok after → ⊥
unfolding first_failed step
no_pass m after flaw path cs h = cc

-- nothing else passes
of_fields : (schema : Schema) (number : ℕ) (t : Tree) (met : Met) → first_failed nothing (checks schema 0 false (StructKind number false) t) ≡ Ok met
    → (ts : Trees) × (t ≡ Fields ts)
unfolding checks takes_whole takes_text
of_fields schema number (Flag b) met h = absurd (no_pass nothing met _ _ _ h)
of_fields schema number (Whole n) met h = absurd (no_pass nothing met _ _ _ h)
of_fields schema number (Text bytes) met h = absurd (no_pass nothing met _ _ _ h)
of_fields schema number (Items ts) met h = absurd (no_pass nothing met _ _ _ h)
of_fields schema number (Pairs (more (Items ks) (more (Items vs) none))) met h = absurd (no_pass nothing met _ _ _ h)
of_fields schema number (Pairs ts) met h = absurd (no_pass nothing met _ _ _ h)
of_fields schema number (Fields ts) met h = (ts, refl)
of_fields schema number (Member tag t) met h = absurd (no_pass nothing met _ _ _ h)
of_fields schema number (Unknown tag) met h = absurd (no_pass nothing met _ _ _ h)
of_fields schema number (Handle index) met h = absurd (no_pass nothing met _ _ _ h)
of_fields schema number (Remote index version) met h = absurd (no_pass nothing met _ _ _ h)
of_fields schema number (Endpoint index) met h = absurd (no_pass nothing met _ _ _ h)
of_fields schema number (EndpointRemote index version) met h = absurd (no_pass nothing met _ _ _ h)
of_fields schema number Null met h = absurd (no_pass nothing met _ _ _ h)

-- ## Targets

-- the flags of a target's messages
pub record AreFlags (flags : ℕ) : Type 0 where
  pub small : flags < 2 ^ 32
  pub one_way : (expects flags && responds flags) ≡ false

pub are_flags : (o : Option MethodRow) (target : Target) → AreFlags (flags_for o target)
are_flags None target = record { small = omega arith; one_way = refl }
are_flags (Some row) target = go target.side row.response
  where
    go : (s : MessageSide) (r : Option ℕ) → AreFlags (flags_of s r)
    go Request None = record { small = omega arith; one_way = refl }
    go Request (Some n) = record { small = omega arith; one_way = refl }
    go Response r = record { small = omega arith; one_way = refl }

-- the method of a target has a struct of this number for its side
pub record HasStruct (schema : Schema) (target : Target) (number : ℕ) : Type 0 where
  pub row : MethodRow
  -- it names the target's method
  pub named : method_of schema target ≡ Some row
  pub struct : struct_of target.side row ≡ Some number

pub has_struct : (schema : Schema) (target : Target) (number : ℕ) → parameters_of schema target ≡ Some number → HasStruct schema target number
has_struct schema target number e = go (method_of schema target) refl e
  where
    go : (o : Option MethodRow) → method_of schema target ≡ o → option_and_then (struct_of target.side) o ≡ Some number → HasStruct schema target number
    go None named e = absurd cc
    go (Some row) named e = record { row = row; named = named; struct = e }

-- ## What passes all checks

-- fields that are encodable
pub record Encodes (schema : Schema) (target : Target) (number : ℕ) (tree : Tree) (met : Met) : Type 0 where
  pub fields : Trees
  pub value : tree ≡ Fields fields
  pub payload : payload_for schema target tree ≡ payload_of schema number fields
  -- with as many ids as the head has
  pub encodable : IsEncodable schema number fields met.handles (length met.endpoints)
  pub few : (met.handles ≤ MAX_HANDLES) × (length met.endpoints ≤ MAX_HANDLES)

pub encodes : Passed → (schema : Schema) (target : Target) (number : ℕ) (tree : Tree) (met : Met) → parameters_of schema target ≡ Some number
    → verdict schema target tree ≡ Ok met → length (payload_for schema target tree) ≤ MAX_PAYLOAD_BYTES → Encodes schema target number tree met
encodes passed schema target number tree met there passes short =
    let all : first_failed nothing (checks schema 0 false (StructKind number false) tree) ≡ Ok met =
    ap (λ (o : Option ℕ). first_failed nothing (checks schema 0 false (kind_for o) tree)) (sym there) ∙ passes in
    let found = of_fields schema number tree met all in
    let ran : first_failed nothing (checks schema 0 false (StructKind number false) (Fields found.0)) ≡ Ok met =
    ap (λ (t : Tree). first_failed nothing (checks schema 0 false (StructKind number false) t)) (sym found.1) ∙ all in
    let payload : payload_for schema target tree ≡ payload_of schema number found.0 =
    ap (λ (o : Option ℕ). emit schema false (kind_for o) tree) there ∙ ap (λ (t : Tree). emit schema false (StructKind number false) t) found.1 in
    let same : length (payload_for schema target tree) ≡ length (payload_of schema number found.0) = ap length payload in
    let e = passed schema number found.0 met ran (omega (arith, same, short)) in
    record { fields = found.0; value = found.1; payload = payload; encodable = e.0; few = (e.1, e.2) }

module _ (schema : Schema) (target : Target) (number : ℕ) (tree : Tree) (met : Met) (head : Head) (there : parameters_of schema target ≡ Some number)
    (e : Encodes schema target number tree met) (is : IsHeadFor schema target met head) where
  -- the message
  abbrev bytes : List ℕ
  bytes = tight_message schema number e.fields head

  encodable : IsEncodable schema number e.fields met.handles (length head.ids)
  encodable = subst (λ (n : ℕ). IsEncodable schema number e.fields met.handles n) (sym is.ids) e.encodable

  -- it stands for its head and its fields
  whole : MessageStandsFor schema bytes head number e.fields met.handles
  whole = message_stands schema number e.fields met.handles head is.room encodable

  named : method_named schema (expected_for target) bytes ≡ method_of schema target
  named = ap (λ (n : ℕ). method_in schema.interfaces target.interface n) (whole.heads.name ∙ is.name)

  -- so it is let through
  stands : Stands schema (expected_for target) bytes met.handles
  stands =
      let has = has_struct schema target number there in
      tight_stands schema (expected_for target) number met.handles e.fields head has.row is.room encodable
      (ap (λ (n : ℕ). method_in schema.interfaces target.interface n) is.name ∙ has.named) has.struct
      (is.flags ∙ ap (λ (o : Option MethodRow). flags_for o target) has.named)

  -- and says the value
  says : message_value schema bytes number ≡ said_of target head tree
  says =
      let name : number32 bytes 12 ≡ target.method = whole.heads.name ∙ is.name in
      let request : request_read bytes ≡ written_request (is_plain head.flags) head.request =
      said_request head (payload_of schema number e.fields) is.room.request in
      let moment : moment_read bytes ≡ head.moment = whole.heads.moment in
      let value : value_of schema bytes (payload_start bytes) number ≡ tree =
      ap (λ (n : ℕ). value_of schema bytes n number) whole.heads.starts ∙ whole.stands.means ∙ sym e.value in
      λ i. record { method = name i; request = request i; moment = moment i; value = value i }

  -- it is read so
  read_as : IsReadAs schema target met.handles head tree (message head (payload_for schema target tree))
  read_as =
      subst (IsReadAs schema target met.handles head tree) (ap (message head) (sym e.payload))
      (record {
        number = number;
        parameters = there;
        stands = stands;
        ids = whole.heads.ids;
        found = ap (λ (o : Option MethodRow). option_and_then (struct_of target.side) o) named ∙ there;
        says = says;
      })

-- a target that is there has a struct
there_by : (schema : Schema) (target : Target) (A : Type 0) → HasTarget schema target → ((number : ℕ) → parameters_of schema target ≡ Some number → A) → A
there_by schema target A there next = go (parameters_of schema target) refl there
  where
    go : (o : Option ℕ) → parameters_of schema target ≡ o → IsSome o → A
    go None is some = absurd (let no : is_some {T = ℕ} None ≡ true = some in cc)
    go (Some number) is some = next number is

-- for the law's clause `passed`
pub passed_is_read : Passed → PassedIsRead
passed_is_read passed schema target tree met head there passes short is =
    there_by schema target (IsReadAs schema target met.handles head tree (message head (payload_for schema target tree))) there
    (λ number e. read_as schema target number tree met head e (encodes passed schema target number tree met e passes short) is)

-- for `few`
pub few_are_met : Passed → FewAreMet
few_are_met passed schema target tree met there passes short =
    there_by schema target ((met.handles ≤ MAX_HANDLES) × (length met.endpoints ≤ MAX_HANDLES)) there
    (λ number e. (encodes passed schema target number tree met e passes short).few)

-- and for `sealed`
pub sealed_is_read : Passed → SealedIsRead
sealed_is_read passed schema prepared head there is room long =
    let met : Met = record { handles = prepared.handles; endpoints = prepared.endpoints.items } in
    let short : length (payload_for schema prepared.target (view prepared.value)) ≤ MAX_PAYLOAD_BYTES =
    subst (λ (bytes : List ℕ). length bytes ≤ MAX_PAYLOAD_BYTES) is.payload prepared.short in
    subst (IsReadAs schema prepared.target prepared.handles (sealed_head prepared head) (view prepared.value))
    (ap (message (sealed_head prepared head)) (sym is.payload))
    (passed_is_read passed schema prepared.target (view prepared.value) met (sealed_head prepared head) there is.passes short
    (record { room = room; name = refl; flags = is.flags; ids = long }))
