-- What is prepared of a value is of its kind, and at most 512 brackets are open in it at once.
use Rattle.std.proofs.Common.{◌≡◌, ◌∙◌, ℕ, ◌≤◌, false, List, [], ◌∷◌, length, Option, Some, None, Ok, refl, sym, ap, subst, arith}
use Rattle.std.specs.Prelude.{option_and_then}
use Rattle.mj_schema.specs.KindTrees.{KindTree, StructKind}
use Rattle.mj_schema.specs.Lookups.{method_in}
use Rattle.mj_schema.specs.declared.rows.MethodRow.{MethodRow}
use Rattle.mj_schema.specs.declared.schema.Schema.{Schema}
use Rattle.wire_model.specs.Depth.{IsOfKind, levels}
use Rattle.wire_model.specs.Emit.{emit}
use Rattle.wire_model.specs.Expected.{struct_of}
use Rattle.wire_model.specs.Tight.{IsEncodable, MAX_DEPTH, MAX_PAYLOAD_BYTES, payload_of}
use Rattle.wire_model.specs.Trees as values
use Rattle.wire_model.specs.Trees.{Tree, Trees, none, more, view}
use Rattle.wire_model.specs.declared.target.Target.{Target}
use Rattle.wire_laws.proofs.Deep.{from_fits}
use Rattle.wire_encoder.specs.Alone.{takes_text, takes_whole}
use Rattle.wire_encoder.specs.Checks.{Check, Test, checks}
use Rattle.wire_encoder.specs.FirstFailed.{Met, nothing, step, first_failed}
use Rattle.wire_encoder.specs.Prepared.{IsPrepared, kind_for, method_of, parameters_of}
use Rattle.wire_encoder.specs.declared.prepared.Prepared.{Prepared}
use Rattle.wire_encoder.specs.declared.refusal.Flaw.TheVariants.{Misfit}
use Rattle.message_laws.proofs.Open.{open_behind}
use Rattle.printed_histories.specs.Asked.{IsSaid}

-- what the encoder's law `passed_is_encodable` says
abbrev pub PassedIsEncodable : Type 0
PassedIsEncodable = (schema : Schema) (number : ℕ) (ts : Trees) (after : Met)
    → first_failed nothing (checks schema 0 false (StructKind number false) (values.Fields ts)) ≡ Ok after
    → length (payload_of schema number ts) ≤ MAX_PAYLOAD_BYTES
    → IsEncodable schema number ts after.handles (length after.endpoints) × (after.handles ≤ 64) × (length after.endpoints ≤ 64)

-- the method of a target has a struct of this number for its side
pub record HasStruct (schema : Schema) (target : Target) (number : ℕ) : Type 0 where
  pub method : MethodRow
  pub found : method_in schema.interfaces target.interface target.method ≡ Some method
  pub struct : struct_of target.side method ≡ Some number

pub has_struct : (schema : Schema) (target : Target) (number : ℕ) → parameters_of schema target ≡ Some number → HasStruct schema target number
has_struct schema target number e = of (method_of schema target) refl e
  where
    of : (o : Option MethodRow) → method_of schema target ≡ o → option_and_then (struct_of target.side) o ≡ Some number → HasStruct schema target number
    of None found e = absurd cc
    of (Some method) found e = record { method = method; found = found; struct = e }

-- a value that stands behind no more objects than a message has
pub said_of : (schema : Schema) (number most : ℕ) (t : Tree) → IsOfKind schema (StructKind number false) t → levels false t ≤ most → most ≤ 255
    → IsSaid schema number t
said_of schema number most t kind deep few = let open_ = open_behind t in record { kind = kind; few = omega (arith, deep, few, open_) }

-- ## A struct's value has fields

-- a test that fails is passed by nothing
no_pass : {A : Type 0} (after : Met) (cs : List Check) → first_failed nothing (Test false Misfit [] ∷ cs) ≡ Ok after → A
unfolding first_failed step
no_pass after cs ok = absurd cc

is_fields : (schema : Schema) (number : ℕ) (t : Tree) (after : Met) → first_failed nothing (checks schema 0 false (StructKind number false) t) ≡ Ok after
    → (ts : Trees) × (t ≡ values.Fields ts)
unfolding checks takes_text takes_whole
is_fields schema number (values.Fields ts) after ok = (ts, refl)
is_fields schema number (values.Flag b) after ok = no_pass after _ ok
is_fields schema number (values.Whole n) after ok = no_pass after _ ok
is_fields schema number (values.Text bs) after ok = no_pass after _ ok
is_fields schema number (values.Items ts) after ok = no_pass after _ ok
is_fields schema number (values.Member tag t) after ok = no_pass after _ ok
is_fields schema number (values.Unknown tag) after ok = no_pass after _ ok
is_fields schema number (values.Handle i) after ok = no_pass after _ ok
is_fields schema number (values.Remote i v) after ok = no_pass after _ ok
is_fields schema number (values.Endpoint i) after ok = no_pass after _ ok
is_fields schema number (values.EndpointRemote i v) after ok = no_pass after _ ok
is_fields schema number values.Null after ok = no_pass after _ ok
is_fields schema number (values.Pairs none) after ok = no_pass after _ ok
is_fields schema number (values.Pairs (more (values.Flag b) us)) after ok = no_pass after _ ok
is_fields schema number (values.Pairs (more (values.Whole n) us)) after ok = no_pass after _ ok
is_fields schema number (values.Pairs (more (values.Text bs) us)) after ok = no_pass after _ ok
is_fields schema number (values.Pairs (more (values.Pairs xs) us)) after ok = no_pass after _ ok
is_fields schema number (values.Pairs (more (values.Fields xs) us)) after ok = no_pass after _ ok
is_fields schema number (values.Pairs (more (values.Member tag x) us)) after ok = no_pass after _ ok
is_fields schema number (values.Pairs (more (values.Unknown tag) us)) after ok = no_pass after _ ok
is_fields schema number (values.Pairs (more (values.Handle i) us)) after ok = no_pass after _ ok
is_fields schema number (values.Pairs (more (values.Remote i v) us)) after ok = no_pass after _ ok
is_fields schema number (values.Pairs (more (values.Endpoint i) us)) after ok = no_pass after _ ok
is_fields schema number (values.Pairs (more (values.EndpointRemote i v) us)) after ok = no_pass after _ ok
is_fields schema number (values.Pairs (more values.Null us)) after ok = no_pass after _ ok
is_fields schema number (values.Pairs (more (values.Items ks) none)) after ok = no_pass after _ ok
is_fields schema number (values.Pairs (more (values.Items ks) (more (values.Flag b) us))) after ok = no_pass after _ ok
is_fields schema number (values.Pairs (more (values.Items ks) (more (values.Whole n) us))) after ok = no_pass after _ ok
is_fields schema number (values.Pairs (more (values.Items ks) (more (values.Text bs) us))) after ok = no_pass after _ ok
is_fields schema number (values.Pairs (more (values.Items ks) (more (values.Pairs xs) us))) after ok = no_pass after _ ok
is_fields schema number (values.Pairs (more (values.Items ks) (more (values.Fields xs) us))) after ok = no_pass after _ ok
is_fields schema number (values.Pairs (more (values.Items ks) (more (values.Member tag x) us))) after ok = no_pass after _ ok
is_fields schema number (values.Pairs (more (values.Items ks) (more (values.Unknown tag) us))) after ok = no_pass after _ ok
is_fields schema number (values.Pairs (more (values.Items ks) (more (values.Handle i) us))) after ok = no_pass after _ ok
is_fields schema number (values.Pairs (more (values.Items ks) (more (values.Remote i v) us))) after ok = no_pass after _ ok
is_fields schema number (values.Pairs (more (values.Items ks) (more (values.Endpoint i) us))) after ok = no_pass after _ ok
is_fields schema number (values.Pairs (more (values.Items ks) (more (values.EndpointRemote i v) us))) after ok = no_pass after _ ok
is_fields schema number (values.Pairs (more (values.Items ks) (more values.Null us))) after ok = no_pass after _ ok
is_fields schema number (values.Pairs (more (values.Items ks) (more (values.Items vs) none))) after ok = no_pass after _ ok
is_fields schema number (values.Pairs (more (values.Items ks) (more (values.Items vs) (more u us)))) after ok = no_pass after _ ok

-- ## What was prepared

module _ (law : PassedIsEncodable) (schema : Schema) where
  -- a value that passes all checks, in few bytes
  passed_said : (number : ℕ) (t : Tree) (after : Met) → first_failed nothing (checks schema 0 false (StructKind number false) t) ≡ Ok after
      → length (emit schema false (StructKind number false) t) ≤ MAX_PAYLOAD_BYTES → IsSaid schema number t
  passed_said number t after ok short =
      let fields = is_fields schema number t after ok in
      let ts = fields.0 in
      let passes : first_failed nothing (checks schema 0 false (StructKind number false) (values.Fields ts)) ≡ Ok after =
      ap (λ (t : Tree). first_failed nothing (checks schema 0 false (StructKind number false) t)) (sym fields.1) ∙ ok in
      let few : length (payload_of schema number ts) ≤ MAX_PAYLOAD_BYTES =
      subst (λ (t : Tree). length (emit schema false (StructKind number false) t) ≤ MAX_PAYLOAD_BYTES) fields.1 short in
      let split = from_fits schema (values.Fields ts) MAX_DEPTH false (StructKind number false) (law schema number ts after passes few).0.fits in
      subst (IsSaid schema number) (sym fields.1) (said_of schema number MAX_DEPTH (values.Fields ts) split.0 split.2 (omega arith))

  pub prepared_said : (number : ℕ) (prepared : Prepared) → IsPrepared schema prepared → parameters_of schema prepared.target ≡ Some number
      → IsSaid schema number (view prepared.value)
  prepared_said number prepared is e =
      let t = view prepared.value in
      let kind : kind_for (parameters_of schema prepared.target) ≡ StructKind number false = ap kind_for e in
      let met : Met = record { handles = prepared.handles; endpoints = prepared.endpoints.items } in
      let passes : first_failed nothing (checks schema 0 false (StructKind number false) t) ≡ Ok met =
      ap (λ (k : KindTree). first_failed nothing (checks schema 0 false k t)) (sym kind) ∙ is.passes in
      let bytes : prepared.payload.items ≡ emit schema false (StructKind number false) t =
      is.payload ∙ ap (λ (k : KindTree). emit schema false k t) kind in
      let few = prepared.short in
      let same = ap length bytes in
      passed_said number t met passes (omega (arith, few, same))
