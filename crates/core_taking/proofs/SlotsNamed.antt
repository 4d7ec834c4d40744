-- What a value names is what its checks name.
use Rattle.std.proofs.Common.{◌≡◌, ℕ, ◌+◌, Bool, true, false, List, [], ◌∷◌, ◌++◌, map, replicate, Option, Some, None, refl, ap, ◌∙◌}
use Rattle.std.specs.Prelude.{is_some}
use Rattle.mj_schema.specs.KindTrees as kinds
use Rattle.mj_schema.specs.KindTrees.{KindTree}
use Rattle.mj_schema.specs.Layout.{kind_of}
use Rattle.mj_schema.specs.declared.rows.FieldRow.{FieldRow}
use Rattle.mj_schema.specs.declared.rows.StructRow.{StructRow}
use Rattle.mj_schema.specs.declared.schema.Schema.{Schema}
use Rattle.wire_encoder.specs.Checks.{Check, Test, HandleAt, EndpointAt, Held, all_under, array_checks, checks, element_held, endpoint_checks}
use Rattle.wire_encoder.specs.Checks.{endpoint_remote_checks, field_held, list_checks, map_checks, member_checks, slot_checks, struct_checks}
use Rattle.wire_model.specs.Depth.{deeper}
use Rattle.wire_model.specs.Rows.{member_kind, row_of}
use Rattle.wire_model.specs.Trees.{Tree, Trees, Flag, Whole, Text, Items, Pairs, Fields, Member, Unknown, Handle, Remote, Endpoint, EndpointRemote, Null}
use Rattle.wire_model.specs.Trees.{none, more, count}
use Rattle.bind_model.specs.Wire.{Named}
use Rattle.bind_model.specs.WireOf.{endpoints_named}
use Rattle.core_taking.specs.steps.Slots.{array_names, each_names, field_names, map_names, member_names, names, receiver_names, remote_names, struct_names}

-- checks one after the other
named_append : (cs ds : List Check) → endpoints_named (cs ++ ds) ≡ endpoints_named cs ++ endpoints_named ds
named_append [] ds = refl
named_append (Test holds flaw path ∷ cs) ds = named_append cs ds
named_append (HandleAt index path ∷ cs) ds = named_append cs ds
named_append (EndpointAt index wanted path ∷ cs) ds =
    ap (λ (rest : List Named). record { index = index; endpoint = wanted } ∷ rest) (named_append cs ds)

-- checks seen from farther off
named_under : (step : ℕ) (cs : List Check) → endpoints_named (all_under step cs) ≡ endpoints_named cs
unfolding all_under
named_under step [] = refl
named_under step (Test holds flaw path ∷ cs) = named_under step cs
named_under step (HandleAt index path ∷ cs) = named_under step cs
named_under step (EndpointAt index wanted path ∷ cs) =
    ap (λ (rest : List Named). record { index = index; endpoint = wanted } ∷ rest) (named_under step cs)

-- what is inside, by the kind of what it is inside
receiver_is : (k : KindTree) (index : ℕ) → endpoints_named (endpoint_checks k index) ≡ receiver_names k index
receiver_is (kinds.BoolKind nullable) index = refl
receiver_is (kinds.IntKind width signed nullable) index = refl
receiver_is (kinds.EnumKind number nullable) index = refl
receiver_is (kinds.TextKind nullable) index = refl
receiver_is (kinds.HandleKind sort nullable) index = refl
receiver_is (kinds.ArrayKind of fixed nullable) index = refl
receiver_is (kinds.MapKind key value nullable) index = refl
receiver_is (kinds.StructKind number nullable) index = refl
receiver_is (kinds.UnionKind number nullable) index = refl
receiver_is (kinds.RemoteKind interface nullable) index = refl
receiver_is (kinds.ReceiverKind interface nullable) index = refl
receiver_is (kinds.AssociatedRemoteKind interface nullable) index = refl
receiver_is (kinds.AssociatedReceiverKind interface nullable) index = refl

remote_is : (k : KindTree) (index version : ℕ) → endpoints_named (endpoint_remote_checks k index version) ≡ remote_names k index
remote_is (kinds.BoolKind nullable) index version = refl
remote_is (kinds.IntKind width signed nullable) index version = refl
remote_is (kinds.EnumKind number nullable) index version = refl
remote_is (kinds.TextKind nullable) index version = refl
remote_is (kinds.HandleKind sort nullable) index version = refl
remote_is (kinds.ArrayKind of fixed nullable) index version = refl
remote_is (kinds.MapKind key value nullable) index version = refl
remote_is (kinds.StructKind number nullable) index version = refl
remote_is (kinds.UnionKind number nullable) index version = refl
remote_is (kinds.RemoteKind interface nullable) index version = refl
remote_is (kinds.ReceiverKind interface nullable) index version = refl
remote_is (kinds.AssociatedRemoteKind interface nullable) index version = refl
remote_is (kinds.AssociatedReceiverKind interface nullable) index version = refl

array_is : (k : KindTree) (n above : ℕ) (inner : List Held → List Check) (named : KindTree → List Named)
    → ((of : KindTree) → endpoints_named (inner (replicate n (element_held of))) ≡ named of)
    → endpoints_named (array_checks k n above inner) ≡ array_names k named
array_is (kinds.BoolKind nullable) n above inner named e = refl
array_is (kinds.IntKind width signed nullable) n above inner named e = refl
array_is (kinds.EnumKind number nullable) n above inner named e = refl
array_is (kinds.TextKind nullable) n above inner named e = refl
array_is (kinds.HandleKind sort nullable) n above inner named e = refl
array_is (kinds.ArrayKind of fixed nullable) n above inner named e = e of
array_is (kinds.MapKind key value nullable) n above inner named e = refl
array_is (kinds.StructKind number nullable) n above inner named e = refl
array_is (kinds.UnionKind number nullable) n above inner named e = refl
array_is (kinds.RemoteKind interface nullable) n above inner named e = refl
array_is (kinds.ReceiverKind interface nullable) n above inner named e = refl
array_is (kinds.AssociatedRemoteKind interface nullable) n above inner named e = refl
array_is (kinds.AssociatedReceiverKind interface nullable) n above inner named e = refl

module _ (n m above : ℕ) (keys values : Held → List Check) (named_keys named_values : KindTree → List Named)
    (e : (k : KindTree) → endpoints_named (keys (element_held k)) ≡ named_keys k)
    (f : (k : KindTree) → endpoints_named (values (element_held k)) ≡ named_values k) where
  map_is : (k : KindTree) → endpoints_named (map_checks k n m above keys values) ≡ map_names k named_keys named_values
  map_is (kinds.BoolKind nullable) = refl
  map_is (kinds.IntKind width signed nullable) = refl
  map_is (kinds.EnumKind number nullable) = refl
  map_is (kinds.TextKind nullable) = refl
  map_is (kinds.HandleKind sort nullable) = refl
  map_is (kinds.ArrayKind of fixed nullable) = refl
  map_is (kinds.MapKind key value nullable) =
      named_append (all_under 0 (keys (element_held key))) (all_under 1 (values (element_held value)))
      ∙ (ap (λ a. a ++ endpoints_named (all_under 1 (values (element_held value)))) (named_under 0 (keys (element_held key)) ∙ e key)
      ∙ ap (λ b. named_keys key ++ b) (named_under 1 (values (element_held value)) ∙ f value))
  map_is (kinds.StructKind number nullable) = refl
  map_is (kinds.UnionKind number nullable) = refl
  map_is (kinds.RemoteKind interface nullable) = refl
  map_is (kinds.ReceiverKind interface nullable) = refl
  map_is (kinds.AssociatedRemoteKind interface nullable) = refl
  map_is (kinds.AssociatedReceiverKind interface nullable) = refl

struct_is : (row : Option StructRow) (n above : ℕ) (inner : List Held → List Check) (named : List KindTree → List Named)
    → ((fs : List FieldRow) → endpoints_named (inner (map field_held fs)) ≡ named (map kind_of fs))
    → endpoints_named (struct_checks row n above inner) ≡ struct_names row named
struct_is None n above inner named e = refl
struct_is (Some row) n above inner named e = e row.fields

-- a value that is left out names nothing
slot_is : (flagged : Bool) (schema : Schema) (k : KindTree) (t : Tree) (inner : List Check) → endpoints_named inner ≡ names schema k t
    → endpoints_named (slot_checks flagged t inner) ≡ names schema k t
slot_is false schema k t inner e = e
slot_is true schema k Null inner e = refl
slot_is true schema k _ inner e = e

member_is : (held : Option KindTree) (inline : Bool) (tag above : ℕ) (inner : KindTree → List Check) (named : KindTree → List Named)
    → ((k : KindTree) → endpoints_named (inner k) ≡ named k) → endpoints_named (member_checks held inline tag above inner) ≡ member_names held named
member_is None inline tag above inner named e = refl
member_is (Some k) true tag above inner named e = named_under tag (inner k) ∙ e k
member_is (Some k) false tag above inner named e = named_under tag (inner k) ∙ e k

mutual
  unfolding checks

  pub names_are : (schema : Schema) (t : Tree) (above : ℕ) (inline : Bool) (k : KindTree) → endpoints_named (checks schema above inline k t) ≡ names schema k t
  names_are schema (Flag b) above inline k = refl
  names_are schema (Whole n) above inline k = refl
  names_are schema (Text bytes) above inline k = refl
  names_are schema (Items ts) above inline k =
      array_is k (count ts) above (λ hs. list_checks schema (above + 1) 0 hs ts) (λ of. each_names schema of ts) (each_are schema ts (above + 1) 0)
  names_are schema (Pairs ts) above inline k = pairs_are schema ts above inline k
  names_are schema (Fields ts) above inline k =
      struct_is (row_of schema k) (count ts) above (λ hs. list_checks schema (above + 1) 0 hs ts) (λ ks. field_names schema ks ts)
      (fields_are schema ts (above + 1) 0)
  names_are schema (Member tag t) above inline k =
      member_is (member_kind schema k tag) inline tag above (λ held. checks schema (deeper inline above) false held t) (λ held. names schema held t)
      (names_are schema t (deeper inline above) false)
  names_are schema (Unknown tag) above inline k = refl
  names_are schema (Handle index) above inline k = refl
  names_are schema (Remote index version) above inline k = refl
  names_are schema (Endpoint index) above inline k = receiver_is k index
  names_are schema (EndpointRemote index version) above inline k = remote_is k index version
  names_are schema Null above inline k = refl

  pairs_are : (schema : Schema) (ts : Trees) (above : ℕ) (inline : Bool) (k : KindTree)
      → endpoints_named (checks schema above inline k (Pairs ts)) ≡ names schema k (Pairs ts)
  pairs_are schema (more (Items ks) (more (Items vs) none)) above inline k =
      map_is (count ks) (count vs) above (λ key. list_checks schema (above + 2) 0 (replicate (count ks) key) ks)
      (λ value. list_checks schema (above + 2) 0 (replicate (count vs) value) vs) (λ key. each_names schema key ks) (λ value. each_names schema value vs)
      (each_are schema ks (above + 2) 0) (each_are schema vs (above + 2) 0) k
  pairs_are schema _ above inline k = refl

  each_are : (schema : Schema) (ts : Trees) (above number : ℕ) (k : KindTree)
      → endpoints_named (list_checks schema above number (replicate (count ts) (element_held k)) ts) ≡ each_names schema k ts
  each_are schema none above number k = refl
  each_are schema (more t ts) above number k =
      let rest : List Check = list_checks schema above (number + 1) (replicate (count ts) (element_held k)) ts in
      named_append (all_under number (checks schema above true k t)) rest
      ∙ (ap (λ a. a ++ endpoints_named rest) (named_under number (checks schema above true k t) ∙ names_are schema t above true k)
      ∙ ap (λ b. names schema k t ++ b) (each_are schema ts above (number + 1) k))

  fields_are : (schema : Schema) (ts : Trees) (above number : ℕ) (fs : List FieldRow)
      → endpoints_named (list_checks schema above number (map field_held fs) ts) ≡ field_names schema (map kind_of fs) ts
  fields_are schema none above number fs = refl
  fields_are schema (more t ts) above number [] = refl
  fields_are schema (more t ts) above number (f ∷ fs) =
      let here : List Check = slot_checks (is_some f.flag) t (checks schema above true f.kind t) in
      let rest : List Check = list_checks schema above (number + 1) (map field_held fs) ts in
      named_append (all_under number here) rest
      ∙ (ap (λ a. a ++ endpoints_named rest)
      (named_under number here ∙ slot_is (is_some f.flag) schema f.kind t (checks schema above true f.kind t) (names_are schema t above true f.kind))
      ∙ ap (λ b. names schema f.kind t ++ b) (fields_are schema ts above (number + 1) fs))
