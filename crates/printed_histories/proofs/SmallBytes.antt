-- What was prepared becomes bytes: a value that passes its checks has texts in UTF-8.
use Rattle.std.proofs.Common.{◌≡◌, ◌∙◌, ◌<◌, ℕ, zero, suc, ◌+◌, ◌-◌, Bool, true, false, List, [], ◌∷◌, ◌++◌, length, map, replicate, refl, sym, ap, subst, ◌≤◌, ◌^◌, arith}
use Rattle.std.specs.Prelude.{Option, Some, None, is_some, Result, Ok, Err, ◌==◌, nat_lt, if◌then◌else◌}
use Rattle.std.proofs.lemmas.Bool.{eqb-true, ltb-true}
use Rattle.std.proofs.lemmas.List.{length-append}
use Rattle.mj_base.specs.Bytes.{bytes32, rounded8}
use Rattle.mj_schema.specs.KindTrees as kinds
use Rattle.mj_schema.specs.KindTrees.{KindTree}
use Rattle.mj_schema.specs.Parts.{flag_place}
use Rattle.mj_schema.specs.Sizes.{size_of}
use Rattle.mj_schema.specs.declared.rows.FieldRow.{FieldRow}
use Rattle.mj_schema.specs.declared.rows.Flag.{Flag}
use Rattle.mj_schema.specs.declared.rows.StructRow.{StructRow}
use Rattle.mj_schema.specs.declared.schema.Schema.{Schema}
use Rattle.wire_encoder.specs.Alone.{takes_text}
use Rattle.wire_encoder.specs.Checks.{Check, Test, HandleAt, EndpointAt, Held, element_held, field_held, all_under, slot_checks}
use Rattle.wire_encoder.specs.Checks.{checks, list_checks, struct_checks, member_checks}
use Rattle.wire_encoder.specs.FirstFailed.{MAX_HANDLES, Met, Refusal, counted, first_failed, next, nothing, refusal, step}
use Rattle.wire_encoder.specs.Prepared.{IsPrepared, kind_for, parameters_of}
use Rattle.wire_encoder.specs.declared.prepared.Prepared.{Prepared}
use Rattle.wire_encoder.specs.declared.refusal.Flaw.TheVariants.{Misfit, TooManyHandles}
use Rattle.bind_model.specs.WireOf.{endpoints_met}
use Rattle.wire_model.specs.Cells.{UNION_BYTES, put_cell, put_slot, zeros}
use Rattle.wire_model.specs.Depth.{deeper}
use Rattle.wire_model.specs.Emit.{object, text_object, struct_object, member_object, emit, body_of, behind}
use Rattle.wire_model.specs.Rows.{member_kind, row_of}
use Rattle.wire_model.specs.Slots.{Slot, element_slots, map_slots, element_bytes, field_slot, found_fields, found_size, found_version}
use Rattle.wire_model.specs.Texts.{valid_len}
use Rattle.wire_model.specs.Tight.{MAX_PAYLOAD_BYTES}
use Rattle.wire_model.specs.Trees as values
use Rattle.wire_model.specs.Trees.{Tree, Trees, none, more, count, view}
use Rattle.history_reader.specs.Printable.{AreAll, AreBytes}
use Rattle.printed_histories.proofs.SmallCells.{put_cell_fine, put_slot_fine}
use Rattle.printed_histories.proofs.SmallLists.{all_both}
use Rattle.printed_histories.proofs.SmallTexts.{text_bytes}
use Rattle.printed_histories.specs.Asked.{BecomeBytes}
use Rattle.printed_histories.proofs.SmallWire.{IsByte, before, zeros_fine}

-- ## Tests that hold

-- a test that is passed; nothing is asked of a handle or an endpoint
abbrev Holds : Check → Type 0
Holds (Test holds flaw path) = holds ≡ true
Holds (HandleAt index path) = Unit {0}
Holds (EndpointAt index wanted path) = Unit {0}

-- all tests are passed
abbrev AllHold : List Check → Type 0
AllHold cs = AreAll Holds cs

-- where all went on, one step did
onward : (cs : List Check) (after : Met) (r : Result Met Refusal) → ((m : Met) → first_failed m cs ≡ Ok after → AllHold cs)
    → next r (λ m. first_failed m cs) ≡ Ok after → AllHold cs
onward cs after (Ok m) h ok = h m ok
onward cs after (Err wrong) h ok = absurd cc

passed : (cs : List Check) (m after : Met) → first_failed m cs ≡ Ok after → AllHold cs
unfolding first_failed step
passed [] m after ok = tt
passed (Test true flaw path ∷ cs) m after ok = (refl, passed cs m after ok)
passed (Test false flaw path ∷ cs) m after ok = absurd cc
passed (HandleAt index path ∷ cs) m after ok = (
  tt,
  onward cs after (counted index m.handles path (record { handles = m.handles + 1; endpoints = m.endpoints }))
      (λ n e. passed cs n after e) ok,
)
passed (EndpointAt index wanted path ∷ cs) m after ok = (
  tt,
  onward cs after (counted index (length m.endpoints) path (record { handles = m.handles; endpoints = m.endpoints ++ wanted ∷ [] }))
      (λ n e. passed cs n after e) ok,
)

fronts : (xs ys : List Check) → AllHold (xs ++ ys) → AllHold xs
fronts [] ys a = tt
fronts (x ∷ xs) ys a = (a.0, fronts xs ys a.1)

rests : (xs ys : List Check) → AllHold (xs ++ ys) → AllHold ys
rests [] ys a = a
rests (x ∷ xs) ys a = rests xs ys a.1

inside : (n : ℕ) (cs : List Check) → AllHold (all_under n cs) → AllHold cs
unfolding all_under
inside n [] a = tt
inside n (Test holds flaw path ∷ cs) a = (a.0, inside n cs a.1)
inside n (HandleAt index path ∷ cs) a = (tt, inside n cs a.1)
inside n (EndpointAt index wanted path ∷ cs) a = (tt, inside n cs a.1)

-- ## Objects

object_fine : (first second : ℕ) (body rest : List ℕ) → AreBytes body → AreBytes rest → AreBytes (object first second body rest)
object_fine first second body rest a b =
    before first (bytes32 second ++ (body ++ rest)) (before second (body ++ rest) (all_both IsByte body rest a b))

text_fine : (k : KindTree) (bs : List ℕ) → takes_text k bs ≡ true → AreBytes (text_object k bs)
unfolding takes_text
text_fine (kinds.TextKind nullable) bs e = object_fine (8 + length bs) (length bs) bs (zeros (rounded8 (length bs) - length bs))
    (text_bytes bs (eqb-true (valid_len bs) (length bs) e)) (zeros_fine (rounded8 (length bs) - length bs))
text_fine k bs e = tt

body_fine : (schema : Schema) (ts : Trees) (ss : List Slot) (body : List ℕ) (at : ℕ) → AreBytes body → AreBytes (body_of schema ss ts body at)
unfolding body_of
body_fine schema none ss body at a = a
body_fine schema (more t ts) [] body at a = a
body_fine schema (more t ts) (s ∷ ss) body at a =
    body_fine schema ts ss (put_slot schema s t body at) (at + length (emit schema true s.kind t)) (put_slot_fine schema s t body at a)

-- ## What stands in slots

-- what is held at a slot
abbrev slot_held : Slot → Held
slot_held s = record { kind = s.kind; flagged = is_some s.flag }

elements_held : (k : KindTree) (place n : ℕ) → map slot_held (element_slots k place n) ≡ replicate n (element_held k)
elements_held k place zero = refl
elements_held k place (suc n) = ap (λ (hs : List Held). element_held k ∷ hs) (elements_held k (place + size_of k) n)

same_flag : (flag : Option Flag) → is_some (flag_place flag) ≡ is_some flag
same_flag None = refl
same_flag (Some flag) = refl

fields_held : (fs : List FieldRow) → map slot_held (map field_slot fs) ≡ map field_held fs
fields_held [] = refl
fields_held (f ∷ fs) =
    ap (λ (b : Bool). record { kind = f.kind; flagged = b } ∷ map slot_held (map field_slot fs)) (same_flag f.flag)
    ∙ ap (λ (hs : List Held). field_held f ∷ hs) (fields_held fs)

-- a value that passes becomes bytes, and so do values
abbrev ValueFine : Tree → Type 0
ValueFine t = (schema : Schema) (above : ℕ) (inline : Bool) (k : KindTree) → AllHold (checks schema above inline k t) → AreBytes (emit schema inline k t)

-- values that pass the tests of their slots leave bytes behind these
abbrev AllFine : Trees → Type 0
AllFine ts = (schema : Schema) (above number : ℕ) (ss : List Slot) → AllHold (list_checks schema above number (map slot_held ss) ts)
    → AreBytes (behind schema ss ts)

-- ## Values

-- so many elements of one kind
elements_fine : (ts : Trees) → AllFine ts → (schema : Schema) (above : ℕ) (e : KindTree)
    → AllHold (list_checks schema above 0 (replicate (count ts) (element_held e)) ts) → AreBytes (behind schema (element_slots e 0 (count ts)) ts)
elements_fine ts f schema above e a = f schema above 0 (element_slots e 0 (count ts))
    (subst (λ (hs : List Held). AllHold (list_checks schema above 0 hs ts)) (sym (elements_held e 0 (count ts))) a)

array_fine : (ts : Trees) (schema : Schema) (inline : Bool) (e : KindTree) (c : Option ℕ) (nullable : Bool)
    → AreBytes (behind schema (element_slots e 0 (count ts)) ts) → AreBytes (emit schema inline (kinds.ArrayKind e c nullable) (values.Items ts))
unfolding emit
array_fine ts schema inline e c nullable a = object_fine (8 + element_bytes e (count ts)) (count ts)
    (body_of schema (element_slots e 0 (count ts)) ts (zeros (rounded8 (element_bytes e (count ts)))) (rounded8 (element_bytes e (count ts))))
    (behind schema (element_slots e 0 (count ts)) ts)
    (body_fine schema ts (element_slots e 0 (count ts)) (zeros (rounded8 (element_bytes e (count ts)))) (rounded8 (element_bytes e (count ts)))
    (zeros_fine (rounded8 (element_bytes e (count ts))))) a

items_fine : (ts : Trees) → AllFine ts → ValueFine (values.Items ts)
unfolding checks emit
items_fine ts f schema above inline (kinds.ArrayKind e c nullable) a =
    array_fine ts schema inline e c nullable (elements_fine ts f schema (above + 1) e a.1.1)
items_fine ts f schema above inline k a = tt

-- a map of these keys and values
abbrev map_of : Trees → Trees → Trees
map_of ks vs = more (values.Items ks) (more (values.Items vs) none)

pairs_fine : (ks vs : Trees) → AllFine ks → AllFine vs → ValueFine (values.Pairs (map_of ks vs))
unfolding checks emit behind
pairs_fine ks vs f g schema above inline (kinds.MapKind key value nullable) a =
    let first = list_checks schema (above + 2) 0 (replicate (count ks) (element_held key)) ks in
    let second = list_checks schema (above + 2) 0 (replicate (count vs) (element_held value)) vs in
    let keys = array_fine ks schema true key None false (elements_fine ks f schema (above + 2) key
    (inside 0 first (fronts (all_under 0 first) (all_under 1 second) a.1.1))) in
    let items = array_fine vs schema true value None false (elements_fine vs g schema (above + 2) value
    (inside 1 second (rests (all_under 0 first) (all_under 1 second) a.1.1))) in
    object_fine 24 0 (body_of schema (map_slots key value) (map_of ks vs) (zeros 16) 16) (behind schema (map_slots key value) (map_of ks vs))
    (body_fine schema (map_of ks vs) (map_slots key value) (zeros 16) 16 (zeros_fine 16))
    (all_both IsByte (emit schema true (kinds.ArrayKind key None false) (values.Items ks))
    (emit schema true (kinds.ArrayKind value None false) (values.Items vs) ++ []) keys
    (all_both IsByte (emit schema true (kinds.ArrayKind value None false) (values.Items vs)) [] items tt))
pairs_fine ks vs f g schema above inline k a = tt

struct_fine : (ts : Trees) → AllFine ts → (schema : Schema) (above : ℕ) (o : Option StructRow)
    → AllHold (struct_checks o (count ts) above (λ hs. list_checks schema (above + 1) 0 hs ts))
    → AreBytes (struct_object o (λ ss size. body_of schema ss ts (zeros size) size) (λ ss. behind schema ss ts))
struct_fine ts f schema above None a = tt
struct_fine ts f schema above (Some row) a = object_fine (found_size (Some row)) (found_version (Some row))
    (body_of schema (found_fields (Some row)) ts (zeros (found_size (Some row) - 8)) (found_size (Some row) - 8))
    (behind schema (found_fields (Some row)) ts)
    (body_fine schema ts (found_fields (Some row)) (zeros (found_size (Some row) - 8)) (found_size (Some row) - 8) (zeros_fine (found_size (Some row) - 8)))
    (f schema (above + 1) 0 (map field_slot row.fields)
    (subst (λ (hs : List Held). AllHold (list_checks schema (above + 1) 0 hs ts)) (sym (fields_held row.fields)) a.1.1))

member_fine : (t : Tree) → ValueFine t → (schema : Schema) (above : ℕ) (inline : Bool) (tag : ℕ) (o : Option KindTree)
    → AllHold (member_checks o inline tag above (λ m. checks schema (deeper inline above) false m t))
    → AreBytes (member_object o inline tag t (λ m. emit schema false m t))
member_fine t f schema above inline tag None a = tt
member_fine t f schema above true tag (Some m) a = f schema (deeper true above) false m (inside tag (checks schema (deeper true above) false m t) a.1)
member_fine t f schema above false tag (Some m) a = object_fine UNION_BYTES tag (put_cell 0 m t (zeros 8) 8) (emit schema false m t)
    (put_cell_fine 0 m t (zeros 8) 8 (zeros_fine 8))
    (f schema (deeper false above) false m (inside tag (checks schema (deeper false above) false m t) a.1.1))

-- a value of which no test holds is none
no_value : {A : Type 0} → ◌≡◌ {A = Bool} false true → A
no_value e = absurd cc

-- a value in a slot that may have a flag: null points to nothing
left_fine : (flagged : Bool) (t : Tree) → ValueFine t → (schema : Schema) (above : ℕ) (k : KindTree)
    → AllHold (slot_checks flagged t (checks schema above true k t)) → AreBytes (emit schema true k t)
unfolding emit
left_fine false t f schema above k a = f schema above true k a
left_fine true values.Null f schema above k a = tt
left_fine true t f schema above k a = f schema above true k a

mutual
  unfolding checks list_checks emit behind

  value_fine : (t : Tree) → ValueFine t
  value_fine (values.Text bs) schema above inline k a = text_fine k bs a.0
  value_fine (values.Items ts) schema above inline k a = items_fine ts (all_fine ts) schema above inline k a
  value_fine (values.Pairs (more (values.Items ks) (more (values.Items vs) none))) schema above inline k a =
      pairs_fine ks vs (all_fine ks) (all_fine vs) schema above inline k a
  value_fine (values.Pairs ts) schema above inline k a = no_value a.0
  value_fine (values.Fields ts) schema above inline k a = struct_fine ts (all_fine ts) schema above (row_of schema k) a
  value_fine (values.Member tag t) schema above inline k a = member_fine t (value_fine t) schema above inline tag (member_kind schema k tag) a
  value_fine t schema above inline k a = tt

  all_fine : (ts : Trees) → AllFine ts
  all_fine none schema above number ss a = tt
  all_fine (more t ts) schema above number [] a = tt
  all_fine (more t ts) schema above number (s ∷ ss) a =
      let first = slot_checks (is_some s.flag) t (checks schema above true s.kind t) in
      let rest = list_checks schema above (number + 1) (map slot_held ss) ts in
      all_both IsByte (emit schema true s.kind t) (behind schema ss ts)
      (left_fine (is_some s.flag) t (value_fine t) schema above s.kind (inside number first (fronts (all_under number first) rest a)))
      (all_fine ts schema above (number + 1) ss (rests (all_under number first) rest a))

-- ## How many endpoints are met

counted_few : (index before : ℕ) (path : List ℕ) (met m : Met) → counted index before path met ≡ Ok m → (m ≡ met) × (before < 64)
counted_few index before path met m e = first (index == before) e
  where
    second : (b : Bool) → nat_lt before 64 ≡ b → (if b then Ok met else Err (refusal TooManyHandles path)) ≡ Ok m → (m ≡ met) × (before < 64)
    second true f g = (cc, ltb-true before 64 f)
    second false f g = absurd cc

    first : (b : Bool) → (if b then (if nat_lt before MAX_HANDLES then Ok met else Err (refusal TooManyHandles path)) else Err (refusal Misfit path)) ≡ Ok m
        → (m ≡ met) × (before < 64)
    first true f = second (nat_lt before 64) refl f
    first false f = absurd cc

-- where all went on, one step did
ended : (cs : List Check) (after : Met) (r : Result Met Refusal) → ((m : Met) → r ≡ Ok m → length m.endpoints ≤ 64)
    → ((m : Met) → length m.endpoints ≤ 64 → first_failed m cs ≡ Ok after → length after.endpoints ≤ 64)
    → next r (λ m. first_failed m cs) ≡ Ok after → length after.endpoints ≤ 64
ended cs after (Ok m) h rest ok = rest m (h m refl) ok
ended cs after (Err wrong) h rest ok = absurd cc

few_met : (cs : List Check) (m after : Met) → length m.endpoints ≤ 64 → first_failed m cs ≡ Ok after → length after.endpoints ≤ 64
unfolding first_failed step
few_met [] m after few ok = let same : m ≡ after = cc in subst (λ (n : Met). length n.endpoints ≤ 64) same few
few_met (Test true flaw path ∷ cs) m after few ok = few_met cs m after few ok
few_met (Test false flaw path ∷ cs) m after few ok = absurd cc
few_met (HandleAt index path ∷ cs) m after few ok =
    let met : Met = record { handles = m.handles + 1; endpoints = m.endpoints } in
    ended cs after (counted index m.handles path met)
    (λ n e. subst (λ (k : Met). length k.endpoints ≤ 64) (sym (counted_few index m.handles path met n e).0) few)
    (λ n f e. few_met cs n after f e) ok
few_met (EndpointAt index wanted path ∷ cs) m after few ok =
    let met : Met = record { handles = m.handles; endpoints = m.endpoints ++ wanted ∷ [] } in
    ended cs after (counted index (length m.endpoints) path met)
    (λ n e. let is = counted_few index (length m.endpoints) path met n e in
    let less = is.1 in
    subst (λ (k : Met). length k.endpoints ≤ 64) (sym is.0) (omega (arith, less, length-append m.endpoints (wanted ∷ []))))
    (λ n f e. few_met cs n after f e) ok

pub prepared_bytes : (schema : Schema) (prepared : Prepared) → IsPrepared schema prepared → BecomeBytes schema prepared.target (view prepared.value)
prepared_bytes schema prepared is =
    let k = kind_for (parameters_of schema prepared.target) in
    let few : length prepared.payload.items ≤ MAX_PAYLOAD_BYTES = prepared.short in (
      value_fine (view prepared.value) schema 0 false k (passed (checks schema 0 false k (view prepared.value)) nothing
          (record { handles = prepared.handles; endpoints = prepared.endpoints.items }) is.passes),
      subst (λ (bytes : List ℕ). length bytes < 2 ^ 61) is.payload (omega (arith, few)),
      subst (λ (o : Result Met Refusal). length (endpoints_met o) ≤ 64) (sym is.passes)
          (few_met (checks schema 0 false k (view prepared.value)) nothing (record { handles = prepared.handles; endpoints = prepared.endpoints.items })
          (omega arith) is.passes),
    )
