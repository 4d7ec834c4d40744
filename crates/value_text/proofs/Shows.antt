-- The text of a value of its kind is spelled by the rule of its kind, where not too many brackets are open at once.
use Rattle.std.proofs.Common.{◌≡◌, ℕ, zero, suc, ◌+◌, ◌≤◌, ◌<◌, ◌^◌, List, [], ◌∷◌, ◌++◌, Option, Some, None, Bool, true, false, map}
use Rattle.std.proofs.Common.{refl, sym, ap, subst, append_assoc, arith}
use Rattle.std.specs.Fmt.{signed_decimal}
use Rattle.std.specs.Prelude.{decimal, unwrap_or, slice_get, is_some, IsTrue}
use Rattle.std.proofs.lemmas.Bool.{eqb-true}
use Rattle.std.proofs.lemmas.List.{append-nil}
use Rattle.mj_schema.specs.KindTrees as kinds
use Rattle.mj_schema.specs.KindTrees.{KindTree}
use Rattle.mj_schema.specs.Parts.{has_flag, flag_place}
use Rattle.mj_schema.specs.Sizes.{size_of}
use Rattle.mj_schema.specs.declared.rows.FieldRow.{FieldRow}
use Rattle.mj_schema.specs.declared.rows.Flag.{Flag}
use Rattle.mj_schema.specs.declared.rows.StructRow.{StructRow}
use Rattle.mj_schema.specs.declared.rows.UnionRow.{UnionRow}
use Rattle.mj_schema.specs.declared.rows.UnionFieldRow.{UnionFieldRow}
use Rattle.mj_schema.specs.declared.schema.Schema.{Schema}
use Rattle.wire_model.specs.Depth.{LacksTag, IsOfKind, AreOfKinds}
use Rattle.wire_model.specs.Kinded.{OrNull}
use Rattle.wire_model.specs.Marks.{count_is}
use Rattle.wire_model.specs.Rows.{kind_in, kind_of_tag, member_kind, row_of}
use Rattle.wire_model.specs.Slots.{field_slot, element_slots, found_fields}
use Rattle.wire_model.specs.Trees.{Tree, Trees, trees, none, more, count}
use Rattle.wire_model.specs.Trees as values
use Rattle.byte_rules.specs.Lang.{Whole, as_value, closed, ◌then◌, ◌▸◌, until, listed, rest_of, exactly}
use Rattle.byte_rules.specs.Judged.{Spells}
use Rattle.byte_rules.proofs.Shown.{Shown, shown_closed, shown_value, shown_then, shown_before, shown_among, shown_none, shown_more, shown_many}
use Rattle.byte_rules.proofs.Shown.{shown_no_list, shown_listed}
use Rattle.byte_rules.proofs.Shown.{shown_no_rest, shown_rest, shown_none_exactly, shown_exactly}
use Rattle.value_text.specs.Brackets.{brackets, brackets_in}
use Rattle.value_text.specs.Escapes.{quoted}
use Rattle.value_text.specs.Numbers.{fields_tags, tag_of}
use Rattle.value_text.specs.Rules.{slot_value, value, items_of, fields_of, elements, array, fields, fields_after, structure, union, member, pair}
use Rattle.value_text.specs.steps.Reading.{inner, base_at}
use Rattle.value_text.specs.Rules.{keys_of, values_of, pairs_of}
use Rattle.value_text.specs.Spelling.{flag_text, fields_kinds, element_of, held, row_kinds, field_kinds, spell, first_item, next_items, both_lists, each_text, first_pair}
use Rattle.value_text.specs.Spelling.{next_pairs, first_field, next_fields}
use Rattle.value_text.proofs.KnownNumbers.{tag_listed}
use Rattle.value_text.proofs.KindShows.{lift, null_shown, null_alone, flag_shown, index_shown, whole_shown, one_shown, two_shown, handle_shown}
use Rattle.value_text.proofs.TextShows.{text_to}
use Rattle.value_text.proofs.Utf8Lengths.{is_text}

abbrev list_of : Trees → List Tree
list_of none = []
list_of (more t ts) = t ∷ list_of ts

same_trees : (ts : Trees) → trees (list_of ts) ≡ ts
same_trees none = refl
same_trees (more t ts) = ap (more t) (same_trees ts)

module _ (schema : Schema) (left : ℕ) where
  -- the text of each is spelled
  abbrev AllShown : KindTree → Trees → Type 1
  AllShown k none = Unit {1}
  AllShown k (more t ts) = Shown (inner schema left k) t (spell schema k t) × AllShown k ts

  abbrev FieldsShown : List FieldRow → Trees → Type 1
  FieldsShown [] none = Unit {1}
  FieldsShown [] (more t ts) = Unit {1}
  FieldsShown (f ∷ fs) none = Unit {1}
  FieldsShown (f ∷ fs) (more t ts) = Shown (slot_value schema left (is_some f.flag) f.kind) t (spell schema f.kind t) × FieldsShown fs ts

  -- elements
  next_shown : (k : KindTree) (ts : Trees) → AllShown k ts → Shown (until 93 (count ts) (44 ▸ inner schema left k)) (list_of ts) (next_items schema k ts)
  unfolding next_items
  next_shown k none s = shown_none 93 (44 ▸ inner schema left k) zero
  next_shown k (more t ts) s =
      shown_more 93 (44 ▸ inner schema left k) (count ts) t (list_of ts) (44 ∷ spell schema k t) (next_items schema k ts)
      (shown_before 44 (inner schema left k) t (spell schema k t) s.0) (next_shown k ts s.1)

  list_shown : (k : KindTree) (ts : Trees) → AllShown k ts → Shown (listed 93 (inner schema left k)) (list_of ts) (first_item schema k ts)
  unfolding first_item
  list_shown k none s = shown_no_list 93 (inner schema left k)
  list_shown k (more t ts) s =
      shown_listed 93 (inner schema left k) t (list_of ts) (spell schema k t) (next_items schema k ts) s.0
      (shown_many 93 (44 ▸ inner schema left k) (count ts) (list_of ts) (next_items schema k ts) (next_shown k ts s.1))

  rest_shown : (k : KindTree) (ts : Trees) → AllShown k ts → Shown (rest_of 93 (count ts) (inner schema left k)) (list_of ts) (next_items schema k ts)
  unfolding next_items
  rest_shown k none s = shown_no_rest 93 (inner schema left k)
  rest_shown k (more t ts) s =
      shown_rest 93 (inner schema left k) (count ts) t (list_of ts) (spell schema k t) (next_items schema k ts) s.0 (rest_shown k ts s.1)

  exactly_shown : (k : KindTree) (ts : Trees) → AllShown k ts → Shown (exactly 93 (count ts) (inner schema left k)) (list_of ts) (first_item schema k ts)
  unfolding first_item
  exactly_shown k none s = shown_none_exactly 93 (inner schema left k)
  exactly_shown k (more t ts) s =
      shown_exactly 93 (inner schema left k) (count ts) t (list_of ts) (spell schema k t) (next_items schema k ts) s.0 (rest_shown k ts s.1)

  elements_shown : (k : KindTree) (n : Option ℕ) (ts : Trees) → IsTrue (count_is n (count ts)) → AllShown k ts
      → Shown (elements (inner schema left k) n) (list_of ts) (first_item schema k ts)
  elements_shown k None ts e s = list_shown k ts s
  elements_shown k (Some n) ts e s =
      let same : count ts ≡ n = eqb-true (count ts) n e in
      subst (λ (m : ℕ). Shown (exactly 93 m (inner schema left k)) (list_of ts) (first_item schema k ts)) same (exactly_shown k ts s)

  array_shown : (k : KindTree) (n : Option ℕ) (ts : Trees) → IsTrue (count_is n (count ts)) → AllShown k ts
      → Shown (array (inner schema left k) n) (values.Items ts) (first_item schema k ts)
  array_shown k n ts e s =
      subst (λ (x : Trees). Shown (array (inner schema left k) n) (values.Items x) (first_item schema k ts)) (same_trees ts)
      (shown_value items_of (elements (inner schema left k) n) (list_of ts) (first_item schema k ts) (elements_shown k n ts e s))

  -- pairs
  abbrev zipped : Trees → Trees → List (Tree × Tree)
  zipped none vs = []
  zipped (more k ks) none = []
  zipped (more k ks) (more v vs) = (k, v) ∷ zipped ks vs

  same_keys : (ks vs : Trees) → count ks ≡ count vs → trees (keys_of (zipped ks vs)) ≡ ks
  same_keys none vs e = refl
  same_keys (more k ks) none e = absurd (cc)
  same_keys (more k ks) (more v vs) e = ap (more k) (same_keys ks vs (omega (arith, e)))

  same_values : (ks vs : Trees) → count ks ≡ count vs → trees (values_of (zipped ks vs)) ≡ vs
  same_values none none e = refl
  same_values none (more v vs) e = absurd (cc)
  same_values (more k ks) none e = absurd (cc)
  same_values (more k ks) (more v vs) e = ap (more v) (same_values ks vs (omega (arith, e)))

  pair_shown : (key one : KindTree) (k v : Tree) → Shown (inner schema left key) k (spell schema key k)
      → Shown (inner schema left one) v (spell schema one v)
      → Shown (pair (inner schema left key) (inner schema left one)) (k, v) (spell schema key k ++ 58 ∷ spell schema one v)
  unfolding pair
  pair_shown key one k v s t =
      shown_then (inner schema left key) (λ k. 58 ▸ as_value (λ v. (k, v)) (inner schema left one)) k (k, v) (spell schema key k)
      (58 ∷ spell schema one v) s
      (shown_before 58 (as_value (λ v. (k, v)) (inner schema left one)) (k, v) (spell schema one v)
      (shown_value (λ v. (k, v)) (inner schema left one) v (spell schema one v) t))

  regroup : (w v u : List ℕ) → (w ++ 58 ∷ v) ++ u ≡ w ++ 58 ∷ (v ++ u)
  regroup w v u = append_assoc w (58 ∷ v) u

  pairs_after : (key one : KindTree) (ks vs : Trees) → count ks ≡ count vs → AllShown key ks → AllShown one vs
      → Shown (until 125 (count ks) (44 ▸ pair (inner schema left key) (inner schema left one))) (zipped ks vs)
      (next_pairs (each_text schema key ks) (each_text schema one vs))
  unfolding each_text
  pairs_after key one none none e s t = shown_none 125 (44 ▸ pair (inner schema left key) (inner schema left one)) zero
  pairs_after key one none (more v vs) e s t = absurd (cc)
  pairs_after key one (more k ks) none e s t = absurd (cc)
  pairs_after key one (more k ks) (more v vs) e s t =
      let after = next_pairs (each_text schema key ks) (each_text schema one vs) in
      let both = pair (inner schema left key) (inner schema left one) in
      let w = spell schema key k ++ 58 ∷ spell schema one v in
      subst (λ (l : List ℕ). Shown (until 125 (suc (count ks)) (44 ▸ both)) (zipped (more k ks) (more v vs)) (44 ∷ l))
      (regroup (spell schema key k) (spell schema one v) after)
      (shown_more 125 (44 ▸ both) (count ks) (k, v) (zipped ks vs) (44 ∷ w) after (shown_before 44 both (k, v) w (pair_shown key one k v s.0 t.0))
      (pairs_after key one ks vs (omega (arith, e)) s.1 t.1))

  pairs_shown : (key one : KindTree) (ks vs : Trees) → count ks ≡ count vs → AllShown key ks → AllShown one vs
      → Shown (listed 125 (pair (inner schema left key) (inner schema left one))) (zipped ks vs)
      (first_pair (each_text schema key ks) (each_text schema one vs))
  unfolding each_text
  pairs_shown key one none none e s t = shown_no_list 125 (pair (inner schema left key) (inner schema left one))
  pairs_shown key one none (more v vs) e s t = absurd (cc)
  pairs_shown key one (more k ks) none e s t = absurd (cc)
  pairs_shown key one (more k ks) (more v vs) e s t =
      let after = next_pairs (each_text schema key ks) (each_text schema one vs) in
      let both = pair (inner schema left key) (inner schema left one) in
      let w = spell schema key k ++ 58 ∷ spell schema one v in
      subst (λ (l : List ℕ). Shown (listed 125 both) (zipped (more k ks) (more v vs)) l) (regroup (spell schema key k) (spell schema one v) after)
      (shown_listed 125 both (k, v) (zipped ks vs) w after (pair_shown key one k v s.0 t.0)
      (shown_many 125 (44 ▸ both) (count ks) (zipped ks vs) after (pairs_after key one ks vs (omega (arith, e)) s.1 t.1)))

  map_shown : (key one : KindTree) (ks vs : Trees) → count ks ≡ count vs → AllShown key ks → AllShown one vs
      → Shown (as_value pairs_of (listed 125 (pair (inner schema left key) (inner schema left one))))
      (values.Pairs (more (values.Items ks) (more (values.Items vs) none)))
      (first_pair (each_text schema key ks) (each_text schema one vs))
  map_shown key one ks vs e s t =
      let both = pair (inner schema left key) (inner schema left one) in
      let w = first_pair (each_text schema key ks) (each_text schema one vs) in
      subst (λ (x : Trees). Shown (as_value pairs_of (listed 125 both)) (values.Pairs (more (values.Items x) (more (values.Items vs) none))) w)
      (same_keys ks vs e)
      (subst (λ (x : Trees). Shown (as_value pairs_of (listed 125 both))
      (values.Pairs (more (values.Items (trees (keys_of (zipped ks vs)))) (more (values.Items x) none))) w) (same_values ks vs e)
      (shown_value pairs_of (listed 125 both) (zipped ks vs) w (pairs_shown key one ks vs e s t)))

  -- fields
  after_shown : (row : List FieldRow) (ts : Trees) → AreOfKinds schema (map field_slot row) ts → FieldsShown row ts
      → Shown (fields_after (slot_value schema left) row) (list_of ts) (next_fields schema (fields_kinds row) ts)
  unfolding fields_after next_fields AreOfKinds
  after_shown [] none f s = shown_closed 41 []
  after_shown [] (more t ts) f s = absurd f
  after_shown (k ∷ ks) none f s = absurd f
  after_shown (k ∷ ks) (more t ts) f s =
      let rest = fields_after (slot_value schema left) ks in
      let one = slot_value schema left (is_some k.flag) k.kind in
      shown_before 44 (one then λ v. as_value (λ vs. v ∷ vs) rest) (t ∷ list_of ts)
      (spell schema k.kind t ++ next_fields schema (fields_kinds ks) ts)
      (shown_then one (λ v. as_value (λ vs. v ∷ vs) rest) t (t ∷ list_of ts) (spell schema k.kind t) (next_fields schema (fields_kinds ks) ts) s.0
      (shown_value (λ vs. t ∷ vs) rest (list_of ts) (next_fields schema (fields_kinds ks) ts) (after_shown ks ts f.1 s.1)))

  fields_shown : (row : List FieldRow) (ts : Trees) → AreOfKinds schema (map field_slot row) ts → FieldsShown row ts
      → Shown (fields (slot_value schema left) row) (list_of ts) (first_field schema (fields_kinds row) ts)
  unfolding fields first_field AreOfKinds
  fields_shown [] none f s = shown_closed 41 []
  fields_shown [] (more t ts) f s = absurd f
  fields_shown (k ∷ ks) none f s = absurd f
  fields_shown (k ∷ ks) (more t ts) f s =
      let rest = fields_after (slot_value schema left) ks in
      shown_then (slot_value schema left (is_some k.flag) k.kind) (λ v. as_value (λ vs. v ∷ vs) rest) t (t ∷ list_of ts) (spell schema k.kind t)
      (next_fields schema (fields_kinds ks) ts) s.0
      (shown_value (λ vs. t ∷ vs) rest (list_of ts) (next_fields schema (fields_kinds ks) ts) (after_shown ks ts f.1 s.1))

  row_shown : (row : StructRow) (ts : Trees) → AreOfKinds schema (found_fields (Some row)) ts → FieldsShown row.fields ts
      → Shown (structure (slot_value schema left) (Some row)) (values.Fields ts) (first_field schema (fields_kinds row.fields) ts)
  row_shown row ts f s =
      subst (λ (x : Trees). Shown (structure (slot_value schema left) (Some row)) (values.Fields x) (first_field schema (fields_kinds row.fields) ts))
      (same_trees ts)
      (shown_value fields_of (fields (slot_value schema left) row.fields) (list_of ts) (first_field schema (fields_kinds row.fields) ts)
      (fields_shown row.fields ts f s))

  struct_shown : (k : KindTree) (row : StructRow) (ts : Trees) → row_of schema k ≡ Some row
      → Shown (structure (slot_value schema left) (Some row)) (values.Fields ts) (first_field schema (fields_kinds row.fields) ts)
      → Shown (base_at schema (suc left) k) (values.Fields ts) (40 ∷ first_field schema (field_kinds schema k) ts)
  struct_shown (kinds.StructKind n nullable) row ts e s =
      subst (λ (o : Option StructRow). Shown (40 ▸ structure (slot_value schema left) o) (values.Fields ts) (40 ∷ first_field schema (row_kinds o) ts)) (sym e)
      (shown_before 40 (structure (slot_value schema left) (Some row)) (values.Fields ts) (first_field schema (fields_kinds row.fields) ts) s)
  struct_shown _ row ts e s = absurd (cc)

  -- tags
  tag_shown : (extensible : Bool) (fields : List UnionFieldRow) (tag : ℕ) (k : KindTree) → tag < 2 ^ 32 → kind_of_tag fields tag ≡ Some k
      → Shown (tag_of extensible (fields_tags fields)) tag (decimal tag)
  tag_shown true fields tag k h e = index_shown tag h
  tag_shown false fields tag k h e = shown_among 0 decimal (fields_tags fields) tag (tag_listed fields tag k h e)

  any_tag_shown : (extensible : Bool) (fields : List UnionFieldRow) (tag : ℕ) → tag < 2 ^ 32 → extensible ≡ true
      → Shown (tag_of extensible (fields_tags fields)) tag (decimal tag)
  any_tag_shown true fields tag h e = index_shown tag h
  any_tag_shown false fields tag h e = absurd (cc)

  behind_tag : (row : UnionRow) (tag : ℕ) (found : Option KindTree) (t : Tree) (w : List ℕ)
      → Shown (tag_of row.extensible (fields_tags row.fields)) tag (decimal tag)
      → kind_of_tag row.fields tag ≡ found → Shown (member (slot_value schema left) tag found) t w
      → Shown (union (slot_value schema left) (Some row)) t (decimal tag ++ w)
  behind_tag row tag found t w s e m =
      shown_then (tag_of row.extensible (fields_tags row.fields)) (λ tag. member (slot_value schema left) tag (kind_of_tag row.fields tag)) tag t
      (decimal tag) w s
      (subst (λ (o : Option KindTree). Shown (member (slot_value schema left) tag o) t w) (sym e) m)

  member_shown : (tag : ℕ) (k : KindTree) (t : Tree) → Shown (inner schema left k) t (spell schema k t)
      → Shown (member (slot_value schema left) tag (Some k)) (values.Member tag t) (58 ∷ (spell schema k t ++ 62 ∷ []))
  member_shown tag k t s =
      shown_before 58 (inner schema left k then λ v. closed 62 (values.Member tag v)) (values.Member tag t) (spell schema k t ++ 62 ∷ [])
      (shown_then (inner schema left k) (λ v. closed 62 (values.Member tag v)) t (values.Member tag t) (spell schema k t) (62 ∷ []) s
      (shown_closed 62 (values.Member tag t)))

  held_shown : (found : Option UnionRow) (tag : ℕ) (k : KindTree) (t : Tree) → tag < 2 ^ 32 → kind_in found tag ≡ Some k
      → Shown (inner schema left k) t (spell schema k t)
      → Shown (union (slot_value schema left) found) (values.Member tag t) (decimal tag ++ 58 ∷ (spell schema k t ++ 62 ∷ []))
  held_shown None tag k t h e s = absurd (cc)
  held_shown (Some row) tag k t h e s =
      behind_tag row tag (Some k) (values.Member tag t) (58 ∷ (spell schema k t ++ 62 ∷ [])) (tag_shown row.extensible row.fields tag k h e) e
      (member_shown tag k t s)

  union_shown : (k : KindTree) (tag : ℕ) (m : KindTree) (t : Tree) → tag < 2 ^ 32 → member_kind schema k tag ≡ Some m
      → Shown (inner schema left m) t (spell schema m t)
      → Shown (base_at schema (suc left) k) (values.Member tag t) (60 ∷ (decimal tag ++ 58 ∷ (spell schema m t ++ 62 ∷ [])))
  union_shown (kinds.UnionKind n nullable) tag m t h e s =
      shown_before 60 (union (slot_value schema left) (slice_get schema.unions n)) (values.Member tag t) (decimal tag ++ 58 ∷ (spell schema m t ++ 62 ∷ []))
      (held_shown (slice_get schema.unions n) tag m t h e s)
  union_shown _ tag m t h e s = absurd (cc)

  unknown_shown : (k : KindTree) (tag : ℕ) → LacksTag schema k tag → tag < 2 ^ 32
      → Shown (base_at schema (suc left) k) (values.Unknown tag) (60 ∷ (decimal tag ++ 62 ∷ []))
  unknown_shown k tag f h =
      subst (λ (k : KindTree). Shown (base_at schema (suc left) k) (values.Unknown tag) (60 ∷ (decimal tag ++ 62 ∷ []))) (sym f.kind)
      (shown_before 60 (union (slot_value schema left) (slice_get schema.unions f.number)) (values.Unknown tag) (decimal tag ++ 62 ∷ [])
      (subst (λ (o : Option UnionRow). Shown (union (slot_value schema left) o) (values.Unknown tag) (decimal tag ++ 62 ∷ [])) (sym f.found)
      (behind_tag f.row tag None (values.Unknown tag) (62 ∷ []) (any_tag_shown f.row.extensible f.row.fields tag h f.extensible) f.lacks
      (shown_closed 62 (values.Unknown tag)))))

abbrev of_array : KindTree → KindTree → KindTree
of_array k (kinds.ArrayKind of count nullable) = of
of_array k other = k

-- null in a slot that has a flag, or what stands there by itself
pick : (schema : Schema) (left : ℕ) (flag : Option Flag) (k : KindTree) (t : Tree) → OrNull (flag_place flag) t (IsOfKind schema k t)
    → (IsOfKind schema k t → Shown (slot_value schema left (is_some flag) k) t (spell schema k t))
    → Shown (slot_value schema left (is_some flag) k) t (spell schema k t)
unfolding spell
pick schema left None k t f g = g f
pick schema left (Some flag) k values.Null f g = null_shown schema left true k refl
pick schema left (Some flag) k t f g = g f

mutual
  unfolding spell both_lists IsOfKind AreOfKinds

  pub shows : (schema : Schema) (left : ℕ) (flagged : Bool) (k : KindTree) (t : Tree) → IsOfKind schema k t → brackets t ≤ left
      → Shown (slot_value schema left flagged k) t (spell schema k t)
  shows schema left flagged k values.Null f d = null_alone schema left flagged k f
  shows schema left flagged k (values.Flag b) f d =
      subst (λ (k : KindTree). Shown (slot_value schema left flagged k) (values.Flag b) (flag_text b)) (sym f.1)
      (lift schema left flagged (kinds.BoolKind f.0) (values.Flag b) (flag_text b) (flag_shown b))
  shows schema left flagged k (values.Whole z) f d = lift schema left flagged k (values.Whole z) (signed_decimal z) (whole_shown schema left k z f)
  shows schema left flagged k (values.Text bytes) f d =
      subst (λ (k : KindTree). Shown (slot_value schema left flagged k) (values.Text bytes) (quoted bytes)) (sym f.1)
      (lift schema left flagged (kinds.TextKind f.0) (values.Text bytes) (quoted bytes)
      (λ m K q h. text_to m (λ bs. K (values.Text bs)) q bytes (is_text bytes f.2) h))
  shows schema zero flagged k (values.Items ts) f d = absurd (omega (arith, d))
  shows schema (suc left) flagged k (values.Items ts) f d =
      subst (λ (k : KindTree). Shown (slot_value schema (suc left) flagged k) (values.Items ts) (91 ∷ first_item schema (element_of k) ts)) (sym f.3)
      (lift schema (suc left) flagged (kinds.ArrayKind f.0 f.1 f.2) (values.Items ts) (91 ∷ first_item schema f.0 ts)
      (shown_before 91 (array (inner schema left f.0) f.1) (values.Items ts) (first_item schema f.0 ts)
      (array_shown schema left f.0 f.1 ts f.4 (each_shows schema left f.0 zero ts f.5 (omega (arith, d))))))
  shows schema zero flagged k (values.Pairs (more (values.Items ks) (more (values.Items vs) none))) f d = absurd (omega (arith, d))
  shows schema (suc left) flagged k (values.Pairs (more (values.Items ks) (more (values.Items vs) none))) f d =
      let key = f.0 in
      let one = f.1 in
      let same_key : f.5.0.0 ≡ key = sym (ap (of_array key) f.5.0.3) in
      let same_one : f.5.1.0.0 ≡ one = sym (ap (of_array one) f.5.1.0.3) in
      let s = each_shows schema left f.5.0.0 zero ks f.5.0.5 (omega (arith, d)) in
      let t = each_shows schema left f.5.1.0.0 zero vs f.5.1.0.5 (omega (arith, d)) in
      subst (λ (k : KindTree). Shown (slot_value schema (suc left) flagged k) (values.Pairs (more (values.Items ks) (more (values.Items vs) none)))
      (spell schema k (values.Pairs (more (values.Items ks) (more (values.Items vs) none))))) (sym f.3)
      (lift schema (suc left) flagged (kinds.MapKind key one f.2) (values.Pairs (more (values.Items ks) (more (values.Items vs) none)))
      (123 ∷ first_pair (each_text schema key ks) (each_text schema one vs))
      (shown_before 123 (as_value pairs_of (listed 125 (pair (inner schema left key) (inner schema left one))))
      (values.Pairs (more (values.Items ks) (more (values.Items vs) none))) (first_pair (each_text schema key ks) (each_text schema one vs))
      (map_shown schema left key one ks vs f.4 (subst (λ (k : KindTree). AllShown schema left k ks) same_key s)
      (subst (λ (k : KindTree). AllShown schema left k vs) same_one t))))
  shows schema left flagged k (values.Pairs ts) f d = absurd f.4
  shows schema zero flagged k (values.Fields ts) f d = absurd (omega (arith, d))
  shows schema (suc left) flagged k (values.Fields ts) f d =
      lift schema (suc left) flagged k (values.Fields ts) (40 ∷ first_field schema (field_kinds schema k) ts)
      (struct_shown schema left k f.0 ts f.1
      (row_shown schema left f.0 ts f.2 (fields_show schema left f.0.fields ts f.2 (omega (arith, d)))))
  shows schema zero flagged k (values.Member tag t) f d = absurd (omega (arith, d))
  shows schema (suc left) flagged k (values.Member tag t) f d =
      let same : held schema k tag ≡ f.0 = ap (λ (o : Option KindTree). unwrap_or o k) f.1 in
      subst (λ (h : KindTree). Shown (slot_value schema (suc left) flagged k) (values.Member tag t) (60 ∷ (decimal tag ++ 58 ∷ (spell schema h t ++ 62 ∷ []))))
      (sym same)
      (lift schema (suc left) flagged k (values.Member tag t) (60 ∷ (decimal tag ++ 58 ∷ (spell schema f.0 t ++ 62 ∷ [])))
      (union_shown schema left k tag f.0 t f.2 f.1 (shows schema left false f.0 t f.3 (omega (arith, d)))))
  shows schema zero flagged k (values.Unknown tag) f d = absurd (omega (arith, d))
  shows schema (suc left) flagged k (values.Unknown tag) f d =
      lift schema (suc left) flagged k (values.Unknown tag) (60 ∷ (decimal tag ++ 62 ∷ [])) (unknown_shown schema left k tag f.0 f.1)
  shows schema left flagged k (values.Handle i) f d = lift schema left flagged k (values.Handle i) (37 ∷ decimal i) (handle_shown schema left k i f.0 f.1)
  shows schema left flagged k (values.Remote i v) f d =
      subst (λ (k : KindTree). Shown (slot_value schema left flagged k) (values.Remote i v) (37 ∷ (decimal i ++ 64 ∷ decimal v))) (sym f.2)
      (lift schema left flagged (kinds.RemoteKind f.0 f.1) (values.Remote i v) (37 ∷ (decimal i ++ 64 ∷ decimal v))
      (two_shown 37 values.Remote i v (omega (arith, f.3)) f.4))
  shows schema left flagged k (values.Endpoint i) f d =
      subst (λ (k : KindTree). Shown (slot_value schema left flagged k) (values.Endpoint i) (94 ∷ decimal i)) (sym f.2)
      (lift schema left flagged (kinds.AssociatedReceiverKind f.0 f.1) (values.Endpoint i) (94 ∷ decimal i)
      (one_shown 94 values.Endpoint i (omega (arith, f.3))))
  shows schema left flagged k (values.EndpointRemote i v) f d =
      subst (λ (k : KindTree). Shown (slot_value schema left flagged k) (values.EndpointRemote i v) (94 ∷ (decimal i ++ 64 ∷ decimal v))) (sym f.2)
      (lift schema left flagged (kinds.AssociatedRemoteKind f.0 f.1) (values.EndpointRemote i v) (94 ∷ (decimal i ++ 64 ∷ decimal v))
      (two_shown 94 values.EndpointRemote i v (omega (arith, f.3)) f.4))

  each_shows : (schema : Schema) (left : ℕ) (k : KindTree) (place : ℕ) (ts : Trees) → AreOfKinds schema (element_slots k place (count ts)) ts
      → brackets_in ts ≤ left → AllShown schema left k ts
  each_shows schema left k place none f d = tt
  each_shows schema left k place (more t ts) f d =
      (shows schema left false k t f.0 (omega (arith, d)), each_shows schema left k (place + size_of k) ts f.1 (omega (arith, d)))

  fields_show : (schema : Schema) (left : ℕ) (row : List FieldRow) (ts : Trees) → AreOfKinds schema (map field_slot row) ts → brackets_in ts ≤ left
      → FieldsShown schema left row ts
  fields_show schema left [] none f d = tt
  fields_show schema left [] (more t ts) f d = tt
  fields_show schema left (s ∷ ss) none f d = tt
  fields_show schema left (s ∷ ss) (more t ts) f d = (
    pick schema left s.flag s.kind t f.0 (λ h. shows schema left (is_some s.flag) s.kind t h (omega (arith, d))),
    fields_show schema left ss ts f.1 (omega (arith, d)),
  )

-- of a kind as of a field
kind_shows : (schema : Schema) (left : ℕ) (k : KindTree) (t : Tree) → IsOfKind schema k t → brackets t ≤ left
    → Shown (value schema left k) t (spell schema k t)
unfolding value
kind_shows schema left k t f d = shows schema left (has_flag k) k t f d

-- a value's text spells it, and is read as it
pub spelled : (schema : Schema) (left : ℕ) (k : KindTree) (t : Tree) → IsOfKind schema k t → brackets t ≤ left
    → Spells (value schema left k) t (spell schema k t)
spelled schema left k t f d =
    subst (λ (l : List ℕ). Spells (value schema left k) t l) (append-nil (spell schema k t))
    (kind_shows schema left k t f d Whole (λ v rest. (rest ≡ []) × (v ≡ t)) [] (refl, refl))
