-- Values that are read one after the other.
use Rattle.std.proofs.Common.{◌≡◌, ℕ, suc, ◌+◌, ◌-◌, ◌*◌, ◌/◌, ◌%◌, ◌<◌, ◌≤◌, List, [], ◌∷◌, ◌++◌, length, get_or, take, drop, map, add-one, drop-cons, refl, sym, ap, ◌∙◌, arith}
use Rattle.std.proofs.lemmas.List.{drop_all, length-take, map_push}
use Rattle.mj_schema.specs.KindTrees.{KindTree}
use Rattle.mj_schema.specs.Sizes.{size_of}
use Rattle.mj_schema.specs.declared.rows.FieldRow.{FieldRow}
use Rattle.mj_schema.specs.declared.schema.Schema.{Schema}
use Rattle.wire_model.specs.declared.value.Value.{Value}
use Rattle.wire_model.specs.Absent.{absent_field, absent_values}
use Rattle.wire_model.specs.Slots.{element_slots, field_slot}
use Rattle.wire_model.specs.Trees.{Tree, Trees, view, trees, none, more}
use Rattle.wire_model.specs.Values.{Behind, value_if, slot_value, slots_value}
use Rattle.wire_decoder.specs.steps.Joined.{joined}
use Rattle.readable_marks.specs.steps.Rooms.{field_value}
use Rattle.wire_model.specs.Marks.{has_value}
use Rattle.mj_schema.specs.Parts.{flag_place}

joined_push : (xs : List Tree) (x : Tree) (ts : Trees) → joined (xs ++ x ∷ []) ts ≡ joined xs (more x ts)
joined_push [] x ts = refl
joined_push (y ∷ xs) x ts = ap (more y) (joined_push xs x ts)

-- with none to come, they are the list
pub joined_none : (xs : List Tree) → joined xs none ≡ trees xs
joined_none [] = refl
joined_none (x ∷ xs) = ap (more x) (joined_none xs)

-- a tree more
added : (xs ys : List Tree) (t : Tree) (ts : Trees) → ys ≡ xs ++ t ∷ [] → joined ys ts ≡ joined xs (more t ts)
added xs ys t ts e = ap (λ l. joined l ts) e ∙ joined_push xs t ts

-- what a value more is seen as
pub viewed : (vs ws : List Value) (v : Value) → ws ≡ vs ++ v ∷ [] → map view ws ≡ map view vs ++ view v ∷ []
viewed vs ws v e = ap (map view) e ∙ map_push view vs v

-- lists with the same last tree have the same others
last_same : (xs ys : List Tree) (x y : Tree) → xs ++ x ∷ [] ≡ ys ++ y ∷ [] → (xs ≡ ys) × (x ≡ y)
last_same [] [] x y e = (refl, cc)
last_same [] (b ∷ []) x y e = absurd cc
last_same [] (b ∷ c ∷ ys) x y e = absurd cc
last_same (a ∷ []) [] x y e = absurd cc
last_same (a ∷ c ∷ xs) [] x y e = absurd cc
last_same (a ∷ xs) (b ∷ ys) x y e =
    let tails : xs ++ x ∷ [] ≡ ys ++ y ∷ [] = cc in
    let same = last_same xs ys x y tails in
    let heads : a ≡ b = cc in
    (ap (λ h. h ∷ xs) heads ∙ ap (λ l. b ∷ l) same.0, same.1)

-- a value that was taken from the end of others
pub taken : (vs ws : List Value) (v : Value) (before : List Tree) (t : Tree) → ws ≡ vs ++ v ∷ [] → map view ws ≡ before ++ t ∷ []
    → (map view vs ≡ before) × (view v ≡ t)
taken vs ws v before t e seen = last_same (map view vs) before (view v) t (sym (viewed vs ws v e) ∙ seen)

-- trees behind none
pub from_none : (vs : List Value) (ts : Trees) → vs ≡ [] → joined (map view vs) ts ≡ ts
from_none vs ts e = ap (λ l. joined (map view l) ts) e

-- all that was added where there were none
pub all_added : (vs ws : List Value) (ts : Trees) → vs ≡ [] → joined (map view ws) none ≡ joined (map view vs) ts → trees (map view ws) ≡ ts
all_added vs ws ts e h = sym (joined_none (map view ws)) ∙ h ∙ from_none vs ts e

-- so many of some fields
pub few_of : (n : ℕ) (xs ys : List FieldRow) → ys ≡ take n xs → length ys ≤ length xs
few_of n xs ys e = omega (arith, ap length e, length-take n xs)

-- the fields that a version lacks
pub absent_more : (schema : Schema) (fields : List FieldRow) (i : ℕ) (f : FieldRow) (v : Value) (vs ws : List Value) (all : Trees)
    → i < length fields → f ≡ get_or fields i f → ws ≡ vs ++ v ∷ [] → view v ≡ absent_field schema f.default f.kind
    → joined (map view vs) (absent_values schema (drop i fields)) ≡ all → joined (map view ws) (absent_values schema (drop (i + 1) fields)) ≡ all
absent_more schema fields i f v vs ws all lt is ws-is v-is so_far =
    let e : drop i fields ≡ f ∷ drop (i + 1) fields = rw (add-one, drop-cons fields i f) (ap (λ g. g ∷ drop (suc i) fields) (sym is)) in
    added (map view vs) (map view ws) (absent_field schema f.default f.kind) (absent_values schema (drop (i + 1) fields))
    (viewed vs ws v ws-is ∙ ap (λ t. map view vs ++ t ∷ []) v-is)
    ∙ ap (λ l. joined (map view vs) (absent_values schema l)) (sym e) ∙ so_far

pub absent_done : (schema : Schema) (fields : List FieldRow) (i : ℕ) (vs : List Value) (all : Trees)
    → length fields ≤ i → joined (map view vs) (absent_values schema (drop i fields)) ≡ all → trees (map view vs) ≡ all
absent_done schema fields i vs all le so_far =
    sym (joined_none (map view vs)) ∙ ap (λ l. joined (map view vs) (absent_values schema l)) (sym (drop_all i fields le)) ∙ so_far

module _ (next : Behind) (schema : Schema) (bytes : List ℕ) (base : ℕ) where
  -- the fields that a version has
  pub field_more : (fields : List FieldRow) (i : ℕ) (f : FieldRow) (xs ys : List Tree) (all rest : Trees)
      → f.bit < 8 → i < length fields → f ≡ get_or fields i f → ys ≡ xs ++ field_value next schema bytes base f ∷ []
      → joined xs (slots_value next schema bytes base (map field_slot (drop i fields)) rest) ≡ all
      → joined ys (slots_value next schema bytes base (map field_slot (drop (i + 1) fields)) rest) ≡ all
  unfolding slots_value
  field_more fields i f xs ys all rest bit lt is more-is so_far =
      let e : drop i fields ≡ f ∷ drop (i + 1) fields = rw (add-one, drop-cons fields i f) (ap (λ g. g ∷ drop (suc i) fields) (sym is)) in
      let offset : f.offset ≡ (8 * f.offset + f.bit) / 8 = omega arith in
      let low : f.bit ≡ (8 * f.offset + f.bit) % 8 = omega arith in
      let has = has_value bytes base (flag_place f.flag) in
      let slot = value_if has (slot_value next schema bytes (base + (8 * f.offset + f.bit) / 8) ((8 * f.offset + f.bit) % 8) f.kind) in
      let same : field_value next schema bytes base f ≡ slot =
      ap (λ o. value_if has (slot_value next schema bytes (base + o) f.bit f.kind)) offset
      ∙ ap (λ b. value_if has (slot_value next schema bytes (base + (8 * f.offset + f.bit) / 8) b f.kind)) low in
      added xs ys slot (slots_value next schema bytes base (map field_slot (drop (i + 1) fields)) rest) (more-is ∙ ap (λ t. xs ++ t ∷ []) same)
      ∙ ap (λ l. joined xs (slots_value next schema bytes base (map field_slot l) rest)) (sym e) ∙ so_far

  pub fields_done : (fields : List FieldRow) (i : ℕ) (xs : List Tree) (all rest : Trees)
      → length fields ≤ i → joined xs (slots_value next schema bytes base (map field_slot (drop i fields)) rest) ≡ all → joined xs rest ≡ all
  unfolding slots_value
  fields_done fields i xs all rest le so_far =
      ap (λ l. joined xs (slots_value next schema bytes base (map field_slot l) rest)) (sym (drop_all i fields le)) ∙ so_far

  -- the elements of an array
  pub element_more : (k : KindTree) (place n i : ℕ) (xs ys : List Tree) (all : Trees) → i < n
      → ys ≡ xs ++ slot_value next schema bytes (base + place / 8) (place % 8) k ∷ []
      → joined xs (slots_value next schema bytes base (element_slots k place (n - i)) none) ≡ all
      → joined ys (slots_value next schema bytes base (element_slots k (place + size_of k) (n - (i + 1))) none) ≡ all
  unfolding slots_value
  element_more k place n i xs ys all lt more-is so_far =
      let e : n - i ≡ suc (n - (i + 1)) = omega arith in
      added xs ys (slot_value next schema bytes (base + place / 8) (place % 8) k)
      (slots_value next schema bytes base (element_slots k (place + size_of k) (n - (i + 1))) none) more-is
      ∙ ap (λ m. joined xs (slots_value next schema bytes base (element_slots k place m) none)) (sym e) ∙ so_far

  pub elements_done : (k : KindTree) (place n i : ℕ) (xs : List Tree) (all : Trees) → n ≤ i
      → joined xs (slots_value next schema bytes base (element_slots k place (n - i)) none) ≡ all → joined xs none ≡ all
  unfolding slots_value
  elements_done k place n i xs all le so_far =
      let e : n - i ≡ 0 = omega arith in
      ap (λ m. joined xs (slots_value next schema bytes base (element_slots k place m) none)) (sym e) ∙ so_far
