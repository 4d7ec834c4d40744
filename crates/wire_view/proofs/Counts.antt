-- How many parts there are.
use Rattle.std.proofs.Common.{◌≡◌, ℕ, zero, suc, ◌+◌, ◌≤◌, List, [], ◌∷◌, length, take, drop, map, Some, refl, ap}
use Rattle.std.specs.Prelude.{slice_get}
use Rattle.std.specs.List.{AllByRecursion}
use Rattle.mj_base.specs.declared.limits.TheConstants.{MAX_FIELDS}
use Rattle.mj_schema.specs.KindTrees.{KindTree}
use Rattle.mj_schema.specs.Layout.{IsLaidOut}
use Rattle.mj_schema.specs.Sizes.{size_of}
use Rattle.mj_schema.specs.declared.rows.FieldRow.{FieldRow}
use Rattle.mj_schema.specs.declared.rows.StructRow.{StructRow}
use Rattle.mj_schema.specs.declared.schema.Schema.{Schema}
use Rattle.wire_model.specs.Absent.{absent_values}
use Rattle.wire_model.specs.Slots.{field_slot, element_slots}
use Rattle.wire_model.specs.Trees.{none, count}
use Rattle.wire_model.specs.Values.{Behind, slots_value}

count_absent : (schema : Schema) (fs : List FieldRow) → count (absent_values schema fs) ≡ length fs
count_absent schema [] = refl
count_absent schema (f ∷ fs) = ap suc (count_absent schema fs)

module _ (next : Behind) (schema : Schema) (bytes : List ℕ) (base : ℕ) where
  -- the fields of a struct, those of a version and those that it lacks
  pub count_fields : (n : ℕ) (fs : List FieldRow)
      → count (slots_value next schema bytes base (map field_slot (take n fs)) (absent_values schema (drop n fs))) ≡ length fs
  unfolding slots_value
  count_fields zero fs = count_absent schema fs
  count_fields (suc n) [] = refl
  count_fields (suc n) (f ∷ fs) = ap suc (count_fields n fs)

  -- the elements of an array
  pub count_elements : (k : KindTree) (place n : ℕ) → count (slots_value next schema bytes base (element_slots k place n) none) ≡ n
  unfolding slots_value
  count_elements k place zero = refl
  count_elements k place (suc n) = ap suc (count_elements k (place + size_of k) n)

few_in : (rows : List StructRow) (i : ℕ) (row : StructRow) → AllByRecursion IsLaidOut rows → Some row ≡ slice_get rows i → length row.fields ≤ MAX_FIELDS
few_in [] i row h e = absurd cc
few_in (r ∷ rs) zero row h e = let is : r ≡ row = cc in rw is at h.0.few
few_in (r ∷ rs) (suc i) row h e = few_in rs i row h.1 e

-- a struct has few fields
pub few : (schema : Schema) (i : ℕ) (row : StructRow) → Some row ≡ slice_get schema.structs i → length row.fields ≤ MAX_FIELDS
few schema i row e = few_in schema.structs i row schema.laid_out e
