-- The rows that kinds, methods and stable definitions name are there.
use Rattle.std.proofs.Common.{◌≡◌, ℕ, zero, suc, ◌<◌, Bool, true, false, List, [], ◌∷◌, ◌++◌, length, map, Option, Some, None, refl, sym, subst, ◌∙◌, arith}
use Rattle.std.specs.Prelude.{nat_lt, slice_get}
use Rattle.std.specs.List.{flat_map, list_all}
use Rattle.std.specs.Option.{option_map_or}
use Rattle.std.proofs.lemmas.Bool.{and_parts, ltb-true}
use Rattle.std.proofs.lemmas.List.Folds.{list_all-append}
use Rattle.mj_schema.specs.KindTrees.{KindTree}
use Rattle.mj_schema.specs.Layout.{kind_of}
use Rattle.mj_schema.specs.WellFormed.{RowCounts, all_kinds, are_within, counts_of, has_structs}
use Rattle.mj_schema.specs.declared.rows.ConstRow.{ConstRow}
use Rattle.mj_schema.specs.declared.rows.EnumRow.{EnumRow}
use Rattle.mj_schema.specs.declared.rows.InterfaceRow.{InterfaceRow}
use Rattle.mj_schema.specs.declared.rows.RowSort.{RowSort}
use Rattle.mj_schema.specs.declared.rows.RowSort.TheVariants as sorts
use Rattle.mj_schema.specs.declared.rows.StructRow.{StructRow}
use Rattle.mj_schema.specs.declared.rows.UnionFieldRow.{UnionFieldRow}
use Rattle.mj_schema.specs.declared.rows.UnionRow.{UnionRow}
use Rattle.mj_schema.specs.declared.schema.Schema.{Schema}
use Rattle.compat_model.specs.Verdicts.{is_stable}

-- ## Lists

found_below : {A : Type 0} (xs : List A) (i : ℕ) → i < length xs → (x : A) × (slice_get xs i ≡ Some x)
found_below [] i lt = absurd (omega (arith, lt))
found_below (x ∷ xs) zero lt = (x, refl)
found_below (x ∷ xs) (suc i) lt = found_below xs i (omega (arith, lt))

pub found : {A : Type 0} (xs : List A) (i : ℕ) → nat_lt i (length xs) ≡ true → (x : A) × (slice_get xs i ≡ Some x)
found xs i h = found_below xs i (ltb-true i (length xs) h)

pub one_of : {A : Type 0} (p : A → Bool) (xs : List A) (i : ℕ) (x : A) → list_all p xs ≡ true → slice_get xs i ≡ Some x → p x ≡ true
one_of p [] i x h e = absurd cc
one_of p (y ∷ ys) zero x h e = let same : y ≡ x = cc in subst (λ z. p z ≡ true) same (and_parts (p y) (list_all p ys) h).0
one_of p (y ∷ ys) (suc i) x h e = one_of p ys i x (and_parts (p y) (list_all p ys) h).1 e

pub part_of : {A : Type 0} (p : KindTree → Bool) (f : A → List KindTree) (xs : List A) (i : ℕ) (x : A)
    → list_all p (flat_map f xs) ≡ true → slice_get xs i ≡ Some x → list_all p (f x) ≡ true
part_of p f [] i x h e = absurd cc
part_of p f (y ∷ ys) zero x h e =
    let same : y ≡ x = cc in
    subst (λ z. list_all p (f z) ≡ true) same (and_parts (list_all p (f y)) (list_all p (flat_map f ys)) (sym (list_all-append p (f y) (flat_map f ys)) ∙ h)).0
part_of p f (y ∷ ys) (suc i) x h e =
    part_of p f ys i x (and_parts (list_all p (f y)) (list_all p (flat_map f ys)) (sym (list_all-append p (f y) (flat_map f ys)) ∙ h)).1 e

-- ## Schemas

abbrev pub counts : Schema → RowCounts
counts schema = counts_of schema.structs schema.unions schema.enums schema.interfaces schema.consts

abbrev pub struct_kinds : StructRow → List KindTree
struct_kinds row = map kind_of row.fields

abbrev pub union_kinds : UnionRow → List KindTree
union_kinds row = map (λ (field : UnionFieldRow). field.kind) row.fields

well_formed : (schema : Schema)
    → (list_all (are_within (counts schema)) (all_kinds schema.structs schema.unions schema.consts) ≡ true)
    × (list_all (λ (row : InterfaceRow). list_all (has_structs (length schema.structs)) row.methods) schema.interfaces ≡ true)
well_formed schema =
    let a = list_all (are_within (counts schema)) (all_kinds schema.structs schema.unions schema.consts) in
    let b = list_all (λ (row : InterfaceRow). list_all (has_structs (length schema.structs)) row.methods) schema.interfaces in
    let parts = and_parts a _ schema.well_formed in
    (parts.0, (and_parts b _ parts.1).0)

kinds_there : (schema : Schema)
    → (list_all (are_within (counts schema)) (flat_map struct_kinds schema.structs) ≡ true)
    × (list_all (are_within (counts schema)) (flat_map union_kinds schema.unions) ≡ true)
kinds_there schema =
    let p = are_within (counts schema) in
    let structs = flat_map struct_kinds schema.structs in
    let unions = flat_map union_kinds schema.unions in
    let consts = map (λ (row : ConstRow). row.kind) schema.consts in
    let one = and_parts (list_all p structs) (list_all p (unions ++ consts)) (sym (list_all-append p structs (unions ++ consts)) ∙ (well_formed schema).0) in
    let two = and_parts (list_all p unions) (list_all p consts) (sym (list_all-append p unions consts) ∙ one.1) in
    (one.0, two.0)

-- what the kinds of a struct name is there
pub struct_within : (schema : Schema) (i : ℕ) (row : StructRow) → slice_get schema.structs i ≡ Some row
    → list_all (are_within (counts schema)) (struct_kinds row) ≡ true
struct_within schema i row e = part_of (are_within (counts schema)) struct_kinds schema.structs i row (kinds_there schema).0 e

pub union_within : (schema : Schema) (i : ℕ) (row : UnionRow) → slice_get schema.unions i ≡ Some row
    → list_all (are_within (counts schema)) (union_kinds row) ≡ true
union_within schema i row e = part_of (are_within (counts schema)) union_kinds schema.unions i row (kinds_there schema).1 e

-- the structs of an interface's methods are there
pub methods_within : (schema : Schema) (i : ℕ) (row : InterfaceRow) → slice_get schema.interfaces i ≡ Some row
    → list_all (has_structs (length schema.structs)) row.methods ≡ true
methods_within schema i row e =
    one_of (λ (r : InterfaceRow). list_all (has_structs (length schema.structs)) r.methods) schema.interfaces i row (well_formed schema).1 e

-- ## Stable definitions

abbrev pub RowThere : Schema → RowSort → ℕ → Type 0
RowThere schema sorts.Struct i = (row : StructRow) × (slice_get schema.structs i ≡ Some row)
RowThere schema sorts.Union i = (row : UnionRow) × (slice_get schema.unions i ≡ Some row)
RowThere schema sorts.Enum i = (row : EnumRow) × (slice_get schema.enums i ≡ Some row)
RowThere schema sorts.Interface i = (row : InterfaceRow) × (slice_get schema.interfaces i ≡ Some row)
RowThere schema sorts.Const i = ⊥

asked_there : {A : Type 0} (f : A → Bool) (o : Option A) → option_map_or f o false ≡ true → (x : A) × (o ≡ Some x)
asked_there f None e = absurd cc
asked_there f (Some x) e = (x, refl)

pub stable_there : (schema : Schema) (sort : RowSort) (i : ℕ) → is_stable schema sort i ≡ true → RowThere schema sort i
stable_there schema sorts.Struct i h = asked_there (λ (row : StructRow). row.stable) (slice_get schema.structs i) h
stable_there schema sorts.Union i h = asked_there (λ (row : UnionRow). row.stable) (slice_get schema.unions i) h
stable_there schema sorts.Enum i h = asked_there (λ (row : EnumRow). row.stable) (slice_get schema.enums i) h
stable_there schema sorts.Interface i h = asked_there (λ (row : InterfaceRow). row.stable) (slice_get schema.interfaces i) h
stable_there schema sorts.Const i h = absurd cc
