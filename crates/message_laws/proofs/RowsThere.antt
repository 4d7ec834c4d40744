-- Each row that a kind of a schema names is there.
use Rattle.std.proofs.Common.{◌≡◌, ℕ, zero, suc, ◌+◌, ◌<◌, arith, Bool, true, false, cond, List, [], ◌∷◌, ◌++◌, length, take, map, Option, Some, None, refl, sym, subst, ◌∙◌}
use Rattle.std.specs.Prelude.{◌==◌, nat_lt, slice_get, find, flat_map, option_and_then}
use Rattle.std.specs.List.{list_all}
use Rattle.std.specs.Option.{option_map_or}
use Rattle.std.proofs.lemmas.Bool.{and_parts, ltb-true}
use Rattle.std.proofs.lemmas.List.Folds.{list_all-append}
use Rattle.mj_base.specs.Bytes.{number32}
use Rattle.mj_schema.specs.KindTrees.{KindTree, StructKind}
use Rattle.mj_schema.specs.Layout.{kind_of}
use Rattle.mj_schema.specs.WellFormed.{all_kinds, are_within, has_structs}
use Rattle.mj_schema.specs.Sizes.{size_of}
use Rattle.mj_schema.specs.declared.rows.ConstRow.{ConstRow}
use Rattle.mj_schema.specs.declared.rows.FieldRow.{FieldRow}
use Rattle.mj_schema.specs.declared.rows.InterfaceRow.{InterfaceRow}
use Rattle.mj_schema.specs.declared.rows.MethodRow.{MethodRow}
use Rattle.mj_schema.specs.declared.rows.StructRow.{StructRow}
use Rattle.mj_schema.specs.declared.rows.UnionFieldRow.{UnionFieldRow}
use Rattle.mj_schema.specs.declared.rows.UnionRow.{UnionRow}
use Rattle.mj_schema.specs.declared.schema.Schema.{Schema}
use Rattle.wire_model.specs.Expected.{method_named, struct_of}
use Rattle.wire_model.specs.Rows.{kind_of_tag}
use Rattle.wire_model.specs.Slots.{element_slots, field_slot}
use Rattle.wire_model.specs.declared.target.Expected.{Expected}
use Rattle.wire_model.specs.declared.target.MessageSide.{MessageSide}
use Rattle.wire_model.specs.declared.target.MessageSide.TheVariants.{Request, Response}
use Rattle.message_laws.specs.steps.Kinded.{counts, IsThere, AreThere}
use Rattle.same_messages.proofs.Cases.{by_test}

-- a row whose number is below their count
found_below : {A : Type 0} (xs : List A) (i : ℕ) → i < length xs → (x : A) × (slice_get xs i ≡ Some x)
found_below [] i lt = absurd (omega (arith, lt))
found_below (x ∷ xs) zero lt = (x, refl)
found_below (x ∷ xs) (suc i) lt = found_below xs i (omega (arith, lt))

-- by the test that it is
pub found : {A : Type 0} (xs : List A) (i : ℕ) → nat_lt i (length xs) ≡ true → (x : A) × (slice_get xs i ≡ Some x)
found xs i h = found_below xs i (ltb-true i (length xs) h)

-- what is tested of all holds of one
one_of : {A : Type 0} (p : A → Bool) (xs : List A) (i : ℕ) (x : A) → list_all p xs ≡ true → slice_get xs i ≡ Some x → p x ≡ true
one_of p [] i x h e = absurd cc
one_of p (y ∷ ys) zero x h e = let same : y ≡ x = cc in subst (λ z. p z ≡ true) same (and_parts (p y) (list_all p ys) h).0
one_of p (y ∷ ys) (suc i) x h e = one_of p ys i x (and_parts (p y) (list_all p ys) h).1 e

found_of : {A : Type 0} (p q : A → Bool) (xs : List A) (x : A) → list_all p xs ≡ true → find q xs ≡ Some x → p x ≡ true
found_of p q [] x h e = absurd cc
found_of p q (y ∷ ys) x h e =
    let parts = and_parts (p y) (list_all p ys) h in
    by_test (q y) (λ t. cond t (Some y) (find q ys) ≡ Some x → p x ≡ true) (λ _ is. let same : y ≡ x = cc in subst (λ z. p z ≡ true) same parts.0) (λ _ is.
    found_of p q ys x parts.1 is) e

-- what is tested of all parts holds of the part of one
part_of : {A : Type 0} (p : KindTree → Bool) (f : A → List KindTree) (xs : List A) (i : ℕ) (x : A)
    → list_all p (flat_map f xs) ≡ true → slice_get xs i ≡ Some x → list_all p (f x) ≡ true
part_of p f [] i x h e = absurd cc
part_of p f (y ∷ ys) zero x h e =
    let same : y ≡ x = cc in
    subst (λ z. list_all p (f z) ≡ true) same (and_parts (list_all p (f y)) (list_all p (flat_map f ys)) (sym (list_all-append p (f y) (flat_map f ys)) ∙ h)).0
part_of p f (y ∷ ys) (suc i) x h e =
    part_of p f ys i x (and_parts (list_all p (f y)) (list_all p (flat_map f ys)) (sym (list_all-append p (f y) (flat_map f ys)) ∙ h)).1 e

abbrev struct_kinds : StructRow → List KindTree
struct_kinds row = map kind_of row.fields

abbrev union_kinds : UnionRow → List KindTree
union_kinds row = map (λ (field : UnionFieldRow). field.kind) row.fields

-- the rows are well formed
well_formed : (schema : Schema)
    → (list_all (are_within (counts schema)) (all_kinds schema.structs schema.unions schema.consts) ≡ true)
    × (list_all (λ (row : InterfaceRow). list_all (has_structs (length schema.structs)) row.methods) schema.interfaces ≡ true)
well_formed schema =
    let a = list_all (are_within (counts schema)) (all_kinds schema.structs schema.unions schema.consts) in
    let b = list_all (λ (row : InterfaceRow). list_all (has_structs (length schema.structs)) row.methods) schema.interfaces in
    let parts = and_parts a _ schema.well_formed in
    (parts.0, (and_parts b _ parts.1).0)

kinds_there : (schema : Schema)
    → (list_all (are_within (counts schema)) (flat_map struct_kinds schema.structs) ≡ true)
    × (list_all (are_within (counts schema)) (flat_map union_kinds schema.unions) ≡ true)
kinds_there schema =
    let p = are_within (counts schema) in
    let structs = flat_map struct_kinds schema.structs in
    let unions = flat_map union_kinds schema.unions in
    let consts = map (λ (row : ConstRow). row.kind) schema.consts in
    let one = and_parts (list_all p structs) (list_all p (unions ++ consts)) (sym (list_all-append p structs (unions ++ consts)) ∙ (well_formed schema).0) in
    let two = and_parts (list_all p unions) (list_all p consts) (sym (list_all-append p unions consts) ∙ one.1) in
    (one.0, two.0)

slots_there : (schema : Schema) (n : ℕ) (fields : List FieldRow) → list_all (are_within (counts schema)) (map kind_of fields) ≡ true
    → AreThere schema (map field_slot (take n fields))
slots_there schema zero fields h = tt
slots_there schema (suc n) [] h = tt
slots_there schema (suc n) (f ∷ fs) h =
    let parts = and_parts (are_within (counts schema) f.kind) (list_all (are_within (counts schema)) (map kind_of fs)) h in
    (parts.0, slots_there schema n fs parts.1)

-- the fields of a struct
pub fields_there : (schema : Schema) (number n : ℕ) (row : StructRow) → slice_get schema.structs number ≡ Some row
    → AreThere schema (map field_slot (take n row.fields))
fields_there schema number n row e =
    slots_there schema n row.fields (part_of (are_within (counts schema)) struct_kinds schema.structs number row (kinds_there schema).0 e)

tag_there : (p : KindTree → Bool) (fields : List UnionFieldRow) (tag : ℕ) (m : KindTree)
    → list_all p (map (λ (field : UnionFieldRow). field.kind) fields) ≡ true → kind_of_tag fields tag ≡ Some m → p m ≡ true
tag_there p [] tag m h e = absurd cc
tag_there p (f ∷ fs) tag m h e =
    let parts = and_parts (p f.kind) (list_all p (map (λ (field : UnionFieldRow). field.kind) fs)) h in
    by_test (f.tag == tag) (λ t. cond t (Some f.kind) (kind_of_tag fs tag) ≡ Some m → p m ≡ true) (λ _ is.
    let same : f.kind ≡ m = cc in
    subst (λ k. p k ≡ true) same parts.0) (λ _ is. tag_there p fs tag m parts.1 is) e

-- what a union holds
pub member_there : (schema : Schema) (number tag : ℕ) (row : UnionRow) (m : KindTree) → slice_get schema.unions number ≡ Some row
    → kind_of_tag row.fields tag ≡ Some m → IsThere schema m
member_there schema number tag row m e is =
    tag_there (are_within (counts schema)) row.fields tag m
    (part_of (are_within (counts schema)) union_kinds schema.unions number row (kinds_there schema).1 e) is

-- the elements of an array
pub elements_there : (schema : Schema) (k : KindTree) (place n : ℕ) → IsThere schema k → AreThere schema (element_slots k place n)
elements_there schema k place zero h = tt
elements_there schema k place (suc n) h = (h, elements_there schema k (place + size_of k) n h)

-- the struct that a method has for a side
side_there : (schema : Schema) (side : MessageSide) (method : MethodRow) (number : ℕ) → has_structs (length schema.structs) method ≡ true
    → struct_of side method ≡ Some number → nat_lt number (length schema.structs) ≡ true
side_there schema Request method number h e =
    let same : method.request ≡ number = cc in
    subst (λ (n : ℕ). nat_lt n (length schema.structs) ≡ true) same (and_parts (nat_lt method.request (length schema.structs)) _ h).0
side_there schema Response method number h e =
    subst (λ (o : Option ℕ). option_map_or (λ (n : ℕ). nat_lt n (length schema.structs)) o true ≡ true) e
    (and_parts (nat_lt method.request (length schema.structs)) _ h).1

method_there : (schema : Schema) (side : MessageSide) (number : ℕ) (row : InterfaceRow) (q : MethodRow → Bool) (m : Option MethodRow)
    → list_all (has_structs (length schema.structs)) row.methods ≡ true → find q row.methods ≡ m
    → option_and_then (struct_of side) m ≡ Some number → nat_lt number (length schema.structs) ≡ true
method_there schema side number row q None h is e = absurd cc
method_there schema side number row q (Some method) h is e =
    side_there schema side method number (found_of (has_structs (length schema.structs)) q row.methods method h is) e

interface_there : (schema : Schema) (side : MessageSide) (number i : ℕ) (q : MethodRow → Bool) (o : Option InterfaceRow)
    → slice_get schema.interfaces i ≡ o
    → option_and_then (struct_of side) (option_and_then (λ (row : InterfaceRow). find q row.methods) o) ≡ Some number
    → nat_lt number (length schema.structs) ≡ true
interface_there schema side number i q None at e = absurd cc
interface_there schema side number i q (Some row) at e =
    method_there schema side number row q (find q row.methods)
    (one_of (λ (r : InterfaceRow). list_all (has_structs (length schema.structs)) r.methods) schema.interfaces i row (well_formed schema).1 at) refl e

-- the struct of a method
pub parameters_there : (schema : Schema) (expected : Expected) (bytes : List ℕ) (number : ℕ)
    → option_and_then (struct_of expected.side) (method_named schema expected bytes) ≡ Some number
    → IsThere schema (StructKind number false)
parameters_there schema expected bytes number e =
    interface_there schema expected.side number expected.interface (λ (method : MethodRow). method.ordinal == number32 bytes 12)
    (slice_get schema.interfaces expected.interface) refl e
