-- The struct of a method's parameters, or of its response, is there.
use Rattle.std.proofs.Common.{◌≡◌, ℕ, zero, suc, ◌-◌, ◌<◌, arith, Bool, true, false, cond, List, [], ◌∷◌, length, Option, Some, None, refl, subst}
use Rattle.std.specs.Prelude.{◌==◌, nat_lt, slice_get, find, option_and_then}
use Rattle.std.specs.List.{list_all}
use Rattle.std.specs.Option.{option_map_or}
use Rattle.std.proofs.lemmas.Bool.{and_parts, ltb-true}
use Rattle.mj_base.specs.Bytes.{number32}
use Rattle.mj_schema.specs.KindTrees.{StructKind}
use Rattle.mj_schema.specs.WellFormed.{all_kinds, are_within, counts_of, has_structs}
use Rattle.mj_schema.specs.declared.rows.InterfaceRow.{InterfaceRow}
use Rattle.mj_schema.specs.declared.rows.MethodRow.{MethodRow}
use Rattle.mj_schema.specs.declared.rows.StructRow.{StructRow}
use Rattle.mj_schema.specs.declared.schema.Schema.{Schema}
use Rattle.wire_model.specs.Expected.{method_named, struct_of}
use Rattle.wire_model.specs.Marks.{visit, object_marks}
use Rattle.wire_model.specs.Tight.{MAX_DEPTH, marks_of, value_of}
use Rattle.wire_model.specs.Values.{value, object_value}
use Rattle.wire_model.specs.declared.target.Expected.{Expected}
use Rattle.wire_model.specs.declared.target.MessageSide.{MessageSide}
use Rattle.wire_model.specs.declared.target.MessageSide.TheVariants.{Request, Response}
use Rattle.readable_marks.specs.Readable.{AreReadable}
use Rattle.wire_view.proofs.Bytes.{by_test}

-- a row whose number is below their count
found_below : {A : Type 0} (xs : List A) (i : ℕ) → i < length xs → (x : A) × (Some x ≡ slice_get xs i)
found_below [] i lt = absurd (omega (arith, lt))
found_below (x ∷ xs) zero lt = (x, refl)
found_below (x ∷ xs) (suc i) lt = found_below xs i (omega (arith, lt))

-- what is tested of all holds of one
one_of : {A : Type 0} (p : A → Bool) (xs : List A) (i : ℕ) (x : A) → list_all p xs ≡ true → slice_get xs i ≡ Some x → p x ≡ true
one_of p [] i x h e = absurd cc
one_of p (y ∷ ys) zero x h e = let same : y ≡ x = cc in subst (λ z. p z ≡ true) same (and_parts (p y) (list_all p ys) h).0
one_of p (y ∷ ys) (suc i) x h e = one_of p ys i x (and_parts (p y) (list_all p ys) h).1 e

found_of : {A : Type 0} (p q : A → Bool) (xs : List A) (x : A) → list_all p xs ≡ true → find q xs ≡ Some x → p x ≡ true
found_of p q [] x h e = absurd cc
found_of p q (y ∷ ys) x h e =
    let parts = and_parts (p y) (list_all p ys) h in
    by_test (q y) (λ t. cond t (Some y) (find q ys) ≡ Some x → p x ≡ true) (λ _ is. let same : y ≡ x = cc in subst (λ z. p z ≡ true) same parts.0) (λ _ is.
    found_of p q ys x parts.1 is) e

-- the structs of all methods are there
methods_there : (schema : Schema) → list_all (λ (row : InterfaceRow). list_all (has_structs (length schema.structs)) row.methods) schema.interfaces ≡ true
methods_there schema =
    let counts = counts_of schema.structs schema.unions schema.enums schema.interfaces schema.consts in
    let a = list_all (are_within counts) (all_kinds schema.structs schema.unions schema.consts) in
    let b = list_all (λ (row : InterfaceRow). list_all (has_structs (length schema.structs)) row.methods) schema.interfaces in
    (and_parts b _ (and_parts a _ schema.well_formed).1).0

side_there : (schema : Schema) (side : MessageSide) (method : MethodRow) (number : ℕ) → has_structs (length schema.structs) method ≡ true
    → struct_of side method ≡ Some number → nat_lt number (length schema.structs) ≡ true
side_there schema Request method number h e =
    let same : method.request ≡ number = cc in
    subst (λ (n : ℕ). nat_lt n (length schema.structs) ≡ true) same (and_parts (nat_lt method.request (length schema.structs)) _ h).0
side_there schema Response method number h e =
    subst (λ (o : Option ℕ). option_map_or (λ (n : ℕ). nat_lt n (length schema.structs)) o true ≡ true) e
    (and_parts (nat_lt method.request (length schema.structs)) _ h).1

method_there : (schema : Schema) (side : MessageSide) (number : ℕ) (row : InterfaceRow) (q : MethodRow → Bool) (m : Option MethodRow)
    → list_all (has_structs (length schema.structs)) row.methods ≡ true → find q row.methods ≡ m
    → option_and_then (struct_of side) m ≡ Some number → nat_lt number (length schema.structs) ≡ true
method_there schema side number row q None h is e = absurd cc
method_there schema side number row q (Some method) h is e =
    side_there schema side method number (found_of (has_structs (length schema.structs)) q row.methods method h is) e

interface_there : (schema : Schema) (side : MessageSide) (number i : ℕ) (q : MethodRow → Bool) (o : Option InterfaceRow)
    → slice_get schema.interfaces i ≡ o
    → option_and_then (struct_of side) (option_and_then (λ (row : InterfaceRow). find q row.methods) o) ≡ Some number
    → nat_lt number (length schema.structs) ≡ true
interface_there schema side number i q None at e = absurd cc
interface_there schema side number i q (Some row) at e =
    method_there schema side number row q (find q row.methods)
    (one_of (λ (r : InterfaceRow). list_all (has_structs (length schema.structs)) r.methods) schema.interfaces i row (methods_there schema) at) refl e

-- the struct that a message is for
pub parameters_there : (schema : Schema) (expected : Expected) (bytes : List ℕ) (number : ℕ)
    → option_and_then (struct_of expected.side) (method_named schema expected bytes) ≡ Some number
    → (row : StructRow) × (Some row ≡ slice_get schema.structs number)
parameters_there schema expected bytes number e =
    found_below schema.structs number (ltb-true number (length schema.structs)
    (interface_there schema expected.side number expected.interface (λ (method : MethodRow). method.ordinal == number32 bytes 12)
    (slice_get schema.interfaces expected.interface) refl e))

-- its marks and its value
pub parameters_stand : (n : ℕ) (schema : Schema) (bytes : List ℕ) (start number : ℕ) → AreReadable n (marks_of schema bytes start number)
    → AreReadable n (object_marks (visit (MAX_DEPTH - 1) schema bytes) schema bytes start (StructKind number false))
unfolding visit
parameters_stand n schema bytes start number h = h

pub parameters_value : (schema : Schema) (bytes : List ℕ) (start number : ℕ)
    → object_value (value (MAX_DEPTH - 1) schema bytes) schema bytes start (StructKind number false) ≡ value_of schema bytes start number
unfolding value
parameters_value schema bytes start number = refl
