-- An object whose marks are fine has a value of its kind, and all behind it.
use Rattle.std.proofs.Common.{◌≡◌, ℕ, zero, suc, ◌+◌, ◌^◌, ◌≤◌, Bool, true, false, cond, List, [], ◌∷◌, ◌++◌, take, drop, map, Option, Some, None, refl, sym, ap, subst, ◌∙◌, arith}
use Rattle.std.specs.Prelude.{◌==◌, nat_lt, IsTrue, slice_get, All}
use Rattle.std.specs.List.{AllByRecursion}
use Rattle.std.proofs.lemmas.Bool.{and_parts}
use Rattle.std.proofs.lemmas.Bool.Decides.{nat_tests}
use Rattle.std.proofs.lemmas.List.{take-append-drop, map-append}
use Rattle.std.proofs.lemmas.List.Elements.{All-drop, All-get_or}
use Rattle.std.proofs.lemmas.Option.{get_or_from_slice_get, slice_get_within}
use Rattle.mj_base.specs.declared.fault.FaultKind.TheVariants as faults
use Rattle.mj_base.specs.Bytes.{number32, number64}
use Rattle.mj_schema.specs.KindTrees as kinds
use Rattle.mj_schema.specs.KindTrees.{KindTree}
use Rattle.mj_schema.specs.Layout.{IsLaidOut}
use Rattle.mj_schema.specs.Sizes.{size_of}
use Rattle.mj_schema.specs.declared.rows.FieldRow.{FieldRow}
use Rattle.mj_schema.specs.declared.rows.StructRow.{StructRow}
use Rattle.mj_schema.specs.declared.schema.Schema.{Schema}
use Rattle.wire_model.specs.Absent.{absent_values}
use Rattle.wire_model.specs.Kinded.{ArePaired}
use Rattle.wire_model.specs.Depth.{IsOfKind, AreOfKinds}
use Rattle.wire_model.specs.Marks as marks
use Rattle.wire_model.specs.Marks.{Next, pointer_marks, array_marks, text_marks, map_marks, struct_marks, found_struct_marks, object_marks, visit, count_is, count_at, slots_up_to}
use Rattle.wire_model.specs.Rows.{row_for}
use Rattle.wire_model.specs.Slots.{Slot, element_slots, found_fields, field_slot}
use Rattle.wire_model.specs.Stands.{IsFine}
use Rattle.wire_model.specs.Trees as values
use Rattle.wire_model.specs.Trees.{Tree, Trees, none, more, count}
use Rattle.wire_model.specs.Values.{Behind, pointer_value, slots_value, struct_value, found_struct_value, object_value, union_value, value}
use Rattle.wire_laws.proofs.Elements.{content_as_slots}
use Rattle.message_laws.specs.Filled.{AreBytes, IsFilled, IsFilledSchema}
use Rattle.message_laws.proofs.Absent.{absents_deep, absents_kinded, lacked_late}
use Rattle.same_messages.proofs.Fine.{fine_left, fine_right}
use Rattle.message_laws.specs.steps.Kinded.{AreKindedBehind, AreValues, IsPointed, IsThere, IsValue}
use Rattle.message_laws.proofs.KindedSlots.{inline_less, pointed_more, pointer_kinded, slots_kinded, union_kinded}
use Rattle.message_laws.proofs.RowsThere.{elements_there, fields_there, found}
use Rattle.same_messages.proofs.Cases.{by_test}

-- what holds of each of a list holds of the one at a place
all_at : {A : Type 0} (P : A → Type 0) (xs : List A) (i : ℕ) (x : A) → All P xs → slice_get xs i ≡ Some x → P x
all_at P xs i x h e = subst P (get_or_from_slice_get xs i x x e) (All-get_or P xs i x (slice_get_within xs i x e) h)

laid_out_at : (xs : List StructRow) (i : ℕ) (x : StructRow) → AllByRecursion IsLaidOut xs → slice_get xs i ≡ Some x → IsLaidOut x
laid_out_at [] i x h e = absurd cc
laid_out_at (y ∷ ys) zero x h e = let same : y ≡ x = cc in subst IsLaidOut same h.0
laid_out_at (y ∷ ys) (suc i) x h e = laid_out_at ys i x h.1 e

-- as many values as slots
counted : (next : Behind) (schema : Schema) (bytes : List ℕ) (base : ℕ) (k : KindTree) (place n : ℕ)
    → count (slots_value next schema bytes base (element_slots k place n) none) ≡ n
unfolding slots_value
counted next schema bytes base k place zero = refl
counted next schema bytes base k place (suc n) = ap suc (counted next schema bytes base k (place + size_of k) n)

append_nil : (ss : List Slot) → ss ++ [] ≡ ss
append_nil [] = refl
append_nil (s ∷ ss) = ap (λ l. s ∷ l) (append_nil ss)

-- an array behind a pointer has as many elements as are counted
abbrev pub AreListed : List ℕ → Next → Behind → Type 0
AreListed bytes next then_ =
    (from q : ℕ) (k : KindTree) → IsFine (next from q (kinds.ArrayKind k None false))
    → (ts : Trees) × (then_ from q (kinds.ArrayKind k None false) ≡ values.Items ts) × (count ts ≡ number32 bytes (q + 4))

-- two lists with equally many elements
paired : (schema : Schema) (most l r : ℕ) (s t : Tree) (key one : KindTree) (nullable : Bool) (ks vs : Trees)
    → s ≡ values.Items ks → t ≡ values.Items vs → count ks ≡ l → count vs ≡ r → (l == r) ≡ true
    → IsValue schema false (kinds.ArrayKind key None false) s most → IsValue schema false (kinds.ArrayKind one None false) t most
    → IsValue schema false (kinds.MapKind key one nullable) (values.Pairs (more s (more t none))) (suc most)
unfolding IsOfKind
paired schema most l r s t key one nullable ks vs s-is t-is kn vn same a b =
    let even : count ks ≡ count vs = grind (arith, nat_tests) in
    let pair : ArePaired (more s (more t none)) =
    subst (λ (x : Tree). ArePaired (more x (more t none))) (sym s-is)
    (subst (λ (y : Tree). ArePaired (more (values.Items ks) (more y none))) (sym t-is) even) in
    let first = a.deep in
    let second = b.deep in
    record {
      kind = (key, one, nullable, refl, pair, (a.kind, (b.kind, tt)));
      deep = omega (arith, first, second, inline_less s, inline_less t);
    }

module _ (schema : Schema) (filled : IsFilledSchema schema) (bytes : List ℕ) (small : AreBytes bytes) where
  module _ (next : Next) (then_ : Behind) (most : ℕ) (some : 1 ≤ most) (behind : AreKindedBehind schema next then_ most)
      (listed : AreListed bytes next then_) where
    text_kinded : (p : ℕ) (nullable : Bool) → IsFine (text_marks bytes p)
        → IsValue schema false (kinds.TextKind nullable) (object_value then_ schema bytes p (kinds.TextKind nullable)) (suc most)
    unfolding object_value IsOfKind
    text_kinded p nullable fine = record { kind = (nullable, refl, whole _ _ fine.1.1.0); deep = omega arith }
      where
        whole : (a b : ℕ) → (a == b) ≡ true → a ≡ b
        whole a b e = grind (arith, nat_tests)

    array_kinded : (p : ℕ) (of : KindTree) (fixed : Option ℕ) (nullable : Bool) → IsThere schema of → IsFine (array_marks next schema bytes p of fixed)
        → IsValue schema false (kinds.ArrayKind of fixed nullable) (object_value then_ schema bytes p (kinds.ArrayKind of fixed nullable)) (suc most)
    unfolding array_marks object_value IsOfKind
    array_kinded p of fixed nullable there fine =
        let n = number32 bytes (p + 4) in
        let ss = element_slots of 0 n in
        let ts = slots_value then_ schema bytes (p + 8) ss none in
        let counts : count ts ≡ n = counted then_ schema bytes (p + 8) of 0 n in
        let content = subst IsFine (content_as_slots next schema bytes (p + 8) of n) fine.1.1 in
        let nothing : AreValues schema [] none most = record { kinds = tt; deep = omega arith } in
        let all = slots_kinded schema bytes small next then_ most behind (p + 8) ss [] none (elements_there schema of 0 n there) content nothing in
        let each : AreOfKinds schema ss ts = subst (λ (l : List Slot). AreOfKinds schema l ts) (append_nil ss) all.kinds in
        let deep = all.deep in
        record {
          kind = (
            of,
            fixed,
            nullable,
            refl,
            subst (λ (m : ℕ). IsTrue (count_is fixed m)) (sym counts) fine.1.0,
            subst (λ (m : ℕ). AreOfKinds schema (element_slots of 0 m) ts) (sym counts) each,
          );
          deep = omega (arith, deep);
        }

    struct_kinded : (p number : ℕ) (nullable : Bool) (row : StructRow) → slice_get schema.structs number ≡ Some row
        → IsFine (struct_marks next schema bytes p row)
        → IsValue schema false (kinds.StructKind number nullable) (struct_value then_ schema bytes p row (number32 bytes (p + 4))) (suc most)
    unfolding struct_marks IsOfKind
    struct_kinded p number nullable row at fine =
        let version = number32 bytes (p + 4) in
        let n = (row_for row.versions version).fields in
        let here = slots_up_to row version in
        let lacked = drop n row.fields in
        let rest = absent_values schema lacked in
        let fits : All (IsFilled schema) row.fields =
        all_at (λ (r : StructRow). All (IsFilled schema) r.fields) schema.structs number row filled.structs at in
        let late = lacked_late row (laid_out_at schema.structs number row schema.laid_out at) version in
        let flat = absents_deep schema lacked in
        let absent : AreValues schema (map field_slot lacked) rest most = record {
          kinds = absents_kinded schema lacked late (All-drop (IsFilled schema) n row.fields fits);
          deep = omega (arith, flat);
        } in
        let all = slots_kinded schema bytes small next then_ most behind (p + 8) here (map field_slot lacked) rest (fields_there schema number n row at)
        fine.1.1.1 absent in
        let whole : here ++ map field_slot lacked ≡ found_fields (Some row) =
        sym (map-append field_slot (take n row.fields) lacked) ∙ ap (λ (fs : List FieldRow). map field_slot fs) (take-append-drop n row.fields) in
        let deep = all.deep in
        record {
          kind = (row, at, subst (λ (l : List Slot). AreOfKinds schema l (slots_value then_ schema bytes (p + 8) here rest)) whole all.kinds);
          deep = omega (arith, deep);
        }

    found_struct_kinded : (p number : ℕ) (nullable : Bool) (row : StructRow) → slice_get schema.structs number ≡ Some row
        → IsFine (found_struct_marks next schema bytes p (slice_get schema.structs number))
        → IsValue schema false (kinds.StructKind number nullable) (found_struct_value then_ schema bytes p (slice_get schema.structs number)) (suc most)
    found_struct_kinded p number nullable row at =
        subst (λ (o : Option StructRow). IsFine (found_struct_marks next schema bytes p o)
        → IsValue schema false (kinds.StructKind number nullable) (found_struct_value then_ schema bytes p o) (suc most)) (sym at)
        (struct_kinded p number nullable row at)

    -- a map's list
    list_kinded : (p : ℕ) (k : KindTree) → IsFine (pointer_marks next bytes p (kinds.ArrayKind k None false) false)
        → (ts : Trees) × (pointer_value then_ bytes p (kinds.ArrayKind k None false) ≡ values.Items ts) × (count ts ≡ count_at bytes p)
    unfolding pointer_marks pointer_value
    list_kinded p k =
        by_test (number64 bytes p == 0) (λ t. IsFine (cond t (marks.Test false faults.UnexpectedNullPointer p ∷ [])
        (marks.Test (nat_lt (number64 bytes p) (2 ^ 32)) faults.IllegalPointer p ∷ next p (p + number64 bytes p) (kinds.ArrayKind k None false)))
        → (ts : Trees) × (cond t values.Null (then_ p (p + number64 bytes p) (kinds.ArrayKind k None false)) ≡ values.Items ts)
        × (count ts ≡ count_at bytes p))
        (λ _ fine. let no : false ≡ true = fine.0 in absurd cc)
        (λ _ fine. listed p (p + number64 bytes p) k fine.1)

    map_kinded : (p : ℕ) (key one : KindTree) (nullable : Bool) → IsThere schema key → IsThere schema one
        → IsFine (map_marks next bytes p key one)
        → IsValue schema false (kinds.MapKind key one nullable) (object_value then_ schema bytes p (kinds.MapKind key one nullable)) (suc most)
    unfolding map_marks object_value IsOfKind
    map_kinded p key one nullable key_there one_there fine =
        let keys = kinds.ArrayKind key None false in
        let ones = kinds.ArrayKind one None false in
        let ks = pointer_marks next bytes (p + 8) keys false in
        let vs = pointer_marks next bytes (p + 16) ones false in
        let key_fine = fine_left ks _ fine.1.1.1 in
        let behind_keys = fine_right ks _ fine.1.1.1 in
        let one_fine = fine_left vs _ behind_keys in
        let same = fine_right vs _ behind_keys in
        let a = pointer_kinded schema bytes small next then_ most behind (p + 8) keys false tt key_there refl key_fine in
        let b = pointer_kinded schema bytes small next then_ most behind (p + 16) ones false tt one_there refl one_fine in
        let l = list_kinded (p + 8) key key_fine in
        let r = list_kinded (p + 16) one one_fine in
        paired schema most (count_at bytes (p + 8)) (count_at bytes (p + 16)) _ _ key one nullable l.0 r.0 l.1 r.1 l.2 r.2 same.0 a b

    object_kinded : (p : ℕ) (k : KindTree) → IsPointed k → IsThere schema k → IsFine (object_marks next schema bytes p k)
        → IsValue schema false k (object_value then_ schema bytes p k) (suc most)
    unfolding object_marks object_value
    object_kinded p (kinds.BoolKind nb) pointed there fine = absurd pointed
    object_kinded p (kinds.IntKind w s nb) pointed there fine = absurd pointed
    object_kinded p (kinds.EnumKind n nb) pointed there fine = absurd pointed
    object_kinded p (kinds.HandleKind s n) pointed there fine = absurd pointed
    object_kinded p (kinds.RemoteKind i n) pointed there fine = absurd pointed
    object_kinded p (kinds.ReceiverKind i n) pointed there fine = absurd pointed
    object_kinded p (kinds.AssociatedRemoteKind i n) pointed there fine = absurd pointed
    object_kinded p (kinds.AssociatedReceiverKind i n) pointed there fine = absurd pointed
    object_kinded p (kinds.TextKind n) pointed there fine = text_kinded p n fine
    object_kinded p (kinds.ArrayKind o c n) pointed there fine = array_kinded p o c n there fine
    object_kinded p (kinds.MapKind a b n) pointed there fine = let parts = and_parts _ _ there in map_kinded p a b n parts.0 parts.1 fine
    object_kinded p (kinds.StructKind m n) pointed there fine = let row = found schema.structs m there in found_struct_kinded p m n row.0 row.1 fine
    object_kinded p (kinds.UnionKind m n) pointed there fine =
        let u = union_kinded schema bytes small next then_ most behind p m n there fine.1.1 in
        let deep = u.deep in
        record { kind = u.kind; deep = omega (arith, deep, pointed_more (union_value then_ schema bytes p m)) }

  lists_listed : (left : ℕ) → AreListed bytes (visit left schema bytes) (value left schema bytes)
  unfolding visit value object_value
  lists_listed zero from q k fine = let no : false ≡ true = fine.0 in absurd cc
  lists_listed (suc left) from q k fine = (
    slots_value (value left schema bytes) schema bytes (q + 8) (element_slots k 0 (number32 bytes (q + 4))) none,
    refl,
    counted (value left schema bytes) schema bytes (q + 8) k 0 (number32 bytes (q + 4)),
  )

  -- what stands behind a pointer where so many levels are left
  pub visited_kinded : (left : ℕ) → AreKindedBehind schema (visit left schema bytes) (value left schema bytes) (suc left)
  unfolding visit value
  visited_kinded zero from q k pointed there fine = let no : false ≡ true = fine.0 in absurd cc
  visited_kinded (suc left) from q k pointed there fine =
      object_kinded (visit left schema bytes) (value left schema bytes) (suc left) (omega arith) (visited_kinded left) (lists_listed left) q k pointed there
      fine
