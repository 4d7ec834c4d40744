-- What a version of a struct lacks reads as values of its kinds, at most one level deep.
use Rattle.std.proofs.Common.{◌≡◌, ℕ, ◌<◌, ◌≤◌, Bool, true, false, cond, List, [], ◌∷◌, length, drop, map, All, Option, Some, None, refl, ap, subst, sym, ◌∙◌, arith}
use Rattle.std.specs.Prelude.{nat_le}
use Rattle.std.specs.List.{filter}
use Rattle.std.proofs.lemmas.Bool.{and_parts, leb-true, le-leb}
use Rattle.std.proofs.lemmas.Bool.Decides.{nat_tests}
use Rattle.std.proofs.lemmas.List.Elements.{All-nil, All-cons, All-head, All-tail}
use Rattle.mj_schema.specs.KindTrees as kinds
use Rattle.mj_schema.specs.KindTrees.{KindTree}
use Rattle.mj_schema.specs.Layout.{IsLaidOut, never_fall}
use Rattle.mj_schema.specs.Versions.{fields_up_to, version_row, version_rows, versions_behind}
use Rattle.mj_schema.specs.declared.rows.FieldRow.{FieldRow}
use Rattle.mj_schema.specs.declared.rows.Literal.{Literal}
use Rattle.mj_schema.specs.declared.rows.Literal.TheVariants as literals
use Rattle.mj_schema.specs.declared.rows.StructRow.{StructRow}
use Rattle.mj_schema.specs.declared.rows.VersionRow.{VersionRow}
use Rattle.mj_schema.specs.declared.schema.Schema.{Schema}
use Rattle.wire_model.specs.Absent.{absent_field, absent_values}
use Rattle.wire_model.specs.Depth.{levels, levels_in, AreOfKinds}
use Rattle.wire_model.specs.Rows.{row_for, last_or, no_row}
use Rattle.wire_model.specs.Slots.{field_slot}
use Rattle.message_laws.specs.Filled.{IsFilled}
use Rattle.same_messages.proofs.Cases.{by_test, max_least}

-- a string by default is the only object
absent_deep : (schema : Schema) (default : Option Literal) (k : KindTree) → levels true (absent_field schema default k) ≤ 1
absent_deep schema (Some (literals.Bool b)) k = omega arith
absent_deep schema (Some (literals.Whole n)) k = omega arith
absent_deep schema (Some (literals.Text bs)) k = omega arith
absent_deep schema None (kinds.BoolKind true) = omega arith
absent_deep schema None (kinds.BoolKind false) = omega arith
absent_deep schema None (kinds.IntKind w s true) = omega arith
absent_deep schema None (kinds.IntKind w s false) = omega arith
absent_deep schema None (kinds.EnumKind n true) = omega arith
absent_deep schema None (kinds.EnumKind n false) = omega arith
absent_deep schema None (kinds.TextKind n) = omega arith
absent_deep schema None (kinds.HandleKind s n) = omega arith
absent_deep schema None (kinds.ArrayKind o c n) = omega arith
absent_deep schema None (kinds.MapKind k v n) = omega arith
absent_deep schema None (kinds.StructKind s n) = omega arith
absent_deep schema None (kinds.UnionKind u n) = omega arith
absent_deep schema None (kinds.RemoteKind i n) = omega arith
absent_deep schema None (kinds.ReceiverKind i n) = omega arith
absent_deep schema None (kinds.AssociatedRemoteKind i n) = omega arith
absent_deep schema None (kinds.AssociatedReceiverKind i n) = omega arith

pub absents_deep : (schema : Schema) (fields : List FieldRow) → levels_in (absent_values schema fields) ≤ 1
absents_deep schema [] = omega arith
absents_deep schema (f ∷ fs) = max_least _ _ 1 (absent_deep schema f.default f.kind) (absents_deep schema fs)

abbrev IsLate : FieldRow → Type 0
IsLate field = 0 < field.min_version

pub absents_kinded : (schema : Schema) (fields : List FieldRow) → All IsLate fields → All (IsFilled schema) fields
    → AreOfKinds schema (map field_slot fields) (absent_values schema fields)
unfolding AreOfKinds
absents_kinded schema [] late filled = tt
absents_kinded schema (f ∷ fs) late filled = (
  All-head (IsFilled schema) f fs filled (All-head IsLate f fs late),
  absents_kinded schema fs (All-tail IsLate f fs late) (All-tail (IsFilled schema) f fs filled),
)

-- ---- no version lacks a field of version 0

abbrev since : FieldRow → ℕ
since field = field.min_version

all_late : (w : ℕ) (fs : List FieldRow) → 0 < w → never_fall w (map since fs) ≡ true → All IsLate fs
all_late w [] lt h = All-nil IsLate
all_late w (f ∷ fs) lt h =
    let parts = and_parts (nat_le w f.min_version) (never_fall f.min_version (map since fs)) h in
    let le = leb-true w f.min_version parts.0 in
    All-cons IsLate f fs (omega arith) (all_late f.min_version fs (omega arith) parts.1)

none_up_to : (v w : ℕ) (fs : List FieldRow) → v < w → never_fall w (map since fs) ≡ true → fields_up_to v fs ≡ []
none_up_to v w [] lt h = refl
none_up_to v w (f ∷ fs) lt h =
    let parts = and_parts (nat_le w f.min_version) (never_fall f.min_version (map since fs)) h in
    let le = leb-true w f.min_version parts.0 in
    let above : nat_le f.min_version v ≡ false = grind (arith, nat_tests) in
    rw above (none_up_to v f.min_version fs (omega arith) parts.1)

behind_late : (v w : ℕ) (fs : List FieldRow) → never_fall w (map since fs) ≡ true → All IsLate (drop (length (fields_up_to v fs)) fs)
behind_late v w [] h = All-nil IsLate
behind_late v w (f ∷ fs) h =
    let parts = and_parts (nat_le w f.min_version) (never_fall f.min_version (map since fs)) h in
    by_test (nat_le f.min_version v) (λ t. All IsLate (drop (length (cond t (f ∷ fields_up_to v fs) (fields_up_to v fs))) (f ∷ fs))) (λ y.
    behind_late v f.min_version fs parts.1) (λ n.
    let less : v < f.min_version = grind (arith, nat_tests) in
    let none : length (fields_up_to v fs) ≡ 0 = ap length (none_up_to v f.min_version fs less parts.1) in
    subst (λ (m : ℕ). All IsLate (drop m (f ∷ fs))) (sym none)
    (All-cons IsLate f fs (omega arith) (all_late f.min_version fs (omega arith) parts.1)))

-- the row that is taken is one of the rows
taken : (fields : List FieldRow) (p : VersionRow → Bool) (v : ℕ) (vs : List ℕ)
    → (w : ℕ) × (last_or (version_row fields v) (filter p (map (version_row fields) vs)) ≡ version_row fields w)
taken fields p v [] = (v, refl)
taken fields p v (x ∷ xs) =
    by_test (p (version_row fields x)) (λ t. (w : ℕ) × (last_or (version_row fields v) (cond t (version_row fields x ∷ filter p (map (version_row fields) xs))
    (filter p (map (version_row fields) xs))) ≡ version_row fields w)) (λ _. taken fields p x xs) (λ _. taken fields p v xs)

-- the row of version 0 always is
first_taken : (fields : List FieldRow) (version : ℕ) → row_for (version_rows fields) version
    ≡ last_or (version_row fields 0) (filter (λ (r : VersionRow). nat_le r.version version) (map (version_row fields) (versions_behind 0 fields)))
first_taken fields version =
    let rest = filter (λ (r : VersionRow). nat_le r.version version) (map (version_row fields) (versions_behind 0 fields)) in
    ap (λ (b : Bool). last_or no_row (cond b (version_row fields 0 ∷ rest) rest)) (le-leb 0 version (omega arith))

-- the fields that a version lacks
pub lacked_late : (row : StructRow) → IsLaidOut row → (version : ℕ) → All IsLate (drop (row_for row.versions version).fields row.fields)
lacked_late row h version =
    let p : VersionRow → Bool = λ r. nat_le r.version version in
    let t = taken row.fields p 0 (versions_behind 0 row.fields) in
    let is : row_for row.versions version ≡ version_row row.fields t.0 =
    ap (λ (rows : List VersionRow). row_for rows version) h.versions ∙ first_taken row.fields version ∙ t.1 in
    subst (λ (r : VersionRow). All IsLate (drop r.fields row.fields)) (sym is) (behind_late t.0 0 row.fields h.rising)
