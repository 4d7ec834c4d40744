-- Every schema is filled: what a version lacks reads as a value of its kind, as the type of a schema keeps literals, later fields and the
-- numbers of enums.
use Rattle.std.proofs.Common.{◌≡◌, ◌<◌, ℕ, zero, suc, ℤ, pos, negsuc, Bool, true, false, List, [], ◌∷◌, length, map, refl, sym, ap, subst, ◌∙◌, arith}
use Rattle.std.specs.Prelude.{◌-◌, ◌^◌, ◌||◌, ◌==◌, neg_ℤ, not, IsTrue, nat_le, nat_lt, int_le, if◌then◌else◌, Option, Some, None, is_some, slice_get, FitsSigned, All}
use Rattle.std.specs.Int.{w32}
use Rattle.std.specs.List.{AllByRecursion, list_all, list_any}
use Rattle.std.specs.Option.{option_map_or}
use Rattle.std.specs.Ordering.{int_eq}
use Rattle.std.proofs.lemmas.Bool.{and_parts}
use Rattle.std.proofs.lemmas.Bool.Decides.{Decides-int_eq, nat_tests}
use Rattle.std.proofs.lemmas.Cmp.{int_eq_equiv}
use Rattle.std.proofs.lemmas.List.Elements.{All-from_recursion, All-head, All-tail}
use Rattle.std.proofs.lemmas.Str.{utf8_valid_len-IsUtf8, IsUtf8-from_is_utf8}
use Rattle.mj_base.specs.Texts.{are_distinct}
use Rattle.mj_base.specs.declared.limits.TheConstants.{MAX_ENUMERATORS, MAX_FIELDS}
use Rattle.mj_schema.specs.KindTrees as kinds
use Rattle.mj_schema.specs.KindTrees.{KindTree}
use Rattle.mj_schema.specs.Layout.{draft_field, draft_of}
use Rattle.mj_schema.specs.Parts.{has_flag, flag_place}
use Rattle.mj_schema.specs.Sizes.{bits_of}
use Rattle.mj_schema.specs.Sound.{in_bits, has_number, is_default_of, has_default, is_plain, may_be_null, can_be_absent, is_sound_field, is_sound_struct, is_sound_enum, is_text, has_texts}
use Rattle.mj_schema.specs.WellFormed.{has_members}
use Rattle.mj_schema.proofs.Clauses.{fields_sound, members_sound, members_there, texts_sound}
use Rattle.mj_schema.specs.declared.kind.Width.{Width}
use Rattle.mj_schema.specs.declared.kind.Width.TheVariants.{Bits8, Bits16, Bits32, Bits64}
use Rattle.mj_schema.specs.declared.rows.DraftField.{DraftField}
use Rattle.mj_schema.specs.declared.rows.EnumRow.{EnumRow}
use Rattle.mj_schema.specs.declared.rows.FieldRow.{FieldRow}
use Rattle.mj_schema.specs.declared.rows.Flag.{Flag}
use Rattle.mj_schema.specs.declared.rows.Literal.{Literal}
use Rattle.mj_schema.specs.declared.rows.Literal.TheVariants as literals
use Rattle.mj_schema.specs.declared.rows.MemberRow.{MemberRow}
use Rattle.mj_schema.specs.declared.rows.StructRow.{StructRow}
use Rattle.mj_schema.specs.declared.schema.Schema.{Schema}
use Rattle.wire_model.specs.Absent.{absent_field, absent_kind, enum_number, first_number, has_zero, literal_value}
use Rattle.wire_model.specs.Depth.{IsOfKind}
use Rattle.wire_model.specs.Fits.{IsFlagged, IsGoodRow}
use Rattle.wire_model.specs.Kinded.{IsInRange, OrNull}
use Rattle.wire_model.specs.Marks.{is_known}
use Rattle.wire_model.specs.Slots.{field_slot}
use Rattle.wire_model.specs.Texts.{valid_len}
use Rattle.wire_model.specs.Trees.{Tree, Null}
use Rattle.wire_laws.proofs.GoodRows.{good_schema}
use Rattle.message_laws.specs.Filled.{IsFilled, IsFilledSchema}

-- numbers

at_most : (n m : ℕ) → nat_le n m ≡ true → n < suc m
at_most n m e = grind (arith, nat_tests)

-- both bounds of a number of so many bits
signed_parts : (bits : ℕ) (n : ℤ) → in_bits true bits n ≡ true
    → (int_le (neg_ℤ (pos (2 ^ (bits - 1)))) n ≡ true) × (int_le n (pos (2 ^ (bits - 1) - 1)) ≡ true)
signed_parts bits n e = and_parts (int_le (neg_ℤ (pos (2 ^ (bits - 1)))) n) (int_le n (pos (2 ^ (bits - 1) - 1))) e

unsigned_parts : (bits : ℕ) (n : ℤ) → in_bits false bits n ≡ true → (int_le (pos 0) n ≡ true) × (int_le n (pos (2 ^ bits - 1)) ≡ true)
unsigned_parts bits n e = and_parts (int_le (pos 0) n) (int_le n (pos (2 ^ bits - 1))) e

in_range : (w : Width) (signed : Bool) (n : ℤ) → in_bits signed (bits_of w) n ≡ true → IsInRange w signed n
in_range Bits8 true (pos n) e = record { sfits = at_most n 127 (signed_parts 8 (pos n) e).1 }
in_range Bits16 true (pos n) e = record { sfits = at_most n 32767 (signed_parts 16 (pos n) e).1 }
in_range Bits32 true (pos n) e = record { sfits = at_most n 2147483647 (signed_parts 32 (pos n) e).1 }
in_range Bits64 true (pos n) e = record { sfits = at_most n 9223372036854775807 (signed_parts 64 (pos n) e).1 }
in_range Bits8 true (negsuc n) e = record { sfits = at_most n 127 (signed_parts 8 (negsuc n) e).0 }
in_range Bits16 true (negsuc n) e = record { sfits = at_most n 32767 (signed_parts 16 (negsuc n) e).0 }
in_range Bits32 true (negsuc n) e = record { sfits = at_most n 2147483647 (signed_parts 32 (negsuc n) e).0 }
in_range Bits64 true (negsuc n) e = record { sfits = at_most n 9223372036854775807 (signed_parts 64 (negsuc n) e).0 }
in_range Bits8 false (pos n) e = at_most n 255 (unsigned_parts 8 (pos n) e).1
in_range Bits16 false (pos n) e = at_most n 65535 (unsigned_parts 16 (pos n) e).1
in_range Bits32 false (pos n) e = at_most n 4294967295 (unsigned_parts 32 (pos n) e).1
in_range Bits64 false (pos n) e = at_most n 18446744073709551615 (unsigned_parts 64 (pos n) e).1
in_range Bits8 false (negsuc n) e = absurd cc
in_range Bits16 false (negsuc n) e = absurd cc
in_range Bits32 false (negsuc n) e = absurd cc
in_range Bits64 false (negsuc n) e = absurd cc

-- the numbers of the members of an enum have 32 bits
abbrev EnumFits : EnumRow → Type 0
EnumFits row = AllByRecursion (λ (m : MemberRow). FitsSigned w32 m.number) row.members

members_fit : (members : List MemberRow) → list_all (λ (m : MemberRow). in_bits true 32 m.number) members ≡ true
    → AllByRecursion (λ (m : MemberRow). FitsSigned w32 m.number) members
members_fit [] e = tt
members_fit (m ∷ ms) e =
    let parts = and_parts (in_bits true 32 m.number) (list_all (λ (m : MemberRow). in_bits true 32 m.number) ms) e in
    (in_range Bits32 true m.number parts.0, members_fit ms parts.1)

-- what is absent

zero_in : (w : Width) (signed : Bool) → IsInRange w signed (pos 0)
zero_in Bits8 true = record { sfits = omega arith }
zero_in Bits16 true = record { sfits = omega arith }
zero_in Bits32 true = record { sfits = omega arith }
zero_in Bits64 true = record { sfits = omega arith }
zero_in Bits8 false = omega arith
zero_in Bits16 false = omega arith
zero_in Bits32 false = omega arith
zero_in Bits64 false = omega arith

or_right : (a b : Bool) → b ≡ true → (a || b) ≡ true
or_right true b e = refl
or_right false b e = e

-- a number of one of these members
fits_of : (members : List MemberRow) (n : ℤ) → AllByRecursion (λ (m : MemberRow). FitsSigned w32 m.number) members
    → list_any (λ (m : MemberRow). int_eq m.number n) members ≡ true → FitsSigned w32 n
fits_of [] n fit e = absurd cc
fits_of (m ∷ members) n fit e = of (fits_of members n fit.1) (int_eq m.number n) refl e
  where
    of : (list_any (λ (m : MemberRow). int_eq m.number n) members ≡ true → FitsSigned w32 n) → (b : Bool) → int_eq m.number n ≡ b
        → (b || list_any (λ (m : MemberRow). int_eq m.number n) members) ≡ true → FitsSigned w32 n
    of rest true same e = subst (FitsSigned w32) ((Decides-int_eq m.number n).0 same) fit.0
    of rest false same e = rest e

-- the number that an enum reads as
abbrev IsMember : Option EnumRow → ℤ → Type 0
IsMember o n = FitsSigned w32 n × IsTrue (is_known o n)

first_member : (extensible : Bool) (members : List MemberRow) → AllByRecursion (λ (m : MemberRow). FitsSigned w32 m.number) members
    → nat_lt 0 (length members) ≡ true
    → FitsSigned w32 (first_number members)
    × ((extensible || list_any (λ (m : MemberRow). int_eq m.number (first_number members)) members) ≡ true)
first_member extensible [] fit some = absurd cc
first_member extensible (m ∷ members) fit some = of (has_zero (m ∷ members)) refl
  where
    of : (b : Bool) → has_zero (m ∷ members) ≡ b
        → FitsSigned w32 (if b then pos 0 else m.number)
        × ((extensible || list_any (λ (o : MemberRow). int_eq o.number (if b then pos 0 else m.number)) (m ∷ members)) ≡ true)
    of true is = (record { sfits = omega arith }, or_right extensible _ is)
    of false is =
        (fit.0, or_right extensible _ (ap (λ (b : Bool). b || list_any (λ (o : MemberRow). int_eq o.number m.number) members) (int_eq_equiv.refl m.number)))

enum_absent : (o : Option EnumRow) → ((row : EnumRow) → o ≡ Some row → (has_members row ≡ true) × EnumFits row) → IsMember o (enum_number o)
enum_absent None is = (record { sfits = omega arith }, refl)
enum_absent (Some row) is = of row.default refl
  where
    fine : (has_members row ≡ true) × EnumFits row
    fine = is row refl

    parts : (nat_lt 0 (length row.members) ≡ true)
        × (option_map_or (λ default. list_any (λ (m : MemberRow). int_eq m.number default) row.members) row.default true ≡ true)
    parts = and_parts (nat_lt 0 (length row.members)) _ fine.0

    of : (d : Option ℤ) → row.default ≡ d → IsMember (Some row) (elim d [ Some n ↦ n | None ↦ first_number row.members ])
    of None e = first_member row.extensible row.members fine.1 parts.0
    of (Some n) e =
        let among : list_any (λ (m : MemberRow). int_eq m.number n) row.members ≡ true =
        sym (ap (λ (d : Option ℤ). option_map_or (λ default. list_any (λ (m : MemberRow). int_eq m.number default) row.members) d true) e) ∙ parts.1 in
        (fits_of row.members n fine.1 among, or_right row.extensible _ among)

same_flag : (flag : Option Flag) → is_some (flag_place flag) ≡ is_some flag
same_flag None = refl
same_flag (Some flag) = refl

-- what is so of each is so of one
at_each : {A : Type 0} (test : A → Bool) (xs : List A) (k : ℕ) (x : A) → list_all test xs ≡ true → slice_get xs k ≡ Some x → test x ≡ true
at_each test [] k x all e = absurd cc
at_each test (y ∷ ys) zero x all e =
    let same : y ≡ x = cc in subst (λ z. test z ≡ true) same (and_parts (test y) (list_all test ys) all).0
at_each test (y ∷ ys) (suc k) x all e = at_each test ys k x (and_parts (test y) (list_all test ys) all).1 e

module _ (schema : Schema) where
  enums : (n : ℕ) (row : EnumRow) → slice_get schema.enums n ≡ Some row → (has_members row ≡ true) × EnumFits row
  enums n row at =
      let sound = at_each is_sound_enum schema.enums n row (members_sound schema) at in
      let names = (and_parts (nat_le (length row.members) MAX_ENUMERATORS) _ sound).1 in
      let numbers = (and_parts (are_distinct (map (λ (m : MemberRow). m.name) row.members)) _ names).1 in
      (at_each has_members schema.enums n row (members_there schema) at, members_fit row.members numbers)

  -- a kind without a flag reads as a value of itself, and a kind with one as null
  absent_kinded : (kind : KindTree) → (is_plain kind || may_be_null kind) ≡ true → has_flag kind ≡ false → IsOfKind schema kind (absent_kind schema kind)
  unfolding IsOfKind
  absent_kinded (kinds.BoolKind false) e f = (false, refl)
  absent_kinded (kinds.BoolKind true) e f = absurd cc
  absent_kinded (kinds.IntKind w signed false) e f = zero_in w signed
  absent_kinded (kinds.IntKind w signed true) e f = absurd cc
  absent_kinded (kinds.EnumKind n false) e f = enum_absent (slice_get schema.enums n) (λ row is. enums n row is)
  absent_kinded (kinds.EnumKind n true) e f = absurd cc
  absent_kinded (kinds.TextKind nullable) e f = e
  absent_kinded (kinds.HandleKind sort nullable) e f = e
  absent_kinded (kinds.ArrayKind of count nullable) e f = e
  absent_kinded (kinds.MapKind key one nullable) e f = e
  absent_kinded (kinds.StructKind n nullable) e f = e
  absent_kinded (kinds.UnionKind n nullable) e f = e
  absent_kinded (kinds.RemoteKind n nullable) e f = e
  absent_kinded (kinds.ReceiverKind n nullable) e f = e
  absent_kinded (kinds.AssociatedRemoteKind n nullable) e f = e
  absent_kinded (kinds.AssociatedReceiverKind n nullable) e f = e

  absent_null : (kind : KindTree) → has_flag kind ≡ true → absent_kind schema kind ≡ Null
  absent_null (kinds.BoolKind true) f = refl
  absent_null (kinds.BoolKind false) f = absurd cc
  absent_null (kinds.IntKind w signed true) f = refl
  absent_null (kinds.IntKind w signed false) f = absurd cc
  absent_null (kinds.EnumKind n true) f = refl
  absent_null (kinds.EnumKind n false) f = absurd cc
  absent_null kind f = refl

  absent_there : (flag : Option Flag) (kind : KindTree) → is_some flag ≡ has_flag kind → (is_plain kind || may_be_null kind) ≡ true
      → OrNull (flag_place flag) (absent_kind schema kind) (IsOfKind schema kind (absent_kind schema kind))
  absent_there None kind same e = absent_kinded kind e (sym same)
  absent_there (Some flag) kind same e =
      subst (λ (t : Tree). OrNull (flag_place (Some flag)) t (IsOfKind schema kind t)) (sym (absent_null kind (sym same))) tt

  -- the number of a member of an enum
  member_kinded : (n : ℕ) (number : ℤ) → has_number (slice_get schema.enums n) number ≡ true
      → FitsSigned w32 number × IsTrue (is_known (slice_get schema.enums n) number)
  member_kinded n number e = go (slice_get schema.enums n) refl e
    where
      go : (o : Option EnumRow) → slice_get schema.enums n ≡ o → has_number o number ≡ true → FitsSigned w32 number × IsTrue (is_known o number)
      go None at e = absurd cc
      go (Some row) at e = (fits_of row.members number (enums n row at).1 e, or_right row.extensible _ e)

  -- a default of its kind
  given_kinded : (kind : KindTree) (literal : Literal) → is_default_of schema.enums kind literal ≡ true → is_text literal ≡ true
      → IsOfKind schema kind (literal_value literal)
  unfolding IsOfKind valid_len
  given_kinded (kinds.BoolKind nullable) (literals.Bool b) e text = (nullable, refl)
  given_kinded (kinds.IntKind w signed nullable) (literals.Whole n) e text = in_range w signed n e
  given_kinded (kinds.EnumKind n nullable) (literals.Whole number) e text = member_kinded n number e
  given_kinded (kinds.TextKind nullable) (literals.Text bytes) e text =
      (nullable, refl, utf8_valid_len-IsUtf8 bytes (IsUtf8-from_is_utf8 bytes text))
  given_kinded kind literal e text = absurd cc

  given_there : (flag : Option Flag) (kind : KindTree) (literal : Literal) → IsOfKind schema kind (literal_value literal)
      → OrNull (flag_place flag) (literal_value literal) (IsOfKind schema kind (literal_value literal))
  given_there None kind literal is = is
  given_there (Some flag) kind (literals.Bool b) is = is
  given_there (Some flag) kind (literals.Whole n) is = is
  given_there (Some flag) kind (literals.Text bytes) is = is

  late_absent : (version : ℕ) (late : Bool) → (version == 0 || late) ≡ true → 0 < version → late ≡ true
  late_absent version late e after =
      let some : (version == 0) ≡ false = grind (arith, nat_tests) in
      subst (λ (b : Bool). (b || late) ≡ true) some e

  field_filled : (field : FieldRow) → is_some field.flag ≡ has_flag field.kind → is_sound_field schema.enums (draft_field field) ≡ true
      → option_map_or is_text field.default true ≡ true → IsFilled schema field
  field_filled field same sound text late = of field.default parts.1 text
    where
      parts : (can_be_absent (draft_field field) ≡ true) × (has_default schema.enums field.kind field.default ≡ true)
      parts = and_parts (can_be_absent (draft_field field)) (has_default schema.enums field.kind field.default) sound

      of : (o : Option Literal) → has_default schema.enums field.kind o ≡ true → option_map_or is_text o true ≡ true
          → OrNull (flag_place field.flag) (absent_field schema o field.kind) (IsOfKind schema field.kind (absent_field schema o field.kind))
      of None has is =
          absent_there field.flag field.kind same (late_absent field.min_version (is_plain field.kind || may_be_null field.kind) parts.0 late)
      of (Some literal) has is =
          given_there field.flag field.kind literal
          (given_kinded field.kind literal (and_parts (not (has_flag field.kind)) (is_default_of schema.enums field.kind literal) has).1 is)

  fields_filled : (fields : List FieldRow) → All IsFlagged (map field_slot fields)
      → list_all (is_sound_field schema.enums) (map draft_field fields) ≡ true
      → list_all (λ (f : DraftField). option_map_or is_text f.default true) (map draft_field fields) ≡ true → AllByRecursion (IsFilled schema) fields
  fields_filled [] flagged sound text = tt
  fields_filled (f ∷ fs) flagged sound text =
      let one = and_parts (is_sound_field schema.enums (draft_field f)) _ sound in
      let two = and_parts (option_map_or is_text f.default true) _ text in (
        field_filled f (sym (same_flag f.flag) ∙ All-head IsFlagged (field_slot f) (map field_slot fs) flagged) one.0 two.0,
        fields_filled fs (All-tail IsFlagged (field_slot f) (map field_slot fs) flagged) one.1 two.1,
      )

  structs_filled : (rows : List StructRow) → All IsGoodRow rows → list_all (is_sound_struct schema.enums) (map draft_of rows) ≡ true
      → list_all has_texts (map draft_of rows) ≡ true → AllByRecursion (λ (row : StructRow). All (IsFilled schema) row.fields) rows
  structs_filled [] good sound text = tt
  structs_filled (row ∷ rows) good sound text =
      let one = and_parts (is_sound_struct schema.enums (draft_of row)) _ sound in
      let names = (and_parts (nat_le (length (map draft_field row.fields)) MAX_FIELDS) _ one.0).1 in
      let fields = (and_parts (are_distinct (map (λ (f : DraftField). f.name) (map draft_field row.fields))) _ names).1 in
      let two = and_parts (has_texts (draft_of row)) _ text in (
        All-from_recursion (IsFilled schema) row.fields
            (fields_filled row.fields (All-head IsGoodRow row rows good).flagged fields two.0),
        structs_filled rows (All-tail IsGoodRow row rows good) one.1 two.1,
      )

-- every schema is filled
pub filled : (schema : Schema) → IsFilledSchema schema
filled schema = record {
  structs = All-from_recursion (λ (row : StructRow). All (IsFilled schema) row.fields) schema.structs
      (structs_filled schema schema.structs (good_schema schema).rows (fields_sound schema) (texts_sound schema));
}
