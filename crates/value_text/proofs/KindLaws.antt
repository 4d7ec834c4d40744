-- The laws of the text of a value, kind by kind.
use Rattle.std.proofs.Common.{◌≡◌, ℕ, zero, suc, ◌-◌, ◌^◌, ◌≤◌, ◌<◌, List, [], ◌∷◌, Option, Some, None, map, Bool, true, false, ◌==◌}
use Rattle.std.proofs.Common.{◌||◌, refl, arith}
use Rattle.std.specs.Prelude.{pos, slice_get, is_some}
use Rattle.std.proofs.lemmas.Bool.Decides.{nat_tests}
use Rattle.mj_schema.specs.KindTrees as kinds
use Rattle.mj_schema.specs.KindTrees.{KindTree}
use Rattle.mj_schema.specs.Parts.{has_flag}
use Rattle.wire_model.specs.Kinded.{is_nullable}
use Rattle.wire_model.specs.Rows.{kind_of_tag}
use Rattle.wire_model.specs.Trees.{Tree}
use Rattle.wire_model.specs.Trees as values
use Rattle.mj_schema.specs.declared.kind.Width.{Width}
use Rattle.mj_schema.specs.declared.kind.Width.TheVariants.{Bits8, Bits16, Bits32, Bits64}
use Rattle.mj_schema.specs.declared.schema.Schema.{Schema}
use Rattle.mj_schema.specs.declared.rows.StructRow.{StructRow}
use Rattle.mj_schema.specs.declared.rows.UnionRow.{UnionRow}
use Rattle.mj_schema.specs.declared.rows.FieldRow.{FieldRow}
use Rattle.mj_schema.specs.declared.rows.UnionFieldRow.{UnionFieldRow}
use Rattle.byte_rules.specs.Lang.{Lang, as_value, ◌then◌, ◌▸◌, never}
use Rattle.byte_rules.proofs.Good.{Good, Apart, nothing, with_starts, good_value, good_closed, good_never, good_then, good_before, good_choice}
use Rattle.byte_rules.proofs.Good.{good_listed, good_exactly, good_wider}
use Rattle.value_text.specs.Numbers.{is_digit, number, integer, whole, index}
use Rattle.value_text.specs.Rules.{boolean, null_word, opened, fields_after, fields, items_of, fields_of, elements, array, structure, pair, pairs_of}
use Rattle.value_text.specs.Rules.{member, union, base, or_null, slot_value, value}
use Rattle.value_text.proofs.NumberLaws.{good_number}
use Rattle.value_text.proofs.ListedNumbers.{number_starts, good_integer, good_index, good_number_of, good_tag}
use Rattle.value_text.proofs.CharacterLaws.{good_text}

-- what a value that isn't null begins with, and what any value does
abbrev pub base_starts : ℕ → Bool
base_starts b = b == 34 || b == 37 || b == 40 || b == 45 || is_digit b || b == 60 || b == 91 || b == 94 || b == 102 || b == 116 || b == 123

abbrev pub value_starts : ℕ → Bool
value_starts = with_starts (λ b. b == 110) base_starts

wide : {A : Type 0} {S : ℕ → Bool} {one : Lang A} → Good S nothing one → ((b : ℕ) → S b ≡ true → base_starts b ≡ true) → Good base_starts is_digit one
wide o s = good_wider base_starts is_digit o s (λ b e. refl)

apart_false : Apart (λ b. b == 102) (λ b. b == 116)
apart_false b e = grind (arith, nat_tests)

in_boolean : (b : ℕ) → with_starts (λ b. b == 116) (λ b. b == 102) b ≡ true → base_starts b ≡ true
in_boolean b e = grind (arith, nat_tests)

good_boolean : Good base_starts is_digit boolean
unfolding boolean
good_boolean = wide (good_choice (good_before 116 (good_before 114 (good_before 117 (good_closed 101 (values.Flag true)))))
    (good_before 102 (good_before 97 (good_before 108 (good_before 115 (good_closed 101 (values.Flag false)))))) apart_false) in_boolean

good_null : Good (λ b. b == 110) nothing null_word
unfolding null_word
good_null = good_before 110 (good_before 117 (good_before 108 (good_closed 108 values.Null)))

digit_starts : (b : ℕ) → is_digit b ≡ true → base_starts b ≡ true
digit_starts b e = grind (arith, nat_tests)

in_number : (b : ℕ) → number_starts b ≡ true → base_starts b ≡ true
in_number b e = grind (arith, nat_tests)

good_signed : (low high : ℕ) → 1 ≤ low → low < 2 ^ 64 → high < 2 ^ 64 → Good base_starts is_digit (integer low high)
good_signed low high some l h = good_wider base_starts is_digit (good_integer low high some l h) in_number (λ b e. e)

good_natural : (high : ℕ) → high < 2 ^ 64 → Good base_starts is_digit (as_value pos (number 0 high))
good_natural high h = good_wider base_starts is_digit (good_value pos (good_number 0 high (omega arith) (omega arith) h)) digit_starts (λ b e. e)

good_whole : (w : Width) (signed : Bool) → Good base_starts is_digit (whole w signed)
good_whole Bits8 true = good_signed (2 ^ 7) (2 ^ 7 - 1) (omega arith) (omega arith) (omega arith)
good_whole Bits16 true = good_signed (2 ^ 15) (2 ^ 15 - 1) (omega arith) (omega arith) (omega arith)
good_whole Bits32 true = good_signed (2 ^ 31) (2 ^ 31 - 1) (omega arith) (omega arith) (omega arith)
good_whole Bits64 true = good_signed (2 ^ 63) (2 ^ 63 - 1) (omega arith) (omega arith) (omega arith)
good_whole Bits8 false = good_natural (2 ^ 8 - 1) (omega arith)
good_whole Bits16 false = good_natural (2 ^ 16 - 1) (omega arith)
good_whole Bits32 false = good_natural (2 ^ 32 - 1) (omega arith)
good_whole Bits64 false = good_natural (2 ^ 64 - 1) (omega arith)

in_percent : (b : ℕ) → (b == 37) ≡ true → base_starts b ≡ true
in_percent b e = grind (arith, nat_tests)

in_hat : (b : ℕ) → (b == 94) ≡ true → base_starts b ≡ true
in_hat b e = grind (arith, nat_tests)

in_quote : (b : ℕ) → (b == 34) ≡ true → base_starts b ≡ true
in_quote b e = grind (arith, nat_tests)

in_round : (b : ℕ) → (b == 40) ≡ true → base_starts b ≡ true
in_round b e = grind (arith, nat_tests)

in_angle : (b : ℕ) → (b == 60) ≡ true → base_starts b ≡ true
in_angle b e = grind (arith, nat_tests)

in_square : (b : ℕ) → (b == 91) ≡ true → base_starts b ≡ true
in_square b e = grind (arith, nat_tests)

in_curly : (b : ℕ) → (b == 123) ≡ true → base_starts b ≡ true
in_curly b e = grind (arith, nat_tests)

apart_at : Apart (λ b. b == 64) is_digit
apart_at b e = grind (arith, nat_tests)

good_one : (c : ℕ) (g : ℕ → Tree) → ((b : ℕ) → (b == c) ≡ true → base_starts b ≡ true) → Good base_starts is_digit (c ▸ as_value g index)
good_one c g s = good_wider base_starts is_digit (good_before c (good_value g good_index)) s (λ b e. e)

good_two : (c : ℕ) (g : ℕ → ℕ → Tree) → ((b : ℕ) → (b == c) ≡ true → base_starts b ≡ true)
    → Good base_starts is_digit (c ▸ index then λ i. 64 ▸ as_value (g i) index)
good_two c g s = good_wider base_starts is_digit (good_before c (good_then _ good_index (λ i. good_before 64 (good_value (g i) good_index)) apart_at)) s
    (λ b e. e)

good_opened : {S : ℕ → Bool} {one : Lang Tree} (room : Bool) (c : ℕ) → Good S nothing one → ((b : ℕ) → (b == c) ≡ true → base_starts b ≡ true)
    → Good base_starts is_digit (opened room c one)
good_opened false c o s = wide (good_never values.Null) (λ b e. absurd (cc))
good_opened true c o s = wide (good_before c o) s

-- what separates values and ends a bracket
apart_square : Apart value_starts (λ b. b == 93)
apart_square b e = grind (arith, nat_tests)

apart_curly : Apart value_starts (λ b. b == 125)
apart_curly b e = grind (arith, nat_tests)

square_no_digit : (b : ℕ) → (b == 93) ≡ true → is_digit b ≡ false
square_no_digit b e = grind (arith, nat_tests)

curly_no_digit : (b : ℕ) → (b == 125) ≡ true → is_digit b ≡ false
curly_no_digit b e = grind (arith, nat_tests)

colon_no_digit : (b : ℕ) → (b == 58) ≡ true → is_digit b ≡ false
colon_no_digit b e = grind (arith, nat_tests)

angle_no_digit : (b : ℕ) → (b == 62) ≡ true → is_digit b ≡ false
angle_no_digit b e = grind (arith, nat_tests)

abbrev member_starts : ℕ → Bool
member_starts b = b == 58 || b == 62

apart_member : Apart member_starts is_digit
apart_member b e = grind (arith, nat_tests)

in_colon : (b : ℕ) → (b == 58) ≡ true → member_starts b ≡ true
in_colon b e = grind (arith, nat_tests)

in_end : (b : ℕ) → (b == 62) ≡ true → member_starts b ≡ true
in_end b e = grind (arith, nat_tests)

abbrev field_ends : ℕ → Bool
field_ends b = b == 44 || b == 41

apart_field : Apart field_ends is_digit
apart_field b e = grind (arith, nat_tests)

in_comma : (b : ℕ) → (b == 44) ≡ true → field_ends b ≡ true
in_comma b e = grind (arith, nat_tests)

in_close : (b : ℕ) → (b == 41) ≡ true → field_ends b ≡ true
in_close b e = grind (arith, nat_tests)

-- what a struct's fields may begin with
abbrev any_byte : ℕ → Bool
any_byte b = true

module _ (inside : Bool → KindTree → Lang Tree) (good : (flagged : Bool) (k : KindTree) → Good value_starts is_digit (inside flagged k)) where
  good_after : (fs : List FieldRow) → Good field_ends nothing (fields_after inside fs)
  unfolding fields_after
  good_after [] = good_wider field_ends nothing (good_closed 41 []) in_close (λ b e. refl)
  good_after (f ∷ fs) = good_wider field_ends nothing
      (good_before 44 (good_then _ (good (is_some f.flag) f.kind) (λ v. good_value (λ vs. v ∷ vs) (good_after fs)) apart_field)) in_comma (λ b e. refl)

  good_fields : (fs : List FieldRow) → Good any_byte nothing (fields inside fs)
  unfolding fields
  good_fields [] = good_wider any_byte nothing (good_closed 41 []) (λ b e. refl) (λ b e. refl)
  good_fields (f ∷ fs) = good_wider any_byte nothing
      (good_then _ (good (is_some f.flag) f.kind) (λ v. good_value (λ vs. v ∷ vs) (good_after fs)) apart_field) (λ b e. refl) (λ b e. refl)

  good_elements : (of : KindTree) (count : Option ℕ) → Good (with_starts (λ b. b == 93) value_starts) nothing (elements (inside false of) count)
  good_elements of None = good_listed 93 (good false of) apart_square square_no_digit refl refl
  good_elements of (Some n) = good_exactly 93 (good false of) refl square_no_digit n

  good_array : (of : KindTree) (count : Option ℕ) → Good (with_starts (λ b. b == 93) value_starts) nothing (array (inside false of) count)
  good_array of count = good_value items_of (good_elements of count)

  good_pair : (key one : KindTree) → Good value_starts is_digit (pair (inside false key) (inside false one))
  unfolding pair
  good_pair key one = good_then _ (good false key) (λ k. good_before 58 (good_value (λ v. (k, v)) (good false one))) colon_no_digit

  good_structure : (row : Option StructRow) → Good any_byte nothing (structure inside row)
  good_structure None = good_wider any_byte nothing (good_never values.Null) (λ b e. refl) (λ b e. refl)
  good_structure (Some row) = good_value fields_of (good_fields row.fields)

  good_member : (tag : ℕ) (k : Option KindTree) → Good member_starts nothing (member inside tag k)
  good_member tag None = good_wider member_starts nothing (good_closed 62 (values.Unknown tag)) in_end (λ b e. refl)
  good_member tag (Some k) = good_wider member_starts nothing
      (good_before 58 (good_then _ (good false k) (λ v. good_closed 62 (values.Member tag v)) angle_no_digit)) in_colon (λ b e. refl)

  good_union : (row : Option UnionRow) → Good any_byte nothing (union inside row)
  good_union None = good_wider any_byte nothing (good_never values.Null) (λ b e. refl) (λ b e. refl)
  good_union (Some row) = good_wider any_byte nothing
      (good_then _ (good_tag row.extensible (map (λ (field : UnionFieldRow). field.tag) row.fields))
      (λ tag. good_member tag (kind_of_tag row.fields tag)) apart_member) (λ b e. refl) (λ b e. refl)

  good_base : (schema : Schema) (room : Bool) (k : KindTree) → Good base_starts is_digit (base schema room inside k)
  good_base schema room (kinds.BoolKind nullable) = good_boolean
  good_base schema room (kinds.IntKind w signed nullable) = good_value values.Whole (good_whole w signed)
  good_base schema room (kinds.EnumKind n nullable) =
      good_value values.Whole (good_wider base_starts is_digit (good_number_of (slice_get schema.enums n)) in_number (λ b e. e))
  good_base schema room (kinds.TextKind nullable) = good_value values.Text (wide good_text in_quote)
  good_base schema room (kinds.HandleKind sort nullable) = good_one 37 values.Handle in_percent
  good_base schema room (kinds.ArrayKind of count nullable) = good_opened room 91 (good_array of count) in_square
  good_base schema room (kinds.MapKind key one nullable) =
      good_opened room 123 (good_value pairs_of (good_listed 125 (good_pair key one) apart_curly curly_no_digit refl refl)) in_curly
  good_base schema room (kinds.StructKind n nullable) = good_opened room 40 (good_structure (slice_get schema.structs n)) in_round
  good_base schema room (kinds.UnionKind n nullable) = good_opened room 60 (good_union (slice_get schema.unions n)) in_angle
  good_base schema room (kinds.RemoteKind interface nullable) = good_two 37 values.Remote in_percent
  good_base schema room (kinds.ReceiverKind interface nullable) = good_one 37 values.Handle in_percent
  good_base schema room (kinds.AssociatedRemoteKind interface nullable) = good_two 94 values.EndpointRemote in_hat
  good_base schema room (kinds.AssociatedReceiverKind interface nullable) = good_one 94 values.Endpoint in_hat

apart_null : Apart base_starts (λ b. b == 110)
apart_null b e = grind (arith, nat_tests)

in_value : (b : ℕ) → base_starts b ≡ true → value_starts b ≡ true
in_value b e = grind (arith, nat_tests)

good_or_null : {one : Lang Tree} (nullable : Bool) → Good base_starts is_digit one → Good value_starts is_digit (or_null nullable one)
good_or_null false o = good_wider value_starts is_digit o in_value (λ b e. e)
good_or_null true o = good_choice (good_wider (λ b. b == 110) is_digit good_null (λ b e. e) (λ b e. refl)) o apart_null

good_nowhere : (flagged : Bool) (k : KindTree) → Good value_starts is_digit (never values.Null)
good_nowhere flagged k = good_wider value_starts is_digit (good_never values.Null) (λ b e. absurd (cc)) (λ b e. refl)

pub good_slot : (schema : Schema) (left : ℕ) (flagged : Bool) (k : KindTree) → Good value_starts is_digit (slot_value schema left flagged k)
unfolding slot_value
good_slot schema zero flagged k = good_or_null (flagged || is_nullable k) (good_base (λ flagged k. never values.Null) good_nowhere schema false k)
good_slot schema (suc left) flagged k = good_or_null (flagged || is_nullable k) (good_base (slot_value schema left) (good_slot schema left) schema true k)

pub good_kind : (schema : Schema) (left : ℕ) (k : KindTree) → Good value_starts is_digit (value schema left k)
unfolding value
good_kind schema left k = good_slot schema left (has_flag k) k
