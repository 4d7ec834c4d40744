-- The text of a value without brackets is spelled by the rule of its kind.
use Rattle.std.proofs.Common.{◌≡◌, ℕ, ℤ, zero, suc, ◌-◌, ◌^◌, ◌≤◌, ◌<◌, List, [], ◌∷◌, ◌++◌, Option, Some, None, Bool, true, false, cond}
use Rattle.std.proofs.Common.{◌||◌, inl, inr, ◌==◌, refl, sym, ap, ◌∙◌, subst, arith}
use Rattle.std.specs.Prelude.{pos, negsuc, decimal, codes, slice_get, FitsSigned}
use Rattle.std.specs.Int.{w32}
use Rattle.std.specs.List.{list_any}
use Rattle.std.specs.Fmt.{signed_decimal}
use Rattle.std.specs.Ordering.{int_eq}
use Rattle.std.proofs.lemmas.Int.{ints}
use Rattle.std.proofs.lemmas.Bool.Decides.{nat_tests, Decides-int_eq}
use Rattle.mj_schema.specs.KindTrees as kinds
use Rattle.mj_schema.specs.KindTrees.{KindTree}
use Rattle.mj_schema.specs.Sizes.{bits_of}
use Rattle.mj_schema.specs.declared.kind.Width.{Width}
use Rattle.mj_schema.specs.declared.kind.Width.TheVariants.{Bits8, Bits16, Bits32, Bits64}
use Rattle.mj_schema.specs.declared.rows.EnumRow.{EnumRow}
use Rattle.mj_schema.specs.declared.rows.MemberRow.{MemberRow}
use Rattle.mj_schema.specs.declared.schema.Schema.{Schema}
use Rattle.wire_model.specs.Fits.{IsHandleKind}
use Rattle.wire_model.specs.Cells.{NO_INDEX}
use Rattle.wire_model.specs.Kinded.{is_nullable, IsInRange, IsWhole}
use Rattle.wire_model.specs.Marks.{is_known}
use Rattle.wire_model.specs.Trees.{Tree}
use Rattle.wire_model.specs.Trees as values
use Rattle.wire_model.specs.Values.{machine_width}
use Rattle.byte_rules.specs.Lang.{Lang, as_value, ◌▸◌, ◌then◌}
use Rattle.byte_rules.specs.Among.{IsAmong}
use Rattle.byte_rules.proofs.Shown.{Shown, shown_value, shown_then, shown_before, shown_first, shown_second, shown_words, shown_among}
use Rattle.value_text.specs.Numbers.{numbers, number, minus, integer, whole, index, is_int32, members_numbers, enum_number, number_of}
use Rattle.value_text.specs.Rules.{boolean, null_word, slot_value, or_null}
use Rattle.value_text.specs.steps.Reading.{base_at}
use Rattle.value_text.specs.Spelling.{flag_text}

or_lift : (n : Bool) (one : Lang Tree) (t : Tree) (w : List ℕ) → Shown one t w → Shown (or_null n one) t w
or_lift true one t w s = shown_second (λ b. b == 110) null_word one t w s
or_lift false one t w s = s

or_nothing : (n : Bool) (one : Lang Tree) → n ≡ true → Shown (or_null n one) values.Null (codes "null")
unfolding null_word
or_nothing true one e m K q h = inl (refl, (refl, (refl, (refl, h))))
or_nothing false one e m K q h = absurd (cc)

-- a value that isn't null, and null
pub lift : (schema : Schema) (left : ℕ) (flagged : Bool) (k : KindTree) (t : Tree) (w : List ℕ) → Shown (base_at schema left k) t w
    → Shown (slot_value schema left flagged k) t w
unfolding slot_value
lift schema zero flagged k t w s = or_lift (flagged || is_nullable k) (base_at schema 0 k) t w s
lift schema (suc left) flagged k t w s = or_lift (flagged || is_nullable k) (base_at schema (suc left) k) t w s

pub null_shown : (schema : Schema) (left : ℕ) (flagged : Bool) (k : KindTree) → (flagged || is_nullable k) ≡ true
    → Shown (slot_value schema left flagged k) values.Null (codes "null")
unfolding slot_value
null_shown schema zero flagged k e = or_nothing (flagged || is_nullable k) (base_at schema 0 k) e
null_shown schema (suc left) flagged k e = or_nothing (flagged || is_nullable k) (base_at schema (suc left) k) e

-- null by itself
pub null_alone : (schema : Schema) (left : ℕ) (flagged : Bool) (k : KindTree) → is_nullable k ≡ true
    → Shown (slot_value schema left flagged k) values.Null (codes "null")
null_alone schema left false k e = null_shown schema left false k e
null_alone schema left true k e = null_shown schema left true k refl

pub flag_shown : (b : Bool) → Shown boolean (values.Flag b) (flag_text b)
unfolding boolean
flag_shown true m K q h = inl (refl, (refl, (refl, (refl, h))))
flag_shown false m K q h = inr (refl, (refl, (refl, (refl, (refl, h)))))

pub number_shown : (low high n : ℕ) → low ≤ n → n ≤ high → Shown (number low high) n (decimal n)
number_shown low high n l h = shown_words (numbers low high) n (l, h)

pub index_shown : (i : ℕ) → i < 2 ^ 32 → Shown index i (decimal i)
index_shown i h = number_shown 0 (2 ^ 32 - 1) i (omega arith) (omega (arith, h))

natural_shown : (high n : ℕ) → n ≤ high → Shown (as_value pos (number 0 high)) (pos n) (decimal n)
natural_shown high n h = shown_value pos (number 0 high) n (decimal n) (number_shown 0 high n (omega arith) h)

-- an integer from -low to high
abbrev Within : ℕ → ℕ → ℤ → Type 0
Within low high (pos n) = n ≤ high
Within low high (negsuc n) = suc n ≤ low

integer_shown : (low high : ℕ) (z : ℤ) → Within low high z → Shown (integer low high) z (signed_decimal z)
integer_shown low high (pos n) h =
    shown_second (λ b. b == 45) (45 ▸ as_value minus (number 1 low)) (as_value pos (number 0 high)) (pos n) (decimal n) (natural_shown high n h)
integer_shown low high (negsuc n) h =
    shown_first (λ b. b == 45) (45 ▸ as_value minus (number 1 low)) (as_value pos (number 0 high)) (negsuc n) (45 ∷ decimal (suc n))
    (shown_before 45 (as_value minus (number 1 low)) (negsuc n) (decimal (suc n))
    (shown_value minus (number 1 low) (suc n) (decimal (suc n)) (number_shown 1 low (suc n) (omega arith) h)))

signed_within : (w : Width) (z : ℤ) → FitsSigned (machine_width w) z → Within (2 ^ (bits_of w - 1)) (2 ^ (bits_of w - 1) - 1) z
signed_within Bits8 (pos n) f = omega (arith, ints, f)
signed_within Bits8 (negsuc n) f = omega (arith, ints, f)
signed_within Bits16 (pos n) f = omega (arith, ints, f)
signed_within Bits16 (negsuc n) f = omega (arith, ints, f)
signed_within Bits32 (pos n) f = omega (arith, ints, f)
signed_within Bits32 (negsuc n) f = omega (arith, ints, f)
signed_within Bits64 (pos n) f = omega (arith, ints, f)
signed_within Bits64 (negsuc n) f = omega (arith, ints, f)

int_shown : (w : Width) (signed : Bool) (z : ℤ) → IsInRange w signed z → Shown (whole w signed) z (signed_decimal z)
int_shown w true z f = integer_shown (2 ^ (bits_of w - 1)) (2 ^ (bits_of w - 1) - 1) z (signed_within w z f)
int_shown w false (pos n) f = natural_shown (2 ^ bits_of w - 1) n (omega (arith, f))
int_shown w false (negsuc n) f = absurd f

int32_within : (z : ℤ) → FitsSigned w32 z → Within (2 ^ 31) (2 ^ 31 - 1) z
int32_within (pos n) f = omega (arith, ints, f)
int32_within (negsuc n) f = omega (arith, ints, f)

int32_small : (z : ℤ) → FitsSigned w32 z → is_int32 z ≡ true
int32_small (pos n) f = let l : n < 2 ^ 31 = omega (arith, ints, f) in grind (arith, nat_tests)
int32_small (negsuc n) f = let l : n < 2 ^ 31 = omega (arith, ints, f) in grind (arith, nat_tests)

-- an int32 that a member has is among the numbers of the members
listed : (members : List MemberRow) (z : ℤ) → is_int32 z ≡ true → list_any (λ (member : MemberRow). int_eq member.number z) members ≡ true
    → IsAmong z (members_numbers members)
listed [] z s e = absurd (cc)
listed (m ∷ ms) z s e = of (λ rest. listed ms z s rest) (int_eq m.number z) refl e
  where
    here : m.number ≡ z → IsAmong z (cond (is_int32 m.number) (m.number ∷ members_numbers ms) (members_numbers ms))
    here same = let t : is_int32 m.number ≡ true = ap is_int32 same ∙ s in rw t (inl (sym same))

    there : (v : Bool) → IsAmong z (members_numbers ms) → IsAmong z (cond v (m.number ∷ members_numbers ms) (members_numbers ms))
    there true i = inr i
    there false i = i

    of : (list_any (λ (member : MemberRow). int_eq member.number z) ms ≡ true → IsAmong z (members_numbers ms)) → (v : Bool) → int_eq m.number z ≡ v
        → (v || list_any (λ (member : MemberRow). int_eq member.number z) ms) ≡ true
        → IsAmong z (cond (is_int32 m.number) (m.number ∷ members_numbers ms) (members_numbers ms))
    of later true same e = here ((Decides-int_eq m.number z).0 same)
    of later false same e = there (is_int32 m.number) (later e)

enum_shown : (extensible : Bool) (members : List MemberRow) (z : ℤ) → FitsSigned w32 z
    → (extensible || list_any (λ (member : MemberRow). int_eq member.number z) members) ≡ true
    → Shown (enum_number extensible (members_numbers members)) z (signed_decimal z)
enum_shown true members z f e = integer_shown (2 ^ 31) (2 ^ 31 - 1) z (int32_within z f)
enum_shown false members z f e = shown_among (pos 0) signed_decimal (members_numbers members) z (listed members z (int32_small z f) e)

number_of_shown : (row : Option EnumRow) (z : ℤ) → FitsSigned w32 z → is_known row z ≡ true → Shown (number_of row) z (signed_decimal z)
number_of_shown None z f e = integer_shown (2 ^ 31) (2 ^ 31 - 1) z (int32_within z f)
number_of_shown (Some row) z f e = enum_shown row.extensible row.members z f e

pub whole_shown : (schema : Schema) (left : ℕ) (k : KindTree) (z : ℤ) → IsWhole schema k z
    → Shown (base_at schema left k) (values.Whole z) (signed_decimal z)
whole_shown schema left (kinds.IntKind w signed nullable) z f = shown_value values.Whole (whole w signed) z (signed_decimal z) (int_shown w signed z f)
whole_shown schema left (kinds.EnumKind n nullable) z f =
    shown_value values.Whole (number_of (slice_get schema.enums n)) z (signed_decimal z) (number_of_shown (slice_get schema.enums n) z f.0 f.1)
whole_shown schema left _ z f = absurd f

pub one_shown : (c : ℕ) (g : ℕ → Tree) (i : ℕ) → i < 2 ^ 32 → Shown (c ▸ as_value g index) (g i) (c ∷ decimal i)
one_shown c g i h = shown_before c (as_value g index) (g i) (decimal i) (shown_value g index i (decimal i) (index_shown i h))

pub two_shown : (c : ℕ) (g : ℕ → ℕ → Tree) (i v : ℕ) → i < 2 ^ 32 → v < 2 ^ 32
    → Shown (c ▸ index then λ i. 64 ▸ as_value (g i) index) (g i v) (c ∷ (decimal i ++ 64 ∷ decimal v))
two_shown c g i v h l =
    shown_before c (index then λ i. 64 ▸ as_value (g i) index) (g i v) (decimal i ++ 64 ∷ decimal v)
    (shown_then index (λ i. 64 ▸ as_value (g i) index) i (g i v) (decimal i) (64 ∷ decimal v) (index_shown i h)
    (shown_before 64 (as_value (g i) index) (g i v) (decimal v) (shown_value (g i) index v (decimal v) (index_shown v l))))

-- an index that is there
index_small : (i : ℕ) → i < NO_INDEX → i < 2 ^ 32
index_small i h = omega (arith, h)

pub handle_shown : (schema : Schema) (left : ℕ) (k : KindTree) (i : ℕ) → IsHandleKind k → i < NO_INDEX
    → Shown (base_at schema left k) (values.Handle i) (37 ∷ decimal i)
handle_shown schema left k i (inl f) h =
    subst (λ (k : KindTree). Shown (base_at schema left k) (values.Handle i) (37 ∷ decimal i)) (sym f.2) (one_shown 37 values.Handle i (index_small i h))
handle_shown schema left k i (inr f) h =
    subst (λ (k : KindTree). Shown (base_at schema left k) (values.Handle i) (37 ∷ decimal i)) (sym f.2) (one_shown 37 values.Handle i (index_small i h))
