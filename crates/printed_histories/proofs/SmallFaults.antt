-- The first fault of a message's payload lies at a place of 64 bits, where slots are low and the message is less than 2 ^ 62 bytes long.
use Rattle.std.proofs.Common.{◌≡◌, ◌<◌, ◌≤◌, ℕ, zero, suc, ◌+◌, ◌*◌, ◌/◌, ◌^◌, Bool, true, false, List, [], ◌∷◌, ◌++◌, length, take, drop, refl, arith}
use Rattle.std.specs.Prelude.{Option, Some, None, ◌==◌, ◌&&◌, nat_lt, if◌then◌else◌, slice_get}
use Rattle.std.specs.Int.{cast_signed, w32}
use Rattle.std.proofs.lemmas.Bool.{ltb-true}
use Rattle.std.proofs.lemmas.Str.{utf8_valid_len_le}
use Rattle.mj_base.specs.declared.fault.FaultKind.{FaultKind}
use Rattle.mj_base.specs.declared.fault.FaultKind.TheVariants.{UnexpectedStructHeader, UnexpectedArrayHeader, UnexpectedInvalidHandle, UnexpectedInvalidInterfaceId, IllegalMemoryRange, IllegalPointer, UnexpectedNullPointer, UnexpectedNullUnion, UnknownUnionTag, UnknownEnumValue, DifferentSizedArraysInMap, MaxRecursionDepth, BadUtf8}
use Rattle.mj_base.specs.Bytes.{number32, number64}
use Rattle.mj_schema.specs.KindTrees as kinds
use Rattle.mj_schema.specs.KindTrees.{KindTree}
use Rattle.mj_schema.specs.Sizes.{size_of}
use Rattle.mj_schema.specs.declared.kind.Width.TheVariants.{Bits8, Bits16, Bits32, Bits64}
use Rattle.mj_schema.specs.declared.rows.StructRow.{StructRow}
use Rattle.mj_schema.specs.declared.rows.UnionRow.{UnionRow}
use Rattle.mj_schema.specs.declared.schema.Schema.{Schema}
use Rattle.wire_model.specs.Cells.{NO_INDEX, UNION_BYTES}
use Rattle.wire_model.specs.Marks.{Mark, Test, Handle, Id, Next, pointer_marks, index_marks, is_known, cell_marks, member_marks, found_union_marks, union_marks, slot_marks, has_value, marks_if, slots_marks, elements_marks, count_is, content_marks, array_marks, text_marks, count_at, map_marks, row_fits, slots_up_to, struct_marks, found_struct_marks, object_marks, visit}
use Rattle.wire_model.specs.Rows.{kind_of_tag}
use Rattle.wire_model.specs.Slots.{Slot, element_bytes}
use Rattle.wire_model.specs.Texts.{valid_len}
use Rattle.history_reader.specs.Printable.{IsWide, AreAll, AreBytes}
use Rattle.printed_histories.proofs.SmallRuns.{IsNear, near_none, near_both, near_test, near_object, near_handle, near_id}
use Rattle.printed_histories.proofs.SmallWire.{number32_small}

-- slots that begin within 2 ^ 32 bytes
abbrev pub IsLow : Slot → Type 0
IsLow s = s.place / 8 < 2 ^ 33

-- structs all of whose versions have low slots, wherever the size that a message says fits
abbrev pub HasLowSlots : Schema → Type 0
HasLowSlots schema = (number : ℕ) (row : StructRow) → slice_get schema.structs number ≡ Some row → (size version : ℕ) → size < 2 ^ 32
    → row_fits row.versions version size ≡ true → AreAll IsLow (slots_up_to row version)

take_few : {A : Type 0} (n : ℕ) (xs : List A) → length (take n xs) ≤ n
take_few zero xs = omega arith
take_few (suc n) [] = omega arith
take_few (suc n) (x ∷ xs) = let few = take_few n xs in omega (arith, few)

valid_few : (bs : List ℕ) → valid_len bs ≤ length bs
unfolding valid_len
valid_few bs = utf8_valid_len_le bs

element_small : (k : KindTree) → size_of k / 8 ≤ 16
element_small (kinds.BoolKind nullable) = omega arith
element_small (kinds.IntKind Bits8 signed nullable) = omega arith
element_small (kinds.IntKind Bits16 signed nullable) = omega arith
element_small (kinds.IntKind Bits32 signed nullable) = omega arith
element_small (kinds.IntKind Bits64 signed nullable) = omega arith
element_small (kinds.EnumKind number nullable) = omega arith
element_small (kinds.TextKind nullable) = omega arith
element_small (kinds.HandleKind sort nullable) = omega arith
element_small (kinds.ArrayKind of count nullable) = omega arith
element_small (kinds.MapKind key value nullable) = omega arith
element_small (kinds.StructKind number nullable) = omega arith
element_small (kinds.UnionKind number nullable) = omega arith
element_small (kinds.RemoteKind interface nullable) = omega arith
element_small (kinds.ReceiverKind interface nullable) = omega arith
element_small (kinds.AssociatedRemoteKind interface nullable) = omega arith
element_small (kinds.AssociatedReceiverKind interface nullable) = omega arith

module _ (schema : Schema) (low : HasLowSlots schema) (bytes : List ℕ) (are : AreBytes bytes) (end : ℕ) (short : end < 2 ^ 62) where
  -- what is met behind a pointer lies near
  abbrev IsNextNear : Next → Type 0
  IsNextNear next = (from p : ℕ) (k : KindTree) → from < 2 ^ 63 → p < 2 ^ 63 → IsNear end (next from p k)

  index_near : (met : Mark) (missing : FaultKind) (p : ℕ) (nullable : Bool) → IsWide p → IsNear end (met ∷ [])
      → IsNear end (index_marks met missing bytes p nullable)
  unfolding index_marks
  index_near met missing p nullable w n = go (number32 bytes p == NO_INDEX)
    where
      go : (b : Bool) → IsNear end (if b then Test nullable missing p ∷ [] else met ∷ [])
      go true = near_test end nullable missing p [] w (λ h. near_none end)
      go false = n

  module _ (next : Next) (on : IsNextNear next) where
    pointer_near : (p : ℕ) (k : KindTree) (nullable : Bool) → p < 2 ^ 62 + 2 ^ 40 → IsNear end (pointer_marks next bytes p k nullable)
    unfolding pointer_marks
    pointer_near p k nullable few = go (number64 bytes p == 0)
      where
        go : (b : Bool) → IsNear end (if b then Test nullable UnexpectedNullPointer p ∷ []
            else Test (nat_lt (number64 bytes p) (2 ^ 32)) IllegalPointer p ∷ next p (p + number64 bytes p) k)
        go true = near_test end nullable UnexpectedNullPointer p [] (omega (arith, few)) (λ h. near_none end)
        go false = near_test end (nat_lt (number64 bytes p) (2 ^ 32)) IllegalPointer p (next p (p + number64 bytes p) k) (omega (arith, few))
            (λ h. on p (p + number64 bytes p) k (omega (arith, few)) (omega (arith, few, ltb-true (number64 bytes p) (2 ^ 32) h)))

    cell_near : (p : ℕ) (k : KindTree) → p < 2 ^ 62 + 2 ^ 40 → IsNear end (cell_marks next schema bytes p k)
    unfolding cell_marks
    cell_near p (kinds.BoolKind nullable) few = near_none end
    cell_near p (kinds.IntKind width signed nullable) few = near_none end
    cell_near p (kinds.EnumKind number nullable) few =
        near_test end (is_known (slice_get schema.enums number) (cast_signed w32 (number32 bytes p))) UnknownEnumValue p [] (omega (arith, few))
        (λ h. near_none end)
    cell_near p (kinds.HandleKind sort nullable) few =
        index_near (Handle (number32 bytes p) p) UnexpectedInvalidHandle p nullable (omega (arith, few))
        (near_handle end (number32 bytes p) p (omega (arith, few)))
    cell_near p (kinds.ReceiverKind interface nullable) few =
        index_near (Handle (number32 bytes p) p) UnexpectedInvalidHandle p nullable (omega (arith, few))
        (near_handle end (number32 bytes p) p (omega (arith, few)))
    cell_near p (kinds.RemoteKind interface nullable) few =
        index_near (Handle (number32 bytes p) p) UnexpectedInvalidHandle p nullable (omega (arith, few))
        (near_handle end (number32 bytes p) p (omega (arith, few)))
    cell_near p (kinds.AssociatedReceiverKind interface nullable) few =
        index_near (Id (number32 bytes p) p) UnexpectedInvalidInterfaceId p nullable (omega (arith, few))
        (near_id end (number32 bytes p) p (omega (arith, few)))
    cell_near p (kinds.AssociatedRemoteKind interface nullable) few =
        index_near (Id (number32 bytes p) p) UnexpectedInvalidInterfaceId p nullable (omega (arith, few))
        (near_id end (number32 bytes p) p (omega (arith, few)))
    cell_near p (kinds.TextKind nullable) few = pointer_near p (kinds.TextKind nullable) nullable few
    cell_near p (kinds.ArrayKind of count nullable) few = pointer_near p (kinds.ArrayKind of count nullable) nullable few
    cell_near p (kinds.MapKind key value nullable) few = pointer_near p (kinds.MapKind key value nullable) nullable few
    cell_near p (kinds.StructKind number nullable) few = pointer_near p (kinds.StructKind number nullable) nullable few
    cell_near p (kinds.UnionKind number nullable) few = pointer_near p (kinds.UnionKind number nullable) nullable few

    member_near : (p : ℕ) (o : Option KindTree) (extensible : Bool) → p < 2 ^ 62 + 2 ^ 39 → IsNear end (member_marks next schema bytes p o extensible)
    member_near p None extensible few = near_test end extensible UnknownUnionTag (p + 4) [] (omega (arith, few)) (λ h. near_none end)
    member_near p (Some k) extensible few = cell_near (p + 8) k (omega (arith, few))

    found_union_near : (p : ℕ) (o : Option UnionRow) → p < 2 ^ 62 + 2 ^ 39 → IsNear end (found_union_marks next schema bytes p o)
    found_union_near p None few = near_none end
    found_union_near p (Some row) few = member_near p (kind_of_tag row.fields (number32 bytes (p + 4))) row.extensible few

    union_near : (p number : ℕ) (nullable : Bool) → p < 2 ^ 62 + 2 ^ 39 → IsNear end (union_marks next schema bytes p number nullable)
    unfolding union_marks
    union_near p number nullable few = go (number32 bytes p == 0)
      where
        go : (b : Bool) → IsNear end (if b then Test nullable UnexpectedNullUnion p ∷ []
            else found_union_marks next schema bytes p (slice_get schema.unions number))
        go true = near_test end nullable UnexpectedNullUnion p [] (omega (arith, few)) (λ h. near_none end)
        go false = found_union_near p (slice_get schema.unions number) few

    slot_near : (p : ℕ) (k : KindTree) → p < 2 ^ 62 + 2 ^ 39 → IsNear end (slot_marks next schema bytes p k)
    unfolding slot_marks
    slot_near p (kinds.UnionKind number nullable) few = union_near p number nullable few
    slot_near p k few = cell_near p k (omega (arith, few))

    near_if : (b : Bool) (ms : List Mark) → IsNear end ms → IsNear end (marks_if b ms)
    near_if true ms n = n
    near_if false ms n = near_none end

    slots_near : (base : ℕ) (ss : List Slot) → base < 2 ^ 62 + 2 ^ 38 → AreAll IsLow ss → IsNear end (slots_marks next schema bytes base ss)
    unfolding slots_marks
    slots_near base [] few a = near_none end
    slots_near base (s ∷ ss) few a =
        let below = a.0 in
        let one = slot_marks next schema bytes (base + s.place / 8) s.kind in
        near_both end (marks_if (has_value bytes base s.flag) one) (slots_marks next schema bytes base ss)
        (near_if (has_value bytes base s.flag) one (slot_near (base + s.place / 8) s.kind (omega (arith, few, below)))) (slots_near base ss few a.1)

    elements_near : (p : ℕ) (k : KindTree) (n : ℕ) → p + 16 * n < 2 ^ 62 + 2 ^ 38 → IsNear end (elements_marks next schema bytes p k n)
    unfolding elements_marks
    elements_near p k zero few = near_none end
    elements_near p k (suc n) few =
        near_both end (slot_marks next schema bytes p k) (elements_marks next schema bytes (p + size_of k / 8) k n)
        (slot_near p k (omega (arith, few))) (elements_near (p + size_of k / 8) k n (omega (arith, few, element_small k)))

    content_near : (p : ℕ) (k : KindTree) (n : ℕ) → p + 16 * n < 2 ^ 62 + 2 ^ 38 → IsNear end (content_marks next schema bytes p k n)
    unfolding content_marks
    content_near p (kinds.BoolKind nullable) n few = near_none end
    content_near p (kinds.IntKind width signed nullable) n few = near_none end
    content_near p k n few = elements_near p k n few

    -- ## Objects

    array_near : (p : ℕ) (of : KindTree) (count : Option ℕ) → p < 2 ^ 63 → IsNear end (array_marks next schema bytes p of count)
    unfolding array_marks
    array_near p of count few = near_object end p (number32 bytes p) (element_bytes of (number32 bytes (p + 4))) (count_is count (number32 bytes (p + 4)))
        UnexpectedArrayHeader (content_marks next schema bytes (p + 8) of (number32 bytes (p + 4))) (omega (arith, few))
        (λ room. content_near (p + 8) of (number32 bytes (p + 4)) (omega (arith, room, short, number32_small bytes are (p + 4))))

    text_near : (p : ℕ) → p < 2 ^ 63 → IsNear end (text_marks bytes p)
    text_near p few =
        let n = number32 bytes (p + 4) in
        let text = take n (drop (p + 8) bytes) in
        near_object end p (number32 bytes p) n true UnexpectedArrayHeader (Test (valid_len text == length text) BadUtf8 (p + 8 + valid_len text) ∷ [])
        (omega (arith, few))
        (λ room. near_test end (valid_len text == length text) BadUtf8 (p + 8 + valid_len text) []
        (omega (arith, few, number32_small bytes are (p + 4), valid_few text, take_few n (drop (p + 8) bytes))) (λ h. near_none end))

    map_near : (p : ℕ) (key value : KindTree) → p < 2 ^ 63 → IsNear end (map_marks next bytes p key value)
    unfolding map_marks
    map_near p key value few =
        let last : List Mark = Test (count_at bytes (p + 8) == count_at bytes (p + 16)) DifferentSizedArraysInMap p ∷ [] in
        let second = pointer_marks next bytes (p + 16) (kinds.ArrayKind value None false) false in
        let first = pointer_marks next bytes (p + 8) (kinds.ArrayKind key None false) false in
        near_object end p (number32 bytes p) 0 true UnexpectedStructHeader
        (Test ((number32 bytes p == 24) && (number32 bytes (p + 4) == 0)) UnexpectedStructHeader p ∷ (first ++ (second ++ last))) (omega (arith, few))
        (λ room. near_test end ((number32 bytes p == 24) && (number32 bytes (p + 4) == 0)) UnexpectedStructHeader p (first ++ (second ++ last))
        (omega (arith, few))
        (λ h. near_both end first (second ++ last) (pointer_near (p + 8) (kinds.ArrayKind key None false) false (omega (arith, room, short)))
        (near_both end second last (pointer_near (p + 16) (kinds.ArrayKind value None false) false (omega (arith, room, short)))
        (near_test end (count_at bytes (p + 8) == count_at bytes (p + 16)) DifferentSizedArraysInMap p [] (omega (arith, few)) (λ g. near_none end)))))

    struct_near : (p number : ℕ) (o : Option StructRow) → slice_get schema.structs number ≡ o → p < 2 ^ 63
        → IsNear end (found_struct_marks next schema bytes p o)
    unfolding struct_marks
    struct_near p number None e few = near_none end
    struct_near p number (Some row) e few =
        let size = number32 bytes p in
        let version = number32 bytes (p + 4) in
        near_object end p size 0 true UnexpectedStructHeader
        (Test (row_fits row.versions version size) UnexpectedStructHeader p ∷ slots_marks next schema bytes (p + 8) (slots_up_to row version))
        (omega (arith, few))
        (λ room. near_test end (row_fits row.versions version size) UnexpectedStructHeader p (slots_marks next schema bytes (p + 8) (slots_up_to row version))
        (omega (arith, few))
        (λ fits. slots_near (p + 8) (slots_up_to row version) (omega (arith, room, short))
        (low number row e size version (number32_small bytes are p) fits)))

    object_near : (p : ℕ) (k : KindTree) → p < 2 ^ 63 → IsNear end (object_marks next schema bytes p k)
    unfolding object_marks
    object_near p (kinds.TextKind nullable) few = text_near p few
    object_near p (kinds.ArrayKind of count nullable) few = array_near p of count few
    object_near p (kinds.MapKind key value nullable) few = map_near p key value few
    object_near p (kinds.StructKind number nullable) few = struct_near p number (slice_get schema.structs number) refl few
    object_near p (kinds.UnionKind number nullable) few =
        near_object end p UNION_BYTES 8 true IllegalMemoryRange (union_marks next schema bytes p number nullable) (omega (arith, few))
        (λ room. union_near p number nullable (omega (arith, room, short)))
    object_near p k few = near_none end

  pub visit_near : (left : ℕ) → IsNextNear (visit left schema bytes)
  unfolding visit
  visit_near zero from p k f g = near_test end false MaxRecursionDepth from [] (omega (arith, f)) (λ h. near_none end)
  visit_near (suc left) from p k f g = object_near (visit left schema bytes) (visit_near left) p k g
