-- Objects of two messages with the same bytes there, and in all objects behind, have the same marks and values.
use Rattle.std.proofs.Common.{◌≡◌, ℕ, zero, suc, ◌+◌, ◌*◌, ◌/◌, ◌%◌, ◌^◌, ◌<◌, ◌≤◌, Bool, true, false, cond, List, [], ◌∷◌, ◌++◌, length, take, drop, map, Option, Some, None, refl, sym, ap, subst, ◌∙◌, arith}
use Rattle.std.specs.Prelude.{◌==◌, ◌&&◌, nat_lt, slice_get, All}
use Rattle.std.proofs.lemmas.Bool.Decides.{nat_tests}
use Rattle.std.proofs.lemmas.List.Elements.{All-head, All-tail, All-get_or}
use Rattle.std.proofs.lemmas.Option.{get_or_from_slice_get, slice_get_within}
use Rattle.mj_base.specs.declared.fault.FaultKind.TheVariants as faults
use Rattle.mj_base.specs.Bytes.{number32, number64}
use Rattle.mj_schema.specs.KindTrees as kinds
use Rattle.mj_schema.specs.KindTrees.{KindTree}
use Rattle.mj_schema.specs.Parts.{flag_bit, flag_place}
use Rattle.mj_schema.specs.Sizes.{size_of}
use Rattle.mj_schema.specs.Versions.{bytes_of, flag_end}
use Rattle.mj_schema.specs.declared.kind.Width.TheVariants.{Bits8, Bits16, Bits32, Bits64}
use Rattle.mj_schema.specs.declared.rows.FieldRow.{FieldRow}
use Rattle.mj_schema.specs.declared.rows.Flag.{Flag}
use Rattle.mj_schema.specs.declared.rows.StructRow.{StructRow}
use Rattle.mj_schema.specs.declared.rows.VersionRow.{VersionRow}
use Rattle.mj_schema.specs.declared.schema.Schema.{Schema}
use Rattle.wire_model.specs.Absent.{absent_values}
use Rattle.wire_model.specs.Marks as marks
use Rattle.wire_model.specs.Marks.{Mark, Next, pointer_marks, array_marks, content_marks, text_marks, map_marks, struct_marks, found_struct_marks, object_marks, visit, count_at, row_fits, slots_up_to}
use Rattle.wire_model.specs.Readable.{EndsWithin, IsReadableRow}
use Rattle.wire_model.specs.Rows.{row_for}
use Rattle.wire_model.specs.Slots.{element_slots, element_bytes, field_slot}
use Rattle.wire_model.specs.Stands.{IsFine}
use Rattle.wire_model.specs.Trees.{none}
use Rattle.wire_model.specs.Values.{Behind, struct_value, found_struct_value, object_value, value}
use Rattle.wire_laws.proofs.Elements.{content_as_slots}
use Rattle.wire_laws.proofs.GoodRows.{readable_schema}
use Rattle.schema_rows.proofs.Sound.{row_is_present}
use Rattle.same_messages.specs.steps.Agreed.{AreSame, IsSameFlag, AreSameSlots, Agreed}
use Rattle.same_messages.proofs.Fine.{fine_left, fine_right}
use Rattle.same_messages.proofs.SameNumbers.{same_part, same32, same64, cut_same, agreed_left, agreed_right}
use Rattle.same_messages.specs.steps.Same.{AreSameBehind, Same}
use Rattle.same_messages.proofs.SameSlots.{pointer_same, union_same, slots_same}
use Rattle.same_messages.proofs.Cases.{by_test}

-- the marks of a map by the numbers that it reads
abbrev map_list : ℕ → ℕ → ℕ → List Mark → List Mark → ℕ → ℕ → List Mark
map_list p size version ks vs l r =
    marks.Object p size 0 true faults.UnexpectedStructHeader
    ∷ (marks.Test ((size == 24) && (version == 0)) faults.UnexpectedStructHeader p
    ∷ (ks ++ (vs ++ (marks.Test (l == r) faults.DifferentSizedArraysInMap p ∷ []))))

map_list_same : (p s s' v v' l l' r r' : ℕ) (ks ks' vs vs' : List Mark) → s' ≡ s → v' ≡ v → ks' ≡ ks → vs' ≡ vs → l' ≡ l → r' ≡ r
    → map_list p s' v' ks' vs' l' r' ≡ map_list p s v ks vs l r
map_list_same p s s' v v' l l' r r' ks ks' vs vs' a b c d e f = rw (a, b, c, d, e, f) refl

map_size : (a b : ℕ) → (a == 24) && (b == 0) ≡ true → a ≡ 24
map_size a b e = grind (arith, nat_tests)

more_bits : (n s : ℕ) → suc n * s ≡ s + n * s
more_bits n s = omega arith

-- a version's bytes are no more than a struct's that fits it
fits_long : (rows : List VersionRow) (v size : ℕ) → row_fits rows v size ≡ true → (row_for rows v).bytes ≤ size
unfolding row_fits
fits_long rows v size e = grind (arith, nat_tests)

-- the two numbers of the array behind a pointer
abbrev AreCounted : List ℕ → List ℕ → Next → Type 0
AreCounted bytes other next =
    (from q : ℕ) (k : KindTree) → IsFine (next from q (kinds.ArrayKind k None false)) → Agreed bytes other (next from q (kinds.ArrayKind k None false))
    → number32 other (q + 4) ≡ number32 bytes (q + 4)

module _ (schema : Schema) (bytes other : List ℕ) (long : length bytes ≤ length other) where
  -- bools lie in the bytes of their array
  flags_same : (nb : Bool) (base total n place : ℕ) → place + n ≤ total → AreSame bytes other base ((total + 7) / 8)
      → AreSameSlots bytes other base (element_slots (kinds.BoolKind nb) place n)
  flags_same nb base total zero place le same = tt
  flags_same nb base total (suc n) place le same = (
    tt,
    (
      same_part bytes other base ((total + 7) / 8) (base + place / 8) 1 same (omega arith) (omega (arith, le)),
      flags_same nb base total n (place + 1) (omega (arith, le)) same,
    ),
  )

  -- and so do elements in whole bytes
  whole_same : (base : ℕ) (k : KindTree) (total n place : ℕ) → size_of k % 8 ≡ 0 → place % 8 ≡ 0 → place + n * size_of k ≤ total
      → AreSame bytes other base ((total + 7) / 8) → AreSameSlots bytes other base (element_slots k place n)
  whole_same base k total zero place size whole le same = tt
  whole_same base k total (suc n) place size whole le same =
      let more = more_bits n (size_of k) in (
        tt,
        (
          same_part bytes other base ((total + 7) / 8) (base + place / 8) (bytes_of k) same (omega arith) (omega (arith, size, whole, le, more)),
          whole_same base k total n (place + size_of k) size (omega (arith, size, whole)) (omega (arith, le, more)) same,
        ),
      )

  -- all in all
  elements_same : (base : ℕ) (k : KindTree) (n : ℕ) → AreSame bytes other base (element_bytes k n) → AreSameSlots bytes other base (element_slots k 0 n)
  elements_same base (kinds.BoolKind nb) n same = flags_same nb base (n * 1) n 0 (omega arith) same
  elements_same base (kinds.IntKind Bits8 s nb) n same = whole_same base (kinds.IntKind Bits8 s nb) (n * 8) n 0 refl refl (omega arith) same
  elements_same base (kinds.IntKind Bits16 s nb) n same = whole_same base (kinds.IntKind Bits16 s nb) (n * 16) n 0 refl refl (omega arith) same
  elements_same base (kinds.IntKind Bits32 s nb) n same = whole_same base (kinds.IntKind Bits32 s nb) (n * 32) n 0 refl refl (omega arith) same
  elements_same base (kinds.IntKind Bits64 s nb) n same = whole_same base (kinds.IntKind Bits64 s nb) (n * 64) n 0 refl refl (omega arith) same
  elements_same base (kinds.EnumKind x nb) n same = whole_same base (kinds.EnumKind x nb) (n * 32) n 0 refl refl (omega arith) same
  elements_same base (kinds.TextKind x) n same = whole_same base (kinds.TextKind x) (n * 64) n 0 refl refl (omega arith) same
  elements_same base (kinds.HandleKind s x) n same = whole_same base (kinds.HandleKind s x) (n * 32) n 0 refl refl (omega arith) same
  elements_same base (kinds.ArrayKind o c x) n same = whole_same base (kinds.ArrayKind o c x) (n * 64) n 0 refl refl (omega arith) same
  elements_same base (kinds.MapKind k v x) n same = whole_same base (kinds.MapKind k v x) (n * 64) n 0 refl refl (omega arith) same
  elements_same base (kinds.StructKind s x) n same = whole_same base (kinds.StructKind s x) (n * 64) n 0 refl refl (omega arith) same
  elements_same base (kinds.UnionKind u x) n same = whole_same base (kinds.UnionKind u x) (n * 128) n 0 refl refl (omega arith) same
  elements_same base (kinds.RemoteKind i x) n same = whole_same base (kinds.RemoteKind i x) (n * 64) n 0 refl refl (omega arith) same
  elements_same base (kinds.ReceiverKind i x) n same = whole_same base (kinds.ReceiverKind i x) (n * 32) n 0 refl refl (omega arith) same
  elements_same base (kinds.AssociatedRemoteKind i x) n same = whole_same base (kinds.AssociatedRemoteKind i x) (n * 64) n 0 refl refl (omega arith) same
  elements_same base (kinds.AssociatedReceiverKind i x) n same = whole_same base (kinds.AssociatedReceiverKind i x) (n * 32) n 0 refl refl (omega arith) same

  -- a flag lies in the bytes of its struct
  flag_room : (p row_bytes size : ℕ) (flag : Option Flag) → flag_bit flag < 8 → 8 + flag_end flag ≤ row_bytes → row_bytes ≤ size
      → AreSame bytes other p size → IsSameFlag bytes other (p + 8) (flag_place flag)
  flag_room p row_bytes size None bit room le same = tt
  flag_room p row_bytes size (Some flag) bit room le same =
      let offset : (8 * flag.offset + flag.bit) / 8 ≡ flag.offset = omega (arith, bit) in
      same_part bytes other p size (p + 8 + (8 * flag.offset + flag.bit) / 8) 1 same (omega arith) (omega (arith, offset, room, le))

  -- fields lie in the bytes of their struct
  fields_same : (p row_bytes size : ℕ) (fields : List FieldRow) → row_bytes ≤ size → All (EndsWithin row_bytes) fields
      → AreSame bytes other p size → AreSameSlots bytes other (p + 8) (map field_slot fields)
  fields_same p row_bytes size [] le h same = tt
  fields_same p row_bytes size (f ∷ fs) le h same =
      let w = All-head (EndsWithin row_bytes) f fs h in
      let bit : f.bit < 8 = w.bit in
      let room : 8 + f.offset + bytes_of f.kind ≤ row_bytes = w.room in
      let offset : (8 * f.offset + f.bit) / 8 ≡ f.offset = omega arith in (
        flag_room p row_bytes size f.flag w.flag_bit w.flag_room le same,
        (
          same_part bytes other p size (p + 8 + (8 * f.offset + f.bit) / 8) (bytes_of f.kind) same (omega arith) (omega (arith, offset, room)),
          fields_same p row_bytes size fs le (All-tail (EndsWithin row_bytes) f fs h) same,
        ),
      )

  module _ (next next' : Next) (then_ then' : Behind) (behind : AreSameBehind bytes other next next' then_ then')
      (counted : AreCounted bytes other next) where
    text_same : (p : ℕ) (nullable : Bool) → IsFine (text_marks bytes p) → Agreed bytes other (text_marks bytes p)
        → Same (text_marks other p) (text_marks bytes p) (object_value then' schema other p (kinds.TextKind nullable))
        (object_value then_ schema bytes p (kinds.TextKind nullable))
    unfolding object_value
    text_same p nullable fine a =
        let size = number32 bytes p in
        let n = number32 bytes (p + 4) in
        let room = fine.0 in
        let one = same32 bytes other p (same_part bytes other p size p 4 a.0.0 (omega arith) (omega (arith, room))) in
        let two = same32 bytes other (p + 4) (same_part bytes other p size (p + 4) 4 a.0.0 (omega arith) (omega (arith, room))) in
        let cut = cut_same bytes other (p + 8) n (omega (arith, room, a.0.1)) long
        (same_part bytes other p size (p + 8) n a.0.0 (omega arith) (omega (arith, room))) in
        record { marks = rw (one, two, cut) refl; value = rw (two, cut) refl }

    array_same : (p : ℕ) (of : KindTree) (fixed : Option ℕ) (nullable : Bool) → IsFine (array_marks next schema bytes p of fixed)
        → Agreed bytes other (array_marks next schema bytes p of fixed)
        → Same (array_marks next' schema other p of fixed) (array_marks next schema bytes p of fixed)
        (object_value then' schema other p (kinds.ArrayKind of fixed nullable)) (object_value then_ schema bytes p (kinds.ArrayKind of fixed nullable))
    unfolding array_marks object_value
    array_same p of fixed nullable fine a =
        let size = number32 bytes p in
        let n = number32 bytes (p + 4) in
        let room = fine.0 in
        let ss = element_slots of 0 n in
        let one = same32 bytes other p (same_part bytes other p size p 4 a.0.0 (omega arith) (omega (arith, room))) in
        let two = same32 bytes other (p + 4) (same_part bytes other p size (p + 4) 4 a.0.0 (omega arith) (omega (arith, room))) in
        let inside = same_part bytes other p size (p + 8) (element_bytes of n) a.0.0 (omega arith) (omega (arith, room)) in
        let lie = elements_same (p + 8) of n inside in
        let mine = content_as_slots next schema bytes (p + 8) of n in
        let theirs = content_as_slots next' schema other (p + 8) of n in
        let rest = slots_same schema bytes other next next' then_ then' behind (p + 8) ss none lie (subst IsFine mine fine.1.1)
        (subst (λ (ms : List Mark). Agreed bytes other ms) mine a.1) in
        let content : content_marks next' schema other (p + 8) of n ≡ content_marks next schema bytes (p + 8) of n = theirs ∙ rest.marks ∙ sym mine in
        record { marks = rw (one, two, content) refl; value = rw (two, rest.values) refl }

    -- the count of a map's list
    list_same : (p : ℕ) (k : KindTree) → AreSame bytes other p 8 → IsFine (pointer_marks next bytes p (kinds.ArrayKind k None false) false)
        → Agreed bytes other (pointer_marks next bytes p (kinds.ArrayKind k None false) false) → count_at other p ≡ count_at bytes p
    unfolding pointer_marks
    list_same p k same =
        let t = number64 bytes p in
        let null = marks.Test false faults.UnexpectedNullPointer p ∷ [] in
        let legal = marks.Test (nat_lt t (2 ^ 32)) faults.IllegalPointer p in
        let array = kinds.ArrayKind k None false in
        let there : count_at other p ≡ number32 other (p + t + 4) = ap (λ (x : ℕ). number32 other (p + x + 4)) (same64 bytes other p same) in
        by_test (t == 0) (λ b. IsFine (cond b null (legal ∷ next p (p + t) array)) → Agreed bytes other (cond b null (legal ∷ next p (p + t) array))
        → count_at other p ≡ count_at bytes p)
        (λ _ fine a. let no : false ≡ true = fine.0 in absurd cc)
        (λ _ fine a. there ∙ counted p (p + t) k fine.1 a)

    map_same : (p : ℕ) (key one : KindTree) (nullable : Bool) → IsFine (map_marks next bytes p key one) → Agreed bytes other (map_marks next bytes p key one)
        → Same (map_marks next' other p key one) (map_marks next bytes p key one) (object_value then' schema other p (kinds.MapKind key one nullable))
        (object_value then_ schema bytes p (kinds.MapKind key one nullable))
    unfolding map_marks object_value
    map_same p key one nullable fine a =
        let size = number32 bytes p in
        let is = map_size size (number32 bytes (p + 4)) fine.1.1.0 in
        let ks = pointer_marks next bytes (p + 8) (kinds.ArrayKind key None false) false in
        let vs = pointer_marks next bytes (p + 16) (kinds.ArrayKind one None false) false in
        let key_fine = fine_left ks _ fine.1.1.1 in
        let later_fine = fine_right ks _ fine.1.1.1 in
        let one_fine = fine_left vs _ later_fine in
        let key_agreed = agreed_left bytes other ks _ a.1 in
        let later_agreed = agreed_right bytes other ks _ a.1 in
        let one_agreed = agreed_left bytes other vs _ later_agreed in
        let number = same32 bytes other p (same_part bytes other p size p 4 a.0.0 (omega arith) (omega (arith, is))) in
        let version = same32 bytes other (p + 4) (same_part bytes other p size (p + 4) 4 a.0.0 (omega arith) (omega (arith, is))) in
        let key_same = same_part bytes other p size (p + 8) 8 a.0.0 (omega arith) (omega (arith, is)) in
        let one_same = same_part bytes other p size (p + 16) 8 a.0.0 (omega arith) (omega (arith, is)) in
        let k = pointer_same schema bytes other next next' then_ then' behind (p + 8) (kinds.ArrayKind key None false) false key_same key_fine key_agreed in
        let v = pointer_same schema bytes other next next' then_ then' behind (p + 16) (kinds.ArrayKind one None false) false one_same one_fine one_agreed in
        let l = list_same (p + 8) key key_same key_fine key_agreed in
        let r = list_same (p + 16) one one_same one_fine one_agreed in
        record {
          marks =
              map_list_same p size (number32 other p) (number32 bytes (p + 4)) (number32 other (p + 4)) (count_at bytes (p + 8)) (count_at other (p + 8))
              (count_at bytes (p + 16)) (count_at other (p + 16)) ks
              (pointer_marks next' other (p + 8) (kinds.ArrayKind key None false) false) vs
              (pointer_marks next' other (p + 16) (kinds.ArrayKind one None false) false) number version k.marks v.marks l r;
          value = rw (k.value, v.value) refl;
        }

    struct_same : (p : ℕ) (row : StructRow) → IsReadableRow row → IsFine (struct_marks next schema bytes p row)
        → Agreed bytes other (struct_marks next schema bytes p row)
        → Same (struct_marks next' schema other p row) (struct_marks next schema bytes p row) (struct_value then' schema other p row (number32 other (p + 4)))
        (struct_value then_ schema bytes p row (number32 bytes (p + 4)))
    unfolding struct_marks
    struct_same p row readable fine a =
        let size = number32 bytes p in
        let version = number32 bytes (p + 4) in
        let known = row_for row.versions version in
        let room = fine.0 in
        let present = row_is_present row version readable in
        let one = same32 bytes other p (same_part bytes other p size p 4 a.0.0 (omega arith) (omega (arith, room))) in
        let two = same32 bytes other (p + 4) (same_part bytes other p size (p + 4) 4 a.0.0 (omega arith) (omega (arith, room))) in
        let lie = fields_same p known.bytes size (take known.fields row.fields) (fits_long row.versions version size fine.1.1.0) present.within a.0.0 in
        let rest = slots_same schema bytes other next next' then_ then' behind (p + 8) (slots_up_to row version)
        (absent_values schema (drop known.fields row.fields)) lie fine.1.1.1 a.1 in
        record { marks = rw (one, two, rest.marks) refl; value = rw (two, rest.values) refl }

    found_struct_same : (p number : ℕ) (o : Option StructRow) → slice_get schema.structs number ≡ o
        → IsFine (found_struct_marks next schema bytes p o) → Agreed bytes other (found_struct_marks next schema bytes p o)
        → Same (found_struct_marks next' schema other p o) (found_struct_marks next schema bytes p o) (found_struct_value then' schema other p o)
        (found_struct_value then_ schema bytes p o)
    found_struct_same p number None at fine a = record { marks = refl; value = refl }
    found_struct_same p number (Some row) at fine a = struct_same p row readable fine a
      where
        readable : IsReadableRow row
        readable =
            subst IsReadableRow (get_or_from_slice_get schema.structs number row row at)
            (All-get_or IsReadableRow schema.structs number row (slice_get_within schema.structs number row at) (readable_schema schema).structs)

    object_same : (p : ℕ) (k : KindTree) → IsFine (object_marks next schema bytes p k) → Agreed bytes other (object_marks next schema bytes p k)
        → Same (object_marks next' schema other p k) (object_marks next schema bytes p k) (object_value then' schema other p k)
        (object_value then_ schema bytes p k)
    unfolding object_marks object_value
    object_same p (kinds.BoolKind nb) fine a = record { marks = refl; value = refl }
    object_same p (kinds.IntKind w s nb) fine a = record { marks = refl; value = refl }
    object_same p (kinds.EnumKind n nb) fine a = record { marks = refl; value = refl }
    object_same p (kinds.HandleKind s n) fine a = record { marks = refl; value = refl }
    object_same p (kinds.RemoteKind i n) fine a = record { marks = refl; value = refl }
    object_same p (kinds.ReceiverKind i n) fine a = record { marks = refl; value = refl }
    object_same p (kinds.AssociatedRemoteKind i n) fine a = record { marks = refl; value = refl }
    object_same p (kinds.AssociatedReceiverKind i n) fine a = record { marks = refl; value = refl }
    object_same p (kinds.TextKind n) fine a = text_same p n fine a
    object_same p (kinds.ArrayKind o c n) fine a = array_same p o c n fine a
    object_same p (kinds.MapKind x y n) fine a = map_same p x y n fine a
    object_same p (kinds.StructKind m n) fine a = found_struct_same p m (slice_get schema.structs m) refl fine a
    object_same p (kinds.UnionKind m n) fine a =
        let u = union_same schema bytes other next next' then_ then' behind p m n a.0.0 fine.1.1 a.1 in
        record { marks = ap (λ (ms : List Mark). marks.Object p 16 8 true faults.IllegalMemoryRange ∷ ms) u.marks; value = u.value }

  counts_same : (left : ℕ) → AreCounted bytes other (visit left schema bytes)
  unfolding visit object_marks array_marks
  counts_same zero from q k fine a = let no : false ≡ true = fine.0 in absurd cc
  counts_same (suc left) from q k fine a =
      let room = fine.0 in
      same32 bytes other (q + 4) (same_part bytes other q (number32 bytes q) (q + 4) 4 a.0.0 (omega arith) (omega (arith, room)))

  -- what stands behind a pointer where so many levels are left
  pub visited_same : (left : ℕ) → AreSameBehind bytes other (visit left schema bytes) (visit left schema other) (value left schema bytes)
      (value left schema other)
  unfolding visit value
  visited_same zero from q k fine a = record { marks = refl; value = refl }
  visited_same (suc left) from q k fine a =
      object_same (visit left schema bytes) (visit left schema other) (value left schema bytes) (value left schema other) (visited_same left)
      (counts_same left) q k fine a
