-- Slots of two messages with the same bytes there have the same marks and values.
use Rattle.std.proofs.Common.{◌≡◌, ℕ, ◌+◌, ◌/◌, ◌%◌, ◌^◌, Bool, true, false, cond, List, [], ◌∷◌, Option, Some, None, refl, ap, arith}
use Rattle.std.specs.Prelude.{◌==◌, nat_lt, slice_get}
use Rattle.mj_base.specs.declared.fault.FaultKind.TheVariants as faults
use Rattle.mj_base.specs.Bytes.{number32, number64}
use Rattle.mj_schema.specs.KindTrees as kinds
use Rattle.mj_schema.specs.KindTrees.{KindTree}
use Rattle.mj_schema.specs.Versions.{bytes_of}
use Rattle.mj_schema.specs.declared.kind.Width.{Width}
use Rattle.mj_schema.specs.declared.rows.UnionRow.{UnionRow}
use Rattle.mj_schema.specs.declared.schema.Schema.{Schema}
use Rattle.wire_model.specs.Marks as marks
use Rattle.wire_model.specs.Marks.{Mark, Next, pointer_marks, index_marks, cell_marks, member_marks, found_union_marks, union_marks, slot_marks, has_value, marks_if, slots_marks}
use Rattle.wire_model.specs.Rows.{kind_of_tag}
use Rattle.wire_model.specs.Slots.{Slot}
use Rattle.wire_model.specs.steps.Cells.{cell_size}
use Rattle.wire_model.specs.Stands.{IsFine}
use Rattle.wire_model.specs.Trees as values
use Rattle.wire_model.specs.Trees.{Tree, Trees}
use Rattle.wire_model.specs.Values.{Behind, pointer_value, cell_value, member_value, found_union_value, union_value, slot_value, value_if, slots_value, whole_at}
use Rattle.wire_laws.proofs.Lengths.{cell_fits}
use Rattle.same_messages.specs.steps.Same.{AreSameBehind, Same, SameAll}
use Rattle.same_messages.specs.steps.Agreed.{AreSame, IsSameFlag, AreSameSlots, Agreed}
use Rattle.same_messages.proofs.Fine.{fine_left, fine_right}
use Rattle.same_messages.proofs.SameNumbers.{same_part, same8, same32, same64, same_int, agreed_left, agreed_right}
use Rattle.same_messages.proofs.Cases.{by_test}

same_whole : (bytes other : List ℕ) (w : Width) (signed nullable : Bool) (p : ℕ) → AreSame bytes other p (bytes_of (kinds.IntKind w signed nullable))
    → whole_at w signed other p ≡ whole_at w signed bytes p
same_whole bytes other w true nullable p h = rw (same_int bytes other w p h) refl
same_whole bytes other w false nullable p h = rw (same_int bytes other w p h) refl

-- a flag says the same of both
flag_same : (bytes other : List ℕ) (base : ℕ) (flag : Option ℕ) → IsSameFlag bytes other base flag → has_value other base flag ≡ has_value bytes base flag
flag_same bytes other base None same = refl
flag_same bytes other base (Some flag) same = rw (same8 bytes other (base + flag / 8) same) refl

-- what is the same where there is a value is the same where it is null
same_if : (bytes other : List ℕ) (here here' : Bool) (ms ms' : List Mark) (t t' : Tree) → here' ≡ here
    → (IsFine ms → Agreed bytes other ms → Same ms' ms t' t)
    → IsFine (marks_if here ms) → Agreed bytes other (marks_if here ms)
    → Same (marks_if here' ms') (marks_if here ms) (value_if here' t') (value_if here t)
same_if bytes other true here' ms ms' t t' e same fine a = rw e (same fine a)
same_if bytes other false here' ms ms' t t' e same fine a = rw e (record { marks = refl; value = refl })

module _ (schema : Schema) (bytes other : List ℕ) (next next' : Next) (then_ then' : Behind)
    (behind : AreSameBehind bytes other next next' then_ then') where
  pub pointer_same : (p : ℕ) (k : KindTree) (nullable : Bool) → AreSame bytes other p 8 → IsFine (pointer_marks next bytes p k nullable)
      → Agreed bytes other (pointer_marks next bytes p k nullable)
      → Same (pointer_marks next' other p k nullable) (pointer_marks next bytes p k nullable) (pointer_value then' other p k) (pointer_value then_ bytes p k)
  unfolding pointer_marks pointer_value
  pointer_same p k nullable same =
      let t = number64 bytes p in
      let null = marks.Test nullable faults.UnexpectedNullPointer p ∷ [] in
      let legal = marks.Test (nat_lt t (2 ^ 32)) faults.IllegalPointer p in
      rw (same64 bytes other p same)
      (by_test (t == 0) (λ b. IsFine (cond b null (legal ∷ next p (p + t) k)) → Agreed bytes other (cond b null (legal ∷ next p (p + t) k))
      → Same (cond b null (legal ∷ next' p (p + t) k)) (cond b null (legal ∷ next p (p + t) k)) (cond b values.Null (then' p (p + t) k))
      (cond b values.Null (then_ p (p + t) k)))
      (λ _ fine a. record { marks = refl; value = refl })
      (λ _ fine a.
      let h = behind p (p + t) k fine.1 a in
      record { marks = ap (λ (ms : List Mark). legal ∷ ms) h.marks; value = h.value }))

  cell_same : (p bit : ℕ) (k : KindTree) → AreSame bytes other p ((cell_size k + 7) / 8) → IsFine (cell_marks next schema bytes p k)
      → Agreed bytes other (cell_marks next schema bytes p k)
      → Same (cell_marks next' schema other p k) (cell_marks next schema bytes p k) (cell_value then' other p bit k) (cell_value then_ bytes p bit k)
  unfolding cell_marks cell_value index_marks
  cell_same p bit (kinds.BoolKind nb) same fine a = record { marks = refl; value = rw (same8 bytes other p same) refl }
  cell_same p bit (kinds.IntKind w s nb) same fine a = record { marks = refl; value = ap (λ z. values.Whole z) (same_whole bytes other w s nb p same) }
  cell_same p bit (kinds.EnumKind n nb) same fine a =
      let e = same32 bytes other p same in
      record { marks = rw e refl; value = rw e refl }
  cell_same p bit (kinds.HandleKind sort n) same fine a =
      let e = same32 bytes other p same in
      record { marks = rw e refl; value = rw e refl }
  cell_same p bit (kinds.ReceiverKind i n) same fine a =
      let e = same32 bytes other p same in
      record { marks = rw e refl; value = rw e refl }
  cell_same p bit (kinds.AssociatedReceiverKind i n) same fine a =
      let e = same32 bytes other p same in
      record { marks = rw e refl; value = rw e refl }
  cell_same p bit (kinds.RemoteKind i n) same fine a =
      let e = same32 bytes other p (same_part bytes other p 8 p 4 same (omega arith) (omega arith)) in
      let v = same32 bytes other (p + 4) (same_part bytes other p 8 (p + 4) 4 same (omega arith) (omega arith)) in
      record { marks = rw e refl; value = rw (e, v) refl }
  cell_same p bit (kinds.AssociatedRemoteKind i n) same fine a =
      let e = same32 bytes other p (same_part bytes other p 8 p 4 same (omega arith) (omega arith)) in
      let v = same32 bytes other (p + 4) (same_part bytes other p 8 (p + 4) 4 same (omega arith) (omega arith)) in
      record { marks = rw e refl; value = rw (e, v) refl }
  cell_same p bit (kinds.TextKind n) same fine a = pointer_same p (kinds.TextKind n) n same fine a
  cell_same p bit (kinds.ArrayKind o c n) same fine a = pointer_same p (kinds.ArrayKind o c n) n same fine a
  cell_same p bit (kinds.MapKind x y n) same fine a = pointer_same p (kinds.MapKind x y n) n same fine a
  cell_same p bit (kinds.StructKind m n) same fine a = pointer_same p (kinds.StructKind m n) n same fine a
  cell_same p bit (kinds.UnionKind m n) same fine a = pointer_same p (kinds.UnionKind m n) n same fine a

  -- ---- unions

  member_same : (p tag : ℕ) (o : Option KindTree) (extensible : Bool) → AreSame bytes other (p + 8) 8
      → IsFine (member_marks next schema bytes p o extensible) → Agreed bytes other (member_marks next schema bytes p o extensible)
      → Same (member_marks next' schema other p o extensible) (member_marks next schema bytes p o extensible) (member_value then' other p tag o)
      (member_value then_ bytes p tag o)
  member_same p tag None extensible same fine a = record { marks = refl; value = refl }
  member_same p tag (Some k) extensible same fine a =
      let room = (cell_fits k).1 in
      let cell = cell_same (p + 8) 0 k (same_part bytes other (p + 8) 8 (p + 8) ((cell_size k + 7) / 8) same (omega arith) (omega (arith, room))) fine a in
      record { marks = cell.marks; value = ap (λ (t : Tree). values.Member tag t) cell.value }

  found_union_same : (p : ℕ) (o : Option UnionRow) → AreSame bytes other p 16 → IsFine (found_union_marks next schema bytes p o)
      → Agreed bytes other (found_union_marks next schema bytes p o)
      → Same (found_union_marks next' schema other p o) (found_union_marks next schema bytes p o) (found_union_value then' other p o)
      (found_union_value then_ bytes p o)
  found_union_same p None same fine a = record { marks = refl; value = refl }
  found_union_same p (Some row) same fine a =
      let tag = number32 bytes (p + 4) in
      let e = same32 bytes other (p + 4) (same_part bytes other p 16 (p + 4) 4 same (omega arith) (omega arith)) in
      rw e (member_same p tag (kind_of_tag row.fields tag) row.extensible (same_part bytes other p 16 (p + 8) 8 same (omega arith) (omega arith)) fine a)

  pub union_same : (p number : ℕ) (nullable : Bool) → AreSame bytes other p 16 → IsFine (union_marks next schema bytes p number nullable)
      → Agreed bytes other (union_marks next schema bytes p number nullable)
      → Same (union_marks next' schema other p number nullable) (union_marks next schema bytes p number nullable)
      (union_value then' schema other p number) (union_value then_ schema bytes p number)
  unfolding union_marks union_value
  union_same p number nullable same =
      let o = slice_get schema.unions number in
      let null = marks.Test nullable faults.UnexpectedNullUnion p ∷ [] in
      let e = same32 bytes other p (same_part bytes other p 16 p 4 same (omega arith) (omega arith)) in
      rw e (by_test (number32 bytes p == 0) (λ b. IsFine (cond b null (found_union_marks next schema bytes p o))
      → Agreed bytes other (cond b null (found_union_marks next schema bytes p o))
      → Same (cond b null (found_union_marks next' schema other p o)) (cond b null (found_union_marks next schema bytes p o))
      (cond b values.Null (found_union_value then' other p o)) (cond b values.Null (found_union_value then_ bytes p o)))
      (λ _ fine a. record { marks = refl; value = refl })
      (λ _ fine a. found_union_same p o same fine a))

  -- ---- slots

  slot_same : (p bit : ℕ) (k : KindTree) → AreSame bytes other p (bytes_of k) → IsFine (slot_marks next schema bytes p k)
      → Agreed bytes other (slot_marks next schema bytes p k)
      → Same (slot_marks next' schema other p k) (slot_marks next schema bytes p k) (slot_value then' schema other p bit k)
      (slot_value then_ schema bytes p bit k)
  unfolding slot_marks slot_value
  slot_same p bit (kinds.UnionKind m n) same fine a = union_same p m n same fine a
  slot_same p bit (kinds.BoolKind nb) same fine a = cell_same p bit (kinds.BoolKind nb) same fine a
  slot_same p bit (kinds.IntKind w s nb) same fine a = cell_same p bit (kinds.IntKind w s nb) same fine a
  slot_same p bit (kinds.EnumKind n nb) same fine a = cell_same p bit (kinds.EnumKind n nb) same fine a
  slot_same p bit (kinds.TextKind n) same fine a = cell_same p bit (kinds.TextKind n) same fine a
  slot_same p bit (kinds.HandleKind s n) same fine a = cell_same p bit (kinds.HandleKind s n) same fine a
  slot_same p bit (kinds.ArrayKind o c n) same fine a = cell_same p bit (kinds.ArrayKind o c n) same fine a
  slot_same p bit (kinds.MapKind x y n) same fine a = cell_same p bit (kinds.MapKind x y n) same fine a
  slot_same p bit (kinds.StructKind m n) same fine a = cell_same p bit (kinds.StructKind m n) same fine a
  slot_same p bit (kinds.RemoteKind i n) same fine a = cell_same p bit (kinds.RemoteKind i n) same fine a
  slot_same p bit (kinds.ReceiverKind i n) same fine a = cell_same p bit (kinds.ReceiverKind i n) same fine a
  slot_same p bit (kinds.AssociatedRemoteKind i n) same fine a = cell_same p bit (kinds.AssociatedRemoteKind i n) same fine a
  slot_same p bit (kinds.AssociatedReceiverKind i n) same fine a = cell_same p bit (kinds.AssociatedReceiverKind i n) same fine a

  pub slots_same : (base : ℕ) (ss : List Slot) (rest : Trees) → AreSameSlots bytes other base ss → IsFine (slots_marks next schema bytes base ss)
      → Agreed bytes other (slots_marks next schema bytes base ss)
      → SameAll (slots_marks next' schema other base ss) (slots_marks next schema bytes base ss) (slots_value then' schema other base ss rest)
      (slots_value then_ schema bytes base ss rest)
  unfolding slots_marks slots_value
  slots_same base [] rest same fine a = record { marks = refl; values = refl }
  slots_same base (s ∷ ss) rest same fine a =
      let at = base + s.place / 8 in
      let has = has_value bytes base s.flag in
      let held = slot_marks next schema bytes at s.kind in
      let here = marks_if has held in
      let after = slots_marks next schema bytes base ss in
      let one = same_if bytes other has (has_value other base s.flag) held (slot_marks next' schema other at s.kind)
      (slot_value then_ schema bytes at (s.place % 8) s.kind) (slot_value then' schema other at (s.place % 8) s.kind)
      (flag_same bytes other base s.flag same.0) (slot_same at (s.place % 8) s.kind same.1.0)
      (fine_left here after fine) (agreed_left bytes other here after a) in
      let more = slots_same base ss rest same.1.1 (fine_right here after fine) (agreed_right bytes other here after a) in
      record { marks = rw (one.marks, more.marks) refl; values = rw (one.value, more.values) refl }
