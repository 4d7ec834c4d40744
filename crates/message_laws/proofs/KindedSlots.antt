-- A slot whose marks are fine has a value of its kind.
use Rattle.std.proofs.Common.{◌≡◌, ℕ, suc, ◌+◌, ◌/◌, ◌%◌, ◌^◌, ◌<◌, ◌≤◌, Bool, true, false, cond, inl, inr, List, [], ◌∷◌, ◌++◌, Option, Some, None, refl, sym, ap, subst, ◌∙◌, arith}
use Rattle.std.specs.Prelude.{◌==◌, nat_lt, slice_get}
use Rattle.std.proofs.lemmas.Bool.Decides.{nat_tests}
use Rattle.mj_base.specs.declared.fault.FaultKind.{FaultKind}
use Rattle.mj_base.specs.declared.fault.FaultKind.TheVariants as faults
use Rattle.mj_base.specs.Bytes.{number32, number64}
use Rattle.mj_schema.specs.KindTrees as kinds
use Rattle.mj_schema.specs.KindTrees.{KindTree}
use Rattle.mj_schema.specs.declared.rows.UnionRow.{UnionRow}
use Rattle.mj_schema.specs.declared.schema.Schema.{Schema}
use Rattle.wire_model.specs.Cells.{NO_INDEX}
use Rattle.wire_model.specs.Depth.{IsOfKind, levels}
use Rattle.wire_model.specs.Kinded.{is_nullable, OrNull}
use Rattle.wire_model.specs.Marks as marks
use Rattle.wire_model.specs.Marks.{Mark, Next, pointer_marks, index_marks, cell_marks, member_marks, found_union_marks, union_marks, slot_marks, has_value, marks_if, slots_marks}
use Rattle.wire_model.specs.Rows.{kind_in, kind_of_tag}
use Rattle.wire_model.specs.Slots.{Slot}
use Rattle.wire_model.specs.Stands.{IsFine}
use Rattle.wire_model.specs.Trees as values
use Rattle.wire_model.specs.Trees.{Tree, Trees}
use Rattle.wire_model.specs.Values.{Behind, pointer_value, or_null, cell_value, member_value, found_union_value, union_value, slot_value, value_if, slots_value}
use Rattle.message_laws.specs.Filled.{AreBytes}
use Rattle.same_messages.proofs.Fine.{fine_left, fine_right}
use Rattle.message_laws.proofs.Numbers.{small32, in_range, member_in_range}
use Rattle.message_laws.specs.steps.Kinded.{AreKindedBehind, AreThere, AreValues, IsPointed, IsThere, IsValue}
use Rattle.message_laws.proofs.RowsThere.{found, member_there}
use Rattle.same_messages.proofs.Cases.{by_test, max_least}

-- an inline union adds no level, any other one
pub inline_less : (t : Tree) → levels true t ≤ levels false t
inline_less (values.Flag b) = omega arith
inline_less (values.Whole n) = omega arith
inline_less (values.Text bs) = omega arith
inline_less (values.Items ts) = omega arith
inline_less (values.Pairs ts) = omega arith
inline_less (values.Fields ts) = omega arith
inline_less (values.Member tag t) = omega arith
inline_less (values.Unknown tag) = omega arith
inline_less (values.Handle i) = omega arith
inline_less (values.Remote i v) = omega arith
inline_less (values.Endpoint i) = omega arith
inline_less (values.EndpointRemote i v) = omega arith
inline_less values.Null = omega arith

pub pointed_more : (t : Tree) → levels false t ≤ suc (levels true t)
pointed_more (values.Flag b) = omega arith
pointed_more (values.Whole n) = omega arith
pointed_more (values.Text bs) = omega arith
pointed_more (values.Items ts) = omega arith
pointed_more (values.Pairs ts) = omega arith
pointed_more (values.Fields ts) = omega arith
pointed_more (values.Member tag t) = omega arith
pointed_more (values.Unknown tag) = omega arith
pointed_more (values.Handle i) = omega arith
pointed_more (values.Remote i v) = omega arith
pointed_more (values.Endpoint i) = omega arith
pointed_more (values.EndpointRemote i v) = omega arith
pointed_more values.Null = omega arith

-- what may stand somewhere by itself may also stand where there is a flag
may_stand : (flag : ℕ) (t : Tree) (P : Type 0) → P → OrNull (Some flag) t P
may_stand flag (values.Flag b) P p = p
may_stand flag (values.Whole n) P p = p
may_stand flag (values.Text bs) P p = p
may_stand flag (values.Items ts) P p = p
may_stand flag (values.Pairs ts) P p = p
may_stand flag (values.Fields ts) P p = p
may_stand flag (values.Member tag t) P p = p
may_stand flag (values.Unknown tag) P p = p
may_stand flag (values.Handle i) P p = p
may_stand flag (values.Remote i v) P p = p
may_stand flag (values.Endpoint i) P p = p
may_stand flag (values.EndpointRemote i v) P p = p
may_stand flag values.Null P p = tt

module _ (schema : Schema) (bytes : List ℕ) (small : AreBytes bytes) (next : Next) (then_ : Behind) (most : ℕ)
    (behind : AreKindedBehind schema next then_ most) where
  pub pointer_kinded : (p : ℕ) (k : KindTree) (nullable : Bool) → IsPointed k → IsThere schema k → is_nullable k ≡ nullable
      → IsFine (pointer_marks next bytes p k nullable) → IsValue schema false k (pointer_value then_ bytes p k) most
  unfolding pointer_marks pointer_value IsOfKind
  pointer_kinded p k nullable pointed there is =
      by_test (number64 bytes p == 0) (λ t. IsFine (cond t (marks.Test nullable faults.UnexpectedNullPointer p ∷ [])
      (marks.Test (nat_lt (number64 bytes p) (2 ^ 32)) faults.IllegalPointer p ∷ next p (p + number64 bytes p) k))
      → IsValue schema false k (cond t values.Null (then_ p (p + number64 bytes p) k)) most)
      (λ _ fine. record { kind = is ∙ fine.0; deep = omega arith })
      (λ _ fine. behind p (p + number64 bytes p) k pointed there fine.1)

  index_kinded : (met : Mark) (missing : FaultKind) (p : ℕ) (k : KindTree) (nullable : Bool) (t : Tree) → is_nullable k ≡ nullable
      → (number32 bytes p < NO_INDEX → IsValue schema false k t most) → IsFine (index_marks met missing bytes p nullable)
      → IsValue schema false k (or_null (number32 bytes p) t) most
  unfolding index_marks IsOfKind
  index_kinded met missing p k nullable t is some =
      by_test (number32 bytes p == NO_INDEX) (λ b. IsFine (cond b (marks.Test nullable missing p ∷ []) (met ∷ []))
      → IsValue schema false k (cond b values.Null t) most)
      (λ _ fine. record { kind = is ∙ fine.0; deep = omega arith })
      (λ other fine. some (below (number32 bytes p) (small32 bytes small p) other))
    where
      below : (n : ℕ) → n < 2 ^ 32 → (n == NO_INDEX) ≡ false → n < NO_INDEX
      below n lt other = grind (arith, nat_tests)

  pub cell_kinded : (p bit : ℕ) (k : KindTree) → IsThere schema k → IsFine (cell_marks next schema bytes p k)
      → IsValue schema false k (cell_value then_ bytes p bit k) most
  unfolding cell_marks cell_value IsOfKind
  cell_kinded p bit (kinds.BoolKind nb) there fine = record { kind = (nb, refl); deep = omega arith }
  cell_kinded p bit (kinds.IntKind w s nb) there fine = record { kind = in_range bytes small w s p; deep = omega arith }
  cell_kinded p bit (kinds.EnumKind n nb) there fine = record { kind = (member_in_range bytes small p, fine.0); deep = omega arith }
  cell_kinded p bit (kinds.HandleKind sort n) there fine =
      index_kinded _ _ p (kinds.HandleKind sort n) n (values.Handle (number32 bytes p)) refl
      (λ lt. record { kind = (inl (sort, n, refl), lt); deep = omega arith }) fine
  cell_kinded p bit (kinds.ReceiverKind i n) there fine =
      index_kinded _ _ p (kinds.ReceiverKind i n) n (values.Handle (number32 bytes p)) refl
      (λ lt. record { kind = (inr (i, n, refl), lt); deep = omega arith }) fine
  cell_kinded p bit (kinds.RemoteKind i n) there fine =
      index_kinded _ _ p (kinds.RemoteKind i n) n (values.Remote (number32 bytes p) (number32 bytes (p + 4))) refl
      (λ lt. record { kind = (i, n, refl, lt, small32 bytes small (p + 4)); deep = omega arith }) fine
  cell_kinded p bit (kinds.AssociatedReceiverKind i n) there fine =
      index_kinded _ _ p (kinds.AssociatedReceiverKind i n) n (values.Endpoint (number32 bytes p)) refl
      (λ lt. record { kind = (i, n, refl, lt); deep = omega arith }) fine
  cell_kinded p bit (kinds.AssociatedRemoteKind i n) there fine =
      index_kinded _ _ p (kinds.AssociatedRemoteKind i n) n (values.EndpointRemote (number32 bytes p) (number32 bytes (p + 4))) refl
      (λ lt. record { kind = (i, n, refl, lt, small32 bytes small (p + 4)); deep = omega arith }) fine
  cell_kinded p bit (kinds.TextKind n) there fine = pointer_kinded p (kinds.TextKind n) n tt there refl fine
  cell_kinded p bit (kinds.ArrayKind o c n) there fine = pointer_kinded p (kinds.ArrayKind o c n) n tt there refl fine
  cell_kinded p bit (kinds.MapKind a b n) there fine = pointer_kinded p (kinds.MapKind a b n) n tt there refl fine
  cell_kinded p bit (kinds.StructKind m n) there fine = pointer_kinded p (kinds.StructKind m n) n tt there refl fine
  cell_kinded p bit (kinds.UnionKind m n) there fine = pointer_kinded p (kinds.UnionKind m n) n tt there refl fine

  -- ---- unions

  member_kinded : (p number : ℕ) (nullable : Bool) (row : UnionRow) (o : Option KindTree) → slice_get schema.unions number ≡ Some row
      → kind_of_tag row.fields (number32 bytes (p + 4)) ≡ o → IsFine (member_marks next schema bytes p o row.extensible)
      → IsValue schema true (kinds.UnionKind number nullable) (member_value then_ bytes p (number32 bytes (p + 4)) o) most
  unfolding IsOfKind
  member_kinded p number nullable row None at lacks fine = record {
    kind =
        (record { number = number; nullable = nullable; kind = refl; row = row; found = at; extensible = fine.0; lacks = lacks }, small32 bytes small (p + 4));
    deep = omega arith;
  }
  member_kinded p number nullable row (Some m) at has fine =
      let cell = cell_kinded (p + 8) 0 m (member_there schema number (number32 bytes (p + 4)) row m at has) fine in
      record {
        kind = (m, ap (λ (o : Option UnionRow). kind_in o (number32 bytes (p + 4))) at ∙ has, small32 bytes small (p + 4), cell.kind);
        deep = cell.deep;
      }

  found_union_kinded : (p number : ℕ) (nullable : Bool) (row : UnionRow) → slice_get schema.unions number ≡ Some row
      → IsFine (found_union_marks next schema bytes p (slice_get schema.unions number))
      → IsValue schema true (kinds.UnionKind number nullable) (found_union_value then_ bytes p (slice_get schema.unions number)) most
  found_union_kinded p number nullable row at =
      subst (λ (o : Option UnionRow). IsFine (found_union_marks next schema bytes p o)
      → IsValue schema true (kinds.UnionKind number nullable) (found_union_value then_ bytes p o) most) (sym at)
      (member_kinded p number nullable row (kind_of_tag row.fields (number32 bytes (p + 4))) at refl)

  pub union_kinded : (p number : ℕ) (nullable : Bool) → IsThere schema (kinds.UnionKind number nullable)
      → IsFine (union_marks next schema bytes p number nullable)
      → IsValue schema true (kinds.UnionKind number nullable) (union_value then_ schema bytes p number) most
  unfolding union_marks union_value IsOfKind
  union_kinded p number nullable there =
      let row = found schema.unions number there in
      by_test (number32 bytes p == 0) (λ t. IsFine (cond t (marks.Test nullable faults.UnexpectedNullUnion p ∷ [])
      (found_union_marks next schema bytes p (slice_get schema.unions number))) → IsValue schema true (kinds.UnionKind number nullable)
      (cond t values.Null (found_union_value then_ bytes p (slice_get schema.unions number))) most)
      (λ _ fine. record { kind = fine.0; deep = omega arith })
      (λ _ fine. found_union_kinded p number nullable row.0 row.1 fine)

  -- ---- slots

  inlined : (k : KindTree) (t : Tree) → IsValue schema false k t most → IsValue schema true k t most
  inlined k t v = let deep = v.deep in record { kind = v.kind; deep = omega (arith, deep, inline_less t) }

  slot_kinded : (p bit : ℕ) (k : KindTree) → IsThere schema k → IsFine (slot_marks next schema bytes p k)
      → IsValue schema true k (slot_value then_ schema bytes p bit k) most
  unfolding slot_marks slot_value
  slot_kinded p bit (kinds.UnionKind m n) there fine = union_kinded p m n there fine
  slot_kinded p bit (kinds.BoolKind nb) there fine = inlined _ _ (cell_kinded p bit (kinds.BoolKind nb) there fine)
  slot_kinded p bit (kinds.IntKind w s nb) there fine = inlined _ _ (cell_kinded p bit (kinds.IntKind w s nb) there fine)
  slot_kinded p bit (kinds.EnumKind n nb) there fine = inlined _ _ (cell_kinded p bit (kinds.EnumKind n nb) there fine)
  slot_kinded p bit (kinds.TextKind n) there fine = inlined _ _ (cell_kinded p bit (kinds.TextKind n) there fine)
  slot_kinded p bit (kinds.HandleKind s n) there fine = inlined _ _ (cell_kinded p bit (kinds.HandleKind s n) there fine)
  slot_kinded p bit (kinds.ArrayKind o c n) there fine = inlined _ _ (cell_kinded p bit (kinds.ArrayKind o c n) there fine)
  slot_kinded p bit (kinds.MapKind a b n) there fine = inlined _ _ (cell_kinded p bit (kinds.MapKind a b n) there fine)
  slot_kinded p bit (kinds.StructKind m n) there fine = inlined _ _ (cell_kinded p bit (kinds.StructKind m n) there fine)
  slot_kinded p bit (kinds.RemoteKind i n) there fine = inlined _ _ (cell_kinded p bit (kinds.RemoteKind i n) there fine)
  slot_kinded p bit (kinds.ReceiverKind i n) there fine = inlined _ _ (cell_kinded p bit (kinds.ReceiverKind i n) there fine)
  slot_kinded p bit (kinds.AssociatedRemoteKind i n) there fine = inlined _ _ (cell_kinded p bit (kinds.AssociatedRemoteKind i n) there fine)
  slot_kinded p bit (kinds.AssociatedReceiverKind i n) there fine = inlined _ _ (cell_kinded p bit (kinds.AssociatedReceiverKind i n) there fine)

  -- a slot is read where it has a value
  read_kinded : (base : ℕ) (flag : Option ℕ) (k : KindTree) (ms : List Mark) (t : Tree) (held : Bool) → has_value bytes base flag ≡ held
      → (IsFine ms → IsValue schema true k t most) → IsFine (marks_if held ms)
      → OrNull flag (value_if held t) (IsOfKind schema k (value_if held t)) × (levels true (value_if held t) ≤ most)
  read_kinded base None k ms t true e read fine = let v = read fine in (v.kind, v.deep)
  read_kinded base None k ms t false e read fine = absurd cc
  read_kinded base (Some flag) k ms t true e read fine = let v = read fine in (may_stand flag t (IsOfKind schema k t) v.kind, v.deep)
  read_kinded base (Some flag) k ms t false e read fine = (tt, omega arith)

  -- slots that were read, before others
  pub slots_kinded : (base : ℕ) (ss others : List Slot) (rest : Trees) → AreThere schema ss → IsFine (slots_marks next schema bytes base ss)
      → AreValues schema others rest most → AreValues schema (ss ++ others) (slots_value then_ schema bytes base ss rest) most
  unfolding slots_marks slots_value IsOfKind
  slots_kinded base [] others rest there fine h = h
  slots_kinded base (s ∷ ss) others rest there fine h =
      let held = has_value bytes base s.flag in
      let met = slot_marks next schema bytes (base + s.place / 8) s.kind in
      let here = marks_if held met in
      let after = slots_marks next schema bytes base ss in
      let read = slot_kinded (base + s.place / 8) (s.place % 8) s.kind there.0 in
      let one = read_kinded base s.flag s.kind met _ held refl read (fine_left here after fine) in
      let more = slots_kinded base ss others rest there.1 (fine_right here after fine) h in
      record { kinds = (one.0, more.kinds); deep = max_least _ _ most one.1 more.deep }
