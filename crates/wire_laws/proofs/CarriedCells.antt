-- A cell that one schema wrote, read by another whose kind fits.
use Rattle.mj_base.specs.declared.fault.FaultKind.TheVariants as faults
use Rattle.std.proofs.Common.{◌≡◌, ℕ, ◌+◌, ◌^◌, ◌<◌, Bool, true, false, inl, inr, List, length, Some, refl, sym, subst, arith}
use Rattle.std.specs.Prelude.{ℤ, IsTrue, nat_lt, ◌==◌}
use Rattle.std.proofs.lemmas.Bool.Decides.{nat_tests}
use Rattle.mj_base.specs.Bytes.{number64}
use Rattle.mj_schema.specs.declared.schema.Schema.{Schema}
use Rattle.wire_model.specs.Emit.{emit}
use Rattle.wire_model.specs.Rows.{member_kind, row_of}
use Rattle.mj_schema.specs.KindTrees as kinds
use Rattle.mj_schema.specs.KindTrees.{KindTree}
use Rattle.mj_schema.specs.declared.rows.StructRow.{StructRow}
use Rattle.wire_model.specs.Trees as values
use Rattle.wire_model.specs.Trees.{Tree}
use Rattle.wire_model.specs.Marks.{pointer_marks, visit}
use Rattle.wire_model.specs.Values.{pointer_value, value}
use Rattle.wire_model.specs.Indexes.{handles_of, ids_of}
use Rattle.wire_model.specs.Fits.{IsHandleKind, Fits}
use Rattle.wire_model.specs.Kinded.{is_nullable, IsWhole}
use Rattle.wire_laws.specs.Carried.{Pair, KindFits, IsClosed}
use Rattle.wire_laws.specs.Grown.{grown}
use Rattle.wire_laws.proofs.Cells.{IsPointer, pointer_text, pointer_array, pointer_map, AtCell, NullAt, WholeAt}
use Rattle.wire_laws.proofs.CellReads.{IsObject, ReadsCell, walk_of, pointer_walk, pointer_means, null_reads, whole_reads, flag_reads, handle_reads, remote_reads, associated_reads, endpoint_reads}
use Rattle.wire_laws.proofs.Walked.{Walked, walked_test}

pointer_struct_any : (i : ℕ) (n : Bool) → IsPointer (kinds.StructKind i n)
pointer_struct_any i n = record { spelled = λ d. refl; size = refl; aligned = λ p a. a }

pointer_union_any : (i : ℕ) (n : Bool) → IsPointer (kinds.UnionKind i n)
pointer_union_any i n = record { spelled = λ d. refl; size = refl; aligned = λ p a. a }

-- ---- what fits has the same form

module _ (P : Pair → Type 0) where
  pub nullable_kept : (k k' : KindTree) → KindFits P k k' → IsTrue (is_nullable k) → IsTrue (is_nullable k')
  nullable_kept (kinds.BoolKind nb) k' f ok = absurd cc
  nullable_kept (kinds.IntKind w s nb) k' f ok = absurd cc
  nullable_kept (kinds.EnumKind i nb) k' f ok = absurd cc
  nullable_kept (kinds.TextKind n) k' f ok = subst (λ x. IsTrue (is_nullable x)) (sym f.1) (f.2 ok)
  nullable_kept (kinds.HandleKind sort n) k' f ok = subst (λ x. IsTrue (is_nullable x)) (sym f.1) (f.2 ok)
  nullable_kept (kinds.ArrayKind o c n) k' f ok = subst (λ x. IsTrue (is_nullable x)) (sym f.3) (f.6 ok)
  nullable_kept (kinds.MapKind a b n) k' f ok = subst (λ x. IsTrue (is_nullable x)) (sym f.3) (f.6 ok)
  nullable_kept (kinds.StructKind i n) k' f ok = subst (λ x. IsTrue (is_nullable x)) (sym f.2) (f.4 ok)
  nullable_kept (kinds.UnionKind i n) k' f ok = subst (λ x. IsTrue (is_nullable x)) (sym f.2) (f.4 ok)
  nullable_kept (kinds.RemoteKind i n) k' f ok = subst (λ x. IsTrue (is_nullable x)) (sym f.2) (f.3 ok)
  nullable_kept (kinds.ReceiverKind i n) k' f ok = subst (λ x. IsTrue (is_nullable x)) (sym f.2) (f.3 ok)
  nullable_kept (kinds.AssociatedRemoteKind i n) k' f ok = subst (λ x. IsTrue (is_nullable x)) (sym f.2) (f.3 ok)
  nullable_kept (kinds.AssociatedReceiverKind i n) k' f ok = subst (λ x. IsTrue (is_nullable x)) (sym f.2) (f.3 ok)

  module _ (bytes : List ℕ) (q : ℕ) where
    null_at : (k k' : KindTree) → KindFits P k k' → NullAt bytes q k → NullAt bytes q k'
    null_at (kinds.BoolKind nb) k' f at = subst (NullAt bytes q) (sym f) at
    null_at (kinds.IntKind w s nb) k' f at = subst (NullAt bytes q) (sym f) at
    null_at (kinds.EnumKind i nb) k' f at = subst (NullAt bytes q) (sym f.1) at
    null_at (kinds.TextKind n) k' f at = subst (NullAt bytes q) (sym f.1) at
    null_at (kinds.HandleKind sort n) k' f at = subst (NullAt bytes q) (sym f.1) at
    null_at (kinds.ArrayKind o c n) k' f at = subst (NullAt bytes q) (sym f.3) at
    null_at (kinds.MapKind a b n) k' f at = subst (NullAt bytes q) (sym f.3) at
    null_at (kinds.StructKind i n) k' f at = subst (NullAt bytes q) (sym f.2) at
    null_at (kinds.UnionKind i n) k' f at = subst (NullAt bytes q) (sym f.2) at
    null_at (kinds.RemoteKind i n) k' f at = subst (NullAt bytes q) (sym f.2) at
    null_at (kinds.ReceiverKind i n) k' f at = subst (NullAt bytes q) (sym f.2) at
    null_at (kinds.AssociatedRemoteKind i n) k' f at = subst (NullAt bytes q) (sym f.2) at
    null_at (kinds.AssociatedReceiverKind i n) k' f at = subst (NullAt bytes q) (sym f.2) at

  handle_kept : (k k' : KindTree) → KindFits P k k' → IsHandleKind k → IsHandleKind k'
  handle_kept k k' f (inl is) =
      let g : KindFits P (kinds.HandleKind is.0 is.1) k' = subst (λ x. KindFits P x k') is.2 f in
      inl (is.0, g.0, g.1)
  handle_kept k k' f (inr is) =
      let g : KindFits P (kinds.ReceiverKind is.0 is.1) k' = subst (λ x. KindFits P x k') is.2 f in
      inr (g.0, g.1, g.2)

-- ---- cells

module _ (w r : Schema) (P : Pair → Type 0) (closed : IsClosed w r P) (bytes : List ℕ) where
  whole_carried : (left q b p end : ℕ) (k k' : KindTree) (n : ℤ) → KindFits P k k' → IsWhole w k n → WholeAt bytes q k n → p ≡ end
      → ReadsCell r bytes left q b k' (values.Whole n) p end
  whole_carried left q b p end (kinds.IntKind x s nb) k' n f ok at e =
      subst (λ y. ReadsCell r bytes left q b y (values.Whole n) p end) (sym f) (whole_reads r bytes left q b p end (kinds.IntKind x s nb) n ok at e)
  whole_carried left q b p end (kinds.EnumKind i nb) k' n f ok at e =
      subst (λ y. ReadsCell r bytes left q b y (values.Whole n) p end) (sym f.1)
      (whole_reads r bytes left q b p end (kinds.EnumKind f.0 nb) n (ok.0, closed.enums i f.0 n f.2 ok.1) at e)
  whole_carried left q b p end k k' n f ok at e = absurd ok

  -- a pointer that leads to an object which is read as a value, up to a place
  pub record Found (left from p : ℕ) (k : KindTree) (t : Tree) (end : ℕ) : Type 0 where
    pub walk : Walked (visit left r bytes from p k) p end (handles_of t) (ids_of t)
    pub means : value left r bytes from p k ≡ t

  pointer_carried : (left q b d p end : ℕ) (k : KindTree) (t : Tree) → IsPointer k → number64 bytes q ≡ d → q + d ≡ p → 0 < d → d < 2 ^ 32
      → Found left q p k t end → ReadsCell r bytes left q b k t p end
  unfolding pointer_marks pointer_value
  pointer_carried left q b d p end k t kind is there pos small f =
      let x = pointer_walk (walk_of r bytes left) r bytes q k kind in
      let not_null : (number64 bytes q == 0) ≡ false = grind (arith, nat_tests) in
      let legal : nat_lt (number64 bytes q) (2 ^ 32) ≡ true = grind (arith, nat_tests) in
      let target : q + number64 bytes q ≡ p = omega (arith, is, there) in
      record {
        walk =
            rw (x.1, not_null, target) (walked_test (nat_lt (number64 bytes q) (2 ^ 32)) faults.IllegalPointer q (visit left r bytes q p k) p
            end (handles_of t) (ids_of t) legal f.walk);
        means = rw (pointer_means (value left r bytes) bytes q b k kind, not_null, target) f.means;
      }

  -- a struct's kind fits a struct's, a union's a union's
  pub struct_pointer : (k k' : KindTree) (row : StructRow) → KindFits P k k' → row_of w k ≡ Some row → IsPointer k'
  struct_pointer (kinds.StructKind i n) k' row f e = subst IsPointer (sym f.2) (pointer_struct_any f.0 f.1)
  struct_pointer k k' row f e = absurd cc

  pub union_pointer : (k k' : KindTree) (tag : ℕ) (m : KindTree) → KindFits P k k' → member_kind w k tag ≡ Some m → IsPointer k'
  union_pointer (kinds.UnionKind i n) k' tag m f e = subst IsPointer (sym f.2) (pointer_union_any f.0 f.1)
  union_pointer k k' tag m f e = absurd cc

  -- a cell reads as its value by the other schema, if what it points to does
  pub cell_carried : (left q b d p end : ℕ) (k k' : KindTree) (t : Tree) → KindFits P k k' → Fits w left false k t → AtCell bytes q b k t d → q + d ≡ p
      → 0 < d → d < 2 ^ 32 → end ≡ p + length (emit w false k t)
      → (IsObject t → Found left q p k' (grown r k' t) end) → ReadsCell r bytes left q b k' (grown r k' t) p end
  unfolding Fits emit
  cell_carried left q b d p end k k' (values.Flag v) f fits at there pos small e go =
      let g : KindFits P (kinds.BoolKind fits.0) k' = subst (λ x. KindFits P x k') fits.1 f in
      subst (λ x. ReadsCell r bytes left q b x (values.Flag v) p end) (sym g) (flag_reads r bytes left q b p end fits.0 v at (omega (arith, e)))
  cell_carried left q b d p end k k' (values.Whole n) f fits at there pos small e go =
      whole_carried left q b p end k k' n f fits at (omega (arith, e))
  cell_carried left q b d p end k k' (values.Text bs) f fits at there pos small e go =
      let g : KindFits P (kinds.TextKind fits.0) k' = subst (λ x. KindFits P x k') fits.1 f in
      pointer_carried left q b d p end k' (values.Text bs) (subst IsPointer (sym g.1) (pointer_text g.0)) at there pos small (go tt)
  cell_carried left q b d p end k k' (values.Items ts) f fits at there pos small e go =
      let g : KindFits P (kinds.ArrayKind fits.0 fits.1 fits.2) k' = subst (λ x. KindFits P x k') fits.3 f in
      pointer_carried left q b d p end k' (grown r k' (values.Items ts)) (subst IsPointer (sym g.3) (pointer_array g.0 g.1 g.2)) at there pos small (go tt)
  cell_carried left q b d p end k k' (values.Pairs ts) f fits at there pos small e go =
      let g : KindFits P (kinds.MapKind fits.0 fits.1 fits.2) k' = subst (λ x. KindFits P x k') fits.3 f in
      pointer_carried left q b d p end k' (grown r k' (values.Pairs ts)) (subst IsPointer (sym g.3) (pointer_map g.0 g.1 g.2)) at there pos small (go tt)
  cell_carried left q b d p end k k' (values.Fields ts) f fits at there pos small e go =
      pointer_carried left q b d p end k' (grown r k' (values.Fields ts)) (struct_pointer k k' fits.0 f fits.1) at there pos small (go tt)
  cell_carried left q b d p end k k' (values.Member tag t) f fits at there pos small e go =
      pointer_carried left q b d p end k' (grown r k' (values.Member tag t)) (union_pointer k k' tag fits.0 f fits.1) at there pos small (go tt)
  cell_carried left q b d p end k k' (values.Unknown tag) f fits at there pos small e go = absurd fits
  cell_carried left q b d p end k k' (values.Handle i) f fits at there pos small e go =
      handle_reads r bytes left q b p end i k' (handle_kept P k k' f fits.0) fits.1 at (omega (arith, e))
  cell_carried left q b d p end k k' (values.Remote i v) f fits at there pos small e go =
      let g : KindFits P (kinds.RemoteKind fits.0 fits.1) k' = subst (λ x. KindFits P x k') fits.2 f in
      subst (λ x. ReadsCell r bytes left q b x (values.Remote i v) p end) (sym g.2)
      (remote_reads r bytes left q b p end g.0 g.1 i v fits.3 at.0 at.1 (omega (arith, e)))
  cell_carried left q b d p end k k' (values.EndpointRemote i v) f fits at there pos small e go =
      let g : KindFits P (kinds.AssociatedRemoteKind fits.0 fits.1) k' = subst (λ x. KindFits P x k') fits.2 f in
      subst (λ x. ReadsCell r bytes left q b x (values.EndpointRemote i v) p end) (sym g.2)
      (associated_reads r bytes left q b p end g.0 g.1 i v fits.3 at.0 at.1 (omega (arith, e)))
  cell_carried left q b d p end k k' (values.Endpoint i) f fits at there pos small e go =
      let g : KindFits P (kinds.AssociatedReceiverKind fits.0 fits.1) k' = subst (λ x. KindFits P x k') fits.2 f in
      subst (λ x. ReadsCell r bytes left q b x (values.Endpoint i) p end) (sym g.2)
      (endpoint_reads r bytes left q b p end g.0 g.1 i fits.3 at (omega (arith, e)))
  cell_carried left q b d p end k k' values.Null f fits at there pos small e go =
      null_reads r bytes left q b p end k' (nullable_kept P k k' f fits) (null_at P bytes q k k' f at) (omega (arith, e))
