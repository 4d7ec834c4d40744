-- A slot that one schema wrote, read by another whose kind fits; a union within it too.
use Rattle.std.proofs.Common.{◌≡◌, ℕ, ◌+◌, ◌-◌, ◌*◌, ◌/◌, ◌%◌, ◌^◌, ◌<◌, ◌≤◌, inl, inr, Bool, true, false, List, ◌++◌, length, Option, Some, refl, sym, ap, subst, arith}
use Rattle.mj_base.specs.Bytes.{number32, bytes16, bytes32, bytes64}
use Rattle.mj_schema.specs.declared.schema.Schema.{Schema}
use Rattle.wire_model.specs.Bytes.{write}
use Rattle.mj_schema.specs.Sizes.{size_of}
use Rattle.wire_model.specs.Cells.{UNION_BYTES, put, put_cell, put_member}
use Rattle.wire_model.specs.Emit.{emit, member_object}
use Rattle.wire_model.specs.steps.Cells.{cell_size}
use Rattle.wire_model.specs.Rows.{member_kind}
use Rattle.mj_schema.specs.KindTrees as kinds
use Rattle.mj_schema.specs.KindTrees.{KindTree}
use Rattle.wire_model.specs.Trees as values
use Rattle.wire_model.specs.Trees.{Tree}
use Rattle.wire_model.specs.Tight.{MAX_PAYLOAD_BYTES}
use Rattle.wire_model.specs.Fits.{IsAligned, Fits}
use Rattle.wire_laws.specs.Carried.{Pair, KindFits, IsClosed}
use Rattle.wire_laws.specs.Grown.{grown, as_member}
use Rattle.wire_laws.proofs.Bytes.{Holds, Holds-left, Holds-right, number32_is, write_length}
use Rattle.wire_laws.proofs.Shown.{Shows, Kept, shown_part, clear_part, shown_kept, clear_kept}
use Rattle.wire_laws.proofs.Cells.{Put, cell_at, holds, null_union}
use Rattle.wire_laws.proofs.Lengths.{cell_fits}
use Rattle.wire_laws.proofs.Placed.{cell_keeps, any_aligned, aligned_keeps}
use Rattle.wire_laws.proofs.CellReads.{IsObject, ReadsCell, ReadsSlot, union_reads, null_union_reads, union_slot, plain_slot, IsPlain}
use Rattle.wire_laws.proofs.SlotReads.{SlotPut, cell_positive, whole_plain, handle_plain, struct_plain}
use Rattle.wire_laws.proofs.CarriedCells.{Found, cell_carried}

-- a kind that fits one whose slot is a cell is such a one
pub plain_kept : (P : Pair → Type 0) (k k' : KindTree) → KindFits P k k' → IsPlain k → IsPlain k'
plain_kept P (kinds.BoolKind nb) k' f ok = subst IsPlain (sym f) tt
plain_kept P (kinds.IntKind w s nb) k' f ok = subst IsPlain (sym f) tt
plain_kept P (kinds.EnumKind i nb) k' f ok = subst IsPlain (sym f.1) tt
plain_kept P (kinds.TextKind n) k' f ok = subst IsPlain (sym f.1) tt
plain_kept P (kinds.HandleKind sort n) k' f ok = subst IsPlain (sym f.1) tt
plain_kept P (kinds.ArrayKind o c n) k' f ok = subst IsPlain (sym f.3) tt
plain_kept P (kinds.MapKind a b n) k' f ok = subst IsPlain (sym f.3) tt
plain_kept P (kinds.StructKind i n) k' f ok = subst IsPlain (sym f.2) tt
plain_kept P (kinds.UnionKind i n) k' f ok = absurd ok
plain_kept P (kinds.RemoteKind i n) k' f ok = subst IsPlain (sym f.2) tt
plain_kept P (kinds.ReceiverKind i n) k' f ok = subst IsPlain (sym f.2) tt
plain_kept P (kinds.AssociatedRemoteKind i n) k' f ok = subst IsPlain (sym f.2) tt
plain_kept P (kinds.AssociatedReceiverKind i n) k' f ok = subst IsPlain (sym f.2) tt

module _ (w r : Schema) (P : Pair → Type 0) (closed : IsClosed w r P) (bytes : List ℕ) where
  -- what is behind a pointer is read by the other schema, wherever it stands
  abbrev pub FoundBehind : Tree → Type 0
  FoundBehind t =
      (left : ℕ) (k k' : KindTree) → KindFits P k k' → IsObject t → Fits w left false k t → (from p : ℕ) → Holds bytes p (emit w false k t) → p % 8 ≡ 0
      → p + length (emit w false k t) ≤ length bytes → length (emit w false k t) ≤ MAX_PAYLOAD_BYTES
      → Found w r P closed bytes left from p k' (grown r k' t) (p + length (emit w false k t))

  -- what a union holds, read by itself
  abbrev pub FoundInside : Tree → Type 0
  FoundInside (values.Member tag t) = FoundBehind t
  FoundInside _ = Unit {0}

  module _ (base : ℕ) (body : List ℕ) (place left at : ℕ) where
    plain_carried : (k k' : KindTree) (t : Tree) → KindFits P k k' → put w place k t body at ≡ put_cell place k t body at → emit w true k t ≡ emit w false k t
        → IsPlain k → Fits w left false k t → SlotPut w bytes base body place k t at → FoundBehind t
        → ReadsSlot r bytes left (base + place / 8) (place % 8) k' (grown r k' t) (base + at) (base + at + length (emit w true k t))
    plain_carried k k' t f e same plain fits s go =
        let size = (cell_fits k).0 in
        let positive = cell_positive k in
        let room = s.room in
        let after = s.after in
        let ends = s.ends in
        let small = s.small in
        let few : length (emit w true k t) ≤ MAX_PAYLOAD_BYTES = omega (arith, small) in
        let put : Put bytes base body place k t at = record {
          aligned = s.aligned;
          room = omega (arith, size, room);
          clear = clear_part body place (size_of k) place (cell_size k) s.clear (omega arith) (omega (arith, size));
          near = omega (arith, small);
          shown =
              shown_part bytes base (put_cell place k t body at) place (size_of k) place (cell_size k)
              (subst (λ (l : List ℕ). Shows bytes base l place (size_of k)) e s.shown) (omega arith) (omega (arith, size));
        } in
        let cell = cell_carried w r P closed bytes left (base + place / 8) (place % 8) (at - place / 8) (base + at)
        (base + at + length (emit w false k t)) k k' t f fits
        (cell_at bytes base body place w left false k t at fits put)
        (omega (arith, positive, size, room, after)) (omega (arith, positive, size, room, after)) (omega (arith, small)) refl
        (λ is. go left k k' f is fits (base + place / 8) (base + at) (subst (λ (l : List ℕ). Holds bytes (base + at) l) same s.back) s.whole
        (subst (λ (l : List ℕ). base + at + length l ≤ length bytes) same ends) (subst (λ (l : List ℕ). length l ≤ MAX_PAYLOAD_BYTES) same few)) in
        plain_slot r bytes left (base + place / 8) (place % 8) k' (grown r k' t) (base + at) (base + at + length (emit w true k t))
        (plain_kept P k k' f plain)
        (subst (λ (l : List ℕ). ReadsCell r bytes left (base + place / 8) (place % 8) k' (grown r k' t) (base + at) (base + at + length l)) (sym same) cell)

    member_carried : (u j : ℕ) (nullable n' : Bool) (tag : ℕ) (t : Tree) (m m' : KindTree) → member_kind w (kinds.UnionKind u nullable) tag ≡ Some m
        → member_kind r (kinds.UnionKind j n') tag ≡ Some m' → KindFits P m m' → tag < 2 ^ 32 → Fits w left false m t
        → SlotPut w bytes base body place (kinds.UnionKind u nullable) (values.Member tag t) at → FoundBehind t
        → ReadsSlot r bytes left (base + place / 8) (place % 8) (kinds.UnionKind j n') (grown r (kinds.UnionKind j n') (values.Member tag t)) (base + at)
        (base + at + length (emit w true (kinds.UnionKind u nullable) (values.Member tag t)))
    unfolding emit bytes16 bytes32 bytes64
    member_carried u j nullable n' tag t m m' e e' f lt fits s go =
        let k : KindTree = kinds.UnionKind u nullable in
        let head : List ℕ = bytes32 UNION_BYTES ++ bytes32 tag in
        let new : List ℕ = write body (place / 8) head in
        let n : length new ≡ length body = write_length body (place / 8) head in
        let whole : place % 8 ≡ 0 = s.aligned in
        let room : place + 128 ≤ 8 * length body = s.room in
        let after = s.after in
        let ends = s.ends in
        let small = s.small in
        let size = (cell_fits m).1 in
        let positive = cell_positive m in
        let aligned : IsAligned (place + 64) m = any_aligned m (place + 64) (omega arith) in
        let same : emit w true k (values.Member tag t) ≡ emit w false m t = ap (λ (o : Option KindTree). member_object o true tag t
        (λ x. emit w false x t)) e in
        let shown : Shows bytes base (put_cell (place + 64) m t new at) place 128 = subst (λ (o : Option KindTree). Shows bytes base
        (put_member place o tag t body at) place 128) e s.shown in
        let kept : Kept new (put_cell (place + 64) m t new at) place 64 = cell_keeps (place + 64) m t new at place 64 aligned (omega (arith, n, size))
        (inl (omega arith)) in
        let first : Shows bytes base new place 64 = shown_kept bytes base new (put_cell (place + 64) m t new at) place 64
        (shown_part bytes base (put_cell (place + 64) m t new at) place 128 place 64 shown (omega arith) (omega arith)) kept in
        let there : Holds bytes (base + place / 8) head = holds bytes base body place head 64 whole (omega arith) (omega arith) first in
        let sixteen : number32 bytes (base + place / 8) ≡ UNION_BYTES = number32_is bytes (base + place / 8) UNION_BYTES (omega arith)
        (Holds-left bytes (base + place / 8) (bytes32 UNION_BYTES) (bytes32 tag) there) in
        let tagged : number32 bytes (base + place / 8 + 4) ≡ tag = number32_is bytes (base + place / 8 + 4) tag lt
        (Holds-right bytes (base + place / 8) (bytes32 UNION_BYTES) (bytes32 tag) there) in
        let headed : Kept body new (place + 64) (cell_size m) = aligned_keeps place body head (place + 64) (cell_size m) 64 whole (omega arith)
        (inr (omega arith)) in
        let put : Put bytes base new (place + 64) m t at = record {
          aligned = aligned;
          room = omega (arith, n, size);
          clear =
              clear_kept body new (place + 64) (cell_size m) (clear_part body place 128 (place + 64) (cell_size m) s.clear (omega arith)
              (omega (arith, size))) headed;
          near = omega (arith, small);
          shown = shown_part bytes base (put_cell (place + 64) m t new at) place 128 (place + 64) (cell_size m) shown (omega arith) (omega (arith, size));
        } in
        let back : Holds bytes (base + at) (emit w false m t) = subst (λ (l : List ℕ). Holds bytes (base + at) l) same s.back in
        let limit : base + at + length (emit w false m t) ≤ length bytes = subst (λ (l : List ℕ). base + at + length l ≤ length bytes) same ends in
        let total : length (emit w true k (values.Member tag t)) ≤ MAX_PAYLOAD_BYTES = omega (arith, small) in
        let few : length (emit w false m t) ≤ MAX_PAYLOAD_BYTES = subst (λ (l : List ℕ). length l ≤ MAX_PAYLOAD_BYTES) same total in
        let cell = cell_carried w r P closed bytes left (base + (place + 64) / 8) ((place + 64) % 8) (at - (place + 64) / 8) (base + at)
        (base + at + length (emit w false m t)) m m' t f fits
        (cell_at bytes base new (place + 64) w left false m t at fits put)
        (omega (arith, room, after)) (omega (arith, room, after)) (omega (arith, small)) refl
        (λ is. go left m m' f is fits (base + (place + 64) / 8) (base + at) back s.whole limit few) in
        let q8 : base + (place + 64) / 8 ≡ base + place / 8 + 8 = omega arith in
        let b0 : (place + 64) % 8 ≡ 0 = omega arith in
        let end : ℕ = base + at + length (emit w false m t) in
        let t' : Tree = grown r m' t in
        let cell8 : ReadsCell r bytes left (base + place / 8 + 8) 0 m' t' (base + at) end =
        subst (λ b. ReadsCell r bytes left (base + place / 8 + 8) b m' t' (base + at) end) b0 (subst
        (λ q. ReadsCell r bytes left q ((place + 64) % 8) m' t' (base + at) end) q8 cell) in
        let union = union_reads r bytes left (base + place / 8) j tag n' m' t' (base + at) end e' sixteen tagged cell8 in
        let slot = union_slot r bytes left (base + place / 8) (place % 8) j n' (values.Member tag t') (base + at) end union in
        let filled : values.Member tag t' ≡ grown r (kinds.UnionKind j n') (values.Member tag t) =
        sym (ap (λ (o : Option KindTree). values.Member tag (as_member o t (λ x. grown r x t))) e') in
        subst (λ (x : Tree). ReadsSlot r bytes left (base + place / 8) (place % 8) (kinds.UnionKind j n') x (base + at)
        (base + at + length (emit w true k (values.Member tag t)))) filled
        (subst (λ (l : List ℕ). ReadsSlot r bytes left (base + place / 8) (place % 8) (kinds.UnionKind j n') (values.Member tag t') (base + at)
        (base + at + length l)) (sym same) slot)

    member_slot : (k k' : KindTree) (tag : ℕ) (t : Tree) (m : KindTree) → KindFits P k k' → member_kind w k tag ≡ Some m → tag < 2 ^ 32
        → Fits w left false m t → SlotPut w bytes base body place k (values.Member tag t) at → FoundBehind t
        → ReadsSlot r bytes left (base + place / 8) (place % 8) k' (grown r k' (values.Member tag t)) (base + at)
        (base + at + length (emit w true k (values.Member tag t)))
    member_slot (kinds.UnionKind u nullable) k' tag t m f e lt fits s go =
        let there = closed.unions u f.0 tag m f.3 e in
        subst (λ (x : KindTree). ReadsSlot r bytes left (base + place / 8) (place % 8) x (grown r x (values.Member tag t)) (base + at)
        (base + at + length (emit w true (kinds.UnionKind u nullable) (values.Member tag t)))) (sym f.2)
        (member_carried u f.0 nullable f.1 tag t m there.0 e there.1 there.2 lt fits s go)
    member_slot k k' tag t m f e lt fits s go = absurd cc

    null_slot : (u j : ℕ) (nullable n' : Bool) → n' ≡ true → SlotPut w bytes base body place (kinds.UnionKind u nullable) values.Null at
        → ReadsSlot r bytes left (base + place / 8) (place % 8) (kinds.UnionKind j n') values.Null (base + at) (base + at + 0)
    null_slot u j nullable n' ok s =
        union_slot r bytes left (base + place / 8) (place % 8) j n' values.Null (base + at) (base + at + 0)
        (null_union_reads r bytes left (base + place / 8) j n' (base + at) (base + at + 0)
        (null_union bytes base body place s.aligned s.clear s.shown) ok (omega arith))

    null_carried : (k k' : KindTree) → KindFits P k k' → Fits w left true k values.Null → SlotPut w bytes base body place k values.Null at
        → FoundBehind values.Null
        → ReadsSlot r bytes left (base + place / 8) (place % 8) k' values.Null (base + at) (base + at + length (emit w true k values.Null))
    unfolding Fits emit
    null_carried (kinds.BoolKind nb) k' f fits s go = absurd cc
    null_carried (kinds.IntKind x y nb) k' f fits s go = absurd cc
    null_carried (kinds.EnumKind n nb) k' f fits s go = absurd cc
    null_carried (kinds.UnionKind u n) k' f fits s go =
        subst (λ (x : KindTree). ReadsSlot r bytes left (base + place / 8) (place % 8) x values.Null (base + at) (base + at + 0)) (sym f.2)
        (null_slot u f.0 n f.1 (f.4 fits) s)
    null_carried (kinds.TextKind n) k' f fits s go = plain_carried (kinds.TextKind n) k' values.Null f refl refl tt fits s go
    null_carried (kinds.HandleKind sort n) k' f fits s go = plain_carried (kinds.HandleKind sort n) k' values.Null f refl refl tt fits s go
    null_carried (kinds.ArrayKind o c n) k' f fits s go = plain_carried (kinds.ArrayKind o c n) k' values.Null f refl refl tt fits s go
    null_carried (kinds.MapKind a b n) k' f fits s go = plain_carried (kinds.MapKind a b n) k' values.Null f refl refl tt fits s go
    null_carried (kinds.StructKind i n) k' f fits s go = plain_carried (kinds.StructKind i n) k' values.Null f refl refl tt fits s go
    null_carried (kinds.RemoteKind i n) k' f fits s go = plain_carried (kinds.RemoteKind i n) k' values.Null f refl refl tt fits s go
    null_carried (kinds.ReceiverKind i n) k' f fits s go = plain_carried (kinds.ReceiverKind i n) k' values.Null f refl refl tt fits s go
    null_carried (kinds.AssociatedRemoteKind i n) k' f fits s go = plain_carried (kinds.AssociatedRemoteKind i n) k' values.Null f refl refl tt fits s go
    null_carried (kinds.AssociatedReceiverKind i n) k' f fits s go = plain_carried (kinds.AssociatedReceiverKind i n) k' values.Null f refl refl tt fits s go

    pub slot_carried : (k k' : KindTree) (t : Tree) → KindFits P k k' → Fits w left true k t → SlotPut w bytes base body place k t at → FoundBehind t
        → FoundInside t
        → ReadsSlot r bytes left (base + place / 8) (place % 8) k' (grown r k' t) (base + at) (base + at + length (emit w true k t))
    unfolding Fits emit
    slot_carried k k' (values.Flag v) f fits s go i = plain_carried k k' (values.Flag v) f refl refl (subst IsPlain (sym fits.1) tt) fits s go
    slot_carried k k' (values.Whole n) f fits s go i = plain_carried k k' (values.Whole n) f refl refl (whole_plain w k n fits) fits s go
    slot_carried k k' (values.Text bs) f fits s go i = plain_carried k k' (values.Text bs) f refl refl (subst IsPlain (sym fits.1) tt) fits s go
    slot_carried k k' (values.Items ts) f fits s go i = plain_carried k k' (values.Items ts) f refl refl (subst IsPlain (sym fits.3) tt) fits s go
    slot_carried k k' (values.Pairs ts) f fits s go i = plain_carried k k' (values.Pairs ts) f refl refl (subst IsPlain (sym fits.3) tt) fits s go
    slot_carried k k' (values.Fields ts) f fits s go i = plain_carried k k' (values.Fields ts) f refl refl (struct_plain w k fits.0 fits.1) fits s go
    slot_carried k k' (values.Member tag t) f fits s go i = member_slot k k' tag t fits.0 f fits.1 fits.2 fits.3 s i
    slot_carried k k' (values.Unknown tag) f fits s go i = absurd fits
    slot_carried k k' (values.Handle x) f fits s go i = plain_carried k k' (values.Handle x) f refl refl (handle_plain k fits.0) fits s go
    slot_carried k k' (values.Remote x v) f fits s go i = plain_carried k k' (values.Remote x v) f refl refl (subst IsPlain (sym fits.2) tt) fits s go
    slot_carried k k' (values.EndpointRemote x v) f fits s go i =
        plain_carried k k' (values.EndpointRemote x v) f refl refl (subst IsPlain (sym fits.2) tt) fits s go
    slot_carried k k' (values.Endpoint x) f fits s go i = plain_carried k k' (values.Endpoint x) f refl refl (subst IsPlain (sym fits.2) tt) fits s go
    slot_carried k k' values.Null f fits s go i = null_carried k k' f fits s go
