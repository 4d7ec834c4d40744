-- Slots are filled with bytes.
use Rattle.std.proofs.Common.{◌≡◌, ◌<◌, ℕ, zero, suc, ◌+◌, ◌-◌, ◌%◌, ◌/◌, ◌^◌, Bool, true, false, List, [], ◌∷◌, ◌++◌, refl, arith}
use Rattle.std.specs.Prelude.{ℤ, ◌==◌, Option, Some, None, slice_index, if◌then◌else◌}
use Rattle.std.specs.Int.{cast_unsigned, w128}
use Rattle.std.proofs.lemmas.Bool.{eqb-true}
use Rattle.mj_base.specs.Bytes.{bytes16, bytes32}
use Rattle.mj_schema.specs.Parts.{FLAG_KIND}
use Rattle.mj_schema.specs.KindTrees as kinds
use Rattle.mj_schema.specs.KindTrees.{KindTree}
use Rattle.mj_schema.specs.declared.kind.Width.{Width}
use Rattle.mj_schema.specs.declared.kind.Width.TheVariants.{Bits8, Bits16, Bits32, Bits64}
use Rattle.mj_schema.specs.declared.schema.Schema.{Schema}
use Rattle.wire_model.specs.Bytes.{over, write, with_bit}
use Rattle.wire_model.specs.Cells.{is_value, put_present, put_slot}
use Rattle.wire_model.specs.Cells.{NO_INDEX, UNION_BYTES, int_bytes, whole_bytes, index_bytes, pointer_bytes, remote_bytes, cell_bytes, put_flag, put_cell, put_member, put}
use Rattle.wire_model.specs.Rows.{member_kind}
use Rattle.wire_model.specs.Slots.{Slot}
use Rattle.wire_model.specs.Trees as values
use Rattle.wire_model.specs.Trees.{Tree}
use Rattle.history_reader.specs.Printable.{AreBytes}
use Rattle.printed_histories.proofs.SmallWire.{bytes32_fine, bytes64_fine, before, byte_at}

over_fine : (xs bs : List ℕ) → AreBytes xs → AreBytes bs → AreBytes (over xs bs)
over_fine [] [] a b = tt
over_fine (x ∷ xs) [] a b = a
over_fine [] (c ∷ cs) a b = tt
over_fine (x ∷ xs) (c ∷ cs) a b = (b.0, over_fine xs cs a.1 b.1)

write_fine : (xs : List ℕ) (at : ℕ) (bs : List ℕ) → AreBytes xs → AreBytes bs → AreBytes (write xs at bs)
write_fine xs zero bs a b = over_fine xs bs a b
write_fine [] (suc at) bs a b = tt
write_fine (x ∷ xs) (suc at) bs a b = (a.0, write_fine xs at bs a.1 b)

bit_room : (byte bit : ℕ) → byte < 256 → bit < 8 → byte / 2 ^ bit % 2 ≡ 0 → byte + 2 ^ bit < 256
bit_room byte zero small lt free = omega arith
bit_room byte (suc zero) small lt free = omega arith
bit_room byte (suc (suc zero)) small lt free = omega arith
bit_room byte (suc (suc (suc zero))) small lt free = omega arith
bit_room byte (suc (suc (suc (suc zero)))) small lt free = omega arith
bit_room byte (suc (suc (suc (suc (suc zero))))) small lt free = omega arith
bit_room byte (suc (suc (suc (suc (suc (suc zero)))))) small lt free = omega arith
bit_room byte (suc (suc (suc (suc (suc (suc (suc zero))))))) small lt free = omega arith
bit_room byte (suc (suc (suc (suc (suc (suc (suc (suc n)))))))) small lt free = absurd (omega arith)

bit_fine : (byte bit : ℕ) → byte < 256 → bit < 8 → with_bit byte bit < 256
bit_fine byte bit small lt = go (byte / 2 ^ bit % 2 == 0) refl
  where
    go : (b : Bool) → (byte / 2 ^ bit % 2 == 0) ≡ b → (if b then byte + 2 ^ bit else byte) < 256
    go true e = bit_room byte bit small lt (eqb-true (byte / 2 ^ bit % 2) 0 e)
    go false e = small

int_fine : (width : Width) (n : ℕ) → AreBytes (int_bytes width n)
unfolding bytes16
int_fine Bits8 n = (omega arith, tt)
int_fine Bits16 n = (omega arith, (omega arith, tt))
int_fine Bits32 n = bytes32_fine n
int_fine Bits64 n = bytes64_fine n

whole_fine : (k : KindTree) (n : ℤ) → AreBytes (whole_bytes k n)
whole_fine (kinds.IntKind width signed nullable) n = int_fine width (cast_unsigned w128 n)
whole_fine (kinds.EnumKind number nullable) n = bytes32_fine (cast_unsigned w128 n)
whole_fine k n = tt

index_fine : (k : KindTree) (index : ℕ) → AreBytes (index_bytes k index)
index_fine (kinds.HandleKind sort nullable) index = bytes32_fine index
index_fine (kinds.ReceiverKind interface nullable) index = bytes32_fine index
index_fine (kinds.AssociatedReceiverKind interface nullable) index = bytes32_fine index
index_fine (kinds.RemoteKind interface nullable) index = bytes32_fine index
index_fine (kinds.AssociatedRemoteKind interface nullable) index = bytes32_fine index
index_fine k index = tt

pointer_fine : (k : KindTree) (distance : ℕ) → AreBytes (pointer_bytes k distance)
pointer_fine (kinds.TextKind nullable) distance = bytes64_fine distance
pointer_fine (kinds.ArrayKind of count nullable) distance = bytes64_fine distance
pointer_fine (kinds.MapKind key value nullable) distance = bytes64_fine distance
pointer_fine (kinds.StructKind number nullable) distance = bytes64_fine distance
pointer_fine (kinds.UnionKind number nullable) distance = bytes64_fine distance
pointer_fine k distance = tt

remote_fine : (k : KindTree) (index version : ℕ) → AreBytes (remote_bytes k index version)
remote_fine (kinds.RemoteKind interface nullable) index version = before index (bytes32 version) (bytes32_fine version)
remote_fine (kinds.AssociatedRemoteKind interface nullable) index version = before index (bytes32 version) (bytes32_fine version)
remote_fine k index version = tt

cell_fine : (k : KindTree) (t : Tree) (d : ℕ) → AreBytes (cell_bytes k t d)
cell_fine k (values.Flag b) d = tt
cell_fine k (values.Whole n) d = whole_fine k n
cell_fine k (values.Text bs) d = pointer_fine k d
cell_fine k (values.Items ts) d = pointer_fine k d
cell_fine k (values.Pairs ts) d = pointer_fine k d
cell_fine k (values.Fields ts) d = pointer_fine k d
cell_fine k (values.Member tag t) d = pointer_fine k d
cell_fine k (values.Unknown tag) d = tt
cell_fine k (values.Handle i) d = index_fine k i
cell_fine k (values.Endpoint i) d = index_fine k i
cell_fine k (values.Remote i version) d = remote_fine k i version
cell_fine k (values.EndpointRemote i version) d = remote_fine k i version
cell_fine k values.Null d = index_fine k NO_INDEX

flag_fine : (place : ℕ) (k : KindTree) (b : Bool) (body : List ℕ) → AreBytes body → AreBytes (put_flag place k b body)
flag_fine place (kinds.BoolKind nullable) true body a =
    write_fine body (place / 8) (with_bit (slice_index body (place / 8)) (place % 8) ∷ []) a
    (bit_fine (slice_index body (place / 8)) (place % 8) (byte_at body a (place / 8)) (omega arith), tt)
flag_fine place k b body a = a

pub put_cell_fine : (place : ℕ) (k : KindTree) (t : Tree) (body : List ℕ) (at : ℕ) → AreBytes body → AreBytes (put_cell place k t body at)
put_cell_fine place k (values.Flag b) body at a = flag_fine place k b body a
put_cell_fine place k t body at a = write_fine body (place / 8) (cell_bytes k t (at - place / 8)) a (cell_fine k t (at - place / 8))

member_fine : (place : ℕ) (o : Option KindTree) (tag : ℕ) (t : Tree) (body : List ℕ) (at : ℕ) → AreBytes body → AreBytes (put_member place o tag t body at)
member_fine place None tag t body at a = a
member_fine place (Some k) tag t body at a =
    put_cell_fine (place + 64) k t (write body (place / 8) (bytes32 UNION_BYTES ++ bytes32 tag)) at
    (write_fine body (place / 8) (bytes32 UNION_BYTES ++ bytes32 tag) a (before UNION_BYTES (bytes32 tag) (bytes32_fine tag)))

put_fine : (schema : Schema) (place : ℕ) (k : KindTree) (t : Tree) (body : List ℕ) (at : ℕ) → AreBytes body → AreBytes (put schema place k t body at)
put_fine schema place k (values.Member tag t) body at a = member_fine place (member_kind schema k tag) tag t body at a
put_fine schema place k t body at a = put_cell_fine place k t body at a

present_fine : (flag : Option ℕ) (t : Tree) (body : List ℕ) → AreBytes body → AreBytes (put_present flag t body)
present_fine None t body a = a
present_fine (Some flag) t body a = flag_fine flag FLAG_KIND (is_value t) body a

pub put_slot_fine : (schema : Schema) (s : Slot) (t : Tree) (body : List ℕ) (at : ℕ) → AreBytes body → AreBytes (put_slot schema s t body at)
put_slot_fine schema s t body at a = put_fine schema s.place s.kind t (put_present s.flag t body) at (present_fine s.flag t body a)
