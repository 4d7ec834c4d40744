-- The bytes of a value of its kind, and those of a message that carries bytes, are bytes.
use Rattle.std.proofs.Common.{◌≡◌, ℕ, ℤ, zero, suc, ◌+◌, ◌-◌, ◌*◌, ◌/◌, ◌%◌, ◌^◌, ◌<◌, Bool, true, false, cond, List, [], ◌∷◌, ◌++◌, length}
use Rattle.std.proofs.Common.{Option, Some, None, refl, sym, subst, arith}
use Rattle.std.specs.Prelude.{◌==◌, ◌&&◌, nat_lt, slice_index}
use Rattle.std.specs.Int.{cast_unsigned, w64, w128}
use Rattle.std.proofs.lemmas.Bool.Decides.{nat_tests}
use Rattle.std.proofs.lemmas.List.Elements.{All-nil, All-cons, All-head, All-tail, All-append, All-replicate}
use lib.Utf8.{scalar, scalars, encode, encodes}
use Rattle.mj_base.specs.Bytes.{bytes16, bytes32, bytes64, rounded8}
use Rattle.mj_schema.specs.Parts.{FLAG_KIND}
use Rattle.mj_schema.specs.KindTrees as kinds
use Rattle.mj_schema.specs.KindTrees.{KindTree}
use Rattle.mj_schema.specs.declared.kind.Width.{Width}
use Rattle.mj_schema.specs.declared.kind.Width.TheVariants.{Bits8, Bits16, Bits32, Bits64}
use Rattle.mj_schema.specs.declared.rows.StructRow.{StructRow}
use Rattle.mj_schema.specs.declared.schema.Schema.{Schema}
use Rattle.wire_model.specs.Bytes.{over, write, with_bit}
use Rattle.wire_model.specs.Cells.{UNION_BYTES, int_bytes, whole_bytes, index_bytes, pointer_bytes, remote_bytes, cell_bytes, put_flag, put_cell, put_member}
use Rattle.wire_model.specs.Cells.{is_value, put, put_present, put_slot, zeros}
use Rattle.wire_model.specs.Depth.{IsOfKind, AreOfKinds}
use Rattle.wire_model.specs.Emit.{object, text_object, struct_object, member_object, emit, body_of, behind}
use Rattle.wire_model.specs.HeaderMarks.{HEADER_BYTES, HEADER_BYTES_1, HEADER_BYTES_2, HEADER_BYTES_3}
use Rattle.wire_model.specs.Kinded.{OrNull}
use Rattle.wire_model.specs.Message.{Head, is_plain, basic, plain_front, written_request, ids_distance, moment_bytes, front, front_of}
use Rattle.wire_model.specs.Message.{id_bytes, back_of, message}
use Rattle.wire_model.specs.Rows.{member_kind}
use Rattle.wire_model.specs.Slots.{Slot, element_slots, map_slots, element_bytes, found_fields, found_size, found_version}
use Rattle.wire_model.specs.Texts.{valid_len}
use Rattle.wire_model.specs.Trees as values
use Rattle.wire_model.specs.Trees.{Tree, Trees, none, more, count}
use Rattle.value_text.proofs.Utf8Lengths.{is_text}
use Rattle.message_laws.specs.Filled.{AreBytes}

-- a byte
abbrev IsByte : ℕ → Type 0
IsByte n = n < 2 ^ 8

nil : AreBytes []
nil = All-nil IsByte

-- one byte before others
cons : (b : ℕ) (bs : List ℕ) → b < 256 → AreBytes bs → AreBytes (b ∷ bs)
cons b bs h rest = All-cons IsByte b bs h rest

-- bytes behind others
pub joined : (xs ys : List ℕ) → AreBytes xs → AreBytes ys → AreBytes (xs ++ ys)
joined xs ys h k = All-append IsByte xs ys h k

-- ## Numbers

of16 : (n : ℕ) → AreBytes (bytes16 n)
unfolding bytes16
of16 n = cons (n % 256) (n / 256 % 256 ∷ []) (omega arith) (cons (n / 256 % 256) [] (omega arith) nil)

pub of32 : (n : ℕ) → AreBytes (bytes32 n)
unfolding bytes32
of32 n =
    let d = cons (n / 16777216 % 256) [] (omega arith) nil in
    let c = cons (n / 65536 % 256) (n / 16777216 % 256 ∷ []) (omega arith) d in
    let b = cons (n / 256 % 256) (n / 65536 % 256 ∷ n / 16777216 % 256 ∷ []) (omega arith) c in
    cons (n % 256) (n / 256 % 256 ∷ n / 65536 % 256 ∷ n / 16777216 % 256 ∷ []) (omega arith) b

of64 : (n : ℕ) → AreBytes (bytes64 n)
unfolding bytes64
of64 n = joined (bytes32 n) (bytes32 (n / 4294967296)) (of32 n) (of32 (n / 4294967296))

of_zeros : (n : ℕ) → AreBytes (zeros n)
of_zeros n = All-replicate IsByte n 0 (omega arith)

-- bytes in the place of others
over_bytes : (xs bs : List ℕ) → AreBytes xs → AreBytes bs → AreBytes (over xs bs)
over_bytes xs [] h k = h
over_bytes [] (b ∷ bs) h k = nil
over_bytes (x ∷ xs) (b ∷ bs) h k =
    cons b (over xs bs) (All-head IsByte b bs k) (over_bytes xs bs (All-tail IsByte x xs h) (All-tail IsByte b bs k))

write_bytes : (xs : List ℕ) (at : ℕ) (bs : List ℕ) → AreBytes xs → AreBytes bs → AreBytes (write xs at bs)
write_bytes xs zero bs h k = over_bytes xs bs h k
write_bytes [] (suc at) bs h k = nil
write_bytes (x ∷ xs) (suc at) bs h k = cons x (write xs at bs) (All-head IsByte x xs h) (write_bytes xs at bs (All-tail IsByte x xs h) k)

-- ## Cells

-- a bit that is not set has room in a byte
bit_room : (byte bit : ℕ) → byte < 256 → bit < 8 → byte / 2 ^ bit % 2 ≡ 0 → byte + 2 ^ bit < 256
bit_room byte zero small lt free = omega arith
bit_room byte (suc zero) small lt free = omega arith
bit_room byte (suc (suc zero)) small lt free = omega arith
bit_room byte (suc (suc (suc zero))) small lt free = omega arith
bit_room byte (suc (suc (suc (suc zero)))) small lt free = omega arith
bit_room byte (suc (suc (suc (suc (suc zero))))) small lt free = omega arith
bit_room byte (suc (suc (suc (suc (suc (suc zero)))))) small lt free = omega arith
bit_room byte (suc (suc (suc (suc (suc (suc (suc zero))))))) small lt free = omega arith
bit_room byte (suc (suc (suc (suc (suc (suc (suc (suc n)))))))) small lt free = absurd (omega arith)

bit_byte : (byte bit : ℕ) → byte < 256 → bit < 8 → with_bit byte bit < 256
bit_byte byte bit small lt = of (byte / 2 ^ bit % 2 == 0) refl
  where
    of : (v : Bool) → (byte / 2 ^ bit % 2 == 0) ≡ v → cond v (byte + 2 ^ bit) byte < 256
    of true e = bit_room byte bit small lt (grind (arith, nat_tests))
    of false e = small

byte_at : (bytes : List ℕ) (at : ℕ) → AreBytes bytes → slice_index bytes at < 256
byte_at [] at h = omega arith
byte_at (b ∷ bs) zero h = All-head IsByte b bs h
byte_at (b ∷ bs) (suc at) h = byte_at bs at (All-tail IsByte b bs h)

of_int : (w : Width) (n : ℕ) → AreBytes (int_bytes w n)
of_int Bits8 n = cons (n % 256) [] (omega arith) nil
of_int Bits16 n = of16 n
of_int Bits32 n = of32 n
of_int Bits64 n = of64 n

of_whole : (k : KindTree) (n : ℤ) → AreBytes (whole_bytes k n)
of_whole (kinds.BoolKind nullable) n = nil
of_whole (kinds.IntKind w signed nullable) n = of_int w (cast_unsigned w128 n)
of_whole (kinds.EnumKind number nullable) n = of32 (cast_unsigned w128 n)
of_whole (kinds.TextKind nullable) n = nil
of_whole (kinds.HandleKind sort nullable) n = nil
of_whole (kinds.ArrayKind of c nullable) n = nil
of_whole (kinds.MapKind key one nullable) n = nil
of_whole (kinds.StructKind number nullable) n = nil
of_whole (kinds.UnionKind number nullable) n = nil
of_whole (kinds.RemoteKind interface nullable) n = nil
of_whole (kinds.ReceiverKind interface nullable) n = nil
of_whole (kinds.AssociatedRemoteKind interface nullable) n = nil
of_whole (kinds.AssociatedReceiverKind interface nullable) n = nil

of_index : (k : KindTree) (i : ℕ) → AreBytes (index_bytes k i)
of_index (kinds.BoolKind nullable) i = nil
of_index (kinds.IntKind w signed nullable) i = nil
of_index (kinds.EnumKind number nullable) i = nil
of_index (kinds.TextKind nullable) i = nil
of_index (kinds.HandleKind sort nullable) i = of32 i
of_index (kinds.ArrayKind of c nullable) i = nil
of_index (kinds.MapKind key one nullable) i = nil
of_index (kinds.StructKind number nullable) i = nil
of_index (kinds.UnionKind number nullable) i = nil
of_index (kinds.RemoteKind interface nullable) i = of32 i
of_index (kinds.ReceiverKind interface nullable) i = of32 i
of_index (kinds.AssociatedRemoteKind interface nullable) i = of32 i
of_index (kinds.AssociatedReceiverKind interface nullable) i = of32 i

of_pointer : (k : KindTree) (d : ℕ) → AreBytes (pointer_bytes k d)
of_pointer (kinds.BoolKind nullable) d = nil
of_pointer (kinds.IntKind w signed nullable) d = nil
of_pointer (kinds.EnumKind number nullable) d = nil
of_pointer (kinds.TextKind nullable) d = of64 d
of_pointer (kinds.HandleKind sort nullable) d = nil
of_pointer (kinds.ArrayKind of c nullable) d = of64 d
of_pointer (kinds.MapKind key one nullable) d = of64 d
of_pointer (kinds.StructKind number nullable) d = of64 d
of_pointer (kinds.UnionKind number nullable) d = of64 d
of_pointer (kinds.RemoteKind interface nullable) d = nil
of_pointer (kinds.ReceiverKind interface nullable) d = nil
of_pointer (kinds.AssociatedRemoteKind interface nullable) d = nil
of_pointer (kinds.AssociatedReceiverKind interface nullable) d = nil

of_remote : (k : KindTree) (i v : ℕ) → AreBytes (remote_bytes k i v)
of_remote (kinds.BoolKind nullable) i v = nil
of_remote (kinds.IntKind w signed nullable) i v = nil
of_remote (kinds.EnumKind number nullable) i v = nil
of_remote (kinds.TextKind nullable) i v = nil
of_remote (kinds.HandleKind sort nullable) i v = nil
of_remote (kinds.ArrayKind of c nullable) i v = nil
of_remote (kinds.MapKind key one nullable) i v = nil
of_remote (kinds.StructKind number nullable) i v = nil
of_remote (kinds.UnionKind number nullable) i v = nil
of_remote (kinds.RemoteKind interface nullable) i v = joined (bytes32 i) (bytes32 v) (of32 i) (of32 v)
of_remote (kinds.ReceiverKind interface nullable) i v = nil
of_remote (kinds.AssociatedRemoteKind interface nullable) i v = joined (bytes32 i) (bytes32 v) (of32 i) (of32 v)
of_remote (kinds.AssociatedReceiverKind interface nullable) i v = nil

of_cell : (k : KindTree) (t : Tree) (d : ℕ) → AreBytes (cell_bytes k t d)
of_cell k (values.Flag b) d = nil
of_cell k (values.Whole n) d = of_whole k n
of_cell k (values.Text bs) d = of_pointer k d
of_cell k (values.Items ts) d = of_pointer k d
of_cell k (values.Pairs ts) d = of_pointer k d
of_cell k (values.Fields ts) d = of_pointer k d
of_cell k (values.Member tag t) d = of_pointer k d
of_cell k (values.Unknown tag) d = nil
of_cell k (values.Handle i) d = of_index k i
of_cell k (values.Endpoint i) d = of_index k i
of_cell k (values.Remote i v) d = of_remote k i v
of_cell k (values.EndpointRemote i v) d = of_remote k i v
of_cell k values.Null d = of_index k 0xffffffff

of_flag : (place : ℕ) (k : KindTree) (b : Bool) (body : List ℕ) → AreBytes body → AreBytes (put_flag place k b body)
of_flag place (kinds.BoolKind nullable) true body h =
    write_bytes body (place / 8) (with_bit (slice_index body (place / 8)) (place % 8) ∷ []) h
    (cons (with_bit (slice_index body (place / 8)) (place % 8)) []
    (bit_byte (slice_index body (place / 8)) (place % 8) (byte_at body (place / 8) h) (omega arith)) nil)
of_flag place (kinds.BoolKind nullable) false body h = h
of_flag place (kinds.IntKind w signed nullable) b body h = h
of_flag place (kinds.EnumKind number nullable) b body h = h
of_flag place (kinds.TextKind nullable) b body h = h
of_flag place (kinds.HandleKind sort nullable) b body h = h
of_flag place (kinds.ArrayKind of c nullable) b body h = h
of_flag place (kinds.MapKind key one nullable) b body h = h
of_flag place (kinds.StructKind number nullable) b body h = h
of_flag place (kinds.UnionKind number nullable) b body h = h
of_flag place (kinds.RemoteKind interface nullable) b body h = h
of_flag place (kinds.ReceiverKind interface nullable) b body h = h
of_flag place (kinds.AssociatedRemoteKind interface nullable) b body h = h
of_flag place (kinds.AssociatedReceiverKind interface nullable) b body h = h

-- the flag of a slot
of_present : (flag : Option ℕ) (t : Tree) (body : List ℕ) → AreBytes body → AreBytes (put_present flag t body)
of_present None t body h = h
of_present (Some flag) t body h = of_flag flag FLAG_KIND (is_value t) body h

-- a value in its slot
of_put_cell : (place : ℕ) (k : KindTree) (t : Tree) (body : List ℕ) (at : ℕ) → AreBytes body → AreBytes (put_cell place k t body at)
of_put_cell place k (values.Flag b) body at h = of_flag place k b body h
of_put_cell place k (values.Whole n) body at h = write_bytes body (place / 8) _ h (of_cell k (values.Whole n) (at - place / 8))
of_put_cell place k (values.Text bs) body at h = write_bytes body (place / 8) _ h (of_cell k (values.Text bs) (at - place / 8))
of_put_cell place k (values.Items ts) body at h = write_bytes body (place / 8) _ h (of_cell k (values.Items ts) (at - place / 8))
of_put_cell place k (values.Pairs ts) body at h = write_bytes body (place / 8) _ h (of_cell k (values.Pairs ts) (at - place / 8))
of_put_cell place k (values.Fields ts) body at h = write_bytes body (place / 8) _ h (of_cell k (values.Fields ts) (at - place / 8))
of_put_cell place k (values.Member tag t) body at h = write_bytes body (place / 8) _ h (of_cell k (values.Member tag t) (at - place / 8))
of_put_cell place k (values.Unknown tag) body at h = write_bytes body (place / 8) _ h (of_cell k (values.Unknown tag) (at - place / 8))
of_put_cell place k (values.Handle i) body at h = write_bytes body (place / 8) _ h (of_cell k (values.Handle i) (at - place / 8))
of_put_cell place k (values.Endpoint i) body at h = write_bytes body (place / 8) _ h (of_cell k (values.Endpoint i) (at - place / 8))
of_put_cell place k (values.Remote i v) body at h = write_bytes body (place / 8) _ h (of_cell k (values.Remote i v) (at - place / 8))
of_put_cell place k (values.EndpointRemote i v) body at h =
    write_bytes body (place / 8) _ h (of_cell k (values.EndpointRemote i v) (at - place / 8))
of_put_cell place k values.Null body at h = write_bytes body (place / 8) _ h (of_cell k values.Null (at - place / 8))

of_member : (place : ℕ) (o : Option KindTree) (tag : ℕ) (t : Tree) (body : List ℕ) (at : ℕ) → AreBytes body
    → AreBytes (put_member place o tag t body at)
of_member place None tag t body at h = h
of_member place (Some k) tag t body at h =
    let named = joined (bytes32 UNION_BYTES) (bytes32 tag) (of32 UNION_BYTES) (of32 tag) in
    of_put_cell (place + 64) k t (write body (place / 8) (bytes32 UNION_BYTES ++ bytes32 tag)) at
    (write_bytes body (place / 8) (bytes32 UNION_BYTES ++ bytes32 tag) h named)

of_put : (schema : Schema) (place : ℕ) (k : KindTree) (t : Tree) (body : List ℕ) (at : ℕ) → AreBytes body → AreBytes (put schema place k t body at)
of_put schema place k (values.Flag b) body at h = of_put_cell place k (values.Flag b) body at h
of_put schema place k (values.Whole n) body at h = of_put_cell place k (values.Whole n) body at h
of_put schema place k (values.Text bs) body at h = of_put_cell place k (values.Text bs) body at h
of_put schema place k (values.Items ts) body at h = of_put_cell place k (values.Items ts) body at h
of_put schema place k (values.Pairs ts) body at h = of_put_cell place k (values.Pairs ts) body at h
of_put schema place k (values.Fields ts) body at h = of_put_cell place k (values.Fields ts) body at h
of_put schema place k (values.Member tag t) body at h = of_member place (member_kind schema k tag) tag t body at h
of_put schema place k (values.Unknown tag) body at h = of_put_cell place k (values.Unknown tag) body at h
of_put schema place k (values.Handle i) body at h = of_put_cell place k (values.Handle i) body at h
of_put schema place k (values.Endpoint i) body at h = of_put_cell place k (values.Endpoint i) body at h
of_put schema place k (values.Remote i v) body at h = of_put_cell place k (values.Remote i v) body at h
of_put schema place k (values.EndpointRemote i v) body at h = of_put_cell place k (values.EndpointRemote i v) body at h
of_put schema place k values.Null body at h = of_put_cell place k values.Null body at h

-- ## Texts

of_character : (c : ℕ) → scalar c ≡ true → AreBytes (encode c)
unfolding encode
of_character c s = of (nat_lt c 128) (nat_lt c 2048) (nat_lt c 65536) refl refl refl
  where
    of : (u v w : Bool) → nat_lt c 128 ≡ u → nat_lt c 2048 ≡ v → nat_lt c 65536 ≡ w
        → AreBytes (cond u (c ∷ []) (cond v ((192 + c / 64) ∷ (128 + c % 64) ∷ [])
        (cond w ((224 + c / 4096) ∷ (128 + c / 64 % 64) ∷ (128 + c % 64) ∷ [])
        ((240 + c / 262144) ∷ (128 + c / 4096 % 64) ∷ (128 + c / 64 % 64) ∷ (128 + c % 64) ∷ []))))
    of true v w e f g = let l : c < 128 = grind (arith, nat_tests) in cons c [] (omega (arith, l)) nil
    of false true w e f g =
        let l : c < 2048 = grind (arith, nat_tests) in
        cons (192 + c / 64) ((128 + c % 64) ∷ []) (omega (arith, l)) (cons (128 + c % 64) [] (omega arith) nil)
    of false false true e f g =
        let l : c < 65536 = grind (arith, nat_tests) in
        let d = cons (128 + c % 64) [] (omega arith) nil in
        let b = cons (128 + c / 64 % 64) ((128 + c % 64) ∷ []) (omega arith) d in
        cons (224 + c / 4096) ((128 + c / 64 % 64) ∷ (128 + c % 64) ∷ []) (omega (arith, l)) b
    of false false false e f g =
        let l : c < 1114112 = grind (arith, nat_tests) in
        let d = cons (128 + c % 64) [] (omega arith) nil in
        let b = cons (128 + c / 64 % 64) ((128 + c % 64) ∷ []) (omega arith) d in
        let a = cons (128 + c / 4096 % 64) ((128 + c / 64 % 64) ∷ (128 + c % 64) ∷ []) (omega arith) b in
        cons (240 + c / 262144) ((128 + c / 4096 % 64) ∷ (128 + c / 64 % 64) ∷ (128 + c % 64) ∷ []) (omega (arith, l)) a

both_parts : (a b : Bool) → (a && b) ≡ true → (a ≡ true) × (b ≡ true)
both_parts true true e = (refl, refl)
both_parts true false e = absurd cc
both_parts false b e = absurd cc

of_characters : (cs : List ℕ) → scalars cs ≡ true → AreBytes (encodes cs)
of_characters [] s = nil
of_characters (c ∷ cs) s =
    let parts = both_parts (scalar c) (scalars cs) s in
    joined (encode c) (encodes cs) (of_character c parts.0) (of_characters cs parts.1)

-- what is UTF-8 is bytes
of_text : (bs : List ℕ) → valid_len bs ≡ length bs → AreBytes bs
of_text bs e = let u = is_text bs e in subst AreBytes u.1.1 (of_characters u.0 u.1.0)

-- ## Objects

of_object : (first second : ℕ) (body back : List ℕ) → AreBytes body → AreBytes back → AreBytes (object first second body back)
of_object first second body back h k =
    joined (bytes32 first) (bytes32 second ++ (body ++ back)) (of32 first)
    (joined (bytes32 second) (body ++ back) (of32 second) (joined body back h k))

-- the slots of an object
of_body : (schema : Schema) (ss : List Slot) (ts : Trees) (body : List ℕ) (at : ℕ) → AreBytes body → AreBytes (body_of schema ss ts body at)
unfolding body_of
of_body schema ss none body at h = h
of_body schema [] (more t ts) body at h = h
of_body schema (s ∷ ss) (more t ts) body at h =
    of_body schema ss ts (put_slot schema s t body at) (at + length (emit schema true s.kind t))
    (of_put schema s.place s.kind t (put_present s.flag t body) at (of_present s.flag t body h))

-- what a slot that may have a flag points to: null points to nothing
of_pointed : (schema : Schema) (flag : Option ℕ) (k : KindTree) (t : Tree) → OrNull flag t (IsOfKind schema k t)
    → (IsOfKind schema k t → AreBytes (emit schema true k t)) → AreBytes (emit schema true k t)
unfolding emit
of_pointed schema None k t h f = f h
of_pointed schema (Some flag) k values.Null h f = nil
of_pointed schema (Some flag) k t h f = f h

mutual
  unfolding emit behind IsOfKind AreOfKinds

  -- the bytes of a value of its kind
  pub of_value : (schema : Schema) (inline : Bool) (k : KindTree) (t : Tree) → IsOfKind schema k t → AreBytes (emit schema inline k t)
  of_value schema inline k (values.Flag b) h = nil
  of_value schema inline k (values.Whole n) h = nil
  of_value schema inline k (values.Text bs) h =
      subst (λ (k : KindTree). AreBytes (text_object k bs)) (sym h.1)
      (of_object (8 + length bs) (length bs) bs (zeros (rounded8 (length bs) - length bs)) (of_text bs h.2) (of_zeros (rounded8 (length bs) - length bs)))
  of_value schema inline k (values.Items ts) h =
      let ss = element_slots h.0 0 (count ts) in
      let n = rounded8 (element_bytes h.0 (count ts)) in
      subst (λ (k : KindTree). AreBytes (emit schema inline k (values.Items ts))) (sym h.3)
      (of_object (8 + element_bytes h.0 (count ts)) (count ts) (body_of schema ss ts (zeros n) n) (behind schema ss ts)
      (of_body schema ss ts (zeros n) n (of_zeros n)) (of_behind schema ss ts h.5))
  of_value schema inline k (values.Pairs ts) h =
      let ss = map_slots h.0 h.1 in
      subst (λ (k : KindTree). AreBytes (emit schema inline k (values.Pairs ts))) (sym h.3)
      (of_object 24 0 (body_of schema ss ts (zeros 16) 16) (behind schema ss ts) (of_body schema ss ts (zeros 16) 16 (of_zeros 16))
      (of_behind schema ss ts h.5))
  of_value schema inline k (values.Fields ts) h =
      let ss = found_fields (Some h.0) in
      let n = found_size (Some h.0) - 8 in
      subst (λ (o : Option StructRow). AreBytes (struct_object o (λ ss size. body_of schema ss ts (zeros size) size) (λ ss. behind schema ss ts))) (sym h.1)
      (of_object (found_size (Some h.0)) (found_version (Some h.0)) (body_of schema ss ts (zeros n) n) (behind schema ss ts)
      (of_body schema ss ts (zeros n) n (of_zeros n)) (of_behind schema ss ts h.2))
  of_value schema true k (values.Member tag t) h =
      subst (λ (o : Option KindTree). AreBytes (member_object o true tag t (λ m. emit schema false m t))) (sym h.1) (of_value schema false h.0 t h.3)
  of_value schema false k (values.Member tag t) h =
      subst (λ (o : Option KindTree). AreBytes (member_object o false tag t (λ m. emit schema false m t))) (sym h.1)
      (of_object UNION_BYTES tag (put_cell 0 h.0 t (zeros 8) 8) (emit schema false h.0 t) (of_put_cell 0 h.0 t (zeros 8) 8 (of_zeros 8))
      (of_value schema false h.0 t h.3))
  of_value schema inline k (values.Unknown tag) h = nil
  of_value schema inline k (values.Handle i) h = nil
  of_value schema inline k (values.Remote i v) h = nil
  of_value schema inline k (values.Endpoint i) h = nil
  of_value schema inline k (values.EndpointRemote i v) h = nil
  of_value schema inline k values.Null h = nil

  -- what slots point to
  of_behind : (schema : Schema) (ss : List Slot) (ts : Trees) → AreOfKinds schema ss ts → AreBytes (behind schema ss ts)
  of_behind schema [] none h = nil
  of_behind schema [] (more t ts) h = nil
  of_behind schema (s ∷ ss) none h = nil
  of_behind schema (s ∷ ss) (more t ts) h =
      joined (emit schema true s.kind t) (behind schema ss ts) (of_pointed schema s.flag s.kind t h.0 (λ o. of_value schema true s.kind t o))
      (of_behind schema ss ts h.1)

-- ## Messages

of_ids : (ids : List ℕ) → AreBytes (id_bytes ids)
of_ids [] = nil
of_ids (i ∷ is) = joined (bytes32 i) (id_bytes is) (of32 i) (of_ids is)

of_basic : (size version : ℕ) (h : Head) → AreBytes (basic size version h)
of_basic size version h =
    joined (bytes32 size) _ (of32 size) (joined (bytes32 version) _ (of32 version) (joined (bytes32 h.interface) _ (of32 h.interface)
    (joined (bytes32 h.name) _ (of32 h.name) (joined (bytes32 h.flags) (bytes32 h.nonce) (of32 h.flags) (of32 h.nonce)))))

of_plain : (plain : Bool) (h : Head) → AreBytes (plain_front plain h)
of_plain true h = of_basic HEADER_BYTES 0 h
of_plain false h = joined (basic HEADER_BYTES_1 1 h) (bytes64 h.request) (of_basic HEADER_BYTES_1 1 h) (of64 h.request)

of_front : (moment : Option ℤ) (ids : List ℕ) (h : Head) (n : ℕ) → AreBytes (front moment ids h n)
of_front None [] h n = of_plain (is_plain h.flags) h
of_front (Some moment) ids h n =
    joined (basic HEADER_BYTES_3 3 h) _ (of_basic HEADER_BYTES_3 3 h)
    (joined (bytes64 (written_request (is_plain h.flags) h.request)) _ (of64 (written_request (is_plain h.flags) h.request))
    (joined (bytes64 24) _ (of64 24)
    (joined (bytes64 (ids_distance ids n)) (moment_bytes moment) (of64 (ids_distance ids n)) (of64 (cast_unsigned w64 moment)))))
of_front None (i ∷ is) h n =
    joined (basic HEADER_BYTES_2 2 h) _ (of_basic HEADER_BYTES_2 2 h)
    (joined (bytes64 (written_request (is_plain h.flags) h.request)) _ (of64 (written_request (is_plain h.flags) h.request))
    (joined (bytes64 16) (bytes64 (8 + n)) (of64 16) (of64 (8 + n))))

of_back : (ids : List ℕ) → AreBytes (back_of ids)
of_back [] = nil
of_back (i ∷ is) =
    let n = length (i ∷ is) in
    joined (bytes32 (8 + 4 * n)) _ (of32 (8 + 4 * n)) (joined (bytes32 n) _ (of32 n)
    (joined (id_bytes (i ∷ is)) (zeros (rounded8 (4 * n) - 4 * n)) (of_ids (i ∷ is)) (of_zeros (rounded8 (4 * n) - 4 * n))))

-- a message that carries bytes is bytes
pub of_message : (h : Head) (payload : List ℕ) → AreBytes payload → AreBytes (message h payload)
of_message h payload bytes =
    joined (front_of h.ids h (length payload)) (payload ++ back_of h.ids) (of_front h.moment h.ids h (length payload))
    (joined payload (back_of h.ids) bytes (of_back h.ids))
