-- A value that is put within a part of a list.
use Rattle.std.proofs.Common.{◌≡◌, ℕ, ◌+◌, ◌-◌, ◌*◌, ◌/◌, ◌%◌, ◌<◌, ◌≤◌, Bool, true, false, List, [], ◌∷◌, ◌++◌, length, Option, Some, None, refl, ◌∙◌, arith, get_or}
use Rattle.std.proofs.lemmas.List.{get_or_append_left, get_or-append-add}
use Rattle.mj_base.specs.Bytes.{bytes32}
use Rattle.mj_schema.specs.KindTrees as kinds
use Rattle.mj_schema.specs.KindTrees.{KindTree}
use Rattle.mj_schema.specs.Parts.{FLAG_KIND}
use Rattle.mj_schema.specs.Sizes.{size_of}
use Rattle.mj_schema.specs.declared.schema.Schema.{Schema}
use Rattle.wire_model.specs.Bytes.{write, with_bit}
use Rattle.wire_model.specs.Cells.{UNION_BYTES, put, put_cell, put_flag, put_member, cell_bytes, put_present, is_value}
use Rattle.wire_model.specs.Rows.{member_kind}
use Rattle.wire_model.specs.Trees as values
use Rattle.wire_model.specs.steps.Cells.{cell_size}
use Rattle.wire_laws.proofs.Bytes.{write_length}
use Rattle.wire_laws.proofs.Lengths.{cell_fits, cell_long, is_union}
use Rattle.tight_bytes.proofs.Writes.{write_within}
use Rattle.tight_bytes.specs.steps.Within.{FlagIn, shifted}

module _ (pre body rest : List ℕ) where
  abbrev pub whole : List ℕ
  whole = pre ++ (body ++ rest)

  place_in : (place : ℕ) → (8 * length pre + place) / 8 ≡ length pre + place / 8
  place_in place = omega arith

  bit_in : (place : ℕ) → (8 * length pre + place) % 8 ≡ place % 8
  bit_in place = omega arith

  distance_in : (place at : ℕ) → length pre + at - (length pre + place) ≡ at - place
  distance_in place at = omega arith

  byte_in : (o : ℕ) → o < length body → get_or whole (length pre + o) 0 ≡ get_or body o 0
  byte_in o lt = get_or-append-add pre (body ++ rest) o 0 ∙ get_or_append_left body rest 0 o lt

  flag_within : (place : ℕ) (k : KindTree) (b : Bool) → place + cell_size k ≤ 8 * length body
      → put_flag (8 * length pre + place) k b whole ≡ pre ++ (put_flag place k b body ++ rest)
  flag_within place (kinds.BoolKind nb) true le =
      let e : (8 * length pre + place) / 8 ≡ length pre + place / 8 = place_in place in
      let f : (8 * length pre + place) % 8 ≡ place % 8 = bit_in place in
      let g : get_or whole (length pre + place / 8) 0 ≡ get_or body (place / 8) 0 = byte_in (place / 8) (omega arith) in
      rw (e, f, g) (write_within pre body rest (place / 8) (with_bit (get_or body (place / 8) 0) (place % 8) ∷ []) (omega arith))
  flag_within place (kinds.BoolKind nb) false le = refl
  flag_within place (kinds.IntKind w s nb) b le = refl
  flag_within place (kinds.EnumKind e nb) b le = refl
  flag_within place (kinds.TextKind m) b le = refl
  flag_within place (kinds.HandleKind o m) b le = refl
  flag_within place (kinds.RemoteKind i m) b le = refl
  flag_within place (kinds.AssociatedReceiverKind i m) b le = refl
  flag_within place (kinds.ReceiverKind i m) b le = refl
  flag_within place (kinds.AssociatedRemoteKind i m) b le = refl
  flag_within place (kinds.ArrayKind o c m) b le = refl
  flag_within place (kinds.MapKind k v m) b le = refl
  flag_within place (kinds.StructKind s m) b le = refl
  flag_within place (kinds.UnionKind u m) b le = refl

  bytes_within : (place : ℕ) (k : KindTree) (t : values.Tree) (at : ℕ) → place + cell_size k ≤ 8 * length body
      → write whole ((8 * length pre + place) / 8) (cell_bytes k t (length pre + at - (8 * length pre + place) / 8)) ≡ pre ++
      (write body (place / 8) (cell_bytes k t (at - place / 8)) ++ rest)
  bytes_within place k t at le =
      let long = cell_long k t (at - place / 8) in
      rw (place_in place, distance_in (place / 8) at) (write_within pre body rest (place / 8) (cell_bytes k t (at - place / 8)) (omega arith))

  pub cell_within : (place : ℕ) (k : KindTree) (t : values.Tree) (at : ℕ) → place + cell_size k ≤ 8 * length body
      → put_cell (8 * length pre + place) k t whole (length pre + at) ≡ pre ++ (put_cell place k t body at ++ rest)
  cell_within place k (values.Flag b) at le = flag_within place k b le
  cell_within place k (values.Whole n) at le = bytes_within place k (values.Whole n) at le
  cell_within place k (values.Text bs) at le = bytes_within place k (values.Text bs) at le
  cell_within place k (values.Items ts) at le = bytes_within place k (values.Items ts) at le
  cell_within place k (values.Pairs ts) at le = bytes_within place k (values.Pairs ts) at le
  cell_within place k (values.Fields ts) at le = bytes_within place k (values.Fields ts) at le
  cell_within place k (values.Member tag t) at le = bytes_within place k (values.Member tag t) at le
  cell_within place k (values.Unknown tag) at le = bytes_within place k (values.Unknown tag) at le
  cell_within place k (values.Handle i) at le = bytes_within place k (values.Handle i) at le
  cell_within place k (values.Remote i v) at le = bytes_within place k (values.Remote i v) at le
  cell_within place k (values.EndpointRemote i v) at le = bytes_within place k (values.EndpointRemote i v) at le
  cell_within place k (values.Endpoint i) at le = bytes_within place k (values.Endpoint i) at le
  cell_within place k values.Null at le = bytes_within place k values.Null at le

member_within : (pre body rest : List ℕ) (place : ℕ) (m : Option KindTree) (tag : ℕ) (t : values.Tree) (at : ℕ) → place + 128 ≤ 8 * length body
    → put_member (8 * length pre + place) m tag t (pre ++ (body ++ rest)) (length pre + at) ≡ pre ++ (put_member place m tag t body at ++ rest)
unfolding bytes32
member_within pre body rest place None tag t at le = refl
member_within pre body rest place (Some k) tag t at le =
    let head : List ℕ = bytes32 UNION_BYTES ++ bytes32 tag in
    let e : (8 * length pre + place) / 8 ≡ length pre + place / 8 = omega arith in
    let f : 8 * length pre + place + 64 ≡ 8 * length pre + (place + 64) = omega arith in
    let w = write_within pre body rest (place / 8) head (omega arith) in
    let n = write_length body (place / 8) head in
    rw (e, f, w) (cell_within pre (write body (place / 8) head) rest (place + 64) k t at (omega (arith, n, (cell_fits k).1)))

union_within : (schema : Schema) (k : KindTree) (pre body rest : List ℕ) (place : ℕ) (m : Option KindTree) (tag : ℕ) (t : values.Tree) (at : ℕ)
    → member_kind schema k tag ≡ m → place + size_of k ≤ 8 * length body
    → put_member (8 * length pre + place) m tag t (pre ++ (body ++ rest)) (length pre + at) ≡ pre ++ (put_member place m tag t body at ++ rest)
union_within schema k pre body rest place None tag t at e le = refl
union_within schema k pre body rest place (Some m) tag t at e le =
    member_within pre body rest place (Some m) tag t at (omega (arith, is_union schema k tag m e))

-- a value that is put behind a front, within a part
pub put_within : (schema : Schema) (pre body rest : List ℕ) (place : ℕ) (k : KindTree) (t : values.Tree) (at : ℕ) → place + size_of k ≤ 8 * length body
    → put schema (8 * length pre + place) k t (pre ++ (body ++ rest)) (length pre + at) ≡ pre ++ (put schema place k t body at ++ rest)
put_within schema pre body rest place k (values.Member tag t) at le = union_within schema k pre body rest place (member_kind schema k tag) tag t at refl le
put_within schema pre body rest place k (values.Flag b) at le = cell_within pre body rest place k (values.Flag b) at (omega (arith, (cell_fits k).0))
put_within schema pre body rest place k (values.Whole n) at le = cell_within pre body rest place k (values.Whole n) at (omega (arith, (cell_fits k).0))
put_within schema pre body rest place k (values.Text bs) at le = cell_within pre body rest place k (values.Text bs) at (omega (arith, (cell_fits k).0))
put_within schema pre body rest place k (values.Items ts) at le = cell_within pre body rest place k (values.Items ts) at (omega (arith, (cell_fits k).0))
put_within schema pre body rest place k (values.Pairs ts) at le = cell_within pre body rest place k (values.Pairs ts) at (omega (arith, (cell_fits k).0))
put_within schema pre body rest place k (values.Fields ts) at le = cell_within pre body rest place k (values.Fields ts) at (omega (arith, (cell_fits k).0))
put_within schema pre body rest place k (values.Unknown tag) at le = cell_within pre body rest place k (values.Unknown tag) at (omega (arith, (cell_fits k).0))
put_within schema pre body rest place k (values.Handle i) at le = cell_within pre body rest place k (values.Handle i) at (omega (arith, (cell_fits k).0))
put_within schema pre body rest place k (values.Remote i v) at le = cell_within pre body rest place k (values.Remote i v) at (omega (arith, (cell_fits k).0))
put_within schema pre body rest place k (values.EndpointRemote i v) at le =
    cell_within pre body rest place k (values.EndpointRemote i v) at (omega (arith, (cell_fits k).0))
put_within schema pre body rest place k (values.Endpoint i) at le = cell_within pre body rest place k (values.Endpoint i) at (omega (arith, (cell_fits k).0))
put_within schema pre body rest place k values.Null at le = cell_within pre body rest place k values.Null at (omega (arith, (cell_fits k).0))

-- a flag behind a front, within a part
pub present_within : (pre body rest : List ℕ) (flag : Option ℕ) (t : values.Tree) → FlagIn flag (length body)
    → put_present (shifted (8 * length pre) flag) t (pre ++ (body ++ rest)) ≡ pre ++ (put_present flag t body ++ rest)
present_within pre body rest None t le = refl
present_within pre body rest (Some flag) t le = cell_within pre body rest flag FLAG_KIND (values.Flag (is_value t)) 0 le
