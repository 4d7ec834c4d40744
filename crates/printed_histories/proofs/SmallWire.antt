-- Messages that are written are bytes, and what is read off bytes has its width.
use Rattle.std.proofs.lemmas.List.{length-append}
use Rattle.std.proofs.Math.Facts.{sfits_to_z}
use Rattle.std.proofs.Common.{◌≡◌, ◌<◌, ◌≤◌, ℕ, pos, negsuc, zero, suc, ◌+◌, ◌-◌, ◌*◌, ◌/◌, ◌^◌, Bool, true, false, List, [], ◌∷◌, ◌++◌, length, refl, ap, subst, arith}
use Rattle.std.specs.Int.{cast_signed, cast_unsigned, w64}
use Rattle.std.specs.Prelude.{FitsSigned, ℤ, ◌==◌, nat_lt, Option, Some, None, Ok, slice_index, if◌then◌else◌}
use Rattle.mj_base.specs.Bytes.{bytes32, bytes64, number32, number64, rounded8}
use Rattle.mj_base.specs.declared.fault.Fault.{Fault}
use Rattle.mj_schema.specs.declared.schema.Schema.{Schema}
use Rattle.bounds_claims.specs.Runs.{first_fault}
use Rattle.control_bytes.specs.Controls.{control_by, control_marks, control_said, second_read}
use Rattle.message_header.specs.FirstFailed.{first_failed}
use Rattle.message_validator.specs.Before.{before_payload}
use Rattle.wire_model.specs.Cells.{zeros}
use Rattle.wire_model.specs.Expected.{message_marks}
use Rattle.wire_model.specs.HeaderMarks.{header_marks, HEADER_BYTES, HEADER_BYTES_1, HEADER_BYTES_2, HEADER_BYTES_3}
use Rattle.wire_model.specs.Message.{front, ids_distance, moment_bytes, moment_read}
use Rattle.wire_model.specs.Message.{Head, basic, front_of, back_of, id_bytes, ids_from, ids_read, is_plain, message, payload_start, plain_front, request_read, written_request}
use Rattle.wire_model.specs.declared.target.Expected.{Expected}
use Rattle.control_bytes.specs.declared.control.Control.{Control}
use Rattle.control_bytes.specs.declared.control.Control.TheVariants.{Closed, Query, Version, Require, Flush}
use Rattle.bind_model.specs.Wire.{Header, Content}
use Rattle.bind_model.specs.WireOf.{header_in, says_in, content_in, stands_in, struct_named, unless_fault}
use Rattle.history_reader.specs.Printable.{IsSmall, IsWide, IsLong, IsMoment, AreAll, AreBytes}
use Rattle.printed_histories.proofs.SmallLists.{all_both}
use Rattle.printed_histories.proofs.SmallSaid.{IsFine, IsSmallControl}

-- ## What is written

-- a number that a byte can be
abbrev pub IsByte : ℕ → Type 0
IsByte b = b < 256

pub bytes32_fine : (n : ℕ) → AreBytes (bytes32 n)
unfolding bytes32
bytes32_fine n = (omega arith, (omega arith, (omega arith, (omega arith, tt))))

pub bytes64_fine : (n : ℕ) → AreBytes (bytes64 n)
unfolding bytes64
bytes64_fine n = all_both IsByte (bytes32 n) (bytes32 (n / 4294967296)) (bytes32_fine n) (bytes32_fine (n / 4294967296))

-- a number in front
pub before : (n : ℕ) (bytes : List ℕ) → AreBytes bytes → AreBytes (bytes32 n ++ bytes)
before n bytes a = all_both IsByte (bytes32 n) bytes (bytes32_fine n) a

basic_fine : (size version : ℕ) (h : Head) → AreBytes (basic size version h)
basic_fine size version h =
    before size (bytes32 version ++ (bytes32 h.interface ++ (bytes32 h.name ++ (bytes32 h.flags ++ bytes32 h.nonce))))
    (before version (bytes32 h.interface ++ (bytes32 h.name ++ (bytes32 h.flags ++ bytes32 h.nonce)))
    (before h.interface (bytes32 h.name ++ (bytes32 h.flags ++ bytes32 h.nonce))
    (before h.name (bytes32 h.flags ++ bytes32 h.nonce) (before h.flags (bytes32 h.nonce) (bytes32_fine h.nonce)))))

plain_fine : (b : Bool) (h : Head) → AreBytes (plain_front b h)
plain_fine true h = basic_fine HEADER_BYTES 0 h
plain_fine false h = all_both IsByte (basic HEADER_BYTES_1 1 h) (bytes64 h.request) (basic_fine HEADER_BYTES_1 1 h) (bytes64_fine h.request)

pub zeros_fine : (n : ℕ) → AreBytes (zeros n)
zeros_fine zero = tt
zeros_fine (suc n) = (omega arith, zeros_fine n)

ids_fine : (ids : List ℕ) → AreBytes (id_bytes ids)
ids_fine [] = tt
ids_fine (i ∷ ids) = before i (id_bytes ids) (ids_fine ids)

front_fine : (moment : Option ℤ) (ids : List ℕ) (h : Head) (n : ℕ) → AreBytes (front moment ids h n)
front_fine None [] h n = plain_fine (is_plain h.flags) h
front_fine (Some moment) ids h n =
    let request = written_request (is_plain h.flags) h.request in
    let behind = bytes64 (ids_distance ids n) ++ moment_bytes moment in
    all_both IsByte (basic HEADER_BYTES_3 3 h) (bytes64 request ++ (bytes64 24 ++ behind)) (basic_fine HEADER_BYTES_3 3 h)
    (all_both IsByte (bytes64 request) (bytes64 24 ++ behind) (bytes64_fine request)
    (all_both IsByte (bytes64 24) behind (bytes64_fine 24)
    (all_both IsByte (bytes64 (ids_distance ids n)) (moment_bytes moment) (bytes64_fine (ids_distance ids n)) (bytes64_fine (cast_unsigned w64 moment)))))
front_fine None (i ∷ ids) h n =
    let request = written_request (is_plain h.flags) h.request in
    all_both IsByte (basic HEADER_BYTES_2 2 h) (bytes64 request ++ (bytes64 16 ++ bytes64 (8 + n))) (basic_fine HEADER_BYTES_2 2 h)
    (all_both IsByte (bytes64 request) (bytes64 16 ++ bytes64 (8 + n)) (bytes64_fine request)
    (all_both IsByte (bytes64 16) (bytes64 (8 + n)) (bytes64_fine 16) (bytes64_fine (8 + n))))

back_fine : (ids : List ℕ) → AreBytes (back_of ids)
back_fine [] = tt
back_fine (i ∷ ids) =
    let k = length (i ∷ ids) in
    let room = rounded8 (4 * k) - 4 * k in
    before (8 + 4 * k) (bytes32 k ++ (id_bytes (i ∷ ids) ++ zeros room)) (before k (id_bytes (i ∷ ids) ++ zeros room)
    (all_both IsByte (id_bytes (i ∷ ids)) (zeros room) (ids_fine (i ∷ ids)) (zeros_fine room)))

-- ## How long it is

length32 : (n : ℕ) → length (bytes32 n) ≡ 4
unfolding bytes32
length32 n = refl

length64 : (n : ℕ) → length (bytes64 n) ≡ 8
unfolding bytes64 bytes32
length64 n = refl

behind32 : (n : ℕ) (bytes : List ℕ) → length (bytes32 n ++ bytes) ≡ 4 + length bytes
behind32 n bytes = omega (arith, length32 n, length-append (bytes32 n) bytes)

basic_length : (size version : ℕ) (h : Head) → length (basic size version h) ≡ 24
unfolding bytes32
basic_length size version h = refl

plain_length : (b : Bool) (h : Head) → length (plain_front b h) ≤ 32
plain_length true h = omega (arith, basic_length HEADER_BYTES 0 h)
plain_length false h =
    omega (arith, basic_length HEADER_BYTES_1 1 h, length64 h.request, length-append (basic HEADER_BYTES_1 1 h) (bytes64 h.request))

front_length : (moment : Option ℤ) (ids : List ℕ) (h : Head) (n : ℕ) → length (front moment ids h n) ≤ 56
front_length (Some moment) ids h n =
    let request = written_request (is_plain h.flags) h.request in
    let behind = bytes64 (ids_distance ids n) ++ moment_bytes moment in
    omega (
      arith,
      basic_length HEADER_BYTES_3 3 h,
      length64 request,
      length64 24,
      length64 (ids_distance ids n),
      length64 (cast_unsigned w64 moment),
      length-append (basic HEADER_BYTES_3 3 h) (bytes64 request ++ (bytes64 24 ++ behind)),
      length-append (bytes64 request) (bytes64 24 ++ behind),
      length-append (bytes64 24) behind,
      length-append (bytes64 (ids_distance ids n)) (moment_bytes moment),
    )
front_length None [] h n = let few = plain_length (is_plain h.flags) h in omega (arith, few)
front_length None (i ∷ ids) h n =
    let request = written_request (is_plain h.flags) h.request in
    omega (
      arith,
      basic_length HEADER_BYTES_2 2 h,
      length64 request,
      length64 16,
      length64 (8 + n),
      length-append (basic HEADER_BYTES_2 2 h) (bytes64 request ++ (bytes64 16 ++ bytes64 (8 + n))),
      length-append (bytes64 request) (bytes64 16 ++ bytes64 (8 + n)),
      length-append (bytes64 16) (bytes64 (8 + n)),
    )

zeros_length : (n : ℕ) → length (zeros n) ≡ n
zeros_length zero = refl
zeros_length (suc n) = ap suc (zeros_length n)

ids_length : (ids : List ℕ) → length (id_bytes ids) ≡ 4 * length ids
ids_length [] = refl
ids_length (i ∷ ids) = omega (arith, behind32 i (id_bytes ids), ids_length ids)

back_length : (ids : List ℕ) → length ids ≤ 64 → length (back_of ids) ≤ 300
back_length [] few = omega arith
back_length (i ∷ ids) few =
    let k = length (i ∷ ids) in
    let room = rounded8 (4 * k) - 4 * k in
    omega (
      arith,
      few,
      zeros_length room,
      ids_length (i ∷ ids),
      length-append (id_bytes (i ∷ ids)) (zeros room),
      behind32 k (id_bytes (i ∷ ids) ++ zeros room),
      behind32 (8 + 4 * k) (bytes32 k ++ (id_bytes (i ∷ ids) ++ zeros room)),
    )

message_bytes : (h : Head) (payload : List ℕ) → AreBytes payload → AreBytes (message h payload)
message_bytes h payload a = all_both IsByte (front_of h.ids h (length payload)) (payload ++ back_of h.ids) (front_fine h.moment h.ids h (length payload))
    (all_both IsByte payload (back_of h.ids) a (back_fine h.ids))

message_short : (h : Head) (payload : List ℕ) → length h.ids ≤ 64 → length payload < 2 ^ 61 → length (message h payload) < 2 ^ 62
message_short h payload ids few = omega (
  arith,
  few,
  front_length h.moment h.ids h (length payload),
  back_length h.ids ids,
  length-append (front_of h.ids h (length payload)) (payload ++ back_of h.ids),
  length-append payload (back_of h.ids),
)

pub message_fine : (h : Head) (payload : List ℕ) → length h.ids ≤ 64 → AreBytes payload → length payload < 2 ^ 61 → IsFine (message h payload)
message_fine h payload ids a few = (message_bytes h payload a, message_short h payload ids few)

-- ## What is read

pub byte_at : (bytes : List ℕ) → AreBytes bytes → (i : ℕ) → slice_index bytes i < 256
byte_at [] a i = omega arith
byte_at (b ∷ bytes) a zero = a.0
byte_at (b ∷ bytes) a (suc i) = byte_at bytes a.1 i

pub number32_small : (bytes : List ℕ) → AreBytes bytes → (at : ℕ) → IsSmall (number32 bytes at)
unfolding number32
number32_small bytes a at = omega (arith, byte_at bytes a at, byte_at bytes a (at + 1), byte_at bytes a (at + 2), byte_at bytes a (at + 3))

number64_wide : (bytes : List ℕ) → AreBytes bytes → (at : ℕ) → IsWide (number64 bytes at)
unfolding number64
number64_wide bytes a at = omega (arith, number32_small bytes a at, number32_small bytes a (at + 4))

request_wide : (bytes : List ℕ) → AreBytes bytes → IsWide (request_read bytes)
request_wide bytes a = go (number32 bytes 4 == 0)
  where
    go : (b : Bool) → IsWide (if b then 0 else number64 bytes 24)
    go true = omega arith
    go false = number64_wide bytes a 24

-- an answer is what is meant where there is no fault
answer_is : {A : Type 0} (o : Option Fault) (x y : A) → unless_fault o x ≡ Ok y → x ≡ y
answer_is None x y e = cc
answer_is (Some fault) x y e = absurd cc

-- ids are numbers of 32 bits
from_small : (bytes : List ℕ) → AreBytes bytes → (p n : ℕ) → AreAll IsSmall (ids_from bytes p n)
from_small bytes a p zero = tt
from_small bytes a p (suc n) = (number32_small bytes a p, from_small bytes a (p + 4) n)

read_small : (bytes : List ℕ) → AreBytes bytes → AreAll IsSmall (ids_read bytes)
read_small bytes a = go (nat_lt (number32 bytes 4) 2) (number64 bytes 40 == 0)
  where
    go : (old none : Bool) → AreAll IsSmall (if old then [] else (if none then [] else
        ids_from bytes (40 + number64 bytes 40 + 8) (number32 bytes (40 + number64 bytes 40 + 4))))
    go true none = tt
    go false true = tt
    go false false = from_small bytes a (40 + number64 bytes 40 + 8) (number32 bytes (40 + number64 bytes 40 + 4))

pub header_small : (bytes : List ℕ) (h : Header) → IsFine bytes → header_in bytes ≡ Ok h → IsSmall h.id × AreAll IsSmall h.ids
header_small bytes h fine e =
    let same : record { id = number32 bytes 8; ids = ids_read bytes } ≡ h = answer_is (first_failed (header_marks bytes)) _ h e in (
      subst (λ (g : Header). IsSmall g.id) same (number32_small bytes fine.0 8),
      subst (λ (g : Header). AreAll IsSmall g.ids) same (read_small bytes fine.0),
    )

-- the second number of a control
second_small : (bytes : List ℕ) → AreBytes bytes → (p : ℕ) → IsSmall (second_read bytes p)
second_small bytes a p = go (number32 bytes p == 24)
  where
    go : (b : Bool) → IsSmall (if b then number32 bytes (p + 16) else 0)
    go true = number32_small bytes a (p + 16)
    go false = omega arith

-- the control of a kind with these numbers
control_small : (kind n second : ℕ) → IsSmall n → IsSmall second → IsSmallControl (control_by kind n second)
control_small kind n second a b = go (kind == 1) (kind == 2) (kind == 3) (kind == 4)
  where
    go : (closed query version require : Bool) → IsSmallControl (if closed then Closed n else (if query then Query n else
        (if version then Version n second else (if require then Require n second else Flush n))))
    go true query version require = a
    go false true version require = a
    go false false true require = (a, b)
    go false false false true = (a, b)
    go false false false false = a

-- what a control says has numbers of 32 bits
pub says_small : (bytes : List ℕ) (c : Control) → IsFine bytes → says_in bytes ≡ Ok c → IsSmallControl c
says_small bytes c fine e =
    let p = payload_start bytes in
    subst IsSmallControl (answer_is (first_failed (control_marks bytes)) (control_said bytes) c e)
    (control_small (number32 bytes (p + 8)) (number32 bytes (p + 12)) (second_read bytes p)
    (number32_small bytes fine.0 (p + 12)) (second_small bytes fine.0 p))

-- a moment has 64 bits
long_of : (z : ℤ) → FitsSigned w64 z → IsLong z
long_of (pos n) fits = fits.sfits
long_of (negsuc n) fits = fits.sfits

moment_small : (bytes : List ℕ) → AreBytes bytes → IsMoment (moment_read bytes)
moment_small bytes a = go (nat_lt (number32 bytes 4) 3)
  where
    go : (old : Bool) → IsMoment (if old then None else Some (cast_signed w64 (number64 bytes 48)))
    go true = tt
    go false = long_of (cast_signed w64 (number64 bytes 48)) (sfits_to_z (record { fits = number64_wide bytes a 48 }))

pub stands_small : (schema : Schema) (expected : Expected) (bytes : List ℕ) (n : ℕ) (c : Content) → IsFine bytes → stands_in schema expected bytes n ≡ Ok c
    → IsSmall c.target.method × IsWide c.request × IsMoment c.moment
stands_small schema expected bytes n c fine e =
    let same = answer_is (first_fault (before_payload bytes n) (message_marks schema expected bytes))
    (content_in schema expected bytes (struct_named schema expected bytes)) c e in (
      subst (λ (d : Content). IsSmall d.target.method) same (number32_small bytes fine.0 12),
      subst (λ (d : Content). IsWide d.request) same (request_wide bytes fine.0),
      subst (λ (d : Content). IsMoment d.moment) same (moment_small bytes fine.0),
    )
