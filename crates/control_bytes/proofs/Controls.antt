-- A control that is written stands, and is read as itself.
use Rattle.std.proofs.Common.{◌≡◌, ℕ, ◌^◌, ◌<◌, true, ◌&&◌, List, length, refl, arith}
use Rattle.std.specs.Prelude.{nat_lt}
use Rattle.std.proofs.lemmas.Bool.Decides.{nat_tests}
use Rattle.mj_base.specs.Bytes.{bytes32, number32}
use Rattle.wire_model.specs.HeaderMarks.{header_marks}
use Rattle.wire_model.specs.Message.{payload_start, payload_end}
use Rattle.wire_model.specs.Stands.{IsFine}
use Rattle.control_bytes.specs.Controls.{control_by, control_marks, control_marks_at, kind_fits, long_control, number_fits}
use Rattle.control_bytes.specs.Controls.{short_control, written_control, HasNumber, HasWord, IsControl}
use Rattle.control_bytes.specs.declared.control.Control.{Control}
use Rattle.control_bytes.specs.declared.control.Control.TheVariants.{Closed, Query, Version, Require, Flush}

-- the numbers of a control whose payload has so many bytes
record Numbers (bytes : List ℕ) (size kind n : ℕ) : Type 0 where
  head : number32 bytes 0 ≡ 24
  version : number32 bytes 4 ≡ 0
  interface : number32 bytes 8 ≡ 0xffffffff
  name : number32 bytes 12 ≡ 0
  flags : number32 bytes 16 ≡ 0
  payload : number32 bytes 24 ≡ size
  second : number32 bytes 28 ≡ 0
  of_kind : number32 bytes 32 ≡ kind
  number : number32 bytes 36 ≡ n

short_numbers : (kind n : ℕ) → kind < 256 → n < 2 ^ 32 → Numbers (short_control kind n) 16 kind n
unfolding bytes32 number32
short_numbers kind n known small = record {
  head = refl;
  version = refl;
  interface = refl;
  name = refl;
  flags = refl;
  payload = refl;
  second = refl;
  of_kind = omega arith;
  number = omega arith;
}

long_numbers : (kind n second : ℕ) → kind < 256 → n < 2 ^ 32 → Numbers (long_control kind n second) 24 kind n
unfolding bytes32 number32
long_numbers kind n second known small = record {
  head = refl;
  version = refl;
  interface = refl;
  name = refl;
  flags = refl;
  payload = refl;
  second = refl;
  of_kind = omega arith;
  number = omega arith;
}

short_length : (kind n : ℕ) → length (short_control kind n) ≡ 40
unfolding bytes32
short_length kind n = refl

long_length : (kind n second : ℕ) → length (long_control kind n second) ≡ 48
unfolding bytes32
long_length kind n second = refl

second_number : (kind n second : ℕ) → second < 2 ^ 32 → number32 (long_control kind n second) 40 ≡ second
unfolding bytes32 number32
second_number kind n second small = omega arith

starts : (bytes : List ℕ) (size kind n : ℕ) → Numbers bytes size kind n → payload_start bytes ≡ 24
starts bytes size kind n s = rw (s.version, s.head) refl

-- the header's tests hold in a message of 40 bytes, and in one of 48
short_header : (bytes : List ℕ) (size kind n : ℕ) → Numbers bytes size kind n → length bytes ≡ 40 → IsFine (header_marks bytes)
unfolding header_marks
short_header bytes size kind n s all = rw (s.head, s.version, s.flags, all) (refl, (refl, (refl, (refl, (refl, (refl, tt))))))

long_header : (bytes : List ℕ) (size kind n : ℕ) → Numbers bytes size kind n → length bytes ≡ 48 → IsFine (header_marks bytes)
unfolding header_marks
long_header bytes size kind n s all = rw (s.head, s.version, s.flags, all) (refl, (refl, (refl, (refl, (refl, (refl, tt))))))

-- the control's tests hold
short_marks : (bytes : List ℕ) (kind n : ℕ) → Numbers bytes 16 kind n → kind_fits 16 kind ≡ true → number_fits kind n ≡ true
    → IsFine (control_marks_at bytes 24 40)
short_marks bytes kind n s known fits =
    rw (s.name, s.flags, s.payload, s.second, s.of_kind, s.number) (refl, (refl, (refl, (refl, (refl, (refl, (known, (fits, tt))))))))

long_marks : (bytes : List ℕ) (kind n : ℕ) → Numbers bytes 24 kind n → kind_fits 24 kind ≡ true → number_fits kind n ≡ true
    → IsFine (control_marks_at bytes 24 48)
long_marks bytes kind n s known fits =
    rw (s.name, s.flags, s.payload, s.second, s.of_kind, s.number) (refl, (refl, (refl, (refl, (refl, (refl, (known, (fits, tt))))))))

-- a control with one number
short_stands :
    (kind n : ℕ) → kind < 256 → n < 2 ^ 32 → kind_fits 16 kind ≡ true → number_fits kind n ≡ true
    → IsControl (short_control kind n) (control_by kind n 0)
unfolding control_marks
short_stands kind n known small fits may =
    let bytes = short_control kind n in
    let s = short_numbers kind n known small in
    let all = short_length kind n in
    let start = starts bytes 16 kind n s in
    let end : payload_end bytes ≡ 40 = rw s.version all in
    record {
      header = short_header bytes 16 kind n s all;
      interface = s.interface;
      fine = rw (start, end) (short_marks bytes kind n s fits may);
      says = rw (start, s.payload, s.of_kind, s.number) refl;
    }

-- a control with two
long_stands :
    (kind n second : ℕ) → kind < 256 → n < 2 ^ 32 → second < 2 ^ 32 → kind_fits 24 kind ≡ true → number_fits kind n ≡ true
    → IsControl (long_control kind n second) (control_by kind n second)
unfolding control_marks
long_stands kind n second known small few fits may =
    let bytes = long_control kind n second in
    let s = long_numbers kind n second known small in
    let all = long_length kind n second in
    let start = starts bytes 24 kind n s in
    let end : payload_end bytes ≡ 48 = rw s.version all in
    let other = second_number kind n second few in
    record {
      header = long_header bytes 24 kind n s all;
      interface = s.interface;
      fine = rw (start, end) (long_marks bytes kind n s fits may);
      says = rw (start, s.payload, s.of_kind, s.number, other) refl;
    }

-- each control stands, and says itself
pub control_stands : (control : Control) → HasNumber control → HasWord control → IsControl (written_control control) control
control_stands (Closed id) may word =
    let some = may.0 in
    let other = may.1 in
    let fits : (nat_lt 0 id && nat_lt id 0xffffffff) ≡ true = grind (arith, nat_tests) in
    short_stands 1 id (omega arith) (omega arith) refl fits
control_stands (Query id) may word =
    let fits : nat_lt id 0xffffffff ≡ true = grind (arith, nat_tests) in
    short_stands 2 id (omega arith) (omega arith) refl fits
control_stands (Version id v) may word =
    let fits : nat_lt id 0xffffffff ≡ true = grind (arith, nat_tests) in
    long_stands 3 id v (omega arith) (omega arith) word refl fits
control_stands (Require id v) may word =
    let fits : nat_lt id 0xffffffff ≡ true = grind (arith, nat_tests) in
    long_stands 4 id v (omega arith) (omega arith) word refl fits
control_stands (Flush k) may word =
    let fits : nat_lt 0 k ≡ true = grind (arith, nat_tests) in
    short_stands 5 k (omega arith) word refl fits
