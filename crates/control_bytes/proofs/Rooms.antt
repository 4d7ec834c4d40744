-- A control whose tests hold has the bytes of its payload.
use Rattle.std.proofs.Common.{◌≡◌, ℕ, ◌+◌, ◌≤◌, true, not, ◌||◌, ◌==◌, List, refl, arith}
use Rattle.std.specs.Prelude.{nat_le}
use Rattle.std.proofs.lemmas.Bool.Decides.{nat_tests}
use Rattle.mj_base.specs.declared.header.Header.{Header}
use Rattle.mj_base.specs.Bytes.{number32}
use Rattle.wire_model.specs.Message.{payload_start, payload_end}
use Rattle.wire_model.specs.Stands.{IsFine}
use Rattle.message_header.specs.Said.{header_said, IsPlaced}
use Rattle.message_header.specs.steps.Judged.{Passed}
use Rattle.message_header.proofs.Fine.{AreTests, passing_is_fine}
use Rattle.control_bytes.specs.Controls.{control_marks}
use Rattle.control_bytes.specs.steps.Rooms.{HasRoom}

-- the marks of a control are tests
pub control_tests : (bytes : List ℕ) → AreTests (control_marks bytes)
unfolding control_marks
control_tests bytes = tt

-- the two ranges of a payload
record Ranges (bytes : List ℕ) : Type 0 where
  short : payload_start bytes + 16 ≤ payload_end bytes
  long : (not (number32 bytes (payload_start bytes) == 24) || nat_le (payload_start bytes + 24) (payload_end bytes)) ≡ true

ranges : (bytes : List ℕ) → IsFine (control_marks bytes) → Ranges bytes
unfolding control_marks
ranges bytes (a, (b, (c, (d, (e, (f, rest)))))) = record { short = grind (arith, nat_tests, d); long = f }

long_range : (size p end : ℕ) → (not (size == 24) || nat_le (p + 24) end) ≡ true → size ≡ 24 → p + 24 ≤ end
long_range size p end holds e = grind (arith, nat_tests, holds, e)

-- the payload lies within the message
pub has_room :
    (bytes : List ℕ) (header : Header) → header ≡ header_said bytes → IsPlaced bytes header → Passed (control_marks bytes)
    → HasRoom bytes header.payload.start
has_room bytes header said placed passed =
    let start : header.payload.start ≡ payload_start bytes = rw said refl in
    let r = ranges bytes (passing_is_fine (control_marks bytes) (control_tests bytes) passed.none) in
    let short = r.short in
    let ends = placed.ends in
    let before = placed.before_ids in
    let within = placed.within in
    record {
      short = omega arith;
      long = λ e.
          let size : number32 bytes (payload_start bytes) ≡ 24 = rw start at e in
          let long = long_range (number32 bytes (payload_start bytes)) (payload_start bytes) (payload_end bytes) r.long size in
          omega arith;
    }
