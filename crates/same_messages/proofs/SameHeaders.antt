-- Two messages with the same bytes in the header and in the ids of the first have the same tests of a header, and the same ids.
use Rattle.std.proofs.Common.{◌≡◌, ℕ, zero, suc, ◌+◌, ◌*◌, ◌^◌, ◌<◌, ◌≤◌, Bool, true, false, cond, List, [], ◌∷◌, length, Option, Some, None, refl, sym, ap, subst, ◌∙◌, arith}
use Rattle.std.specs.Int.{cast_signed, w64}
use Rattle.std.specs.Prelude.{◌==◌, ◌&&◌, ℤ, nat_le, nat_lt}
use Rattle.std.proofs.lemmas.Bool.{and_parts, leb-true, le-leb}
use Rattle.std.proofs.lemmas.Bool.Decides.{nat_tests}
use Rattle.mj_base.specs.declared.fault.FaultKind.TheVariants as faults
use Rattle.mj_base.specs.Bytes.{number32, number64}
use Rattle.wire_model.specs.HeaderMarks.{aligned, range, id_marks, ids_marks, payload_marks, header_marks}
use Rattle.wire_model.specs.Marks.{Mark, Test}
use Rattle.wire_model.specs.Message.{ids_from, payload_end}
use Rattle.wire_model.specs.Stands.{Extent, IsFine}
use Rattle.message_header.specs.steps.Lengths.{Fits}
use Rattle.message_header.proofs.Facts.{fitting, ordered}
use Rattle.same_messages.specs.Agree.{ids_extent}
use Rattle.same_messages.specs.steps.Same.{SameHeader}
use Rattle.same_messages.specs.steps.Agreed.{AreSame, AreSameIn}
use Rattle.same_messages.proofs.SameNumbers.{same_part, same32, same64}
use Rattle.same_messages.proofs.Cases.{by_test}

-- by the distance of the array of ids: the tests of an array that is there, and all tests, where the payload ends, and the ids
abbrev some_marks : List ℕ → ℕ → ℕ → List Mark
some_marks bytes s t =
    Test (nat_lt t (2 ^ 32)) faults.IllegalPointer 40
    ∷ (Test (aligned (40 + t)) faults.MisalignedObject (40 + t)
    ∷ (range bytes (s + 8) (40 + t) 8
    ∷ (Test (nat_le (8 + 4 * number32 bytes (40 + t + 4)) (number32 bytes (40 + t))) faults.UnexpectedArrayHeader (40 + t)
    ∷ (range bytes (s + 8) (40 + t) (number32 bytes (40 + t)) ∷ id_marks bytes (40 + t + 8) (number32 bytes (40 + t + 4))))))

abbrev marks_at : List ℕ → ℕ → ℕ → List Mark
marks_at bytes s t = cond (t == 0) [] (some_marks bytes s t)

abbrev end_at : List ℕ → ℕ → ℕ
end_at bytes t = cond (t == 0) (length bytes) (40 + t)

abbrev read_at : List ℕ → ℕ → List ℕ
read_at bytes t = cond (t == 0) [] (ids_from bytes (40 + t + 8) (number32 bytes (40 + t + 4)))

abbrev extent_at : List ℕ → ℕ → List Extent
extent_at bytes t = cond (t == 0) [] (record { start = 40 + t; size = number32 bytes (40 + t) } ∷ [])

-- an array has room for its ids
enough : (n size : ℕ) → nat_le (8 + 4 * n) size ≡ true → 8 + 4 * n ≤ size
enough n size h = grind (arith, nat_tests)

module _ (bytes other : List ℕ) (long : length bytes ≤ length other) where
  -- a range within the one lies within the other
  range_same : (least p n : ℕ) → (nat_le least p && nat_le (p + n) (length bytes)) ≡ true → range other least p n ≡ range bytes least p n
  range_same least p n h =
      let parts = and_parts (nat_le least p) (nat_le (p + n) (length bytes)) h in
      let le = leb-true (p + n) (length bytes) parts.1 in
      let more : nat_le (p + n) (length other) ≡ true = le-leb (p + n) (length other) (omega (arith, le, long)) in
      ap (λ (b : Bool). Test (nat_le least p && b) faults.IllegalMemoryRange p) (more ∙ sym parts.1)

  id_marks_same : (p n : ℕ) → AreSame bytes other p (4 * n) → id_marks other p n ≡ id_marks bytes p n
  id_marks_same p zero same = refl
  id_marks_same p (suc n) same =
      let one = same32 bytes other p (same_part bytes other p (4 * suc n) p 4 same (omega arith) (omega arith)) in
      let rest = id_marks_same (p + 4) n (same_part bytes other p (4 * suc n) (p + 4) (4 * n) same (omega arith) (omega arith)) in
      rw (one, rest) refl

  ids_from_same : (p n : ℕ) → AreSame bytes other p (4 * n) → ids_from other p n ≡ ids_from bytes p n
  ids_from_same p zero same = refl
  ids_from_same p (suc n) same =
      let one = same32 bytes other p (same_part bytes other p (4 * suc n) p 4 same (omega arith) (omega arith)) in
      let rest = ids_from_same (p + 4) n (same_part bytes other p (4 * suc n) (p + 4) (4 * n) same (omega arith) (omega arith)) in
      rw (one, rest) refl

  -- an array of ids that is there
  record SameIds (s t : ℕ) : Type 0 where
    marks : some_marks other s t ≡ some_marks bytes s t
    ids : ids_from other (40 + t + 8) (number32 other (40 + t + 4)) ≡ ids_from bytes (40 + t + 8) (number32 bytes (40 + t + 4))

  some_same : (s t : ℕ) → IsFine (some_marks bytes s t) → AreSame bytes other (40 + t) (number32 bytes (40 + t)) → SameIds s t
  some_same s t fine same =
      let q = 40 + t in
      let size = number32 bytes q in
      let n = number32 bytes (q + 4) in
      let room = enough n size fine.1.1.1.0 in
      let one = same32 bytes other q (same_part bytes other q size q 4 same (omega arith) (omega (arith, room))) in
      let two = same32 bytes other (q + 4) (same_part bytes other q size (q + 4) 4 same (omega arith) (omega (arith, room))) in
      let each = same_part bytes other q size (q + 8) (4 * n) same (omega arith) (omega (arith, room)) in
      record {
        marks = rw (
          one,
          two,
          id_marks_same (q + 8) n each,
          range_same (s + 8) q 8 fine.1.1.0,
          range_same
              (s + 8) q size fine.1.1.1.1.0,
        ) refl;
        ids = rw two (ids_from_same (q + 8) n each);
      }

  -- what the array of ids is where it may be null
  record SameAt (s t : ℕ) : Type 0 where
    marks : marks_at other s t ≡ marks_at bytes s t
    end : end_at bytes t ≤ end_at other t
    ids : read_at other t ≡ read_at bytes t

  same_at : (s t : ℕ) → IsFine (marks_at bytes s t) → AreSameIn bytes other (extent_at bytes t) → SameAt s t
  same_at s t fine same = by_null (t == 0) refl fine same
    where
      by_null : (null : Bool) → (t == 0) ≡ null → IsFine (cond null [] (some_marks bytes s t))
          → AreSameIn bytes other (cond null [] (record { start = 40 + t; size = number32 bytes (40 + t) } ∷ [])) → SameAt s t
      by_null true e fine same = record { marks = rw e refl; end = rw e long; ids = rw e refl }
      by_null false e fine same = let h = some_same s t fine same.0 in record { marks = rw e h.marks; end = rw e (omega arith); ids = rw e h.ids }

  -- what follows the numbers that each version has, in a header below version 2 or not
  record SameRest (old : Bool) : Type 0 where
    marks : cond old [] (payload_marks other) ≡ cond old [] (payload_marks bytes)
    start : cond old (number32 other 0) (32 + number64 other 32) ≡ cond old (number32 bytes 0) (32 + number64 bytes 32)
    end : cond old (length bytes) (end_at bytes (number64 bytes 40)) ≤ cond old (length other) (end_at other (number64 other 40))
    ids : cond old [] (read_at other (number64 other 40)) ≡ cond old [] (read_at bytes (number64 bytes 40))

  -- the tests of a payload that isn't null
  abbrev payload_at : List ℕ → ℕ → ℕ → List Mark → List Mark
  payload_at xs size t ids =
      Test (nat_lt t (2 ^ 32)) faults.IllegalPointer 32
      ∷ (Test (aligned (32 + t)) faults.MisalignedObject (32 + t)
      ∷ (range xs size (32 + t) 0 ∷ ids))

  abbrev null_payload : List Mark
  null_payload = Test false faults.UnexpectedNullPointer 32 ∷ []

  -- from version 2 on
  payload_same : AreSame bytes other 0 48 → IsFine (payload_marks bytes) → AreSameIn bytes other (extent_at bytes (number64 bytes 40))
      → (payload_marks other ≡ payload_marks bytes) × SameAt (32 + number64 bytes 32) (number64 bytes 40)
  unfolding payload_marks ids_marks
  payload_same same fine extents =
      let t = number64 bytes 32 in
      let size = number32 bytes 0 in
      let one = same32 bytes other 0 (same_part bytes other 0 48 0 4 same (omega arith) (omega arith)) in
      let two = same64 bytes other 32 (same_part bytes other 0 48 32 8 same (omega arith) (omega arith)) in
      let three = same64 bytes other 40 (same_part bytes other 0 48 40 8 same (omega arith) (omega arith)) in
      rw (one, two, three) (by_test (t == 0)
      (λ b. IsFine (cond b null_payload (payload_at bytes size t (marks_at bytes (32 + t) (number64 bytes 40))))
      → (cond b null_payload (payload_at other size t (marks_at other (32 + t) (number64 bytes 40)))
      ≡ cond b null_payload (payload_at bytes size t (marks_at bytes (32 + t) (number64 bytes 40)))) × SameAt (32 + t) (number64 bytes 40))
      (λ _ h. let no : false ≡ true = h.0 in absurd cc)
      (λ _ h.
      let at = same_at (32 + t) (number64 bytes 40) h.1.1.1 extents in
      (rw (at.marks, range_same size (32 + t) 0 h.1.1.0) refl, at))
      fine)

  -- in any version
  rest_same : (old : Bool) → nat_lt (number32 bytes 4) 2 ≡ old → Fits (number32 bytes 4) (number32 bytes 0)
      → AreSame bytes other 0 (number32 bytes 0) → IsFine (cond old [] (payload_marks bytes))
      → AreSameIn bytes other (cond old [] (extent_at bytes (number64 bytes 40))) → SameRest old
  rest_same true age fits same fine extents =
      let least = fits.least in
      let zero = same32 bytes other 0 (same_part bytes other 0 (number32 bytes 0) 0 4 same (omega arith) (omega (arith, least))) in
      record { marks = refl; start = zero; end = long; ids = refl }
  rest_same false age fits same fine extents =
      let new : 2 ≤ number32 bytes 4 = grind (arith, nat_tests) in
      let size = fits.pointers new in
      let first = same_part bytes other 0 (number32 bytes 0) 0 48 same (omega arith) (omega (arith, size)) in
      let payload = same64 bytes other 32 (same_part bytes other 0 48 32 8 first (omega arith) (omega arith)) in
      let ids = same64 bytes other 40 (same_part bytes other 0 48 40 8 first (omega arith) (omega arith)) in
      let h = payload_same first fine extents in
      record {
        marks = h.0;
        start = ap (λ (t : ℕ). 32 + t) payload;
        end = subst (λ (t : ℕ). end_at bytes (number64 bytes 40) ≤ end_at other t) (sym ids) h.1.end;
        ids = ap (λ (t : ℕ). read_at other t) ids ∙ h.1.ids;
      }

  -- the request id, which version 0 lacks
  request_same : (none : Bool) → (number32 bytes 4 == 0) ≡ none → Fits (number32 bytes 4) (number32 bytes 0)
      → AreSame bytes other 0 (number32 bytes 0) → cond none 0 (number64 other 24) ≡ cond none 0 (number64 bytes 24)
  request_same true e fits same = refl
  request_same false e fits same =
      let some : 0 < number32 bytes 4 = grind (arith, nat_tests) in
      let size = fits.request some in
      same64 bytes other 24 (same_part bytes other 0 (number32 bytes 0) 24 8 same (omega arith) (omega (arith, size)))

  -- the moment, which versions below 3 lack
  abbrev moment_if : Bool → ℕ → Option ℤ
  moment_if old bits = cond old None (Some (cast_signed w64 bits))

  moment_same : (old : Bool) → nat_lt (number32 bytes 4) 3 ≡ old → Fits (number32 bytes 4) (number32 bytes 0)
      → AreSame bytes other 0 (number32 bytes 0) → moment_if old (number64 other 48) ≡ moment_if old (number64 bytes 48)
  moment_same true e fits same = refl
  moment_same false e fits same =
      let late : 3 ≤ number32 bytes 4 = grind (arith, nat_tests) in
      let size = fits.moment late in
      ap (λ (n : ℕ). moment_if false n) (same64 bytes other 48 (same_part bytes other 0 (number32 bytes 0) 48 8 same (omega arith) (omega (arith, size))))

  -- the whole header
  pub header_same : AreSame bytes other 0 (number32 bytes 0) → AreSameIn bytes other (ids_extent bytes) → IsFine (header_marks bytes)
      → SameHeader bytes other
  unfolding header_marks
  header_same same extents fine =
      let size = number32 bytes 0 in
      let fits = fitting (number32 bytes 4) size fine.1.1.1.0 in
      let least = fits.least in
      let word = λ (a : ℕ) (le : a + 4 ≤ 24). same32 bytes other a (same_part bytes other 0 size a 4 same (omega arith) (omega (arith, le, least))) in
      let version = word 4 (omega arith) in
      let rest = rest_same (nat_lt (number32 bytes 4) 2) refl fits same fine.1.1.1.1.1.1 extents in
      record {
        marks =
            rw (word 0 (omega arith), version, word 16 (omega arith), range_same 0 0 8 fine.0, range_same 0 0 size fine.1.1.0, rest.marks) refl;
        name = word 12 (omega arith);
        flags = word 16 (omega arith);
        request = rw version (request_same (number32 bytes 4 == 0) refl fits same);
        moment = rw version (moment_same (nat_lt (number32 bytes 4) 3) refl fits same);
        start = rw version rest.start;
        end = rw version rest.end;
        ids = rw version rest.ids;
      }

-- the payload ends within the message
pub ends_within : (bytes : List ℕ) → IsFine (header_marks bytes) → payload_end bytes ≤ length bytes
ends_within bytes fine = by_case (nat_lt (number32 bytes 4) 2) (number64 bytes 40 == 0) refl refl
  where
    by_case : (old none : Bool) → nat_lt (number32 bytes 4) 2 ≡ old → (number64 bytes 40 == 0) ≡ none → payload_end bytes ≤ length bytes
    by_case true none e f = rw e (omega arith)
    by_case false true e f = rw (e, f) (omega arith)
    by_case false false e f =
        let new : 2 ≤ number32 bytes 4 = grind (arith, nat_tests) in
        let some : 0 < number64 bytes 40 = grind (arith, nat_tests) in
        let room = (ordered bytes fine).array new some in
        rw (e, f) (omega (arith, room))
