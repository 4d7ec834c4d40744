-- A stream that is read in pieces.
use Rattle.std.proofs.Common.{◌≡◌, ◌≤◌, ◌+◌, ◌-◌, ℕ, List, ◌++◌, length, sym, ap, ◌∙◌, arith}
use Rattle.std.proofs.Common.{append_assoc, length-append, Some, None}
use Rattle.std.specs.Prelude.{Option}
use Rattle.std.specs.Io.KnownBytes.{Consumes}
use Rattle.mj_io.specs.steps.Reading.{TakesAtMost}

-- what was read so far, with room for `left` bytes more
pub record ReadSoFar (limit left : ℕ) (old new : List ℕ) (before now : Option (List ℕ)) : Type 0 where
  pub got : List ℕ
  pub whole : new ≡ old ++ got
  pub room : length got + left ≡ limit
  pub taken : Consumes before now got

more_taken : (a b c : Option (List ℕ)) (xs ys : List ℕ) → Consumes a b xs → Consumes b c ys → Consumes a c (xs ++ ys)
more_taken None b c xs ys first second = tt
more_taken (Some a) None c xs ys first second = absurd first
more_taken (Some a) (Some b) None xs ys first second = absurd second
more_taken (Some a) (Some b) (Some c) xs ys first second = first ∙ (ap (λ zs. xs ++ zs) second ∙ sym (append_assoc xs ys c))

-- a piece more that has room
pub read_more : (limit left n : ℕ) (old new : List ℕ) (a b c : Option (List ℕ)) (piece : List ℕ) → ReadSoFar limit left old new a b
    → Consumes b c piece → length piece ≡ n → n ≤ left → ReadSoFar limit (left - n) old (new ++ piece) a c
read_more limit left n old new a b c piece before taken long few = record {
  got = before.got ++ piece;
  whole = rw before.whole (append_assoc old before.got piece);
  room = omega (arith, length-append before.got piece, before.room);
  taken = more_taken a b c before.got piece before.taken taken;
}

-- a piece that fits the room and one byte more is no more than the limit and one byte
pub takes_few : (limit left n : ℕ) (old new : List ℕ) (a b c : Option (List ℕ)) (piece : List ℕ) → ReadSoFar limit left old new a b
    → Consumes b c piece → length piece ≡ n → n ≤ left + 1 → TakesAtMost (limit + 1) a c
takes_few limit left n old new a b c piece r taken long few = record {
  bytes = r.got ++ piece;
  taken = more_taken a b c r.got piece r.taken taken;
  few = omega (arith, length-append r.got piece, r.room);
}
