-- Runs over marks of which each that is reached lies at a place of 64 bits.
use Rattle.std.proofs.Common.{◌≡◌, ◌≤◌, ℕ, ◌+◌, ◌%◌, Bool, true, false, List, [], ◌∷◌, ◌++◌, refl, sym, subst, arith}
use Rattle.std.specs.Prelude.{Result, Ok, Err, ◌==◌, ◌&&◌, nat_le, nat_lt, if◌then◌else◌}
use Rattle.std.proofs.lemmas.Bool.{leb-true}
use Rattle.mj_base.specs.declared.fault.Fault.{Fault}
use Rattle.mj_base.specs.declared.fault.FaultKind.{FaultKind}
use Rattle.mj_base.specs.declared.fault.FaultKind.TheVariants.{MisalignedObject, IllegalMemoryRange, IllegalHandle, IllegalInterfaceId}
use Rattle.handle_table.proofs.ThingsLemmas.{and_right}
use Rattle.bounds_claims.proofs.Steps.{run_append}
use Rattle.bounds_claims.specs.Runs.{◌>>=◌, fault, in_range, run, step}
use Rattle.bounds_claims.specs.declared.claims.Claims.{Claims}
use Rattle.wire_model.specs.Marks.{Mark, Test, Object, Handle, Id}
use Rattle.history_reader.specs.Printable.{IsWide}

-- claims that may go so far, or a fault at a place of 64 bits
abbrev pub IsEnded : ℕ → Result Claims Fault → Type 0
IsEnded end (Ok after) = after.end ≡ end
IsEnded end (Err fault) = IsWide fault.at

-- marks of which each that is reached lies at a place of 64 bits
abbrev pub IsNear : ℕ → List Mark → Type 0
IsNear end ms = (claims : Claims) → claims.end ≡ end → IsEnded end (run claims ms)

module _ (end : ℕ) where
  goes_on : (r : Result Claims Fault) (rest : Claims → Result Claims Fault) → IsEnded end r
      → ((claims : Claims) → claims.end ≡ end → IsEnded end (rest claims)) → IsEnded end (r >>= rest)
  goes_on (Ok claims) rest i h = h claims i
  goes_on (Err fault) rest i h = i

  pub near_none : IsNear end []
  unfolding run
  near_none claims e = e

  pub near_both : (xs ys : List Mark) → IsNear end xs → IsNear end ys → IsNear end (xs ++ ys)
  near_both xs ys a b claims e = subst (IsEnded end) (sym (run_append claims xs ys)) (goes_on (run claims xs) (λ after. run after ys) (a claims e) b)

  pub near_test : (holds : Bool) (kind : FaultKind) (at : ℕ) (ms : List Mark) → IsWide at → (holds ≡ true → IsNear end ms)
      → IsNear end (Test holds kind at ∷ ms)
  unfolding run step
  near_test true kind at ms w n claims e = n refl claims e
  near_test false kind at ms w n claims e = w

  -- behind an object that has room
  pub near_object : (start size extra : ℕ) (fine : Bool) (header : FaultKind) (ms : List Mark) → IsWide start → (start + size ≤ end → IsNear end ms)
      → IsNear end (Object start size extra fine header ∷ ms)
  unfolding run step
  near_object start size extra fine header ms w n claims e = first (start % 8 == 0)
    where
      fourth : (b : Bool) → in_range claims start size ≡ b
          → IsEnded end ((if b then Ok (record claims { next = start + size }) else Err (fault IllegalMemoryRange start)) >>= λ after. run after ms)
      fourth true f =
          let room : start + size ≤ claims.end = leb-true (start + size) claims.end
          (and_right (nat_le claims.next start) (nat_le (start + size) claims.end) f) in
          n (omega (arith, room, e)) (record claims { next = start + size }) e
      fourth false f = w

      third : (b : Bool) → IsEnded end ((if b
          then (if in_range claims start size then Ok (record claims { next = start + size }) else Err (fault IllegalMemoryRange start))
          else Err (fault header start)) >>= λ after. run after ms)
      third true = fourth (in_range claims start size) refl
      third false = w

      second : (b : Bool) → IsEnded end ((if b
          then (if nat_le (8 + extra) size && fine
          then (if in_range claims start size then Ok (record claims { next = start + size }) else Err (fault IllegalMemoryRange start))
          else Err (fault header start))
          else Err (fault IllegalMemoryRange start)) >>= λ after. run after ms)
      second true = third (nat_le (8 + extra) size && fine)
      second false = w

      first : (b : Bool) → IsEnded end ((if b
          then (if in_range claims start 8
          then (if nat_le (8 + extra) size && fine
          then (if in_range claims start size then Ok (record claims { next = start + size }) else Err (fault IllegalMemoryRange start))
          else Err (fault header start))
          else Err (fault IllegalMemoryRange start))
          else Err (fault MisalignedObject start)) >>= λ after. run after ms)
      first true = second (in_range claims start 8)
      first false = w

  pub near_handle : (index at : ℕ) → IsWide at → IsNear end (Handle index at ∷ [])
  unfolding run step
  near_handle index at w claims e = go (nat_le claims.next_handle index && nat_lt index claims.handles)
    where
      go : (b : Bool) → IsEnded end ((if b then Ok (record claims { next_handle = index + 1 }) else Err (fault IllegalHandle at)) >>= λ after. run after [])
      go true = e
      go false = w

  pub near_id : (index at : ℕ) → IsWide at → IsNear end (Id index at ∷ [])
  unfolding run step
  near_id index at w claims e = go (nat_le claims.next_id index && nat_lt index claims.ids)
    where
      go : (b : Bool) → IsEnded end ((if b then Ok (record claims { next_id = index + 1 }) else Err (fault IllegalInterfaceId at)) >>= λ after. run after [])
      go true = e
      go false = w
