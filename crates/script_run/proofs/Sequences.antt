-- The sequences of a script by their numbers, and whose turn it is among them.
use Rattle.std.proofs.Common.{◌≡◌, ◌<◌, ◌≤◌, ◌+◌, ℕ, zero, suc, true, List, length, ap, ◌∙◌, arith}
use Rattle.std.specs.Prelude.{◌==◌, ◌/◌, ◌%◌, ◌^◌, map, Some, slice_get}
use Rattle.std.specs.List.{AllByRecursion}
use Rattle.std.proofs.lemmas.Bool.{eqb-true}
use Rattle.mj_base.specs.declared.ids.SeqId.{SeqId}
use Rattle.bind_model.specs.Laws.{up_from}
use Rattle.script_run.specs.Order.{counted_round}
use Rattle.script_run.specs.steps.Orders.{numbered}
use Rattle.script_names.proofs.TableLemmas.{there}

-- a sequence is its number
pub same_seq : (s t : SeqId) → (s.0 == t.0) ≡ true → s ≡ t
same_seq s t e = ap numbered (eqb-true s.0 t.0 e)

-- those of so many numbers are below their end
pub all_below : (first n end : ℕ) → first + n ≤ end → AllByRecursion (λ (s : SeqId). s.0 < end) (map numbered (up_from first n))
all_below first zero end h = tt
all_below first (suc n) end h = (omega arith, all_below (suc first) n end (omega arith))

-- which stands where among them
number_at : (first n k : ℕ) → k < n → slice_get (map numbered (up_from first n)) k ≡ Some (numbered (first + k))
number_at first zero k h = absurd (omega arith)
number_at first (suc n) zero h = let e : first ≡ first + 0 = omega arith in ap (λ (m : ℕ). Some (numbered m)) e
number_at first (suc n) (suc k) h =
    let e : suc first + k ≡ first + suc k = omega arith in
    number_at (suc first) n k (omega arith) ∙ ap (λ (m : ℕ). Some (numbered m)) e

pub stands_at : (n k : ℕ) → k < n → slice_get (map numbered (up_from 0 n)) k ≡ Some (numbered k)
stands_at n k h = let e : 0 + k ≡ k = omega arith in number_at 0 n k h ∙ ap (λ (m : ℕ). Some (numbered m)) e

-- of some sequences, each draw counts to one
pub some_round : (seqs : List SeqId) (g : ℕ) → 0 < length seqs → (s : SeqId) × (counted_round seqs g ≡ Some s)
some_round seqs g h = there seqs (g / (2 ^ 32) % length seqs) (omega arith)
