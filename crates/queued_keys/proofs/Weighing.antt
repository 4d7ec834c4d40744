-- How many of a list of messages count.
use Rattle.std.proofs.Common.{◌≡◌, ◌≤◌, ◌+◌, Bool, true, false, List, [], ◌∷◌, ◌++◌, length, refl, ap, ◌∙◌, arith}
use Rattle.std.specs.Prelude.{if◌then◌else◌, ◌&&◌, Result, Ok, Err, is_ok}
use Rattle.queued_keys.specs.declared.key.Key.{Key}
use Rattle.queued_keys.specs.Keys.{are_emitted, weighs}

pub weighs_most : (ms : List Key) → weighs ms ≤ length ms
weighs_most [] = omega arith
weighs_most (m ∷ ms) = go m.emitted (weighs_most ms)
  where
    go : (b : Bool) → weighs ms ≤ length ms → (if b then 0 else 1) + weighs ms ≤ length (m ∷ ms)
    go true h = omega (arith, h)
    go false h = omega (arith, h)

pub weighs_more : (ms : List Key) (m : Key) → weighs (ms ++ m ∷ []) ≡ weighs ms + (if m.emitted then 0 else 1)
weighs_more [] m = omega arith
weighs_more (n ∷ ms) m = rw (weighs_more ms m) (omega arith)

-- emitted ones don't count
all_weigh : (ms : List Key) → are_emitted ms ≡ true → weighs ms ≡ 0
all_weigh [] h = refl
all_weigh (m ∷ ms) h = go m.emitted (all_weigh ms) h
  where
    go : (b : Bool) → (are_emitted ms ≡ true → weighs ms ≡ 0) → (b && are_emitted ms) ≡ true → (if b then 0 else 1) + weighs ms ≡ 0
    go true rest h = omega (arith, rest h)
    go false rest h = absurd cc

pub weighs_still : (ms more : List Key) → are_emitted more ≡ true → weighs (ms ++ more) ≡ weighs ms
weighs_still [] more h = all_weigh more h
weighs_still (m ∷ ms) more h = ap (λ n. (if m.emitted then 0 else 1) + n) (weighs_still ms more h)

-- whether they were written or not
pub weighs_either : {E : Type 0} (r : Result Unit E) (ms more now : List Key) → are_emitted more ≡ true
    → now ≡ (if is_ok r then ms ++ more else ms) → weighs now ≡ weighs ms
weighs_either (Ok u) ms more now h e = ap weighs e ∙ weighs_still ms more h
weighs_either (Err x) ms more now h e = ap weighs e
