-- How many dots names have.
use Rattle.std.proofs.Common.{◌≡◌, ℕ, ◌+◌, ◌<◌, ◌≤◌, List, [], ◌∷◌, ◌++◌, length, take, get_or, refl, ap, arith}
use Rattle.std.specs.Prelude.{Bool, true, false, ◌==◌, codes, if◌then◌else◌}
use Rattle.std.proofs.lemmas.List.{get_or_default}
use Rattle.mj_base.specs.Names.{within}
use Rattle.module_resolver.specs.NameDots.{dots_in}
use Rattle.module_resolver.proofs.OneMore.{take_item}

-- the dots of two texts, one behind the other
pub dots_append : (xs ys : List ℕ) → dots_in (xs ++ ys) ≡ dots_in xs + dots_in ys
dots_append [] ys = let same : dots_in ys ≡ 0 + dots_in ys = omega arith in same
dots_append (x ∷ xs) ys = let later = dots_append xs ys in omega (arith, later)

-- the dots of a full name
pub dots_within : (outer name : List ℕ) → dots_in (within outer name) ≡ dots_in outer + dots_in name + 1
dots_within outer name =
    let one = dots_append outer (codes "." ++ name) in
    let two : dots_in (codes "." ++ name) ≡ 1 + dots_in name = refl in
    omega (arith, one, two)

-- one byte more
pub dots_more : (bytes : List ℕ) (place : ℕ) → place < length bytes
    → dots_in (take (place + 1) bytes) ≡ dots_in (take place bytes) + (if get_or bytes place 0 == 46 then 1 else 0)
dots_more bytes place lt =
    let byte = get_or bytes place 0 in
    let more = ap dots_in (take_item bytes place byte lt (get_or_default bytes place 0 byte lt)) in
    let one : dots_in (take place bytes ++ byte ∷ []) ≡ dots_in (take place bytes) + ((if byte == 46 then 1 else 0) + 0) =
    dots_append (take place bytes) (byte ∷ []) in
    omega (arith, more, one)

-- a count that goes up by one at most stays behind its place
pub step_small : (count place next : ℕ) (b : Bool) → next ≡ count + (if b then 1 else 0) → count ≤ place → next ≤ place + 1
step_small count place next true is le = omega (arith, is, le)
step_small count place next false is le = omega (arith, is, le)
