-- Members whose ordinals differ.
use Rattle.std.proofs.Common.{◌≡◌, ℕ, zero, suc, List, [], ◌∷◌, ◌++◌, refl, sym, ◌∙◌, ap}
use Rattle.std.specs.Prelude.{Bool, true, false, ◌||◌, ◌==◌, if◌then◌else◌, slice_get, Some}
use Rattle.std.specs.List.{AllByRecursion}
use Rattle.std.proofs.lemmas.Bool.{eq-eqb}
use Rattle.std.proofs.lemmas.Option.{same_Some, none-some}
use Rattle.kind_scope.specs.Members.{Numbered}
use Rattle.kind_refusals.specs.OrdinalRefusals.{is_among, doubled, ordinals_of}
use Rattle.schema_laws.proofs.Quiet.{both_empty}
use Rattle.schema_laws.proofs.Each.{all_so, all_map, at_each}
use Rattle.written_laws.specs.Entries.{AreApart}

-- no two of these have one ordinal
abbrev pub AreDistinct : List Numbered → Type 0
AreDistinct [] = Unit {0}
AreDistinct (one ∷ others) = AllByRecursion (λ (other : Numbered). (one.ordinal == other.ordinal) ≡ false) others × AreDistinct others

or_parts : (a b : Bool) → (a || b) ≡ false → (a ≡ false) × (b ≡ false)
or_parts false b e = (refl, e)
or_parts true b e = absurd cc

or_both : (a b : Bool) → a ≡ false → b ≡ false → (a || b) ≡ false
or_both false b none rest = rest
or_both true b none rest = absurd cc

-- what is none of these and the last is none of these, and isn't the last
absent_parts : (before : List ℕ) (last n : ℕ) → is_among (before ++ last ∷ []) n ≡ false → (is_among before n ≡ false) × ((last == n) ≡ false)
absent_parts [] last n e = (refl, (or_parts (last == n) false e).0)
absent_parts (x ∷ xs) last n e =
    let two = or_parts (x == n) (is_among (xs ++ last ∷ []) n) e in
    let rest = absent_parts xs last n two.1 in
    (or_both (x == n) (is_among xs n) two.0 rest.0, rest.1)

none_chosen : {A : Type 0} (b : Bool) (one : A) → (if b then one ∷ [] else []) ≡ [] → b ≡ false
none_chosen false one e = refl
none_chosen true one e = absurd cc

doubled_apart : (before : List ℕ) (ones : List Numbered) → doubled before ones ≡ []
    → AllByRecursion (λ (one : Numbered). is_among before one.ordinal ≡ false) ones × AreDistinct ones
doubled_apart before [] e = (tt, tt)
doubled_apart before (one ∷ others) e =
    let parts = both_empty (if is_among before one.ordinal then one ∷ [] else []) (doubled (before ++ one.ordinal ∷ []) others) e in
    let rest = doubled_apart (before ++ one.ordinal ∷ []) others parts.1 in
    let first = none_chosen (is_among before one.ordinal) one parts.0 in
    let absent = all_so (λ (other : Numbered). is_among (before ++ one.ordinal ∷ []) other.ordinal ≡ false)
    (λ (other : Numbered). is_among before other.ordinal ≡ false)
    (λ other none. (absent_parts before one.ordinal other.ordinal none).0) others rest.0 in
    let differ = all_so (λ (other : Numbered). is_among (before ++ one.ordinal ∷ []) other.ordinal ≡ false)
    (λ (other : Numbered). (one.ordinal == other.ordinal) ≡ false)
    (λ other none. (absent_parts before one.ordinal other.ordinal none).1) others rest.0 in
    ((first, absent), (differ, rest.1))

-- where no double is refused, no two have one ordinal
pub distinct : (ones : List Numbered) → doubled [] ones ≡ [] → AreDistinct ones
distinct ones e = (doubled_apart [] ones e).1

-- the first of these is no later one
not_later : (n m : ℕ) (ns : List ℕ) (k : ℕ) → AllByRecursion (λ (other : ℕ). (n == other) ≡ false) ns → n ≡ m → slice_get ns k ≡ Some m → ⊥
not_later n m ns k differ same at =
    let other : (n == m) ≡ false = at_each (λ (other : ℕ). (n == other) ≡ false) ns k m differ at in
    let equal : (n == m) ≡ true = eq-eqb n m same in
    let bad : true ≡ false = sym equal ∙ other in
    absurd cc

-- so their ordinals stand apart
pub apart : (ones : List Numbered) → AreDistinct ones → AreApart (ordinals_of ones)
apart [] differ place other n at there = absurd (none-some n at)
apart (x ∷ xs) differ zero zero n at there = refl
apart (x ∷ xs) differ zero (suc j) n at there =
    let later = all_map (λ (m : ℕ). (x.ordinal == m) ≡ false) (λ (one : Numbered). one.ordinal) xs differ.0 in
    absurd (not_later x.ordinal n (ordinals_of xs) j later (same_Some x.ordinal n at) there)
apart (x ∷ xs) differ (suc i) zero n at there =
    let later = all_map (λ (m : ℕ). (x.ordinal == m) ≡ false) (λ (one : Numbered). one.ordinal) xs differ.0 in
    absurd (not_later x.ordinal n (ordinals_of xs) i later (same_Some x.ordinal n there) at)
apart (x ∷ xs) differ (suc i) (suc j) n at there = ap suc (apart xs differ.1 i j n at there)
