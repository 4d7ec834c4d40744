-- Fronts of a text, and how many dots they have, the longest first.
use Rattle.std.proofs.Common.{◌≡◌, ℕ, zero, suc, ◌<◌, ◌≤◌, List, [], ◌∷◌, ◌++◌, map, length, take, get_or, sym, ◌∙◌, ap, arith}
use Rattle.std.specs.Prelude.{reverse}
use Rattle.std.proofs.lemmas.List.{get_or-map, get_or_default, length-map, reverse-append}
use Rattle.module_resolver.specs.steps.Cuts.{cut_at, Falls}
use Rattle.module_resolver.specs.NameDots.{dots_in}

-- none of these is above a number
abbrev pub AreUpTo : ℕ → List ℕ → Type 0
AreUpTo most counts = (k : ℕ) → k < length counts → get_or counts k 0 ≤ most

pub falls_more : (most : ℕ) (counts : List ℕ) → AreUpTo most counts → Falls counts → Falls (most ∷ counts)
falls_more most counts up falls zero zero le lt = omega arith
falls_more most counts up falls zero (suc j) le lt = up j (omega (arith, lt))
falls_more most counts up falls (suc i) zero le lt = absurd (let bad : ⊥ = omega (arith, le) in bad)
falls_more most counts up falls (suc i) (suc j) le lt = falls i j (omega (arith, le)) (omega (arith, lt))

pub up_more : (most next : ℕ) (counts : List ℕ) → most ≤ next → AreUpTo most counts → AreUpTo next (most ∷ counts)
up_more most next counts le up zero lt = le
up_more most next counts le up (suc k) lt = let here = up k (omega (arith, lt)) in omega (arith, here, le)

pub turned : (counts : List ℕ) (last : ℕ) → reverse (counts ++ last ∷ []) ≡ last ∷ reverse counts
turned counts last = reverse-append counts (last ∷ [])

-- as many counts as places
pub many_of : (text ends dots : List ℕ) → map dots_in (cut_at text ends) ≡ dots → length ends ≡ length dots
many_of text ends dots are =
    sym (length-map ends (λ (end : ℕ). take end text))
    ∙ (sym (length-map (cut_at text ends) dots_in) ∙ ap (λ (ns : List ℕ). length ns) are)

-- as many counts as fronts
pub as_many : (fronts : List (List ℕ)) (dots : List ℕ) → map dots_in fronts ≡ dots → length fronts ≡ length dots
as_many fronts dots are = sym (length-map fronts dots_in) ∙ ap (λ (ns : List ℕ). length ns) are

-- how many dots a front has
pub front_dots : (fronts : List (List ℕ)) (dots : List ℕ) (k : ℕ) → map dots_in fronts ≡ dots → k < length fronts
    → dots_in (get_or fronts k []) ≡ get_or dots k 0
front_dots fronts dots k are lt = sym (get_or-map dots_in fronts k [] 0 lt) ∙ ap (λ (ns : List ℕ). get_or ns k 0) are

-- a later front has no more dots
pub falls_fronts : (fronts : List (List ℕ)) (dots : List ℕ) (at number k : ℕ) → map dots_in fronts ≡ dots → Falls dots
    → at ≡ get_or dots number at → number ≤ k → k < length fronts
    → dots_in (get_or fronts k []) ≤ at
falls_fronts fronts dots at number k are falls read le lt =
    let many = as_many fronts dots are in
    let there : k < length dots = omega (arith, many, lt) in
    let here : number < length dots = omega (arith, there, le) in
    let one = front_dots fronts dots k are lt in
    let two : at ≡ get_or dots number 0 = read ∙ get_or_default dots number at 0 here in
    let less = falls number k le there in
    omega (arith, one, two, less)
