-- The next `*/`.
use Rattle.std.proofs.Common.{◌≡◌, ℕ, suc, ◌+◌, ◌-◌, ◌<◌, List, [], ◌∷◌, length, take, drop, get_or, false, Option, Some, None, nat_eq, codes, refl, sym, ap, ◌∙◌, subst, arith, add-one, drop-cons}
use Rattle.std.specs.List.{starts_with}
use Rattle.std.proofs.lemmas.List.{take_all, length-drop}
use Rattle.std.specs.Option.{option_map}
use Rattle.mojom_lexer.specs.steps.Scans.{before_close}

-- all but the first
abbrev pub behind_first : List ℕ → List ℕ
behind_first [] = []
behind_first (c ∷ cs) = cs

not_here : (ds cs : List ℕ) (c : ℕ) → ds ≡ c ∷ cs → starts_with nat_eq ds (codes "*/") ≡ false → before_close ds ≡ option_map suc (before_close cs)
not_here [] cs c e h = absurd (cc)
not_here (d ∷ ds) cs c e h = let same : ds ≡ cs = ap behind_first e in rw (h, same) refl

later : (i : ℕ) (found : Option ℕ) → option_map (λ n. i + n) (option_map suc found) ≡ option_map (λ n. (i + 1) + n) found
later i (Some n) = ap Some (let e : i + suc n ≡ (i + 1) + n = omega arith in e)
later i None = refl

-- where no `*/` stands, the search goes on one byte later
pub close_on : (bs : List ℕ) (i : ℕ) (total : Option ℕ)
    → i < length bs → starts_with nat_eq (take (length bs - i) (drop i bs)) (codes "*/") ≡ false
    → option_map (λ n. i + n) (before_close (drop i bs)) ≡ total → option_map (λ n. (i + 1) + n) (before_close (drop (i + 1) bs)) ≡ total
close_on bs i total lt h so_far =
    let cut : drop i bs ≡ get_or bs i 0 ∷ drop (i + 1) bs = rw (add-one, drop-cons bs i 0) refl in
    let all : take (length bs - i) (drop i bs) ≡ drop i bs = take_all (length bs - i) (drop i bs) (omega (arith, length-drop i bs)) in
    let off : starts_with nat_eq (drop i bs) (codes "*/") ≡ false = subst (λ (ds : List ℕ). starts_with nat_eq ds (codes "*/") ≡ false) all h in
    let here : before_close (drop i bs) ≡ option_map suc (before_close (drop (i + 1) bs)) = not_here (drop i bs) (drop (i + 1) bs) (get_or bs i 0) cut off in
    sym (later i (before_close (drop (i + 1) bs))) ∙ sym (ap (λ (found : Option ℕ). option_map (λ n. i + n) found) here) ∙ so_far
