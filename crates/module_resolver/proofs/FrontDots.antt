-- How many dots the fronts of a name have.
use Rattle.std.proofs.Common.{◌≡◌, ℕ, ◌+◌, ◌-◌, ◌<◌, ◌≤◌, List, [], ◌∷◌, ◌++◌, map, length, take, drop, get_or, refl, sym, ◌∙◌, ap, subst, arith}
use Rattle.std.specs.Prelude.{reverse}
use Rattle.std.proofs.Math.Seq.{take-length}
use Rattle.std.proofs.lemmas.List.{get_or_default, map-append}
use Rattle.mojom_ast.specs.declared.names.Identifier.{Identifier}
use Rattle.mj_base.specs.Names.{within}
use Rattle.module_resolver.specs.NamesOf.{texts_from, fronts_of}
use Rattle.module_resolver.specs.steps.Cuts.{Falls}
use Rattle.module_resolver.specs.NameDots.{dots_in}
use Rattle.module_resolver.proofs.OneMore.{take_item, map_reverse}
use Rattle.module_resolver.proofs.DotCounts.{dots_within}
use Rattle.module_resolver.proofs.Held.{first_text, next_text}
use Rattle.module_resolver.proofs.Falls.{AreUpTo, falls_more, up_more, turned}

no_falls : Falls []
no_falls i j le lt = absurd (let bad : ⊥ = omega (arith, lt) in bad)

no_up : (most : ℕ) → AreUpTo most []
no_up most k lt = absurd (let bad : ⊥ = omega (arith, lt) in bad)

take_none : {A : Type 0} (xs : List A) → take 0 xs ≡ []
take_none [] = refl
take_none (x ∷ xs) = refl

-- before the first part
pub begun : (text : List ℕ) (rest : List Identifier) (count : ℕ) (dots : List ℕ) → dots ≡ [] → count ≡ dots_in text
    → (map dots_in (take 0 (texts_from text rest)) ≡ dots)
    × ((count ≡ dots_in (get_or (texts_from text rest) 0 [])) × (Falls (reverse dots) × AreUpTo count (reverse dots)))
begun text rest count dots none is = (
  ap (map dots_in) (take_none (texts_from text rest)) ∙ sym none,
  (
    is ∙ ap dots_in (sym (first_text text rest)),
    (subst (λ (ns : List ℕ). Falls (reverse ns)) (sym none) no_falls, subst (λ (ns : List ℕ). AreUpTo count (reverse ns)) (sym none) (no_up count)),
  ),
)

-- one front more
pub one_front : (texts : List (List ℕ)) (i count : ℕ) (dots more : List ℕ) → i < length texts → count ≡ dots_in (get_or texts i [])
    → map dots_in (take i texts) ≡ dots → more ≡ dots ++ count ∷ []
    → map dots_in (take (i + 1) texts) ≡ more
one_front texts i count dots more lt is before pushed =
    let front = get_or texts i [] in
    ap (map dots_in) (take_item texts i front lt (get_or_default texts i [] front lt))
    ∙ (map-append dots_in (take i texts) (front ∷ [])
    ∙ (ap (λ (ns : List ℕ). ns ++ dots_in front ∷ []) before ∙ (ap (λ (n : ℕ). dots ++ n ∷ []) (sym is) ∙ sym pushed)))

-- the dots of the next front
pub next_front : (text : List ℕ) (rest : List Identifier) (i : ℕ) (part : Identifier) (count inner next : ℕ) → i < length rest → part ≡ get_or rest i part
    → count ≡ dots_in (get_or (texts_from text rest) i []) → inner ≡ dots_in part.text → next ≡ count + inner + 1
    → next ≡ dots_in (get_or (texts_from text rest) (i + 1) [])
next_front text rest i part count inner next lt item is also sum =
    let front = get_or (texts_from text rest) i [] in
    let whole = dots_within front part.text in
    let now : dots_in (get_or (texts_from text rest) (i + 1) []) ≡ dots_in (within front part.text) = ap dots_in (next_text text rest i part lt item) in
    omega (arith, whole, now, is, also, sum)

-- with the next front, none has more dots than one that is longer
pub fall_on : (count next inner : ℕ) (dots more : List ℕ) → more ≡ dots ++ count ∷ [] → next ≡ count + inner + 1 → Falls (reverse dots)
    → AreUpTo count (reverse dots)
    → Falls (reverse more) × AreUpTo next (reverse more)
fall_on count next inner dots more pushed sum falls up =
    let turn : reverse more ≡ count ∷ reverse dots = ap reverse pushed ∙ turned dots count in (
      subst Falls (sym turn) (falls_more count (reverse dots) up falls),
      subst (AreUpTo next) (sym turn) (up_more count next (reverse dots) (omega (arith, sum)) up),
    )

-- the dots of the fronts, the longest first
pub dots_turned : (parts : List Identifier) (first : Identifier) (dots : List ℕ) → 1 ≤ length parts → first ≡ get_or parts 0 first
    → map dots_in (texts_from first.text (take (length parts - 1) (drop 1 parts))) ≡ dots
    → map dots_in (fronts_of parts) ≡ reverse dots
dots_turned [] first dots some is h = absurd (let bad : ⊥ = omega (arith, some) in bad)
dots_turned (part ∷ parts) first dots some is h =
    let e : length (part ∷ parts) - 1 ≡ length parts = omega arith in
    let rest : take (length (part ∷ parts) - 1) parts ≡ parts = ap (λ (n : ℕ). take n parts) e ∙ take-length parts in
    let texts : texts_from part.text parts ≡ texts_from first.text (take (length (part ∷ parts) - 1) parts) =
    ap (λ (p : Identifier). texts_from p.text parts) (sym is) ∙ ap (texts_from first.text) (sym rest) in
    map_reverse dots_in (texts_from part.text parts) ∙ (ap (λ (ts : List (List ℕ)). reverse (map dots_in ts)) texts ∙ ap reverse h)
