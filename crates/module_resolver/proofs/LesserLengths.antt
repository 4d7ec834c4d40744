-- The greatest numbers of dots of full names that are not above a number.
use Rattle.std.proofs.Common.{◌≡◌, ℕ, zero, suc, ◌+◌, ◌-◌, ◌<◌, ◌≤◌, List, [], ◌∷◌, ◌++◌, length, drop}
use Rattle.std.proofs.Common.{map, get_or, refl, sym, ◌∙◌, ap, subst, inl, inr, arith, length-append, length-drop, get_or-drop, drop-drop}
use Rattle.std.specs.Prelude.{Bool, true, false, nat_lt, ◌⊎◌, Option, Some, None, is_some, if◌then◌else◌}
use Rattle.std.specs.Option.{option_or}
use Rattle.std.proofs.Math.Nat.{eq-or-lt_of_le}
use Rattle.std.proofs.lemmas.Bool.{ltb-true, ltb-false}
use Rattle.std.proofs.lemmas.List.{get_or_past, get_or_default, get_or_push, get_or_append_left, drop_all}
use Rattle.mj_base.specs.Names.{within}
use Rattle.mojom_files.specs.Refusals.{first_of}
use Rattle.module_resolver.specs.NameDots.{dots_in, IsBetween, reached}
use Rattle.module_resolver.specs.Seats.{owner, HaveDots}
use Rattle.module_resolver.specs.steps.Lengths.{IsLesser}
use Rattle.module_resolver.specs.steps.Owners.{HaveDotMarks}
use Rattle.module_resolver.specs.declared.target.Target.{Target}
use Rattle.module_resolver.proofs.DotCounts.{dots_within}
use Rattle.module_resolver.proofs.OneMore.{drop_item}

-- what is kept of the lengths before this one
pub record IsLesserTo (marks : List Bool) (lesser : List ℕ) (len last : ℕ) : Type 0 where
  pub long : length lesser ≡ len
  pub last_below : last ≤ len
  pub none : (between : ℕ) → last < between → between < len → get_or marks between false ≡ false
  pub skips : (before between : ℕ) → before < len → get_or lesser before 0 < between → between ≤ before → get_or marks between false ≡ false

-- one length more is read
pub lesser_more : (marks : List Bool) (lesser more : List ℕ) (len last next : ℕ) (mark : Bool) → len < length marks → mark ≡ get_or marks len mark
    → next ≡ (if mark then len else last) → more ≡ lesser ++ next ∷ [] → IsLesserTo marks lesser len last
    → IsLesserTo marks more (len + 1) next
lesser_more marks lesser more len last next mark lt item is pushes to = record {
  long = ap (λ (xs : List ℕ). length xs) pushes ∙ (length-append lesser (next ∷ []) ∙ ap (λ (n : ℕ). n + 1) to.long);
  last_below = next_below mark is;
  none = λ between above below. none mark is here between above below;
  skips = λ before between below above most. let le : before ≤ len = omega (arith, below) in skips before between (eq-or-lt_of_le le) above most;
}
  where
    here : mark ≡ get_or marks len false
    here = item ∙ get_or_default marks len mark false lt

    next_below : (b : Bool) → next ≡ (if b then len else last) → next ≤ len + 1
    next_below true e = omega (arith, e)
    next_below false e = let le = to.last_below in omega (arith, e, le)

    none : (b : Bool) → next ≡ (if b then len else last) → b ≡ get_or marks len false → (between : ℕ) → next < between → between < len + 1
        → get_or marks between false ≡ false
    none true e h between above below = absurd (let bad : ⊥ = omega (arith, e, above, below) in bad)
    none false e h between above below = let le : between ≤ len = omega (arith, below) in split (eq-or-lt_of_le le)
      where
        split : (between ≡ len) ⊎ (between < len) → get_or marks between false ≡ false
        split (inl same) = ap (λ (n : ℕ). get_or marks n false) same ∙ sym h
        split (inr less) = to.none between (omega (arith, e, above)) less

    skips : (before between : ℕ) → (before ≡ len) ⊎ (before < len) → get_or more before 0 < between → between ≤ before → get_or marks between false ≡ false
    skips before between (inl same) above most =
        let read : get_or more before 0 ≡ next =
        ap (λ (xs : List ℕ). get_or xs before 0) pushes ∙ get_or_push lesser next 0 before (to.long ∙ sym same) in
        none mark is here between (omega (arith, read, above)) (omega (arith, same, most))
    skips before between (inr less) above most =
        let read : get_or more before 0 ≡ get_or lesser before 0 =
        ap (λ (xs : List ℕ). get_or xs before 0) pushes
        ∙ get_or_append_left lesser (next ∷ []) 0 before (let l = to.long in omega (arith, l, less)) in
        to.skips before between less (omega (arith, read, above)) most

-- all lengths are read
pub lesser_whole : (marks : List Bool) (lesser : List ℕ) (len last : ℕ) → len ≡ length marks → IsLesserTo marks lesser len last → IsLesser marks lesser
lesser_whole marks lesser len last is to = record {
  long = to.long ∙ is;
  skips = λ before between below above most. to.skips before between (omega (arith, is, below)) above most;
}

unmarked : (marks : List Bool) (lesser : List ℕ) (n : ℕ) → IsLesser marks lesser → (len : ℕ) → reached lesser len < n → n ≤ len → get_or marks n false ≡ false
unmarked marks lesser n is len above below = go (nat_lt len (length marks)) refl
  where
    go : (b : Bool) → nat_lt len (length marks) ≡ b → get_or marks n false ≡ false
    go true lt =
        let less : len < length marks = ltb-true len (length marks) lt in
        let long = is.long in
        let there : len < length lesser = omega (arith, less, long) in
        let read : reached lesser len ≡ get_or lesser len 0 = get_or_default lesser len (length lesser) 0 there in
        is.skips len n less (omega (arith, read, above)) below
    go false ge =
        let past : length marks ≤ len = ltb-false len (length marks) ge in
        let long = is.long in
        let read : reached lesser len ≡ length lesser = get_or_past lesser len (length lesser) (omega (arith, past, long)) in
        get_or_past marks n false (omega (arith, read, above, long))

-- nothing has a name of as many dots as stand between those that are kept
pub have_dots : (marks : List Bool) (lesser : List ℕ) (owners : List ℕ → Option (List Target)) → HaveDotMarks marks owners → IsLesser marks lesser
    → HaveDots lesser owners
have_dots marks lesser owners have is name between =
    have name (unmarked marks lesser (dots_in name) is between.len between.above between.below)

-- where nothing has a name, no owner of it is seen
none_seen : (owners : List ℕ → Option (List Target)) (seen : ℕ → Bool) (full : List ℕ) → owners full ≡ None → owner owners seen full ≡ None
none_seen owners seen full none = rw none refl

-- nothing has a name in another where as many dots stand between those of full names
pub undotted : (owners : List ℕ → Option (List Target)) (seen : ℕ → Bool) (dots outer name : List ℕ) (count : ℕ) → count ≡ dots_in name
    → HaveDots dots owners → IsBetween dots (dots_in outer + count + 1)
    → owner owners seen (within outer name) ≡ None
undotted owners seen dots outer name count is have between =
    let many : dots_in outer + count + 1 ≡ dots_in (within outer name) = ap (λ (n : ℕ). dots_in outer + n + 1) is ∙ sym (dots_within outer name) in
    none_seen owners seen (within outer name) (have (within outer name) (subst (IsBetween dots) many between))

-- fronts in which nothing is found are left out
pub left_out : {B : Type 0} (look : List ℕ → Option B) (full : List ℕ → List ℕ) (fronts rest : List (List ℕ)) (count : ℕ) → count ≤ length fronts
    → ((k : ℕ) → k < count → look (full (get_or fronts k [])) ≡ None)
    → first_of look (map full fronts ++ rest) ≡ first_of look (map full (drop count fronts) ++ rest)
left_out look full fronts rest zero le none = refl
left_out look full [] rest (suc count) le none = absurd (let bad : ⊥ = omega (arith, le) in bad)
left_out look full (front ∷ fronts) rest (suc count) le none =
    rw (none 0 (omega arith)) (left_out look full fronts rest count (omega (arith, le)) (λ k less. none (suc k) (omega (arith, less))))

-- the look-up goes on at a later front
pub leap : {B : Type 0} (look : List ℕ → Option B) (full : List ℕ → List ℕ) (fronts rest : List (List ℕ)) (number next : ℕ)
    → number ≤ next → next ≤ length fronts → ((k : ℕ) → number ≤ k → k < next → look (full (get_or fronts k [])) ≡ None)
    → first_of look (map full (drop number fronts) ++ rest) ≡ first_of look (map full (drop next fronts) ++ rest)
leap look full fronts rest number next le most none =
    let long = length-drop number fronts in
    let there : number + (next - number) ≡ next = omega (arith, le) in
    left_out look full (drop number fronts) rest (next - number) (omega (arith, long, le, most))
    (λ k less. ap (λ (front : List ℕ). look (full front)) (get_or-drop number fronts k []) ∙ none (number + k) (omega arith) (omega (arith, less, le)))
    ∙ ap (λ (xs : List (List ℕ)). first_of look (map full xs ++ rest)) (drop-drop (next - number) number fronts ∙ ap (λ (n : ℕ). drop n fronts) there)

-- what is found in a front, or else behind it
pub here_or_behind : {B : Type 0} (look : List ℕ → Option B) (full : List ℕ → List ℕ) (fronts rest : List (List ℕ)) (next : ℕ) → next < length fronts
    → first_of look (map full (drop next fronts) ++ rest)
    ≡ option_or (look (full (get_or fronts next []))) (first_of look (map full (drop (next + 1) fronts) ++ rest))
here_or_behind look full fronts rest next lt =
    ap (λ (xs : List (List ℕ)). first_of look (map full xs ++ rest))
    (drop_item fronts next (get_or fronts next []) lt (get_or_default fronts next [] (get_or fronts next []) lt))

-- nothing is found in any front that is left
pub none_behind : {B : Type 0} (look : List ℕ → Option B) (full : List ℕ → List ℕ) (fronts rest : List (List ℕ)) (number : ℕ)
    → ((k : ℕ) → number ≤ k → k < length fronts → look (full (get_or fronts k [])) ≡ None)
    → first_of look (map full (drop number fronts) ++ rest) ≡ first_of look rest
none_behind look full fronts rest number none = go (nat_lt number (length fronts)) refl
  where
    go : (b : Bool) → nat_lt number (length fronts) ≡ b → first_of look (map full (drop number fronts) ++ rest) ≡ first_of look rest
    go true lt =
        let less : number < length fronts = ltb-true number (length fronts) lt in
        leap look full fronts rest number (length fronts) (omega (arith, less)) (omega arith) none
        ∙ ap (λ (xs : List (List ℕ)). first_of look (map full xs ++ rest)) (drop_all (length fronts) fronts (omega arith))
    go false ge =
        ap (λ (xs : List (List ℕ)). first_of look (map full xs ++ rest)) (drop_all number fronts (ltb-false number (length fronts) ge))

or_some : {B : Type 0} (found later : Option B) → is_some found ≡ true → option_or found later ≡ found
or_some None later is = absurd (cc)
or_some (Some x) later is = refl

or_later : {B : Type 0} (found later : Option B) → is_some found ≡ false → option_or found later ≡ later
or_later None later is = refl
or_later (Some x) later is = absurd (cc)

or_none : {B : Type 0} (found : Option B) → option_or found None ≡ found
or_none None = refl
or_none (Some x) = refl

-- what is found in the next front is the answer
pub found_at : {B : Type 0} (look : List ℕ → Option B) (full : List ℕ → List ℕ) (fronts rest : List (List ℕ)) (number next : ℕ) (front : List ℕ)
    → (all found : Option B) → all ≡ first_of look (map full (drop number fronts) ++ rest) → number ≤ next → next < length fronts
    → ((k : ℕ) → number ≤ k → k < next → look (full (get_or fronts k [])) ≡ None)
    → found ≡ look (full front) → front ≡ get_or fronts next [] → is_some found ≡ true
    → found ≡ all
found_at {B} look full fronts rest number next front all found before le lt none is at some =
    let behind = first_of look (map full (drop (next + 1) fronts) ++ rest) in
    let here : look (full (get_or fronts next [])) ≡ found = ap (λ (t : List ℕ). look (full t)) (sym at) ∙ sym is in
    sym (before ∙ (leap look full fronts rest number next le (omega (arith, lt)) none
    ∙ (here_or_behind look full fronts rest next lt ∙ (ap (λ (o : Option B). option_or o behind) here ∙ or_some found behind some))))

-- where nothing is found in the next front, the look-up goes on behind it
pub not_at : {B : Type 0} (look : List ℕ → Option B) (full : List ℕ → List ℕ) (fronts rest : List (List ℕ)) (number next : ℕ) (front : List ℕ)
    → (all found : Option B) → all ≡ first_of look (map full (drop number fronts) ++ rest) → number ≤ next → next < length fronts
    → ((k : ℕ) → number ≤ k → k < next → look (full (get_or fronts k [])) ≡ None)
    → found ≡ look (full front) → front ≡ get_or fronts next [] → is_some found ≡ false
    → all ≡ first_of look (map full (drop (next + 1) fronts) ++ rest)
not_at {B} look full fronts rest number next front all found before le lt none is at some =
    let behind = first_of look (map full (drop (next + 1) fronts) ++ rest) in
    let here : look (full (get_or fronts next [])) ≡ found = ap (λ (t : List ℕ). look (full t)) (sym at) ∙ sym is in
    before ∙ (leap look full fronts rest number next le (omega (arith, lt)) none
    ∙ (here_or_behind look full fronts rest next lt ∙ (ap (λ (o : Option B). option_or o behind) here ∙ or_later found behind some)))

-- where no front is left, the name stands alone
pub alone : {B : Type 0} (look : List ℕ → Option B) (full : List ℕ → List ℕ) (fronts : List (List ℕ)) (name : List ℕ) (number : ℕ) (all : Option B)
    → all ≡ first_of look (map full (drop number fronts) ++ name ∷ [])
    → ((k : ℕ) → number ≤ k → k < length fronts → look (full (get_or fronts k [])) ≡ None)
    → look name ≡ all
alone look full fronts name number all before none =
    sym (before ∙ (none_behind look full fronts (name ∷ []) number none ∙ or_none (look name)))
