-- Of all files there is an order, or a refusal that tells why there is none.
use Rattle.std.proofs.Common.{◌≡◌, ℕ, zero, suc, ◌+◌, ◌<◌, List, [], ◌∷◌, ◌++◌, length, drop, get_or, refl, sym, ◌∙◌, ap, subst, inl, inr, arith}
use Rattle.std.specs.Prelude.{◌⊎◌, Bool, true, false, not, ◌==◌, Option, Some, None}
use Rattle.std.proofs.lemmas.Bool.{eqb-true}
use Rattle.std.proofs.lemmas.List.{length_push, get_or_default}
use Rattle.std.proofs.lemmas.List.Elements.{All-nil, All-push}
use Rattle.std.proofs.lemmas.List.Folds.{Any-from_list_any}
use Rattle.mojom_files.specs.declared.named_file.NamedFile.{NamedFile}
use Rattle.mojom_files.specs.Causes.{CircularImport}
use Rattle.mojom_files.specs.declared.refusal.Refusal.{Refusal}
use Rattle.import_order.specs.Imports.{has, AreDistinct, all_files, first_left, import_left, is_free, next_file}
use Rattle.import_order.specs.Imports.{IsTakenInOrder, IsTakenWhole, IsWalk, IsCircle}
use Rattle.import_order.specs.Order.{file_names, all_imports, import_place, names_at, given_refusal, LeadsOnAt, IsCircular, IsOrdered, IsDisordered}
use Rattle.import_order.specs.steps.Taking.{AreBelow, AreImports}
use Rattle.import_order.proofs.FileNumbers.{imports_below}
use Rattle.import_order.proofs.Leading.{as_many, place_there, leads_at}
use Rattle.import_order.proofs.Marks.{distinct_push}
use Rattle.import_order.proofs.Walks.{found_all, found_below, left_is, leads_on, walk_begins, walk_more, circle_is, taken_more, free_left}
use Rattle.const_meanings.proofs.Pigeons.{twice}

-- numbers below a limit, none of them twice
record AreDifferent (limit : ℕ) (numbers : List ℕ) : Type 0 where
  below : AreBelow limit numbers
  distinct : AreDistinct numbers

no_numbers : (limit : ℕ) → AreDifferent limit []
no_numbers limit = record {
  below = All-nil (λ (k : ℕ). k < limit);
  distinct = λ i j less lt. let bad : ⊥ = omega (arith, lt) in absurd bad;
}

one_more : (limit : ℕ) (numbers : List ℕ) (one : ℕ) → AreDifferent limit numbers → one < limit → has numbers one ≡ false
    → AreDifferent limit (numbers ++ one ∷ [])
one_more limit numbers one are lt fresh = record {
  below = All-push (λ (k : ℕ). k < limit) numbers one are.below lt;
  distinct = distinct_push numbers one fresh are.distinct;
}

-- there are no more of them than numbers below the limit
too_many : (limit : ℕ) (numbers : List ℕ) → AreDifferent limit numbers → limit < length numbers → ⊥
too_many limit numbers are more =
    let met = twice limit (λ k. get_or numbers k 0) (λ k le. are.below k 0 (omega (arith, le, more))) in
    let before = met.before in
    let within = met.within in
    are.distinct met.one met.two before (omega (arith, within, more)) met.same

-- a number that stands in a list has a place there
place_in : (numbers : List ℕ) (one : ℕ) → has numbers one ≡ true → (place : ℕ) × (place < length numbers) × (get_or numbers place 0 ≡ one)
place_in numbers one is =
    let any = Any-from_list_any (λ (other : ℕ). other == one) numbers is in
    (any.0, any.2, get_or_default numbers any.0 0 any.1 any.2 ∙ (any.3 ∙ eqb-true any.1 one any.4))

-- files are taken until there is no next one
taken_on : (imports : List (List ℕ)) (left : ℕ) (taken : List ℕ)
    → length imports < length taken + left → AreDifferent (length imports) taken → IsTakenInOrder imports taken
    → (whole : List ℕ) × IsTakenWhole imports whole
taken_on imports zero taken enough different are =
    let bad : ⊥ = too_many (length imports) taken different (omega (arith, enough)) in
    absurd bad
taken_on imports (suc left) taken enough different are =
    go (next_file imports taken) refl
    (λ one is.
    taken_on imports left (taken ++ one ∷ []) (let long = length_push taken one in omega (arith, enough, long))
    (one_more (length imports) taken one different (found_below (is_free imports taken) (length imports) one is) (free_left imports taken one is))
    (taken_more imports taken one are is))
  where
    go : (next : Option ℕ) → next_file imports taken ≡ next
        → ((one : ℕ) → next_file imports taken ≡ Some one → (whole : List ℕ) × IsTakenWhole imports whole)
        → (whole : List ℕ) × IsTakenWhole imports whole
    go None is on = (taken, record { in_order = are; none_next = is })
    go (Some one) is on = on one is

-- of all files as many are taken as can be
all_taken : (imports : List (List ℕ)) → (whole : List ℕ) × IsTakenWhole imports whole
all_taken imports =
    taken_on imports (length imports + 1) [] (omega arith) (no_numbers (length imports)) (λ k lt. let bad : ⊥ = omega (arith, lt) in absurd bad)

-- a circle whose files are left
record CircleLeft (imports : List (List ℕ)) (taken : List ℕ) : Type 0 where
  path : List ℕ
  first : ℕ
  circle : IsCircle imports taken path first
  within : get_or path first 0 < length imports
  left : has taken (get_or path first 0) ≡ false

module _ (imports : List (List ℕ)) (are : AreImports imports) (taken : List ℕ) (none_next : next_file imports taken ≡ None) where
  -- where a file leads on that is left
  record LeadsOn (file : ℕ) : Type 0 where
    next : ℕ
    leads : import_left imports taken file ≡ Some next
    within : next < length imports
    left : has taken next ≡ false

  -- where no file can be taken, each that is left leads on to one that is left
  next_on : (file : ℕ) → file < length imports → has taken file ≡ false → LeadsOn file
  next_on file within left = go (import_left imports taken file) refl
    where
      go : (next : Option ℕ) → import_left imports taken file ≡ next → LeadsOn file
      go None is = absurd (leads_on imports taken file none_next within left is)
      go (Some next) is = record {
        next = next;
        leads = is;
        within = found_all (λ (k : ℕ). k < length imports) (λ (k : ℕ). not (has taken k)) (get_or imports file []) next (are file) is;
        left = left_is taken (get_or imports file []) next is;
      }

  -- a walk that meets a file of its own has come back
  back : (path : List ℕ) (here : ℕ) → AreDifferent (length imports) path → IsWalk imports taken (path ++ here ∷ [])
      → here < length imports → has taken here ≡ false → has path here ≡ true → CircleLeft imports taken
  back path here different walk within left met =
      let place = place_in path here met in
      record {
        path = path;
        first = place.0;
        circle = circle_is imports taken path here place.0 place.1 place.2 different.distinct walk;
        within = subst (λ (k : ℕ). k < length imports) (sym place.2) within;
        left = ap (has taken) place.2 ∙ left;
      }

  -- a walk goes on until it comes back
  walked_on : (more : ℕ) (path : List ℕ) (here : ℕ) → length imports < length path + more → AreDifferent (length imports) path
      → IsWalk imports taken (path ++ here ∷ []) → here < length imports → has taken here ≡ false → CircleLeft imports taken
  walked_on zero path here enough different walk within left =
      let bad : ⊥ = too_many (length imports) path different (omega (arith, enough)) in
      absurd bad
  walked_on (suc more) path here enough different walk within left =
      go (has path here) refl
      (λ fresh to.
      walked_on more (path ++ here ∷ []) to.next (let long = length_push path here in omega (arith, enough, long))
      (one_more (length imports) path here different within fresh)
      (walk_more imports taken path here to.next walk to.leads)
      to.within to.left)
    where
      go : (met : Bool) → has path here ≡ met → (has path here ≡ false → LeadsOn here → CircleLeft imports taken) → CircleLeft imports taken
      go true met on = back path here different walk within left met
      go false fresh on = on fresh (next_on here within left)

  -- from the first file that is left
  some_circle : (from : ℕ) → first_left taken (all_files imports) ≡ Some from → CircleLeft imports taken
  some_circle from begins =
      walked_on (length imports + 1) [] from (omega arith) (no_numbers (length imports)) (walk_begins imports taken from begins)
      (found_below (λ (k : ℕ). not (has taken k)) (length imports) from begins)
      (left_is taken (all_files imports) from begins)

-- a list has an element at each of its places
element : {A : Type 0} (xs : List A) (k : ℕ) → k < length xs → (x : A) × (x ≡ get_or xs k x)
element [] k lt = let bad : ⊥ = omega (arith, lt) in absurd bad
element (x ∷ xs) zero lt = (x, refl)
element (x ∷ xs) (suc k) lt = element xs k (omega (arith, lt))

module _ (files : List NamedFile) (taken : List ℕ) (none_next : next_file (all_imports files) taken ≡ None) where
  -- the import of a file that leads on has a place
  some_place : (file : ℕ) → file < length (all_imports files) → has taken file ≡ false → (at : ℕ) × LeadsOnAt files taken file at
  some_place file within left = go (import_place (file_names files) to.next one.0) refl
    where
      to : LeadsOn (all_imports files) (imports_below files) taken none_next file
      to = next_on (all_imports files) (imports_below files) taken none_next file within left

      one : (one : NamedFile) × (one ≡ get_or files file one)
      one = element files file (subst (λ (n : ℕ). file < n) (as_many files (all_imports files) refl) within)

      go : (place : Option ℕ) → import_place (file_names files) to.next one.0 ≡ place → (at : ℕ) × LeadsOnAt files taken file at
      go None none = absurd (place_there files (file_names files) (all_imports files) taken file to.next one.0 refl refl within one.1 to.leads none)
      go (Some at) is = (at, leads_at files (file_names files) (all_imports files) taken file to.next at one.0 refl refl within one.1 to.leads (sym is))

-- where files are left none of which can be taken, their imports go in a circle
some_circular : (files : List NamedFile) (taken : List ℕ) (from : ℕ) → IsTakenWhole (all_imports files) taken
    → first_left taken (all_files (all_imports files)) ≡ Some from → (refusal : Refusal) × IsCircular files refusal
some_circular files taken from whole begins =
    let found = some_circle (all_imports files) (imports_below files) taken whole.none_next from begins in
    let file = get_or found.path found.first 0 in
    let place = some_place files taken whole.none_next file found.within found.left in
    let refusal : Refusal = record { file = file; at = place.0; cause = CircularImport (names_at (file_names files) (drop found.first found.path)) } in (
      refusal,
      record {
        taken = taken;
        whole = whole;
        path = found.path;
        first = found.first;
        circle = found.circle;
        file = refl;
        at = place.1;
        cause = refl;
      },
    )

-- where nothing is refused of what was given, all files are taken, or some are left
ordered_or : (files : List NamedFile) (taken : List ℕ) (left : Option ℕ) → given_refusal files ≡ None → IsTakenWhole (all_imports files) taken
    → first_left taken (all_files (all_imports files)) ≡ left
    → ((order : List ℕ) × IsOrdered files order) ⊎ ((refusal : Refusal) × IsDisordered files refusal)
ordered_or files taken None given whole is = inl (taken, record { none = given; is = record { in_order = whole.in_order; none_left = is } })
ordered_or files taken (Some from) given whole is =
    let circular = some_circular files taken from whole is in
    inr (circular.0, inr (given, circular.1))

given_or : (files : List NamedFile) (given : Option Refusal) → given_refusal files ≡ given
    → ((order : List ℕ) × IsOrdered files order) ⊎ ((refusal : Refusal) × IsDisordered files refusal)
given_or files (Some refusal) is = inr (refusal, inl is)
given_or files None is =
    let taken = all_taken (all_imports files) in
    ordered_or files taken.0 (first_left taken.0 (all_files (all_imports files))) is taken.1 refl

-- files have an order, or a refusal
pub some_order : (files : List NamedFile) → ((order : List ℕ) × IsOrdered files order) ⊎ ((refusal : Refusal) × IsDisordered files refusal)
some_order files = given_or files (given_refusal files) refl
