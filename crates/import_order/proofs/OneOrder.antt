-- Files have one order or one refusal.
use Rattle.std.proofs.Common.{◌≡◌, ℕ, zero, suc, ◌+◌, ◌<◌, ◌≤◌, List, [], ◌∷◌, ◌++◌, length, take, drop, get_or, refl, sym, ◌∙◌, ap, subst, inl, inr, arith}
use Rattle.std.specs.Prelude.{Bool, false, not, ◌&&◌, slice_get, option_and_then}
use Rattle.std.proofs.lemmas.Bool.{cases_order}
use Rattle.std.proofs.lemmas.List.{take_all, take_more_same, length_push, get_or_append_left, get_or_push, ext_get_or}
use Rattle.std.proofs.lemmas.Option.{same_Some, none-some}
use Rattle.mojom_files.specs.declared.named_file.NamedFile.{NamedFile}
use Rattle.mojom_files.specs.Causes.{Cause}
use Rattle.mojom_files.specs.Causes.{CircularImport}
use Rattle.mojom_files.specs.declared.refusal.Refusal.{Refusal}
use Rattle.import_order.specs.Imports.{has, all_files, first_left, import_left, is_free, next_file, IsTakenInOrder, IsTakenWhole, IsOrder, IsWalk, IsCircle}
use Rattle.import_order.specs.Order.{all_imports, file_names, names_at, import_place, LeadsOnAt, IsCircular, IsOrdered, IsDisordered, OneOrder}
use Rattle.import_order.proofs.Firsts.{find_nowhere}
use Rattle.import_order.proofs.Walks.{nowhere}

same_front : (imports : List (List ℕ)) (one other : List ℕ)
    → IsTakenInOrder imports one → IsTakenInOrder imports other → (k : ℕ) → k ≤ length one → k ≤ length other
    → take k one ≡ take k other
same_front imports one other are also zero le most = refl
same_front imports one other are also (suc k) le most =
    let before = same_front imports one other are also k (omega (arith, le)) (omega (arith, most)) in
    let here =
    same_Some (get_or one k 0) (get_or other k 0)
    (sym (are k (omega (arith, le))) ∙ (ap (next_file imports) before ∙ also k (omega (arith, most)))) in
    let e : suc k ≡ k + 1 = omega arith in
    rw e (take_more_same one other k 0 (omega (arith, le)) (omega (arith, most)) before here)

no_longer : (imports : List (List ℕ)) (one other : List ℕ) → IsTakenWhole imports one → IsTakenInOrder imports other → length one < length other → ⊥
no_longer imports one other whole also lt =
    let front =
    sym (same_front imports one other whole.in_order also (length one) (omega arith) (omega (arith, lt)))
    ∙ take_all (length one) one (omega arith) in
    none-some (get_or other (length one) 0) (sym whole.none_next ∙ (ap (next_file imports) (sym front) ∙ also (length one) lt))

pub one_taken : (imports : List (List ℕ)) (one other : List ℕ) → IsTakenWhole imports one → IsTakenWhole imports other → one ≡ other
one_taken imports one other whole also = elim (cases_order (length one) (length other)) [
  | inl same ↦
      sym (take_all (length one) one (omega arith))
      ∙ (same_front imports one other whole.in_order also.in_order (length one) (omega arith) (omega (arith, same))
      ∙ take_all (length one) other (omega (arith, same)))
  | inr apart ↦ elim apart [
    | inl less ↦ absurd (no_longer imports one other whole also.in_order less)
    | inr more ↦ absurd (no_longer imports other one also whole.in_order more)
  ]
]

not_free : (b c : Bool) → b ≡ false → (b && c) ≡ false
not_free b c is = ap (λ (a : Bool). a && c) is

pub order_whole : (imports : List (List ℕ)) (order : List ℕ) → IsOrder imports order → IsTakenWhole imports order
order_whole imports order is = record {
  in_order = is.in_order;
  none_next =
      find_nowhere (is_free imports order) (length imports)
      (λ k lt. not_free (not (has order k)) _ (nowhere (λ (f : ℕ). not (has order f)) (length imports) is.none_left k lt));
}

same_walk : (imports : List (List ℕ)) (taken one other : List ℕ)
    → IsWalk imports taken one → IsWalk imports taken other → (k : ℕ) → k < length one → k < length other
    → get_or one k 0 ≡ get_or other k 0
same_walk imports taken one other walk also zero lt less = same_Some (get_or one 0 0) (get_or other 0 0) (sym walk.begins ∙ also.begins)
same_walk imports taken one other walk also (suc k) lt less =
    let before = same_walk imports taken one other walk also k (omega (arith, lt)) (omega (arith, less)) in
    let e : suc k ≡ k + 1 = omega arith in
    rw e
    (same_Some (get_or one (k + 1) 0) (get_or other (k + 1) 0)
    (sym (walk.goes_on k (omega (arith, lt))) ∙ (ap (import_left imports taken) before ∙ also.goes_on k (omega (arith, less)))))

-- two walks agree up to where the shorter one comes back
agree : (imports : List (List ℕ)) (taken one other : List ℕ) (x y : ℕ)
    → IsWalk imports taken (one ++ x ∷ []) → IsWalk imports taken (other ++ y ∷ []) → (k : ℕ) → k < length one
    → k < length other
    → get_or one k 0 ≡ get_or other k 0
agree imports taken one other x y walk also k lt less =
    let long = length_push one x in
    let wide = length_push other y in
    sym (get_or_append_left one (x ∷ []) 0 k lt)
    ∙ (same_walk imports taken (one ++ x ∷ []) (other ++ y ∷ []) walk also k (omega (arith, lt, long)) (omega (arith, less, wide))
    ∙ get_or_append_left other (y ∷ []) 0 k less)

-- where the shorter walk comes back, the longer one is already where it was
back : (imports : List (List ℕ)) (taken one other : List ℕ) (x y : ℕ)
    → IsWalk imports taken (one ++ x ∷ []) → IsWalk imports taken (other ++ y ∷ []) → length one < length other
    → x ≡ get_or other (length one) 0
back imports taken one other x y walk also less =
    let long = length_push one x in
    let wide = length_push other y in
    sym (get_or_push one x 0 (length one) refl)
    ∙ (same_walk imports taken (one ++ x ∷ []) (other ++ y ∷ []) walk also (length one) (omega (arith, long)) (omega (arith, less, wide))
    ∙ get_or_append_left other (y ∷ []) 0 (length one) less)

not_shorter : (imports : List (List ℕ)) (taken one other : List ℕ) (first second : ℕ)
    → IsCircle imports taken one first → IsCircle imports taken other second → length one < length other
    → ⊥
not_shorter imports taken one other first second circle also less =
    let on = circle.on_path in
    let here = agree imports taken one other (get_or one first 0) (get_or other second 0) circle.walk also.walk first on (omega (arith, on, less)) in
    also.distinct first (length one) on less (sym here ∙ back imports taken one other (get_or one first 0) (get_or other second 0) circle.walk also.walk less)

same_length : (imports : List (List ℕ)) (taken one other : List ℕ) (first second : ℕ)
    → IsCircle imports taken one first → IsCircle imports taken other second
    → length one ≡ length other
same_length imports taken one other first second circle also = elim (cases_order (length one) (length other)) [
  | inl same ↦ same
  | inr apart ↦ elim apart [
    | inl less ↦ absurd (not_shorter imports taken one other first second circle also less)
    | inr more ↦ absurd (not_shorter imports taken other one second first also circle more)
  ]
]

pub one_path : (imports : List (List ℕ)) (taken one other : List ℕ) (first second : ℕ)
    → IsCircle imports taken one first → IsCircle imports taken other second
    → one ≡ other
one_path imports taken one other first second circle also =
    let same = same_length imports taken one other first second circle also in
    ext_get_or 0 one other same
    (λ k lt. agree imports taken one other (get_or one first 0) (get_or other second 0) circle.walk also.walk k lt (omega (arith, same, lt)))

pub one_first : (imports : List (List ℕ)) (taken one other : List ℕ) (first second : ℕ)
    → IsCircle imports taken one first → IsCircle imports taken other second
    → first ≡ second
one_first imports taken one other first second circle also = elim (cases_order first second) [
  | inl same ↦ same
  | inr apart ↦ elim apart [
    | inl less ↦ absurd (circle.distinct first second less (let on = also.on_path in omega (arith, on, same)) meet)
    | inr more ↦ absurd (circle.distinct second first more circle.on_path (sym meet))
  ]
]
  where
    same : length one ≡ length other
    same = same_length imports taken one other first second circle also

    path : other ≡ one
    path = sym (one_path imports taken one other first second circle also)

    ends : get_or one first 0 ≡ get_or other second 0
    ends =
        let long = length_push one (get_or one first 0) in
        let wide = length_push other (get_or other second 0) in
        sym (get_or_push one (get_or one first 0) 0 (length one) refl)
        ∙ (same_walk imports taken (one ++ get_or one first 0 ∷ []) (other ++ get_or other second 0 ∷ []) circle.walk also.walk (length one)
        (omega (arith, long)) (omega (arith, same, wide))
        ∙ get_or_push other (get_or other second 0) 0 (length one) (sym same))

    meet : get_or one first 0 ≡ get_or one second 0
    meet = ends ∙ ap (λ (xs : List ℕ). get_or xs second 0) path

abbrev refusal_of : ℕ → ℕ → Cause → Refusal
refusal_of file at cause = record { file = file; at = at; cause = cause }

same_refusal : (one other : Refusal) → one.file ≡ other.file → one.at ≡ other.at → one.cause ≡ other.cause → one ≡ other
same_refusal one other file at cause =
    ap (λ (n : ℕ). refusal_of n one.at one.cause) file
    ∙ (ap (λ (n : ℕ). refusal_of other.file n one.cause) at ∙ ap (λ (c : Cause). refusal_of other.file other.at c) cause)

one_place : (files : List NamedFile) (taken : List ℕ) (file one other : ℕ) → LeadsOnAt files taken file one → LeadsOnAt files taken file other → one ≡ other
one_place files taken file one other leads also =
    let next = same_Some leads.next also.next (sym leads.leads ∙ also.leads) in
    same_Some one other (sym leads.place ∙ (ap (λ (n : ℕ). option_and_then (import_place (file_names files) n) (slice_get files file)) next ∙ also.place))

one_circular : (files : List NamedFile) (one other : Refusal) → IsCircular files one → IsCircular files other → one ≡ other
one_circular files one other is also =
    let taken = one_taken (all_imports files) is.taken also.taken is.whole also.whole in
    let circle = subst (λ (xs : List ℕ). IsCircle (all_imports files) xs is.path is.first) taken is.circle in
    let path = one_path (all_imports files) also.taken is.path also.path is.first also.first circle also.circle in
    let first = one_first (all_imports files) also.taken is.path also.path is.first also.first circle also.circle in
    let file : one.file ≡ other.file =
    is.file ∙ (ap (λ (xs : List ℕ). get_or xs is.first 0) path ∙ (ap (λ (n : ℕ). get_or also.path n 0) first ∙ sym also.file)) in
    let at = subst (λ (n : ℕ). LeadsOnAt files also.taken n one.at) file (subst (λ (xs : List ℕ). LeadsOnAt files xs one.file one.at) taken is.at) in
    same_refusal one other file (one_place files also.taken other.file one.at other.at at also.at)
    (is.cause
    ∙ (ap (λ (xs : List ℕ). CircularImport (names_at (file_names files) (drop is.first xs))) path
    ∙ (ap (λ (n : ℕ). CircularImport (names_at (file_names files) (drop n also.path))) first ∙ sym also.cause)))

not_whole : (files : List NamedFile) (order : List ℕ) (refusal : Refusal) → IsOrder (all_imports files) order → IsCircular files refusal → ⊥
not_whole files order refusal is circular =
    let taken = one_taken (all_imports files) circular.taken order circular.whole (order_whole (all_imports files) order is) in
    let circle = circular.circle in
    none-some _ (sym is.none_left ∙ (ap (λ (xs : List ℕ). first_left xs (all_files (all_imports files))) (sym taken) ∙ circle.walk.begins))

one_refused : (files : List NamedFile) (one other : Refusal) → IsDisordered files one → IsDisordered files other → one ≡ other
one_refused files one other (inl is) (inl also) = same_Some one other (sym is ∙ also)
one_refused files one other (inl is) (inr also) = absurd (none-some one (sym also.0 ∙ is))
one_refused files one other (inr is) (inl also) = absurd (none-some other (sym is.0 ∙ also))
one_refused files one other (inr is) (inr also) = one_circular files one other is.1 also.1

never : (files : List NamedFile) (order : List ℕ) (refusal : Refusal) → IsOrdered files order → IsDisordered files refusal → ⊥
never files order refusal is (inl refused) = none-some refusal (sym is.none ∙ refused)
never files order refusal is (inr refused) = not_whole files order refusal is.is refused.1

-- files have one order, or one refusal, and never both
pub one_order : (files : List NamedFile) → OneOrder files
one_order files = record {
  one_order = λ order other is also.
      one_taken (all_imports files) order other (order_whole (all_imports files) order is.is)
      (order_whole (all_imports files) other also.is);
  one_refusal = one_refused files;
  never_both = never files;
}
