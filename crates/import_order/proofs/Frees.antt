-- Which files are free, between one file taken and the next.
use Rattle.std.proofs.Common.{◌≡◌, ℕ, ◌+◌, ◌<◌, ◌≤◌, List, [], ◌∷◌, ◌++◌, map, length, get_or, refl, sym, ◌∙◌, ap, subst, inl, inr, arith}
use Rattle.std.specs.Prelude.{Bool, true, false, not, ◌&&◌, ◌||◌, ◌==◌, ◌⊎◌, nat_lt, Some, None, is_none}
use Rattle.std.specs.List.{All}
use Rattle.std.proofs.lemmas.Bool.{eq-eqb, ne_eqb, eqb-true, eqb-false, lt-ltb, ltb-true, ltb-false, cases_eq, cases_Bool, false≢true, and_parts}
use Rattle.std.proofs.lemmas.List.{length-map}
use Rattle.import_order.specs.Imports.{has, import_left, is_free, next_file}
use Rattle.import_order.specs.steps.Taking.{times, imports_left, AreImporters}
use Rattle.import_order.proofs.Firsts.{find_found, find_nowhere}
use Rattle.import_order.proofs.Marks.{has_itself, has_other}
use Rattle.import_order.proofs.Walks.{absent}
use Rattle.import_order.proofs.Counts.{and_false, none_left, less_left, all_many, length_at, has_times, importer_below}

-- what is known between one file taken and the next
pub record IsCounted (imports : List (List ℕ)) (taken left free : List ℕ) : Type 0 where
  pub long : length left ≡ length imports
  pub counts : (k : ℕ) → get_or left k 0 ≡ imports_left imports taken k
  pub frees : (k : ℕ) → has free k ≡ (nat_lt k (length imports) && is_free imports taken k)
  pub done : (k : ℕ) → has taken k ≡ true → imports_left imports taken k ≡ 0

-- what is known before a file is taken
pub counted_first : (imports : List (List ℕ)) (left free : List ℕ)
    → left ≡ map (λ (xs : List ℕ). length xs) imports
    → ((k : ℕ) → has free k ≡ (nat_lt k (length imports) && (length (get_or imports k []) == 0)))
    → IsCounted imports [] left free
counted_first imports left free is frees = record {
  long = ap (λ (xs : List ℕ). length xs) is ∙ length-map imports (λ (xs : List ℕ). length xs);
  counts = λ k. ap (λ (xs : List ℕ). get_or xs k 0) is ∙ (length_at imports k ∙ sym (all_many (get_or imports k [])));
  frees = λ k.
      frees k
      ∙ ap (λ (b : Bool). nat_lt k (length imports) && b)
      (sym (none_left [] (get_or imports k []) ∙ ap (λ (n : ℕ). n == 0) (all_many (get_or imports k []))));
  done = λ k is. absurd (false≢true is);
}

not_in : (file k : ℕ) (rest : List ℕ) → All (λ (k : ℕ). file < k) rest → k ≤ file → has rest k ≡ false
not_in file k rest above le = elim (cases_Bool (has rest k)) [
  | inl is ↦ absurd (absent rest k is (λ i lt e. let more = above i 0 lt in omega (arith, more, e, le)))
  | inr is ↦ is
]

free_parts : (imports : List (List ℕ)) (taken left free rest : List ℕ) (file : ℕ)
    → IsCounted imports taken left free → free ≡ file ∷ rest
    → (file < length imports) × (is_free imports taken file ≡ true)
free_parts imports taken left free rest file counted is =
    let there : has free file ≡ true = ap (λ (xs : List ℕ). has xs file) is ∙ ap (λ (b : Bool). b || has rest file) (eq-eqb file file refl) in
    let parts = and_parts (nat_lt file (length imports)) (is_free imports taken file) (sym (counted.frees file) ∙ there) in
    (ltb-true file (length imports) parts.0, parts.1)

both : (l f : Bool) → (l && f) ≡ false → l ≡ true → f ≡ false
both true f none is = none
both false f none is = absurd (false≢true is)

-- the least free file is the next one
pub free_next : (imports : List (List ℕ)) (taken left free rest : List ℕ) (file : ℕ)
    → IsCounted imports taken left free → free ≡ file ∷ rest → All (λ (k : ℕ). file < k) rest
    → next_file imports taken ≡ Some file
free_next imports taken left free rest file counted is above =
    let parts = free_parts imports taken left free rest file counted is in
    find_found (is_free imports taken) (length imports) file parts.0
    (λ k lt.
    both (nat_lt k (length imports)) (is_free imports taken k)
    (sym (counted.frees k)
    ∙ (ap (λ (xs : List ℕ). has xs k) is
    ∙ (ap (λ (b : Bool). b || has rest k) (ne_eqb file k (λ e. omega (arith, lt, e))) ∙ not_in file k rest above (omega (arith, lt)))))
    (let within = parts.0 in lt-ltb k (length imports) (omega (arith, lt, within)))) parts.1

-- where no file is free, there is no next one
pub free_none : (imports : List (List ℕ)) (taken left free : List ℕ) → IsCounted imports taken left free → free ≡ [] → next_file imports taken ≡ None
free_none imports taken left free counted is =
    find_nowhere (is_free imports taken) (length imports)
    (λ k lt.
    both (nat_lt k (length imports)) (is_free imports taken k) (sym (counted.frees k) ∙ ap (λ (xs : List ℕ). has xs k) is)
    (lt-ltb k (length imports) lt))

settle : (l a z more w r : Bool)
    → r ≡ (l && (not a && z)) → (l ≡ false → w ≡ false) → (a ≡ true → w ≡ false) → (z ≡ true → more ≡ true)
    → (z ≡ false → more ≡ true → w ≡ true)
    → (r || (more && w)) ≡ (l && (not a && more))
settle false a z more w r is within taken none some = rw (is, within refl) (and_false more)
settle true true z more w r is within taken none some = rw (is, taken refl) (and_false more)
settle true false true more w r is within taken none some = rw (is, none refl) refl
settle true false false true w r is within taken none some = rw (is, some refl refl) refl
settle true false false false w r is within taken none some = rw is refl

zero_test : (xs : List ℕ) (k : ℕ) → times k xs ≡ 0 → has xs k ≡ false
zero_test xs k zero = has_times xs k ∙ ap (λ (n : ℕ). not (n == 0)) zero

some_test : (xs : List ℕ) (k : ℕ) → (times k xs ≡ 0 → ⊥) → has xs k ≡ true
some_test xs k some = has_times xs k ∙ ap not (ne_eqb (times k xs) 0 some)

-- the count of a file is no less than how often it imports one that is not taken
pub enough : (imports importers : List (List ℕ)) (taken left free : List ℕ) (file : ℕ)
    → AreImporters imports importers → IsCounted imports taken left free → has taken file ≡ false
    → (k : ℕ) → times k (get_or importers file []) ≤ get_or left k 0
enough imports importers taken left free file are counted fresh k =
    let same = are k file in
    let less = less_left taken (get_or imports k []) file fresh in
    let was = counted.counts k in
    omega (arith, same, less, was)

pub counted_more : (imports importers : List (List ℕ)) (taken left more free rest new : List ℕ) (file : ℕ)
    → AreImporters imports importers → IsCounted imports taken left free → free ≡ file ∷ rest
    → All (λ (k : ℕ). file < k) rest → has taken file ≡ false → length more ≡ length left
    → ((k : ℕ) → get_or more k 0 + times k (get_or importers file []) ≡ get_or left k 0)
    → ((k : ℕ) → has new k ≡ (has rest k || ((get_or more k 0 == 0) && has (get_or importers file []) k)))
    → IsCounted imports (taken ++ file ∷ []) more new
counted_more imports importers taken left more free rest new file are counted is above fresh long counts frees = record {
  long = long ∙ counted.long;
  counts = now;
  frees = λ k.
      frees k
      ∙ (settled k (cases_eq file k)
      ∙ ap (λ (b : Bool). nat_lt k (length imports) && (not (has (taken ++ file ∷ []) k) && b))
      (ap (λ (n : ℕ). n == 0) (now k) ∙ sym (none_left (taken ++ file ∷ []) (get_or imports k []))));
  done = λ k set. finished k set (cases_eq file k);
}
  where
    now : (k : ℕ) → get_or more k 0 ≡ imports_left imports (taken ++ file ∷ []) k
    now k =
        let same = are k file in
        let less = less_left taken (get_or imports k []) file fresh in
        let was = counted.counts k in
        let down = counts k in
        omega (arith, same, less, was, down)

    nothing : imports_left imports taken file ≡ 0
    nothing =
        let parts = and_parts (not (has taken file)) (is_none (import_left imports taken file)) (free_parts imports taken left free rest file counted is).1 in
        eqb-true (imports_left imports taken file) 0 (sym (none_left taken (get_or imports file [])) ∙ parts.1)

    finished : (k : ℕ) → has (taken ++ file ∷ []) k ≡ true → (file ≡ k) ⊎ (file ≡ k → ⊥) → imports_left imports (taken ++ file ∷ []) k ≡ 0
    finished k set (inl same) =
        let less = less_left taken (get_or imports k []) file fresh in
        let zero = subst (λ (j : ℕ). imports_left imports taken j ≡ 0) same nothing in
        omega (arith, less, zero)
    finished k set (inr ne) =
        let less = less_left taken (get_or imports k []) file fresh in
        let zero = counted.done k (sym (has_other taken file k ne) ∙ set) in
        omega (arith, less, zero)

    outside : (k : ℕ) → nat_lt k (length imports) ≡ false → has (get_or importers file []) k ≡ false
    outside k past = elim (cases_Bool (has (get_or importers file []) k)) [
      | inl there ↦
          absurd
          (let lt = importer_below imports importers file k are there in
          let le = ltb-false k (length imports) past in
          let bad : ⊥ = omega (arith, lt, le) in
          bad)
      | inr none ↦ none
    ]

    settled : (k : ℕ)
        → (file ≡ k) ⊎ (file ≡ k → ⊥)
        → (has rest k || ((get_or more k 0 == 0) && has (get_or importers file []) k))
        ≡ (nat_lt k (length imports) && (not (has (taken ++ file ∷ []) k) && (get_or more k 0 == 0)))
    settled k (inl same) =
        let gone = not_in file k rest above (omega (arith, same)) in
        let zero = subst (λ (j : ℕ). imports_left imports taken j ≡ 0) same nothing in
        let was = counted.counts k in
        let down = counts k in
        let none = zero_test (get_or importers file []) k (omega (arith, zero, was, down)) in
        let set = subst (λ (j : ℕ). has (taken ++ file ∷ []) j ≡ true) same (has_itself taken file) in
        rw (gone, none, set) (and_false (get_or more k 0 == 0) ∙ sym (and_false (nat_lt k (length imports))))
    settled k (inr ne) =
        let down = counts k in
        let was = counted.counts k in
        let other = has_other taken file k ne in
        let kept : has rest k ≡ (nat_lt k (length imports) && (not (has taken k) && (get_or left k 0 == 0))) =
        ap (λ (b : Bool). b || has rest k) (sym (ne_eqb file k ne))
        ∙ (ap (λ (xs : List ℕ). has xs k) (sym is)
        ∙ (counted.frees k
        ∙ ap (λ (b : Bool). nat_lt k (length imports) && (not (has taken k) && b))
        (none_left taken (get_or imports k []) ∙ ap (λ (n : ℕ). n == 0) (sym was)))) in
        rw other
        (settle (nat_lt k (length imports)) (has taken k) (get_or left k 0 == 0) (get_or more k 0 == 0) (has (get_or importers file []) k) (has rest k) kept
        (λ past. outside k past)
        (λ set. let zero = counted.done k set in zero_test (get_or importers file []) k (omega (arith, zero, was, down)))
        (λ none. let zero = eqb-true (get_or left k 0) 0 none in eq-eqb (get_or more k 0) 0 (omega (arith, zero, down)))
        (λ some none.
        some_test (get_or importers file []) k
        (λ e. eqb-false (get_or left k 0) 0 some (let zero = eqb-true (get_or more k 0) 0 none in omega (arith, zero, e, down)))))

-- the same of lists that are these
pub counted_on : (imports importers : List (List ℕ)) (taken left more free rest new waiting was all : List ℕ) (file : ℕ)
    → AreImporters imports importers → IsCounted imports taken left free → free ≡ file ∷ rest
    → All (λ (k : ℕ). file < k) rest → has taken file ≡ false → waiting ≡ get_or importers file [] → was ≡ left
    → length more ≡ length was → ((k : ℕ) → get_or more k 0 + times k waiting ≡ get_or was k 0)
    → ((k : ℕ) → has new k ≡ (has rest k || ((get_or more k 0 == 0) && has waiting k))) → all ≡ more
    → IsCounted imports (taken ++ file ∷ []) all new
counted_on imports importers taken left more free rest new waiting was all file are counted is above fresh waits old long counts frees same =
    subst (λ (xs : List ℕ). IsCounted imports (taken ++ file ∷ []) xs new) (sym same)
    (counted_more imports importers taken left more free rest new file are counted is above fresh (long ∙ ap (λ (xs : List ℕ). length xs) old)
    (λ k. ap (λ (xs : List ℕ). get_or more k 0 + times k xs) (sym waits) ∙ (counts k ∙ ap (λ (xs : List ℕ). get_or xs k 0) old))
    (λ k. frees k ∙ ap (λ (xs : List ℕ). has rest k || ((get_or more k 0 == 0) && has xs k)) waits))
