-- How many numbers of a list pass a test, and which files are free where the imports left are counted.
use Rattle.std.proofs.Common.{◌≡◌, ℕ, zero, suc, ◌+◌, ◌<◌, ◌≤◌, List, [], ◌∷◌, ◌++◌, map, length, take, drop, get_or, refl, sym, ◌∙◌, ap, subst, inl, inr, arith}
use Rattle.std.specs.Prelude.{Bool, true, false, not, ◌&&◌, ◌||◌, ◌==◌, cond, if◌then◌else◌, nat_lt, Option, Some, is_none}
use Rattle.std.specs.Prelude.{Result, Ok, Err, OnOk}
use Rattle.std.specs.Result.{is_err}
use Rattle.std.specs.Ordering.{nat_cmp, match_ordering}
use Rattle.std.specs.declared.cmp.Ordering.TheVariants.{Less, Equal, Greater}
use Rattle.std.specs.BTreeSet.{insert_key}
use Rattle.std.proofs.Math.ListN.{set}
use Rattle.std.proofs.lemmas.Bool.{eq-eqb, ne_eqb, eqb-true, lt-ltb, le-ltb, cases_eq, cases_lt, false≢true}
use Rattle.std.proofs.lemmas.List.{take_more, take-append-drop, get_or-set_same, get_or-set_other, get_or_past}
use Rattle.std.proofs.lemmas.List.Elements.{All-from_get_or}
use Rattle.import_order.specs.Imports.{has, first_left}
use Rattle.import_order.specs.steps.Taking.{how_many, times, AreImporters, AreBelow}
use Rattle.import_order.proofs.Marks.{or_false, has_push, has_itself, has_other, has_at}

or_comm : (a b : Bool) → (a || b) ≡ (b || a)
or_comm true true = refl
or_comm true false = refl
or_comm false true = refl
or_comm false false = refl

or_assoc : (a b c : Bool) → (a || (b || c)) ≡ ((a || b) || c)
or_assoc true b c = refl
or_assoc false b c = refl

or_again : (a b : Bool) → (a || b) ≡ ((a || b) || a)
or_again true b = refl
or_again false b = sym (or_false b)

-- nothing stands on the right of a conjunction with false
pub and_false : (a : Bool) → (a && false) ≡ false
and_false true = refl
and_false false = refl

-- a number that is put into a set

put : (lt eq : Bool) (one x k : ℕ) (keys more : List ℕ)
    → one == x ≡ eq → has more k ≡ (has keys k || (one == k))
    → has (match_ordering (cond lt Less (cond eq Equal Greater)) (one ∷ x ∷ keys) (x ∷ keys) (x ∷ more)) k
    ≡ (((x == k) || has keys k) || (one == k))
put true eq one x k keys more same later = or_comm (one == k) ((x == k) || has keys k)
put false true one x k keys more same later = or_again (x == k) (has keys k) ∙ ap (λ (n : ℕ). ((x == k) || has keys k) || (n == k)) (sym (eqb-true one x same))
put false false one x k keys more same later = ap (λ (b : Bool). (x == k) || b) later ∙ or_assoc (x == k) (has keys k) (one == k)

-- a number is put into a set as it is added to a list
pub has_insert : (keys : List ℕ) (one k : ℕ) → has (insert_key nat_cmp keys one) k ≡ (has keys k || (one == k))
has_insert [] one k = or_false (one == k)
has_insert (x ∷ keys) one k = put (nat_lt one x) (one == x) one x k keys (insert_key nat_cmp keys one) refl (has_insert keys one k)

-- counts

pub many_append : (test : ℕ → Bool) (xs ys : List ℕ) → how_many test (xs ++ ys) ≡ how_many test xs + how_many test ys
many_append test [] ys = omega arith
many_append test (x ∷ xs) ys = let later = many_append test xs ys in omega (arith, later)

pub many_more : (test : ℕ → Bool) (xs : List ℕ) (i : ℕ)
    → i < length xs
    → how_many test (take (i + 1) xs) ≡ how_many test (take i xs) + (if test (get_or xs i 0) then 1 else 0)
many_more test xs i lt =
    let split = ap (how_many test) (take_more xs i 0 lt) ∙ many_append test (take i xs) (get_or xs i 0 ∷ []) in
    omega (arith, split)

pub many_front : (test : ℕ → Bool) (xs : List ℕ) (i : ℕ) → how_many test (take i xs) ≤ how_many test xs
many_front test xs i =
    let split = ap (how_many test) (sym (take-append-drop i xs)) ∙ many_append test (take i xs) (drop i xs) in
    omega (arith, split)

pub has_more : (xs : List ℕ) (i k : ℕ) → i < length xs → has (take (i + 1) xs) k ≡ (has (take i xs) k || (get_or xs i 0 == k))
has_more xs i k lt = ap (λ (ys : List ℕ). has ys k) (take_more xs i 0 lt) ∙ has_push (take i xs) (get_or xs i 0) k

counted : (b h : Bool) (t : ℕ) → h ≡ not (t == 0) → (b || h) ≡ not (((if b then 1 else 0) + t) == 0)
counted true h t later = ap not (sym (ne_eqb (1 + t) 0 (λ e. omega (arith, e))))
counted false h t later = let e : 0 + t ≡ t = omega arith in later ∙ ap (λ (n : ℕ). not (n == 0)) (sym e)

-- a number stands in a list where it is counted there
pub has_times : (xs : List ℕ) (k : ℕ) → has xs k ≡ not (times k xs == 0)
has_times [] k = refl
has_times (x ∷ xs) k = counted (x == k) (has xs k) (times k xs) (has_times xs k)

left_counted : (b : Bool) (x t : ℕ) (found : Option ℕ) → is_none found ≡ (t == 0) → is_none (cond b (Some x) found) ≡ (((if b then 1 else 0) + t) == 0)
left_counted true x t found later = sym (ne_eqb (1 + t) 0 (λ e. omega (arith, e)))
left_counted false x t found later = let e : 0 + t ≡ t = omega arith in later ∙ ap (λ (n : ℕ). n == 0) (sym e)

-- nothing of a list is left where none is counted
pub none_left : (taken xs : List ℕ) → is_none (first_left taken xs) ≡ (how_many (λ (other : ℕ). not (has taken other)) xs == 0)
none_left taken [] = refl
none_left taken (x ∷ xs) = left_counted (not (has taken x)) x (how_many (λ (other : ℕ). not (has taken other)) xs) (first_left taken xs) (none_left taken xs)

one_less : (taken : List ℕ) (one x : ℕ)
    → has taken one ≡ false
    → (if not (has (taken ++ one ∷ []) x) then 1 else 0) + (if x == one then 1 else 0) ≡ (if not (has taken x) then 1 else 0)
one_less taken one x fresh = elim (cases_eq one x) [
  | inl same ↦
      subst
      (λ (y : ℕ). (if not (has (taken ++ one ∷ []) y) then 1 else 0) + (if y == one then 1 else 0) ≡ (if not (has taken y) then 1 else 0))
      same (rw (has_itself taken one, eq-eqb one one refl, fresh) (omega arith))
  | inr ne ↦ rw (has_other taken one x ne, ne_eqb x one (λ e. ne (sym e))) (omega arith)
]

-- with one more taken, those that are it are no more left
pub less_left : (taken xs : List ℕ) (one : ℕ)
    → has taken one ≡ false
    → how_many (λ (other : ℕ). not (has (taken ++ one ∷ []) other)) xs + times one xs ≡ how_many (λ (other : ℕ). not (has taken other)) xs
less_left taken [] one fresh = omega arith
less_left taken (x ∷ xs) one fresh =
    let later = less_left taken xs one fresh in
    let here = one_less taken one x fresh in
    omega (arith, later, here)

-- where none is taken, all of a list are left
pub all_many : (xs : List ℕ) → how_many (λ (other : ℕ). not (has [] other)) xs ≡ length xs
all_many [] = refl
all_many (x ∷ xs) = let later = all_many xs in omega (arith, later)

-- the length of the list of this number, among the lengths of all
pub length_at : (lists : List (List ℕ)) (k : ℕ) → get_or (map (λ (xs : List ℕ). length xs) lists) k 0 ≡ length (get_or lists k [])
length_at [] k = refl
length_at (xs ∷ lists) zero = refl
length_at (xs ∷ lists) (suc k) = length_at lists k

-- lists of importers

-- a file is noted in one list
pub noted_in : (lists : List (List ℕ)) (list new : List ℕ) (i at file one other extra : ℕ)
    → at < length lists → new ≡ get_or lists at [] ++ file ∷ []
    → times one (get_or lists other []) ≡ extra + (if file == one then times other (take i list) else 0)
    → i < length list → at ≡ get_or list i 0
    → times one (get_or (set lists at new) other []) ≡ extra + (if file == one then times other (take (i + 1) list) else 0)
noted_in lists list new i at file one other extra within is was lt here = elim (cases_eq at other) [
  | inl same ↦ at_it same (file == one) refl
  | inr ne ↦ elsewhere ne (file == one)
]
  where
    more : times other (take (i + 1) list) ≡ times other (take i list) + (if at == other then 1 else 0)
    more = many_more (λ (x : ℕ). x == other) list i lt ∙ ap (λ (n : ℕ). times other (take i list) + (if n == other then 1 else 0)) (sym here)

    grown : times one new ≡ times one (get_or lists at []) + (if file == one then 1 else 0)
    grown = let split = ap (times one) is ∙ many_append (λ (x : ℕ). x == one) (get_or lists at []) (file ∷ []) in omega (arith, split)

    there : at ≡ other → times one (get_or (set lists at new) other []) ≡ times one new
    there same = ap (λ (k : ℕ). times one (get_or (set lists at new) k [])) (sym same) ∙ ap (times one) (get_or-set_same lists at new [] within)

    at_it : at ≡ other
        → (b : Bool) → file == one ≡ b
        → times one (get_or (set lists at new) other []) ≡ extra + (if b then times other (take (i + 1) list) else 0)
    at_it same true e =
        let a = there same in
        let g = rw e at grown in
        let o = ap (λ (k : ℕ). times one (get_or lists k [])) same in
        let w = rw e at was in
        let m = rw (eq-eqb at other same) at more in
        omega (arith, a, g, o, w, m)
    at_it same false e =
        let a = there same in
        let g = rw e at grown in
        let o = ap (λ (k : ℕ). times one (get_or lists k [])) same in
        let w = rw e at was in
        omega (arith, a, g, o, w)

    elsewhere : (at ≡ other → ⊥)
        → (b : Bool) → times one (get_or (set lists at new) other []) ≡ extra + (if file == one then times other (take (i + 1) list) else 0)
    elsewhere ne b =
        let a = ap (times one) (get_or-set_other lists at other new [] (λ e. ne (sym e))) in
        let m = rw (ne_eqb at other ne) at more in
        let same : times other (take (i + 1) list) ≡ times other (take i list) = omega (arith, m) in
        a ∙ (was ∙ ap (λ (n : ℕ). extra + (if file == one then n else 0)) (sym same))

not_zero : (b : Bool) (t : ℕ) → b ≡ not (t == 0) → b ≡ true → t ≡ 0 → ⊥
not_zero b t is there none = false≢true (sym (is ∙ ap not (eq-eqb t 0 none)) ∙ there)

-- an importer is one of the files
pub importer_below : (imports importers : List (List ℕ)) (file k : ℕ)
    → AreImporters imports importers → has (get_or importers file []) k ≡ true
    → k < length imports
importer_below imports importers file k are is = elim (cases_lt k (length imports)) [
  | inl lt ↦ lt
  | inr past ↦
      absurd
      (not_zero (has (get_or importers file []) k) (times k (get_or importers file [])) (has_times (get_or importers file []) k) is
      (are k file ∙ ap (times file) (get_or_past imports k [] past)))
]

-- all importers of a file are files
pub importers_below : (imports importers : List (List ℕ)) (file : ℕ) → AreImporters imports importers → AreBelow (length imports) (get_or importers file [])
importers_below imports importers file are =
    All-from_get_or (λ (k : ℕ). k < length imports) (get_or importers file []) 0
    (λ i lt.
    importer_below imports importers file (get_or (get_or importers file []) i 0) are
    (has_at (get_or importers file []) i (get_or (get_or importers file []) i 0) lt refl))

-- what is counted down

-- the count of an importer is not zero before it is counted down
pub enough_left : (left importers : List ℕ) (start : ℕ → ℕ) (i at : ℕ)
    → at ≡ get_or importers i 0 → i < length importers → ((k : ℕ) → times k importers ≤ start k)
    → ((k : ℕ) → get_or left k 0 + times k (take i importers) ≡ start k)
    → 1 ≤ get_or left at 0
enough_left left importers start i at here lt enough counts =
    let most = enough at in
    let was = counts at in
    let front = many_front (λ (x : ℕ). x == at) importers (i + 1) in
    let more = rw (eq-eqb (get_or importers i 0) at (sym here)) at (many_more (λ (x : ℕ). x == at) importers i lt) in
    omega (arith, most, was, front, more)

-- the counts after one importer more was counted down
pub down_counts : (left importers : List ℕ) (i at v k : ℕ) (start : ℕ)
    → at ≡ get_or importers i 0 → i < length importers → at < length left → v + 1 ≡ get_or left at 0
    → get_or left k 0 + times k (take i importers) ≡ start
    → get_or (set left at v) k 0 + times k (take (i + 1) importers) ≡ start
down_counts left importers i at v k start here lt within less was = elim (cases_eq at k) [
  | inl same ↦
      (let a = ap (λ (j : ℕ). get_or (set left at v) j 0) (sym same) ∙ get_or-set_same left at v 0 within in
      let o = ap (λ (j : ℕ). get_or left j 0) same in
      let m = rw (eq-eqb (get_or importers i 0) k (sym here ∙ same)) at more in
      omega (arith, a, o, m, less, was))
  | inr ne ↦
      (let a = get_or-set_other left at k v 0 (λ e. ne (sym e)) in
      let m = rw (ne_eqb (get_or importers i 0) k (λ e. ne (here ∙ e))) at more in
      omega (arith, a, m, was))
]
  where
    more : times k (take (i + 1) importers) ≡ times k (take i importers) + (if get_or importers i 0 == k then 1 else 0)
    more = many_more (λ (x : ℕ). x == k) importers i lt

at_it : (a b h : Bool) → ((a || false) || (b && true)) ≡ (a || (b && (h || true)))
at_it true b h = refl
at_it false b true = refl
at_it false b false = refl

elsewhere : (a b h : Bool) → ((a || (b && h)) || false) ≡ (a || (b && (h || false)))
elsewhere true b h = refl
elsewhere false true true = refl
elsewhere false true false = refl
elsewhere false false h = refl

-- the free files after one importer more was counted down: those whose count is zero are added
pub down_free : (left importers free new start : List ℕ) (i at v k : ℕ)
    → at ≡ get_or importers i 0 → i < length importers → at < length left → v + 1 ≡ get_or left at 0
    → has free k ≡ (has start k || ((get_or left k 0 == 0) && has (take i importers) k))
    → has new k ≡ (has free k || ((v == 0) && (at == k)))
    → has new k ≡ (has start k || ((get_or (set left at v) k 0 == 0) && has (take (i + 1) importers) k))
down_free left importers free new start i at v k here lt within less was added = elim (cases_eq at k) [
  | inl same ↦
      rw (more, now same, eq-eqb at k same)
      (added ∙ rw (was, before same, eq-eqb at k same) (at_it (has start k) (v == 0) (has (take i importers) k)))
  | inr ne ↦ rw (more, kept ne, ne_eqb at k ne) (added ∙ rw (was, ne_eqb at k ne) (and_none ne))
]
  where
    more : has (take (i + 1) importers) k ≡ (has (take i importers) k || (at == k))
    more = has_more importers i k lt ∙ ap (λ (n : ℕ). has (take i importers) k || (n == k)) (sym here)

    now : at ≡ k → get_or (set left at v) k 0 ≡ v
    now same = ap (λ (j : ℕ). get_or (set left at v) j 0) (sym same) ∙ get_or-set_same left at v 0 within

    before : at ≡ k → (get_or left k 0 == 0) ≡ false
    before same = let o = ap (λ (j : ℕ). get_or left j 0) same in ne_eqb (get_or left k 0) 0 (λ e. omega (arith, o, less, e))

    kept : (at ≡ k → ⊥) → get_or (set left at v) k 0 ≡ get_or left k 0
    kept ne = get_or-set_other left at k v 0 (λ e. ne (sym e))

    and_none : (at ≡ k → ⊥)
        → ((has start k || ((get_or left k 0 == 0) && has (take i importers) k)) || ((v == 0) && false))
        ≡ (has start k || ((get_or left k 0 == 0) && (has (take i importers) k || false)))
    and_none ne =
        ap (λ (b : Bool). (has start k || ((get_or left k 0 == 0) && has (take i importers) k)) || b) (and_false (v == 0))
        ∙ elsewhere (has start k) (get_or left k 0 == 0) (has (take i importers) k)

-- a file whose count is zero was added to the free ones
pub added_where_zero : (free new : List ℕ) (at v k : ℕ) → v ≡ 0 → has new k ≡ (has free k || (at == k)) → has new k ≡ (has free k || ((v == 0) && (at == k)))
added_where_zero free new at v k none added = added ∙ ap (λ (b : Bool). has free k || (b && (at == k))) (sym (eq-eqb v 0 none))

-- a file whose count is not zero was not added to the free ones
pub kept_where_some : (free new : List ℕ) (at v k : ℕ) → (v ≡ 0 → ⊥) → new ≡ free → has new k ≡ (has free k || ((v == 0) && (at == k)))
kept_where_some free new at v k some same =
    ap (λ (xs : List ℕ). has xs k) same
    ∙ (sym (or_false (has free k)) ∙ ap (λ (b : Bool). has free k || (b && (at == k))) (sym (ne_eqb v 0 some)))

and_true : (a : Bool) → (a && true) ≡ a
and_true true = refl
and_true false = refl

same_less : (i k : ℕ) → (i ≡ k → ⊥) → nat_lt k (i + 1) ≡ nat_lt k i
same_less i k ne = elim (cases_lt k i) [
  | inl lt ↦ lt-ltb k (i + 1) (omega (arith, lt)) ∙ sym (lt-ltb k i lt)
  | inr le ↦ elim (cases_lt i k) [
    | inl lt ↦ le-ltb k (i + 1) (omega (arith, lt)) ∙ sym (le-ltb k i le)
    | inr more ↦ absurd (ne (omega (arith, le, more)))
  ]
]

-- one file more is free where it imports nothing
pub free_more : (imports : List (List ℕ)) (free new list : List ℕ) (i k : ℕ)
    → list ≡ get_or imports i [] → has free k ≡ (nat_lt k i && (length (get_or imports k []) == 0))
    → has new k ≡ (has free k || ((length list == 0) && (i == k)))
    → has new k ≡ (nat_lt k (i + 1) && (length (get_or imports k []) == 0))
free_more imports free new list i k is was added = elim (cases_eq i k) [
  | inl same ↦
      (let here = is ∙ ap (λ (j : ℕ). get_or imports j []) same in
      added
      ∙ (rw (was, le-ltb k i (omega (arith, same)), eq-eqb i k same, here, lt-ltb k (i + 1) (omega (arith, same)))
      (and_true (length (get_or imports k []) == 0))))
  | inr ne ↦ added ∙ (rw (ne_eqb i k ne, and_false (length list == 0), or_false (has free k), same_less i k ne) was)
]

-- what holds of a result that is no error
pub ok_of : {T E : Type 0} (r : Result T E) (P : Type 0) → false ≡ is_err r → OnOk r P → P
ok_of (Ok x) P is holds = holds
ok_of (Err e) P is holds = absurd (cc)
