-- Numbers that stand in a list, and their marks.
use Rattle.std.proofs.Common.{◌≡◌, ℕ, ◌+◌, ◌<◌, ◌≤◌, List, [], ◌∷◌, ◌++◌, length, get_or, refl, sym, ◌∙◌, ap, subst, inl, inr, arith}
use Rattle.std.specs.Prelude.{Bool, true, false, cond, ◌||◌, ◌==◌, ◌⊎◌}
use Rattle.std.specs.List.{count_by}
use Rattle.std.proofs.Math.ListN.{set, length-set}
use Rattle.std.proofs.Math.Nat.{eq-or-lt_of_le}
use Rattle.std.proofs.lemmas.Bool.{eq-eqb, ne_eqb, cases_eq, both_ways}
use Rattle.std.proofs.lemmas.List.{length_push, get_or-set_same, get_or-set_other, get_or_append_left, get_or_push}
use Rattle.std.proofs.lemmas.List.Elements.{All-push}
use Rattle.std.proofs.lemmas.List.Folds.{list_any-append, list_any_at}
use Rattle.std.proofs.lemmas.List.Sums.{count_by-le-length, sum_by-set}
use Rattle.import_order.specs.Imports.{has, AreDistinct}
use Rattle.import_order.specs.steps.Taking.{AreBelow, AreMarked, NumberList}

-- where a number has no mark, fewer numbers have one than there are
pub room : (marks : List Bool) (k : ℕ) → k < length marks → get_or marks k false ≡ false → count_by (λ (mark : Bool). mark) marks < length marks
room marks k lt is =
    let more = rw is at (sum_by-set (λ (mark : Bool). cond mark 1 0) marks k true false lt) in
    let most = count_by-le-length (λ (mark : Bool). mark) (set marks k true) in
    let same = length-set marks k true in
    omega (arith, more, most, same)

-- a disjunction with false is its other side
pub or_false : (b : Bool) → (b || false) ≡ b
or_false true = refl
or_false false = refl

or_true : (b : Bool) → (b || true) ≡ true
or_true true = refl
or_true false = refl

-- a list with one number more has the numbers of before, and this one
pub has_push : (numbers : List ℕ) (one k : ℕ) → has (numbers ++ one ∷ []) k ≡ (has numbers k || (one == k))
has_push numbers one k = list_any-append (λ (other : ℕ). other == k) numbers (one ∷ []) ∙ ap (λ (b : Bool). has numbers k || b) (or_false (one == k))

-- a list has the number that was added
pub has_itself : (numbers : List ℕ) (one : ℕ) → has (numbers ++ one ∷ []) one ≡ true
has_itself numbers one = has_push numbers one one ∙ (ap (λ (b : Bool). has numbers one || b) (eq-eqb one one refl) ∙ or_true (has numbers one))

-- a list with one number more has no other number more
pub has_other : (numbers : List ℕ) (one k : ℕ) → (one ≡ k → ⊥) → has (numbers ++ one ∷ []) k ≡ has numbers k
has_other numbers one k ne = has_push numbers one k ∙ (ap (λ (b : Bool). has numbers k || b) (ne_eqb one k ne) ∙ or_false (has numbers k))

-- a list has the number of each of its places
pub has_at : (numbers : List ℕ) (i k : ℕ) → i < length numbers → get_or numbers i 0 ≡ k → has numbers k ≡ true
has_at numbers i k lt is = list_any_at (λ (other : ℕ). other == k) numbers i 0 lt (eq-eqb (get_or numbers i 0) k is)

pub distinct_push : (numbers : List ℕ) (one : ℕ) → has numbers one ≡ false → AreDistinct numbers → AreDistinct (numbers ++ one ∷ [])
distinct_push numbers one fresh distinct = λ i j less lt e.
    go i j less e
    (let most : j < length numbers + 1 = rw (length_push numbers one) at lt in
    let le : j ≤ length numbers = omega (arith, most) in
    eq-or-lt_of_le le)
  where
    go : (i j : ℕ) → i < j → get_or (numbers ++ one ∷ []) i 0 ≡ get_or (numbers ++ one ∷ []) j 0 → (j ≡ length numbers) ⊎ (j < length numbers) → ⊥
    go i j less e (inl same) =
        let lt : i < length numbers = omega (arith, less, same) in
        let here : get_or numbers i 0 ≡ one = sym (get_or_append_left numbers (one ∷ []) 0 i lt) ∙ (e ∙ get_or_push numbers one 0 j (sym same)) in
        both_ways (has numbers one) fresh (has_at numbers i one lt here)
    go i j less e (inr lt) =
        let before : i < length numbers = omega (arith, less, lt) in
        distinct i j less lt (sym (get_or_append_left numbers (one ∷ []) 0 i before) ∙ (e ∙ get_or_append_left numbers (one ∷ []) 0 j lt))

pub marked_push : (marks : List Bool) (numbers : List ℕ) (one : ℕ)
    → one < length marks → has numbers one ≡ false → AreMarked marks numbers
    → AreMarked (set marks one true) (numbers ++ one ∷ [])
marked_push marks numbers one lt fresh are = record {
  marked = λ k within. go k (rw (length-set marks one true) at within) (cases_eq one k);
  counted = counted;
  below =
      subst (λ (limit : ℕ). AreBelow limit (numbers ++ one ∷ [])) (sym (length-set marks one true))
      (All-push (λ (k : ℕ). k < length marks) numbers one are.below lt);
  distinct = distinct_push numbers one fresh are.distinct;
}
  where
    go : (k : ℕ) → k < length marks → (one ≡ k) ⊎ (one ≡ k → ⊥) → get_or (set marks one true) k false ≡ has (numbers ++ one ∷ []) k
    go k within (inl same) =
        subst (λ (j : ℕ). get_or (set marks one true) j false ≡ has (numbers ++ one ∷ []) j) same
        (get_or-set_same marks one true false lt ∙ sym (has_itself numbers one))
    go k within (inr ne) = get_or-set_other marks one k true false (λ e. ne (sym e)) ∙ (are.marked k within ∙ sym (has_other numbers one k ne))

    counted : count_by (λ (mark : Bool). mark) (set marks one true) ≡ length (numbers ++ one ∷ [])
    counted =
        let more = rw (are.marked one lt ∙ fresh) at (sum_by-set (λ (mark : Bool). cond mark 1 0) marks one true false lt) in
        let was = are.counted in
        let long = length_push numbers one in
        omega (arith, more, was, long)

-- the same of the list as contracts see it
pub pushed : (value : NumberList) (marks : List Bool) (numbers all : List ℕ) (one : ℕ)
    → value ≡ record { limit = length marks; numbers = numbers } → one < value.limit → has value.numbers one ≡ false
    → AreMarked marks numbers → all ≡ numbers ++ one ∷ []
    → AreMarked (set marks one true) all
pushed value marks numbers all one is below fresh are e =
    let lt : one < length marks = subst (λ (v : NumberList). one < v.limit) is below in
    let new : has numbers one ≡ false = subst (λ (v : NumberList). has v.numbers one ≡ false) is fresh in
    subst (λ (xs : List ℕ). AreMarked (set marks one true) xs) (sym e) (marked_push marks numbers one lt new are)

-- where a number is not in the list, the list is shorter than its limit
pub has_room : (value : NumberList) (marks : List Bool) (numbers : List ℕ) (one : ℕ)
    → value ≡ record { limit = length marks; numbers = numbers } → one < value.limit → has value.numbers one ≡ false
    → AreMarked marks numbers
    → length value.numbers < value.limit
has_room value marks numbers one is below fresh are =
    let lt : one < length marks = subst (λ (v : NumberList). one < v.limit) is below in
    let new : has numbers one ≡ false = subst (λ (v : NumberList). has v.numbers one ≡ false) is fresh in
    let less = room marks one lt (are.marked one lt ∙ new) in
    let was = are.counted in
    subst (λ (v : NumberList). length v.numbers < v.limit) (sym is) (omega (arith, less, was))
