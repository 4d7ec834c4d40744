-- Halving along the keys of a list finds the first place of a key, and that there is none.
use Rattle.std.proofs.Common.{◌≡◌, ◌⊎◌, inl, inr, ℕ, zero, suc, ◌+◌, ◌≤◌, ◌<◌, Bool, true, false, cond, List, [], ◌∷◌, length, get_or, Option, Some, None, refl, sym, ap, ◌∙◌, arith}
use Rattle.std.specs.Prelude.{ℤ, ◌≤ℤ◌, ◌<ℤ◌, int_lt, nat_lt, position}
use Rattle.std.specs.Cmp.{IsStrictWeakOrder}
use Rattle.std.specs.List.{Contains, position_or_len}
use Rattle.std.specs.List.Sorted.{IsPartitionedBy, IsPartitionPoint}
use Rattle.std.specs.Ordering.{MatchOrdering, int_cmp, int_eq, is_lt, nat_cmp, ordering_then}
use Rattle.std.specs.declared.cmp.Ordering.{Ordering}
use Rattle.std.specs.declared.cmp.Ordering.TheVariants.{Equal, Greater, Less}
use Rattle.std.proofs.lemmas.Bool.{le-ltb, lt-ltb, ltb-false, ltb-true}
use Rattle.std.proofs.lemmas.Bool.Decides.{Decides-int_eq}
use Rattle.std.proofs.lemmas.Cmp.{int_cmp_total, int_ranked, nat_cmp_total, on_total, ranked, then_total}
use Rattle.std.proofs.lemmas.Int.{ints}
use Rattle.std.proofs.lemmas.List.{get_or_default}
use Rattle.std.proofs.lemmas.List.Sorted.{Contains-permutation, IsPermutation-sym, ranks_by, sorted_far}
use Rattle.std.proofs.lemmas.List.Sums.{position_or_len_is}
use Rattle.mj_schema.specs.Places.{AreOrdered, is_before, places_from}
use Rattle.mj_schema.specs.declared.places.KeyPlace.{KeyPlace}

abbrev entry : ℤ → ℕ → KeyPlace
entry key place = record { key = key; place = place }

length_places : (place : ℕ) (keys : List ℤ) → length (places_from place keys) ≡ length keys
length_places place [] = refl
length_places place (key ∷ keys) = omega (arith, length_places (place + 1) keys)

-- a place is that of the key there
entry_at : (place : ℕ) (keys : List ℤ) (j : ℕ) (d : KeyPlace) (z : ℤ) → j < length keys
    → get_or (places_from place keys) j d ≡ entry (get_or keys j z) (place + j)
entry_at place [] j d z lt = absurd (omega (arith, lt))
entry_at place (key ∷ keys) zero d z lt = ap (λ (n : ℕ). entry key n) (omega arith)
entry_at place (key ∷ keys) (suc j) d z lt =
    entry_at (place + 1) keys j d z (omega (arith, lt)) ∙ ap (λ (n : ℕ). entry (get_or keys j z) n) (omega arith)

-- what stands before in the order: a lower key, or the same at a lower place
falls : (a b : ℤ) (m n : ℕ) (o p : Ordering) → MatchOrdering o (a <ℤ b) (a ≡ b) (b <ℤ a) → MatchOrdering p (m < n) (m ≡ n) (n < m)
    → is_lt (ordering_then o p) ≡ false → (b ≤ℤ a) × (b ≡ a → n ≤ m)
falls a b m n Less p h g e = absurd cc
falls a b m n Equal Less h g e = absurd cc
falls a b m n Equal Equal h g e = (omega (arith, ints), λ same. omega arith)
falls a b m n Equal Greater h g e = (omega (arith, ints), λ same. omega arith)
falls a b m n Greater p h g e = (omega (arith, ints), λ same. absurd (omega (arith, ints)))

no_less : (a : ℤ) → int_lt a a ≡ true → ⊥
no_less a h = grind (arith, ints)

lower : (a b c : ℤ) → a ≤ℤ b → int_lt b c ≡ true → int_lt a c ≡ true
lower a b c le low = grind (arith, ints)

same : (a b c : ℤ) → a ≤ℤ b → b ≡ c → int_lt a c ≡ false → a ≡ c
same a b c le e h = grind (arith, ints)

split : (k n : ℕ) (b : Bool) → nat_lt k n ≡ b → (k < n) ⊎ (n ≤ k)
split k n true e = inl (ltb-true k n e)
split k n false e = inr (ltb-false k n e)

by_test : (b : Bool) (P : Bool → Type 0) → (b ≡ true → P true) → (b ≡ false → P false) → P b
by_test true P one two = one refl
by_test false P one two = two refl

weak : IsStrictWeakOrder is_before
weak = ranks_by (then_total (on_total (λ (e : KeyPlace). e.key) int_cmp_total) (on_total (λ (e : KeyPlace). e.place) nat_cmp_total)) (λ (e : KeyPlace). e)

module _ (keys : List ℤ) (places : List KeyPlace) (are : AreOrdered keys places) where
  -- keys never fall, and places of one key neither
  rise : (i j : ℕ) (d : KeyPlace) → i ≤ j → j < length places
      → ((get_or places i d).key ≤ℤ (get_or places j d).key)
      × ((get_or places i d).key ≡ (get_or places j d).key → (get_or places i d).place ≤ (get_or places j d).place)
  rise i j d le lt =
      let one = get_or places i d in
      let two = get_or places j d in
      falls two.key one.key two.place one.place (int_cmp two.key one.key) (nat_cmp two.place one.place)
      (int_ranked two.key one.key _ refl) (ranked two.place one.place _ refl) (sorted_far is_before weak places are.rising i j d le lt)

  -- those with a lower key stand before the others
  pub parted : (key : ℤ) → IsPartitionedBy (λ (e : KeyPlace). int_lt e.key key) places
  parted key i j d le lt low = lower (get_or places i d).key (get_or places j d).key key (rise i j d le lt).0 low

  -- a key that stands in the list stands among the places
  listed : (key : ℤ) (j : ℕ) → j < length keys → get_or keys j key ≡ key → Contains places (entry key j)
  listed key j lt e =
      let at : get_or (places_from 0 keys) j (entry key j) ≡ entry key j =
      entry_at 0 keys j (entry key j) key lt ∙ ap (λ (k : ℤ). entry k (0 + j)) e ∙ ap (λ (n : ℕ). entry key n) (omega arith) in
      Contains-permutation (places_from 0 keys) places (entry key j) are.all (j, omega (arith, length_places 0 keys), at)

  -- each place is one of the list, where its key stands
  stands : (b : ℕ) (e : KeyPlace) → b < length places → get_or places b e ≡ e → (e.place < length keys) × ((z : ℤ) → get_or keys e.place z ≡ e.key)
  stands b e lt at =
      let back = Contains-permutation places (places_from 0 keys) e (IsPermutation-sym (places_from 0 keys) places are.all) (b, lt, at) in
      let small : back.0 < length keys = omega (arith, back.1, length_places 0 keys) in
      let is = λ (z : ℤ). sym (entry_at 0 keys back.0 e z small) ∙ back.2 in
      let place : 0 + back.0 ≡ e.place = ap (λ (x : KeyPlace). x.place) (is e.key) in (
        omega arith,
        λ z. ap (λ (n : ℕ). get_or keys n z) (sym place ∙ omega arith) ∙ ap (λ (x : KeyPlace). x.key) (is z),
      )

  module _ (key : ℤ) (before : ℕ)
      (parts : IsPartitionPoint (λ (e : KeyPlace). int_lt e.key key ≡ true) (λ (e : KeyPlace). int_lt e.key key ≡ false) places before) where
    abbrev IsFirst : ℕ → Type 0
    IsFirst j = (before < length places) × ((d : KeyPlace) → ((get_or places before d).key ≡ key) × ((get_or places before d).place ≤ j))

    -- where the key stands in the list, the place found is of that key, and no later
    first_at : (j : ℕ) → j < length keys → get_or keys j key ≡ key → IsFirst j
    first_at j lt e =
        let there = listed key j lt e in
        let at : (d : KeyPlace) → get_or places there.0 d ≡ entry key j =
        λ d. get_or_default places there.0 d (entry key j) there.1 ∙ there.2 in
        let of : (d : KeyPlace) → (get_or places there.0 d).key ≡ key = λ d. ap (λ (x : KeyPlace). x.key) (at d) in
        elim (split there.0 before (nat_lt there.0 before) refl) [
          | inl low ↦
              let less = parts.0 there.0 (entry key j) (omega arith) low in
              absurd (no_less key (sym (ap (λ (k : ℤ). int_lt k key) (of (entry key j))) ∙ less))
          | inr behind ↦ (
            omega (arith, there.1),
            λ d.
                let up = rise before there.0 d behind there.1 in
                let level = parts.1 before d (omega arith) (omega (arith, there.1)) in
                let here = same (get_or places before d).key (get_or places there.0 d).key key up.0 (of d) level in
                let place : (get_or places there.0 d).place ≡ j = ap (λ (x : KeyPlace). x.place) (at d) in
                let le = up.1 (here ∙ sym (of d)) in
                (here, omega arith),
          )
        ]

    -- the place found is the first of the key
    pub found : (e : KeyPlace) → before < length places → get_or places before e ≡ e → e.key ≡ key
        → Some e.place ≡ position (λ (other : ℤ). int_eq other key) keys
    found e lt at is =
        let s = stands before e lt at in
        let here : int_eq (get_or keys e.place key) key ≡ true = (Decides-int_eq (get_or keys e.place key) key).1 (s.1 key ∙ is) in
        let earlier : (j : ℕ) → j < e.place → int_eq (get_or keys j key) key ≡ false =
        λ j low. by_test (int_eq (get_or keys j key) key) (λ b. b ≡ false)
        (λ equal. let first = first_at j (omega (arith, s.0)) ((Decides-int_eq (get_or keys j key) key).0 equal) in
        let place : (get_or places before e).place ≡ e.place = ap (λ (x : KeyPlace). x.place) at in
        absurd (omega (arith, (first.1 e).1))) (λ differs. refl) in
        let is_at = position_or_len_is (λ (other : ℤ). int_eq other key) keys e.place key (omega (arith, s.0)) earlier (λ _. here) in
        let n = position_or_len (λ (other : ℤ). int_eq other key) keys in
        let within : nat_lt n (length keys) ≡ true = lt-ltb n (length keys) (omega (arith, s.0)) in
        sym (ap (λ (b : Bool). cond b (Some n) None) within ∙ ap (λ (m : ℕ). let o : Option ℕ = Some m in o) is_at)

    -- where the place found is of another key, or there is none, the list lacks the key
    pub lacking : ((d : KeyPlace) → before < length places → (get_or places before d).key ≡ key → ⊥)
        → None ≡ position (λ (other : ℤ). int_eq other key) keys
    lacking other =
        let fails : (j : ℕ) → j < length keys → int_eq (get_or keys j key) key ≡ false =
        λ j lt. by_test (int_eq (get_or keys j key) key) (λ b. b ≡ false)
        (λ equal. let first = first_at j lt ((Decides-int_eq (get_or keys j key) key).0 equal) in
        absurd (other (entry key j) first.0 (first.1 (entry key j)).0)) (λ differs. refl) in
        let is_at = position_or_len_is (λ (other : ℤ). int_eq other key) keys (length keys) key (omega arith) fails (λ lt. absurd (omega (arith, lt))) in
        let n = position_or_len (λ (other : ℤ). int_eq other key) keys in
        let past : nat_lt n (length keys) ≡ false = le-ltb n (length keys) (omega arith) in
        sym (ap (λ (b : Bool). cond b (Some n) None) past)
