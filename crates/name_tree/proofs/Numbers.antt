-- Nodes by the numbers of their parts.
use Rattle.std.proofs.Common.{◌≡◌, ℕ, ◌+◌, ◌*◌, ◌<◌, List, refl, sym, ◌∙◌, ap, inl, inr, arith}
use Rattle.std.specs.Prelude.{Bool, true, false, ◌==◌, ◌⊎◌, if◌then◌else◌, Option, Some, None, option_and_then}
use Rattle.std.specs.Str.{bytes_eq}
use Rattle.std.specs.Map.{update}
use Rattle.std.proofs.lemmas.Bool.{ne_eqb, eqb-true}
use Rattle.std.proofs.lemmas.Option.{same_Some, none-some}
use Rattle.std.proofs.lemmas.Slice.Eq.{bytes_eq-Decides}
use Rattle.name_tree.specs.Walks.{IsTree, Grows}
use Rattle.name_tree.specs.Trees.{key_of, by_number, AreNumbers}

-- another part has the number that it had
numbered : (old new : Option ℕ) (part other : List ℕ) (given : ℕ) (b : Bool) → bytes_eq part other ≡ b → new ≡ (if b then Some given else old)
    → (n : ℕ) → new ≡ Some n → (old ≡ Some n) ⊎ ((other ≡ part) × (n ≡ given))
numbered old new part other given true is e n h = inr (sym ((bytes_eq-Decides part other).0 is), sym (same_Some given n (sym e ∙ h)))
numbered old new part other given false is e n h = inl (sym e ∙ h)

-- a part gets the next number
pub number_given : (old new : List ℕ → Option ℕ) (below : ℕ → Option ℕ) (given more : ℕ) (part : List ℕ) → AreNumbers old below given
    → ((other : List ℕ) → new other ≡ update bytes_eq old part (Some given) other) → more ≡ given + 1 → more < 4294967296
    → AreNumbers new below more
number_given old new below given more part numbers writes next few = record {
  few = few;
  less = λ other n h. elim (either other n h) [
    | inl before ↦ let less = numbers.less other n before in omega (arith, less, next)
    | inr both ↦ let same = both.1 in omega (arith, same, next)
  ];
  apart = λ one other n h g. two one other n (either one n h) (either other n g);
  unused = λ node n le lt. numbers.unused node n (omega (arith, le, next)) lt;
}
  where
    either : (other : List ℕ) (n : ℕ) → new other ≡ Some n → (old other ≡ Some n) ⊎ ((other ≡ part) × (n ≡ given))
    either other n h = numbered (old other) (new other) part other given (bytes_eq part other) refl (writes other) n h

    two : (one other : List ℕ) (n : ℕ) → (old one ≡ Some n) ⊎ ((one ≡ part) × (n ≡ given)) → (old other ≡ Some n) ⊎ ((other ≡ part) × (n ≡ given))
        → one ≡ other
    two one other n (inl h) (inl g) = numbers.apart one other n h g
    two one other n (inl h) (inr g) =
        let less = numbers.less one n h in
        let same = g.1 in
        absurd (let bad : ⊥ = omega (arith, less, same) in bad)
    two one other n (inr h) (inl g) =
        let less = numbers.less other n g in
        let same = h.1 in
        absurd (let bad : ⊥ = omega (arith, less, same) in bad)
    two one other n (inr h) (inr g) = h.0 ∙ sym g.0

-- a part that gets a number has no node anywhere, and all nodes stay
pub found_as_before : (old new : List ℕ → Option ℕ) (below : ℕ → Option ℕ) (given : ℕ) (part : List ℕ) → AreNumbers old below given → old part ≡ None
    → ((other : List ℕ) → new other ≡ update bytes_eq old part (Some given) other)
    → (node : ℕ) (other : List ℕ) → by_number new below node other ≡ by_number old below node other
found_as_before old new below given part numbers none writes node other = go (bytes_eq part other) refl
  where
    wrote : (b : Bool) → bytes_eq part other ≡ b → new other ≡ (if b then Some given else old other)
    wrote b is = writes other ∙ ap (λ (b : Bool). if b then Some given else old other) is

    go : (b : Bool) → bytes_eq part other ≡ b → by_number new below node other ≡ by_number old below node other
    go true is =
        let fresh : old other ≡ None = ap old (sym ((bytes_eq-Decides part other).0 is)) ∙ none in
        ap (option_and_then (λ (n : ℕ). below (key_of node n))) (wrote true is)
        ∙ (numbers.unused node given (omega arith) numbers.few ∙ sym (ap (option_and_then (λ (n : ℕ). below (key_of node n))) fresh))
    go false is = ap (option_and_then (λ (n : ℕ). below (key_of node n))) (wrote false is)

-- one node more stands below a node, by the number of its part
pub record Placed (below more : ℕ → Option ℕ) (node n made : ℕ) : Type 0 where
  pub fresh : below (key_of node n) ≡ None
  pub writes : (k : ℕ) → more k ≡ (if key_of node n == k then Some made else below k)

written : (old new : Option ℕ) (key k made : ℕ) (b : Bool) → (key == k) ≡ b → new ≡ (if b then Some made else old)
    → (found : ℕ) → new ≡ Some found → (old ≡ Some found) ⊎ ((key ≡ k) × (found ≡ made))
written old new key k made true is e found h = inr (eqb-true key k is, sym (same_Some made found (sym e ∙ h)))
written old new key k made false is e found h = inl (sym e ∙ h)

kept_at : (old new : Option ℕ) (key k made : ℕ) (b : Bool) → (key == k) ≡ b → (key ≡ k → old ≡ None) → new ≡ (if b then Some made else old)
    → (found : ℕ) → old ≡ Some found → new ≡ Some found
kept_at old new key k made true is none e found h = absurd (none-some found (sym (none (eqb-true key k is)) ∙ h))
kept_at old new key k made false is none e found h = e ∙ h

-- keys of two numbers below 2^32 tell nodes and numbers apart
one_key : (node n other m : ℕ) → n < 4294967296 → m < 4294967296 → key_of node n ≡ key_of other m → (other ≡ node) × (m ≡ n)
one_key node n other m lt less is =
    let same : node * 4294967296 + n ≡ other * 4294967296 + m = is in
    let nodes : other ≡ node = omega (arith, same, lt, less) in
    (nodes, omega (arith, same, nodes))

-- what is found was found before, or is what was added
either : (number : List ℕ → Option ℕ) (below more : ℕ → Option ℕ) (given node n made : ℕ) → AreNumbers number below given → n < given
    → Placed below more node n made
    → (other : ℕ) (part : List ℕ) (found : ℕ) → by_number number more other part ≡ Some found
    → (by_number number below other part ≡ Some found) ⊎ ((other ≡ node) × (number part ≡ Some n) × (found ≡ made))
either number below more given node n made numbers lt placed other part found h = go (number part) refl h
  where
    go : (o : Option ℕ) → number part ≡ o → option_and_then (λ (m : ℕ). more (key_of other m)) o ≡ Some found
        → (option_and_then (λ (m : ℕ). below (key_of other m)) (number part) ≡ Some found) ⊎ ((other ≡ node) × (number part ≡ Some n) × (found ≡ made))
    go None e h = absurd (none-some found h)
    go (Some m) e h =
        let key = key_of node n in
        let k = key_of other m in
        let few = numbers.few in
        let less = numbers.less part m e in
        elim (written (below k) (more k) key k made (key == k) refl (placed.writes k) found h) [
          | inl before ↦ inl (ap (option_and_then (λ (l : ℕ). below (key_of other l))) e ∙ before)
          | inr both ↦
              let apart = one_key node n other m (omega (arith, lt, few)) (omega (arith, less, few)) both.0 in
              inr (apart.0, e ∙ ap (λ (l : ℕ). Some l) apart.1, both.1)
        ]

kept : (number : List ℕ → Option ℕ) (below more : ℕ → Option ℕ) (node n made : ℕ) → Placed below more node n made
    → (other : ℕ) (part : List ℕ) (found : ℕ) → by_number number below other part ≡ Some found → by_number number more other part ≡ Some found
kept number below more node n made placed other part found h = go (number part) refl h
  where
    go : (o : Option ℕ) → number part ≡ o → option_and_then (λ (m : ℕ). below (key_of other m)) o ≡ Some found
        → option_and_then (λ (m : ℕ). more (key_of other m)) (number part) ≡ Some found
    go None e h = absurd (none-some found h)
    go (Some m) e h =
        let key = key_of node n in
        let k = key_of other m in
        ap (option_and_then (λ (l : ℕ). more (key_of other l))) e
        ∙ kept_at (below k) (more k) key k made (key == k) refl (λ is. ap below (sym is) ∙ placed.fresh) (placed.writes k) found h

-- the tree with one node more
pub node_made : (number : List ℕ → Option ℕ) (below more : ℕ → Option ℕ) (given node n count most : ℕ) → IsTree (by_number number below) count
    → AreNumbers number below given → n < given → node < count → Placed below more node n count → most ≡ count + 1
    → IsTree (by_number number more) most × Grows (by_number number below) count (by_number number more) most
node_made number below more given node n count most tree numbers lt there placed is = (
  record {
    later = λ other part found h. elim (either number below more given node n count numbers lt placed other part found h) [
      | inl before ↦ let both = tree.later other part found before in (both.0, omega (arith, both.1, is))
      | inr same ↦ (omega (arith, same.0, same.2, there), omega (arith, same.2, is))
    ];
    apart = λ one other first second found h g.
        two one other first second found (either number below more given node n count numbers lt placed one first found h)
        (either number below more given node n count numbers lt placed other second found g);
  },
  record {
    longer = omega (arith, is);
    kept = kept number below more node n count placed;
    fresh = λ other part found h. elim (either number below more given node n count numbers lt placed other part found h) [
      | inl before ↦ inl before
      | inr same ↦ inr (omega (arith, same.2))
    ];
  },
)
  where
    two : (one other : ℕ) (first second : List ℕ) (found : ℕ)
        → (by_number number below one first ≡ Some found) ⊎ ((one ≡ node) × (number first ≡ Some n) × (found ≡ count))
        → (by_number number below other second ≡ Some found) ⊎ ((other ≡ node) × (number second ≡ Some n) × (found ≡ count))
        → (one ≡ other) × (first ≡ second)
    two one other first second found (inl h) (inl g) = tree.apart one other first second found h g
    two one other first second found (inl h) (inr g) =
        let less = (tree.later one first found h).1 in
        let same = g.2 in
        absurd (let bad : ⊥ = omega (arith, less, same) in bad)
    two one other first second found (inr h) (inl g) =
        let less = (tree.later other second found g).1 in
        let same = h.2 in
        absurd (let bad : ⊥ = omega (arith, less, same) in bad)
    two one other first second found (inr h) (inr g) = (h.0 ∙ sym g.0, numbers.apart first second n h.1 g.1)

-- numbers are those of parts where a node was added by one of them
pub numbers_kept : (number : List ℕ → Option ℕ) (below more : ℕ → Option ℕ) (given node n made : ℕ) → AreNumbers number below given → n < given
    → Placed below more node n made → AreNumbers number more given
numbers_kept number below more given node n made numbers lt placed = record {
  few = numbers.few;
  less = numbers.less;
  apart = numbers.apart;
  unused = λ other m le less.
      let few = numbers.few in
      let differs : (key_of node n == key_of other m) ≡ false =
      ne_eqb (key_of node n) (key_of other m)
      (λ same. let apart = (one_key node n other m (omega (arith, lt, few)) less same).1 in let bad : ⊥ = omega (arith, apart, lt, le) in bad) in
      placed.writes (key_of other m)
      ∙ (ap (λ (b : Bool). if b then Some made else below (key_of other m)) differs ∙ numbers.unused other m le less);
}

-- a tree of nothing but its root has no numbers
pub no_numbers : (number : List ℕ → Option ℕ) (below : ℕ → Option ℕ) → ((part : List ℕ) → number part ≡ None) → ((k : ℕ) → below k ≡ None)
    → AreNumbers number below 0
no_numbers number below none empty = record {
  few = omega arith;
  less = λ part n h. absurd (none-some n (sym (none part) ∙ h));
  apart = λ part other n h g. absurd (none-some n (sym (none part) ∙ h));
  unused = λ node n le lt. empty (key_of node n);
}
