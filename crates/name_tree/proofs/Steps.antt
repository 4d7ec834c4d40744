-- Trees of names that grow.
use Rattle.std.proofs.Common.{◌≡◌, ℕ, ◌<◌, ◌≤◌, List, [], ◌∷◌, ◌++◌}
use Rattle.std.proofs.Common.{refl, sym, ◌∙◌, ap, inl, inr, arith}
use Rattle.std.specs.Prelude.{Bool, true, false, ◌==◌, ◌⊎◌, if◌then◌else◌, Option, Some, None, Result, Ok, Err, OnOk, IfOk, option_and_then}
use Rattle.std.proofs.lemmas.Option.{same_Some, none-some}
use Rattle.name_tree.specs.Walks.{walk, IsTree, Grows}
use Rattle.name_tree.proofs.Walks.{further}

abbrev pub Step : Type 0
Step = ℕ → List ℕ → Option ℕ

-- a tree has grown by nothing
pub as_before : (step : ℕ → List ℕ → Option ℕ) (count : ℕ) → Grows step count step count
as_before step count = record { longer = omega arith; kept = λ node part below is. is; fresh = λ node part below is. inl is }

-- what is found is the same in both
pub same_tree : (old new : ℕ → List ℕ → Option ℕ) (count : ℕ) → ((node : ℕ) (part : List ℕ) → new node part ≡ old node part) → IsTree old count
    → IsTree new count
same_tree old new count same tree = record {
  later = λ node part below is. tree.later node part below (sym (same node part) ∙ is);
  apart = λ node other part another below is also.
      tree.apart node other part another below (sym (same node part) ∙ is) (sym (same other another) ∙ also);
}

-- a tree in which the same is found has grown to the same
pub same_grown : (old mid new : ℕ → List ℕ → Option ℕ) (count more : ℕ) → ((node : ℕ) (part : List ℕ) → mid node part ≡ old node part)
    → Grows mid count new more → Grows old count new more
same_grown old mid new count more same grows = record {
  longer = grows.longer;
  kept = λ node part below is. grows.kept node part below (same node part ∙ is);
  fresh = λ node part below is. elim (grows.fresh node part below is) [
    | inl before ↦ inl (sym (same node part) ∙ before)
    | inr le ↦ inr le
  ];
}

-- a tree that has grown twice has grown
pub grown_twice : (old mid new : ℕ → List ℕ → Option ℕ) (count more most : ℕ) → Grows old count mid more → Grows mid more new most → Grows old count new most
grown_twice old mid new count more most one two = record {
  longer = omega (arith, one.longer, two.longer);
  kept = λ node part below is. two.kept node part below (one.kept node part below is);
  fresh = λ node part below is. elim (two.fresh node part below is) [
    | inl before ↦ one.fresh node part below before
    | inr le ↦ inr (omega (arith, one.longer, le))
  ];
}

-- what is found at the end of a walk, where the tree has grown
stepped : {X : Type 0} (before after : ℕ → Option X) (old new : Option ℕ) (count : ℕ)
    → ((k : ℕ) → after k ≡ before k) → ((k : ℕ) → count ≤ k → after k ≡ None)
    → ((k : ℕ) → old ≡ Some k → new ≡ Some k) → ((k : ℕ) → new ≡ Some k → (old ≡ Some k) ⊎ (count ≤ k))
    → option_and_then after new ≡ option_and_then before old
stepped before after None None count same none kept fresh = refl
stepped before after (Some k) None count same none kept fresh = absurd (none-some k (kept k refl))
stepped before after None (Some k) count same none kept fresh = elim (fresh k refl) [
  | inl is ↦ absurd (none-some k is)
  | inr le ↦ none k le
]
stepped before after (Some j) (Some k) count same none kept fresh =
    let is : k ≡ j = same_Some k j (kept j refl) in ap after is ∙ same j

joined : {X : Type 0} (own : ℕ → Option X) (next : ℕ → Option ℕ) (o : Option ℕ)
    → option_and_then own (option_and_then next o) ≡ option_and_then (λ (k : ℕ). option_and_then own (next k)) o
joined own next None = refl
joined own next (Some k) = refl

nothing_beyond : {X : Type 0} (own : ℕ → Option X) (count k : ℕ) (o : Option ℕ) → ((n : ℕ) → count ≤ n → own n ≡ None) → count ≤ k
    → ((found : ℕ) → o ≡ Some found → k < found) → option_and_then own o ≡ None
nothing_beyond own count k None none le far = refl
nothing_beyond own count k (Some found) none le far = let less = far found refl in none found (omega (arith, le, less))

owner_either : {X : Type 0} (own : ℕ → Option X) (old new : Step) (count more : ℕ) (node byte : ℕ) (part text : List ℕ) (b : Bool)
    → IsTree new more → Grows old count new more → ((n : ℕ) → count ≤ n → own n ≡ None)
    → ((k : ℕ) → option_and_then own (walk new k [] text) ≡ option_and_then own (walk old k [] text))
    → option_and_then own (walk new node (part ++ byte ∷ []) text) ≡ option_and_then own (walk old node (part ++ byte ∷ []) text)
    → option_and_then own (if b then option_and_then (λ (k : ℕ). walk new k [] text) (new node part) else walk new node (part ++ byte ∷ []) text)
    ≡ option_and_then own (if b then option_and_then (λ (k : ℕ). walk old k [] text) (old node part) else walk old node (part ++ byte ∷ []) text)
owner_either own old new count more node byte part text true tree grows none later here =
    joined own (λ (k : ℕ). walk new k [] text) (new node part)
    ∙ (stepped (λ (k : ℕ). option_and_then own (walk old k [] text)) (λ (k : ℕ). option_and_then own (walk new k [] text)) (old node part) (new node part) count
    later (λ k le. nothing_beyond own count k (walk new k [] text) none le (further new more tree k [] text)) (grows.kept node part) (grows.fresh node part)
    ∙ sym (joined own (λ (k : ℕ). walk old k [] text) (old node part)))
owner_either own old new count more node byte part text false tree grows none later here = here

-- what is kept at the nodes of a tree is found under the same texts where the tree has grown
pub same_owner : {X : Type 0} (own : ℕ → Option X) (old new : ℕ → List ℕ → Option ℕ) (count more : ℕ)
    → IsTree new more → Grows old count new more → ((n : ℕ) → count ≤ n → own n ≡ None)
    → (node : ℕ) (part text : List ℕ) → option_and_then own (walk new node part text) ≡ option_and_then own (walk old node part text)
same_owner own old new count more tree grows none node part [] =
    stepped own own (old node part) (new node part) count (λ k. refl) none (grows.kept node part) (grows.fresh node part)
same_owner own old new count more tree grows none node part (byte ∷ text) =
    owner_either own old new count more node byte part text (byte == 46) tree grows none (λ k. same_owner own old new count more tree grows none k [] text)
    (same_owner own old new count more tree grows none node (part ++ byte ∷ []) text)

-- a tree of nothing but its root
pub nothing_below : (step : ℕ → List ℕ → Option ℕ) (count : ℕ) → ((node : ℕ) (part : List ℕ) → step node part ≡ None) → IsTree step count
nothing_below step count none = record {
  later = λ node part below is. absurd (none-some below (sym (none node part) ∙ is));
  apart = λ node other part another below is also. absurd (none-some below (sym (none node part) ∙ is));
}

-- what follows from two clauses on an answer
pub if_ok_with : {T E : Type 0} (P : Type 0) (Q R : T → Type 0) (r : Result T E) → ((x : T) → P → Q x → R x) → OnOk r P → IfOk r Q → IfOk r R
if_ok_with P Q R (Ok x) f p q = f x p q
if_ok_with P Q R (Err e) f p q = tt

-- what follows from a clause on an answer
pub on_ok_then : {T E : Type 0} (P Q : Type 0) (r : Result T E) → (P → Q) → OnOk r P → OnOk r Q
on_ok_then P Q (Ok x) f p = f p
on_ok_then P Q (Err e) f p = tt
