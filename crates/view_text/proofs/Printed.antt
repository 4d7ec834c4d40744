-- What is still to be written of lists of values, and how deep they are.
use Rattle.std.proofs.Common.{◌≡◌, ℕ, zero, suc, ◌+◌, ◌<◌, ◌≤◌, ◌⊎◌, inl, inr, List, [], ◌∷◌, ◌++◌, length, drop, get_or, Some, None}
use Rattle.std.proofs.Common.{refl, sym, ap, ◌∙◌, append_assoc, arith, add-one, drop-cons}
use Rattle.mj_schema.specs.KindTrees.{KindTree}
use Rattle.mj_schema.specs.declared.rows.FieldRow.{FieldRow}
use Rattle.mj_schema.specs.declared.schema.Schema.{Schema}
use Rattle.wire_model.specs.Trees.{Tree, Trees, none, more, count}
use Rattle.value_text.specs.Brackets.{brackets, brackets_in}
use Rattle.value_text.specs.Spelling.{fields_kinds, spell, first_item, next_items, each_text, first_pair, next_pairs, first_field, next_fields}
use Rattle.value_text.proofs.Printed.{items_from, fields_from, pairs_from}
use Rattle.wire_view.specs.Parts.{nth}

-- the values behind so many
abbrev pub after : ℕ → Trees → Trees
after zero ts = ts
after (suc i) none = none
after (suc i) (more t ts) = after i ts

after_at : (ts : Trees) (i : ℕ) (t : Tree) → Some t ≡ nth ts i → after i ts ≡ more t (after (i + 1) ts)
after_at none i t e = absurd cc
after_at (more x ts) zero t e = let same : x ≡ t = cc in ap (λ (y : Tree). more y ts) same
after_at (more x ts) (suc i) t e =
    let later : suc i + 1 ≡ suc (i + 1) = omega arith in
    after_at ts i t e ∙ ap (λ (j : ℕ). more t (after j (more x ts))) (sym later)

no_after : (ts : Trees) (i : ℕ) → count ts ≤ i → after i ts ≡ none
no_after none zero le = refl
no_after none (suc i) le = refl
no_after (more t ts) zero le = absurd (omega (arith, le))
no_after (more t ts) (suc i) le = no_after ts i (omega (arith, le))

-- there is a value of each number below their count
pub nth_there : (ts : Trees) (i : ℕ) → i < count ts → None ≡ nth ts i → ⊥
nth_there none i lt e = absurd (omega (arith, lt))
nth_there (more t ts) zero lt e = cc
nth_there (more t ts) (suc i) lt e = nth_there ts i (omega (arith, lt)) e

-- a value is no deeper than its list
pub brackets_at : (ts : Trees) (i : ℕ) (t : Tree) → Some t ≡ nth ts i → brackets t ≤ brackets_in ts
brackets_at none i t e = absurd cc
brackets_at (more x ts) zero t e =
    let same : t ≡ x = cc in
    let s : brackets t ≡ brackets x = ap brackets same in
    omega (arith, s)
brackets_at (more x ts) (suc i) t e = let k = brackets_at ts i t e in omega (arith, k)

-- elements
items_later : (schema : Schema) (k : KindTree) (i : ℕ) (ts : Trees) → items_from schema k (i + 1) ts ≡ next_items schema k ts
items_later schema k i ts = let e : i + 1 ≡ suc i = omega arith in rw e refl

-- one is written, and where it isn't the first, a comma before it
pub item_on : (schema : Schema) (k : KindTree) (xs : Trees) (i : ℕ) (t : Tree) (out mid new total : List ℕ) → Some t ≡ nth xs i
    → ((i ≡ 0) × (mid ≡ out)) ⊎ ((0 < i) × (mid ≡ out ++ 44 ∷ [])) → new ≡ mid ++ spell schema k t
    → out ++ items_from schema k i (after i xs) ≡ total → new ++ items_from schema k (i + 1) (after (i + 1) xs) ≡ total
unfolding first_item next_items
item_on schema k xs zero t out mid new total e (inl m) n so_far =
    let ts = after 1 xs in
    ap (λ (l : List ℕ). l ++ next_items schema k ts) (n ∙ ap (λ (l : List ℕ). l ++ spell schema k t) m.1)
    ∙ append_assoc out (spell schema k t) (next_items schema k ts)
    ∙ sym (ap (λ (l : Trees). out ++ first_item schema k l) (after_at xs 0 t e)) ∙ so_far
item_on schema k xs (suc i) t out mid new total e (inl m) n so_far = absurd (omega (arith, m.0))
item_on schema k xs zero t out mid new total e (inr m) n so_far = absurd (omega (arith, m.0))
item_on schema k xs (suc i) t out mid new total e (inr m) n so_far =
    let ts = after (suc i + 1) xs in
    let s = spell schema k t in
    ap (λ (l : List ℕ). new ++ l) (items_later schema k (suc i) ts) ∙ ap (λ (l : List ℕ). l ++ next_items schema k ts) (n ∙ ap (λ (l : List ℕ). l ++ s) m.1)
    ∙ append_assoc (out ++ 44 ∷ []) s (next_items schema k ts) ∙ append_assoc out (44 ∷ []) (s ++ next_items schema k ts)
    ∙ sym (ap (λ (l : Trees). out ++ next_items schema k l) (after_at xs (suc i) t e)) ∙ so_far

pub items_done : (schema : Schema) (k : KindTree) (xs : Trees) (i : ℕ) (out new total : List ℕ) → count xs ≤ i → new ≡ out ++ 93 ∷ []
    → out ++ items_from schema k i (after i xs) ≡ total → new ≡ total
unfolding first_item next_items
items_done schema k xs i out new total le n so_far = n ∙ ap (λ (l : List ℕ). out ++ l) (sym (of i (after i xs) (no_after xs i le))) ∙ so_far
  where
    of : (i : ℕ) (ts : Trees) → ts ≡ none → items_from schema k i ts ≡ 93 ∷ []
    of zero none f = refl
    of (suc i) none f = refl
    of i (more t ts) f = absurd (cc)

-- fields
fields_later : (schema : Schema) (i : ℕ) (ks : List KindTree) (ts : Trees) → fields_from schema (i + 1) ks ts ≡ next_fields schema ks ts
fields_later schema i ks ts = let e : i + 1 ≡ suc i = omega arith in rw e refl

kinds_at : (row : List FieldRow) (i : ℕ) (f : FieldRow) → i < length row → f ≡ get_or row i f
    → fields_kinds (drop i row) ≡ f.kind ∷ fields_kinds (drop (i + 1) row)
kinds_at row i f lt e =
    let cut : drop i row ≡ get_or row i f ∷ drop (i + 1) row = rw (add-one, drop-cons row i f) refl in
    ap fields_kinds cut ∙ ap (λ (g : FieldRow). g.kind ∷ fields_kinds (drop (i + 1) row)) (sym e)

kinds_end : (row : List FieldRow) (i : ℕ) → length row ≤ i → fields_kinds (drop i row) ≡ []
kinds_end [] zero le = refl
kinds_end [] (suc i) le = refl
kinds_end (f ∷ fs) zero le = absurd (omega (arith, le))
kinds_end (f ∷ fs) (suc i) le = kinds_end fs i (omega (arith, le))

pub field_on : (schema : Schema) (row : List FieldRow) (xs : Trees) (i : ℕ) (f : FieldRow) (t : Tree) (out mid new total : List ℕ) → i < length row
    → f ≡ get_or row i f → Some t ≡ nth xs i
    → ((i ≡ 0) × (mid ≡ out)) ⊎ ((0 < i) × (mid ≡ out ++ 44 ∷ [])) → new ≡ mid ++ spell schema f.kind t
    → out ++ fields_from schema i (fields_kinds (drop i row)) (after i xs) ≡ total
    → new ++ fields_from schema (i + 1) (fields_kinds (drop (i + 1) row)) (after (i + 1) xs) ≡ total
unfolding first_field next_fields
field_on schema row xs zero f t out mid new total lf ef e (inl m) n so_far =
    let ts = after 1 xs in
    let ks = fields_kinds (drop 1 row) in
    let s = spell schema f.kind t in
    ap (λ (l : List ℕ). l ++ next_fields schema ks ts) (n ∙ ap (λ (l : List ℕ). l ++ s) m.1) ∙ append_assoc out s (next_fields schema ks ts)
    ∙ sym (ap (λ (l : Trees). out ++ first_field schema (fields_kinds (drop 0 row)) l) (after_at xs 0 t e)
    ∙ ap (λ (l : List KindTree). out ++ first_field schema l (more t ts)) (kinds_at row 0 f lf ef)) ∙ so_far
field_on schema row xs (suc i) f t out mid new total lf ef e (inl m) n so_far = absurd (omega (arith, m.0))
field_on schema row xs zero f t out mid new total lf ef e (inr m) n so_far = absurd (omega (arith, m.0))
field_on schema row xs (suc i) f t out mid new total lf ef e (inr m) n so_far =
    let ts = after (suc i + 1) xs in
    let ks = fields_kinds (drop (suc i + 1) row) in
    let s = spell schema f.kind t in
    ap (λ (l : List ℕ). new ++ l) (fields_later schema (suc i) ks ts)
    ∙ ap (λ (l : List ℕ). l ++ next_fields schema ks ts) (n ∙ ap (λ (l : List ℕ). l ++ s) m.1)
    ∙ append_assoc (out ++ 44 ∷ []) s (next_fields schema ks ts) ∙ append_assoc out (44 ∷ []) (s ++ next_fields schema ks ts)
    ∙ sym (ap (λ (l : Trees). out ++ next_fields schema (fields_kinds (drop (suc i) row)) l) (after_at xs (suc i) t e)
    ∙ ap (λ (l : List KindTree). out ++ next_fields schema l (more t ts)) (kinds_at row (suc i) f lf ef)) ∙ so_far

pub fields_done : (schema : Schema) (row : List FieldRow) (xs : Trees) (i : ℕ) (out new total : List ℕ) → (count xs ≤ i) ⊎ (length row ≤ i)
    → new ≡ out ++ 41 ∷ []
    → out ++ fields_from schema i (fields_kinds (drop i row)) (after i xs) ≡ total → new ≡ total
unfolding first_field next_fields
fields_done schema row xs i out new total le n so_far = n ∙ ap (λ (l : List ℕ). out ++ l) (sym (of le)) ∙ so_far
  where
    no_values : (i : ℕ) (ks : List KindTree) (ts : Trees) → ts ≡ none → fields_from schema i ks ts ≡ 41 ∷ []
    no_values zero [] none f = refl
    no_values zero (k ∷ ks) none f = refl
    no_values (suc i) [] none f = refl
    no_values (suc i) (k ∷ ks) none f = refl
    no_values i ks (more t ts) f = absurd (cc)

    no_kinds : (i : ℕ) (ks : List KindTree) (ts : Trees) → ks ≡ [] → fields_from schema i ks ts ≡ 41 ∷ []
    no_kinds zero [] ts f = refl
    no_kinds (suc i) [] ts f = refl
    no_kinds i (k ∷ ks) ts f = absurd (cc)

    of : (count xs ≤ i) ⊎ (length row ≤ i) → fields_from schema i (fields_kinds (drop i row)) (after i xs) ≡ 41 ∷ []
    of (inl l) = no_values i (fields_kinds (drop i row)) (after i xs) (no_after xs i l)
    of (inr l) = no_kinds i (fields_kinds (drop i row)) (after i xs) (kinds_end row i l)

-- pairs
pairs_later : (i : ℕ) (ks vs : List (List ℕ)) → pairs_from (i + 1) ks vs ≡ next_pairs ks vs
pairs_later i ks vs = let e : i + 1 ≡ suc i = omega arith in rw e refl

texts_at : (schema : Schema) (k : KindTree) (xs : Trees) (i : ℕ) (t : Tree) → Some t ≡ nth xs i
    → each_text schema k (after i xs) ≡ spell schema k t ∷ each_text schema k (after (i + 1) xs)
unfolding each_text
texts_at schema k xs i t e = ap (each_text schema k) (after_at xs i t e)

no_texts : (schema : Schema) (k : KindTree) (xs : Trees) (i : ℕ) → count xs ≤ i → each_text schema k (after i xs) ≡ []
unfolding each_text
no_texts schema k xs i le = ap (each_text schema k) (no_after xs i le)

pub pair_on : (schema : Schema) (key one : KindTree) (ks vs : Trees) (i : ℕ) (k v : Tree) (out mid named parted new total : List ℕ)
    → Some k ≡ nth ks i → Some v ≡ nth vs i → ((i ≡ 0) × (mid ≡ out)) ⊎ ((0 < i) × (mid ≡ out ++ 44 ∷ []))
    → named ≡ mid ++ spell schema key k → parted ≡ named ++ 58 ∷ [] → new ≡ parted ++ spell schema one v
    → out ++ pairs_from i (each_text schema key (after i ks)) (each_text schema one (after i vs)) ≡ total
    → new ++ pairs_from (i + 1) (each_text schema key (after (i + 1) ks)) (each_text schema one (after (i + 1) vs)) ≡ total
pair_on schema key one ks vs i k v out mid named parted new total ek ev m a b c so_far =
    ap (λ (l : List ℕ). new ++ l) (pairs_later i (each_text schema key (after (i + 1) ks)) (each_text schema one (after (i + 1) vs)))
    ∙ ap (λ (l : List ℕ). l ++ rest) (c ∙ ap (λ (l : List ℕ). l ++ sv) (b ∙ ap (λ (l : List ℕ). l ++ 58 ∷ []) a))
    ∙ append_assoc ((mid ++ sk) ++ 58 ∷ []) sv rest ∙ append_assoc (mid ++ sk) (58 ∷ []) (sv ++ rest) ∙ append_assoc mid sk (58 ∷ (sv ++ rest))
    ∙ of i m (texts_at schema key ks i k ek) (texts_at schema one vs i v ev) so_far
  where
    rest : List ℕ
    rest = next_pairs (each_text schema key (after (i + 1) ks)) (each_text schema one (after (i + 1) vs))

    sk : List ℕ
    sk = spell schema key k

    sv : List ℕ
    sv = spell schema one v

    of : (j : ℕ) → ((j ≡ 0) × (mid ≡ out)) ⊎ ((0 < j) × (mid ≡ out ++ 44 ∷ []))
        → each_text schema key (after i ks) ≡ sk ∷ each_text schema key (after (i + 1) ks)
        → each_text schema one (after i vs) ≡ sv ∷ each_text schema one (after (i + 1) vs)
        → out ++ pairs_from j (each_text schema key (after i ks)) (each_text schema one (after i vs)) ≡ total
        → mid ++ (sk ++ 58 ∷ (sv ++ rest)) ≡ total
    of zero (inl m) p q s =
        ap (λ (l : List ℕ). l ++ (sk ++ 58 ∷ (sv ++ rest))) m.1
        ∙ sym (ap (λ (l : List (List ℕ)). out ++ first_pair l (each_text schema one (after i vs))) p
        ∙ ap (λ (l : List (List ℕ)). out ++ first_pair (sk ∷ each_text schema key (after (i + 1) ks)) l) q) ∙ s
    of (suc j) (inl m) p q s = absurd (omega (arith, m.0))
    of zero (inr m) p q s = absurd (omega (arith, m.0))
    of (suc j) (inr m) p q s =
        ap (λ (l : List ℕ). l ++ (sk ++ 58 ∷ (sv ++ rest))) m.1 ∙ append_assoc out (44 ∷ []) (sk ++ 58 ∷ (sv ++ rest))
        ∙ sym (ap (λ (l : List (List ℕ)). out ++ next_pairs l (each_text schema one (after i vs))) p
        ∙ ap (λ (l : List (List ℕ)). out ++ next_pairs (sk ∷ each_text schema key (after (i + 1) ks)) l) q) ∙ s

pub pairs_done : (schema : Schema) (key one : KindTree) (ks vs : Trees) (i : ℕ) (out new total : List ℕ) → (count ks ≤ i) ⊎ (count vs ≤ i)
    → new ≡ out ++ 125 ∷ []
    → out ++ pairs_from i (each_text schema key (after i ks)) (each_text schema one (after i vs)) ≡ total → new ≡ total
pairs_done schema key one ks vs i out new total le n so_far = n ∙ ap (λ (l : List ℕ). out ++ l) (sym (of le)) ∙ so_far
  where
    no_keys : (i : ℕ) (ks vs : List (List ℕ)) → ks ≡ [] → pairs_from i ks vs ≡ 125 ∷ []
    no_keys zero [] vs f = refl
    no_keys (suc i) [] vs f = refl
    no_keys i (k ∷ ks) vs f = absurd (cc)

    no_values : (i : ℕ) (ks vs : List (List ℕ)) → vs ≡ [] → pairs_from i ks vs ≡ 125 ∷ []
    no_values zero [] [] f = refl
    no_values zero (k ∷ ks) [] f = refl
    no_values (suc i) [] [] f = refl
    no_values (suc i) (k ∷ ks) [] f = refl
    no_values i ks (v ∷ vs) f = absurd (cc)

    of : (count ks ≤ i) ⊎ (count vs ≤ i) → pairs_from i (each_text schema key (after i ks)) (each_text schema one (after i vs)) ≡ 125 ∷ []
    of (inl l) = no_keys i (each_text schema key (after i ks)) (each_text schema one (after i vs)) (no_texts schema key ks i l)
    of (inr l) = no_values i (each_text schema key (after i ks)) (each_text schema one (after i vs)) (no_texts schema one vs i l)
