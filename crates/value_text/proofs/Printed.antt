-- What is still to be written of lists of values, and how deep they are.
use Rattle.std.proofs.Common.{◌≡◌, ℕ, zero, suc, ◌+◌, ◌<◌, ◌≤◌, ◌⊎◌, inl, inr, List, [], ◌∷◌, ◌++◌, length, map, drop, get_or}
use Rattle.std.proofs.Common.{refl, sym, ap, ◌∙◌, append_assoc, arith, add-one, drop-cons}
use Rattle.mj_schema.specs.KindTrees.{KindTree}
use Rattle.mj_schema.specs.declared.rows.FieldRow.{FieldRow}
use Rattle.mj_schema.specs.declared.schema.Schema.{Schema}
use Rattle.wire_model.specs.Trees.{Trees, trees, view, none, more}
use Rattle.wire_model.specs.declared.value.Value.{Value}
use Rattle.value_text.specs.Brackets.{brackets, brackets_in}
use Rattle.value_text.specs.Spelling.{fields_kinds, spell, first_item, next_items, each_text, first_pair, next_pairs, first_field, next_fields}

abbrev pub trees_in : List Value → Trees
trees_in vs = trees (map view vs)

pub trees_at : (vs : List Value) (i : ℕ) (v : Value) → i < length vs → v ≡ get_or vs i v → trees_in (drop i vs) ≡ more (view v) (trees_in (drop (i + 1) vs))
trees_at vs i v lt e =
    let cut : drop i vs ≡ get_or vs i v ∷ drop (i + 1) vs = rw (add-one, drop-cons vs i v) refl in
    ap (λ (l : List Value). trees_in l) cut ∙ ap (λ (w : Value). more (view w) (trees_in (drop (i + 1) vs))) (sym e)

pub no_trees : (vs : List Value) (i : ℕ) → length vs ≤ i → trees_in (drop i vs) ≡ none
no_trees [] zero le = refl
no_trees [] (suc i) le = refl
no_trees (v ∷ vs) zero le = absurd (omega (arith, le))
no_trees (v ∷ vs) (suc i) le = no_trees vs i (omega (arith, le))

-- a value is no deeper than its list
pub brackets_at : (vs : List Value) (i : ℕ) (v : Value) → i < length vs → v ≡ get_or vs i v → brackets (view v) ≤ brackets_in (trees_in vs)
brackets_at [] i v lt e = absurd (omega (arith, lt))
brackets_at (w ∷ vs) zero v lt e = let s : brackets (view v) ≡ brackets (view w) = ap (λ (x : Value). brackets (view x)) e in omega (arith, s)
brackets_at (w ∷ vs) (suc i) v lt e = let k = brackets_at vs i v (omega (arith, lt)) e in omega (arith, k)

-- elements
abbrev pub items_from : Schema → KindTree → ℕ → Trees → List ℕ
items_from schema k zero ts = first_item schema k ts
items_from schema k (suc i) ts = next_items schema k ts

items_later : (schema : Schema) (k : KindTree) (i : ℕ) (ts : Trees) → items_from schema k (i + 1) ts ≡ next_items schema k ts
items_later schema k i ts = let e : i + 1 ≡ suc i = omega arith in rw e refl

-- one is written, and where it isn't the first, a comma before it
pub item_on : (schema : Schema) (k : KindTree) (vs : List Value) (i : ℕ) (v : Value) (out mid new total : List ℕ) → i < length vs → v ≡ get_or vs i v
    → ((i ≡ 0) × (mid ≡ out)) ⊎ ((0 < i) × (mid ≡ out ++ 44 ∷ [])) → new ≡ mid ++ spell schema k (view v)
    → out ++ items_from schema k i (trees_in (drop i vs)) ≡ total → new ++ items_from schema k (i + 1) (trees_in (drop (i + 1) vs)) ≡ total
unfolding first_item next_items
item_on schema k vs zero v out mid new total lt e (inl m) n so_far =
    let ts = trees_in (drop 1 vs) in
    ap (λ (l : List ℕ). l ++ next_items schema k ts) (n ∙ ap (λ (l : List ℕ). l ++ spell schema k (view v)) m.1)
    ∙ append_assoc out (spell schema k (view v)) (next_items schema k ts)
    ∙ sym (ap (λ (t : Trees). out ++ first_item schema k t) (trees_at vs 0 v lt e)) ∙ so_far
item_on schema k vs (suc i) v out mid new total lt e (inl m) n so_far = absurd (omega (arith, m.0))
item_on schema k vs zero v out mid new total lt e (inr m) n so_far = absurd (omega (arith, m.0))
item_on schema k vs (suc i) v out mid new total lt e (inr m) n so_far =
    let ts = trees_in (drop (suc i + 1) vs) in
    let s = spell schema k (view v) in
    ap (λ (l : List ℕ). new ++ l) (items_later schema k (suc i) ts) ∙ ap (λ (l : List ℕ). l ++ next_items schema k ts) (n ∙ ap (λ (l : List ℕ). l ++ s) m.1)
    ∙ append_assoc (out ++ 44 ∷ []) s (next_items schema k ts) ∙ append_assoc out (44 ∷ []) (s ++ next_items schema k ts)
    ∙ sym (ap (λ (t : Trees). out ++ next_items schema k t) (trees_at vs (suc i) v lt e)) ∙ so_far

pub items_done : (schema : Schema) (k : KindTree) (vs : List Value) (i : ℕ) (out new total : List ℕ) → length vs ≤ i → new ≡ out ++ 93 ∷ []
    → out ++ items_from schema k i (trees_in (drop i vs)) ≡ total → new ≡ total
unfolding first_item next_items
items_done schema k vs i out new total le n so_far = n ∙ ap (λ (l : List ℕ). out ++ l) (sym (of i (trees_in (drop i vs)) (no_trees vs i le))) ∙ so_far
  where
    of : (i : ℕ) (ts : Trees) → ts ≡ none → items_from schema k i ts ≡ 93 ∷ []
    of zero none f = refl
    of (suc i) none f = refl
    of i (more t ts) f = absurd (cc)

-- fields
abbrev pub fields_from : Schema → ℕ → List KindTree → Trees → List ℕ
fields_from schema zero ks ts = first_field schema ks ts
fields_from schema (suc i) ks ts = next_fields schema ks ts

fields_later : (schema : Schema) (i : ℕ) (ks : List KindTree) (ts : Trees) → fields_from schema (i + 1) ks ts ≡ next_fields schema ks ts
fields_later schema i ks ts = let e : i + 1 ≡ suc i = omega arith in rw e refl

kinds_at : (row : List FieldRow) (i : ℕ) (f : FieldRow) → i < length row → f ≡ get_or row i f
    → fields_kinds (drop i row) ≡ f.kind ∷ fields_kinds (drop (i + 1) row)
kinds_at row i f lt e =
    let cut : drop i row ≡ get_or row i f ∷ drop (i + 1) row = rw (add-one, drop-cons row i f) refl in
    ap fields_kinds cut ∙ ap (λ (g : FieldRow). g.kind ∷ fields_kinds (drop (i + 1) row)) (sym e)

kinds_end : (row : List FieldRow) (i : ℕ) → length row ≤ i → fields_kinds (drop i row) ≡ []
kinds_end [] zero le = refl
kinds_end [] (suc i) le = refl
kinds_end (f ∷ fs) zero le = absurd (omega (arith, le))
kinds_end (f ∷ fs) (suc i) le = kinds_end fs i (omega (arith, le))

pub field_on : (schema : Schema) (row : List FieldRow) (vs : List Value) (i : ℕ) (f : FieldRow) (v : Value) (out mid new total : List ℕ) → i < length row
    → f ≡ get_or row i f
    → i < length vs → v ≡ get_or vs i v → ((i ≡ 0) × (mid ≡ out)) ⊎ ((0 < i) × (mid ≡ out ++ 44 ∷ [])) → new ≡ mid ++ spell schema f.kind (view v)
    → out ++ fields_from schema i (fields_kinds (drop i row)) (trees_in (drop i vs)) ≡ total
    → new ++ fields_from schema (i + 1) (fields_kinds (drop (i + 1) row)) (trees_in (drop (i + 1) vs)) ≡ total
unfolding first_field next_fields
field_on schema row vs zero f v out mid new total lf ef lv ev (inl m) n so_far =
    let ts = trees_in (drop 1 vs) in
    let ks = fields_kinds (drop 1 row) in
    let s = spell schema f.kind (view v) in
    ap (λ (l : List ℕ). l ++ next_fields schema ks ts) (n ∙ ap (λ (l : List ℕ). l ++ s) m.1) ∙ append_assoc out s (next_fields schema ks ts)
    ∙ sym (ap (λ (t : Trees). out ++ first_field schema (fields_kinds (drop 0 row)) t) (trees_at vs 0 v lv ev)
    ∙ ap (λ (l : List KindTree). out ++ first_field schema l (more (view v) ts)) (kinds_at row 0 f lf ef)) ∙ so_far
field_on schema row vs (suc i) f v out mid new total lf ef lv ev (inl m) n so_far = absurd (omega (arith, m.0))
field_on schema row vs zero f v out mid new total lf ef lv ev (inr m) n so_far = absurd (omega (arith, m.0))
field_on schema row vs (suc i) f v out mid new total lf ef lv ev (inr m) n so_far =
    let ts = trees_in (drop (suc i + 1) vs) in
    let ks = fields_kinds (drop (suc i + 1) row) in
    let s = spell schema f.kind (view v) in
    ap (λ (l : List ℕ). new ++ l) (fields_later schema (suc i) ks ts)
    ∙ ap (λ (l : List ℕ). l ++ next_fields schema ks ts) (n ∙ ap (λ (l : List ℕ). l ++ s) m.1)
    ∙ append_assoc (out ++ 44 ∷ []) s (next_fields schema ks ts) ∙ append_assoc out (44 ∷ []) (s ++ next_fields schema ks ts)
    ∙ sym (ap (λ (t : Trees). out ++ next_fields schema (fields_kinds (drop (suc i) row)) t) (trees_at vs (suc i) v lv ev)
    ∙ ap (λ (l : List KindTree). out ++ next_fields schema l (more (view v) ts)) (kinds_at row (suc i) f lf ef)) ∙ so_far

pub fields_done : (schema : Schema) (row : List FieldRow) (vs : List Value) (i : ℕ) (out new total : List ℕ) → (length vs ≤ i) ⊎ (length row ≤ i)
    → new ≡ out ++ 41 ∷ []
    → out ++ fields_from schema i (fields_kinds (drop i row)) (trees_in (drop i vs)) ≡ total → new ≡ total
unfolding first_field next_fields
fields_done schema row vs i out new total le n so_far = n ∙ ap (λ (l : List ℕ). out ++ l) (sym (of le)) ∙ so_far
  where
    no_values : (i : ℕ) (ks : List KindTree) (ts : Trees) → ts ≡ none → fields_from schema i ks ts ≡ 41 ∷ []
    no_values zero [] none f = refl
    no_values zero (k ∷ ks) none f = refl
    no_values (suc i) [] none f = refl
    no_values (suc i) (k ∷ ks) none f = refl
    no_values i ks (more t ts) f = absurd (cc)

    no_kinds : (i : ℕ) (ks : List KindTree) (ts : Trees) → ks ≡ [] → fields_from schema i ks ts ≡ 41 ∷ []
    no_kinds zero [] ts f = refl
    no_kinds (suc i) [] ts f = refl
    no_kinds i (k ∷ ks) ts f = absurd (cc)

    of : (length vs ≤ i) ⊎ (length row ≤ i) → fields_from schema i (fields_kinds (drop i row)) (trees_in (drop i vs)) ≡ 41 ∷ []
    of (inl l) = no_values i (fields_kinds (drop i row)) (trees_in (drop i vs)) (no_trees vs i l)
    of (inr l) = no_kinds i (fields_kinds (drop i row)) (trees_in (drop i vs)) (kinds_end row i l)

-- pairs
abbrev pub pairs_from : ℕ → List (List ℕ) → List (List ℕ) → List ℕ
pairs_from zero ks vs = first_pair ks vs
pairs_from (suc i) ks vs = next_pairs ks vs

pairs_later : (i : ℕ) (ks vs : List (List ℕ)) → pairs_from (i + 1) ks vs ≡ next_pairs ks vs
pairs_later i ks vs = let e : i + 1 ≡ suc i = omega arith in rw e refl

texts_at : (schema : Schema) (k : KindTree) (vs : List Value) (i : ℕ) (v : Value) → i < length vs → v ≡ get_or vs i v
    → each_text schema k (trees_in (drop i vs)) ≡ spell schema k (view v) ∷ each_text schema k (trees_in (drop (i + 1) vs))
unfolding each_text
texts_at schema k vs i v lt e = ap (each_text schema k) (trees_at vs i v lt e)

no_texts : (schema : Schema) (k : KindTree) (vs : List Value) (i : ℕ) → length vs ≤ i → each_text schema k (trees_in (drop i vs)) ≡ []
unfolding each_text
no_texts schema k vs i le = ap (each_text schema k) (no_trees vs i le)

pub pair_on : (schema : Schema) (key one : KindTree) (ks vs : List Value) (i : ℕ) (k v : Value) (out mid named parted new total : List ℕ) → i < length ks
    → k ≡ get_or ks i k
    → i < length vs → v ≡ get_or vs i v → ((i ≡ 0) × (mid ≡ out)) ⊎ ((0 < i) × (mid ≡ out ++ 44 ∷ []))
    → named ≡ mid ++ spell schema key (view k) → parted ≡ named ++ 58 ∷ [] → new ≡ parted ++ spell schema one (view v)
    → out ++ pairs_from i (each_text schema key (trees_in (drop i ks))) (each_text schema one (trees_in (drop i vs))) ≡ total
    → new ++ pairs_from (i + 1) (each_text schema key (trees_in (drop (i + 1) ks))) (each_text schema one (trees_in (drop (i + 1) vs))) ≡ total
pair_on schema key one ks vs i k v out mid named parted new total lk ek lv ev m a b c so_far =
    ap (λ (l : List ℕ). new ++ l) (pairs_later i (each_text schema key (trees_in (drop (i + 1) ks))) (each_text schema one (trees_in (drop (i + 1) vs))))
    ∙ ap (λ (l : List ℕ). l ++ rest) (c ∙ ap (λ (l : List ℕ). l ++ sv) (b ∙ ap (λ (l : List ℕ). l ++ 58 ∷ []) a))
    ∙ append_assoc ((mid ++ sk) ++ 58 ∷ []) sv rest ∙ append_assoc (mid ++ sk) (58 ∷ []) (sv ++ rest) ∙ append_assoc mid sk (58 ∷ (sv ++ rest))
    ∙ of i m (texts_at schema key ks i k lk ek) (texts_at schema one vs i v lv ev) so_far
  where
    rest : List ℕ
    rest = next_pairs (each_text schema key (trees_in (drop (i + 1) ks))) (each_text schema one (trees_in (drop (i + 1) vs)))

    sk : List ℕ
    sk = spell schema key (view k)

    sv : List ℕ
    sv = spell schema one (view v)

    of : (j : ℕ) → ((j ≡ 0) × (mid ≡ out)) ⊎ ((0 < j) × (mid ≡ out ++ 44 ∷ []))
        → each_text schema key (trees_in (drop i ks)) ≡ sk ∷ each_text schema key (trees_in (drop (i + 1) ks))
        → each_text schema one (trees_in (drop i vs)) ≡ sv ∷ each_text schema one (trees_in (drop (i + 1) vs))
        → out ++ pairs_from j (each_text schema key (trees_in (drop i ks))) (each_text schema one (trees_in (drop i vs))) ≡ total
        → mid ++ (sk ++ 58 ∷ (sv ++ rest)) ≡ total
    of zero (inl m) p q s =
        ap (λ (l : List ℕ). l ++ (sk ++ 58 ∷ (sv ++ rest))) m.1
        ∙ sym (ap (λ (l : List (List ℕ)). out ++ first_pair l (each_text schema one (trees_in (drop i vs)))) p
        ∙ ap (λ (l : List (List ℕ)). out ++ first_pair (sk ∷ each_text schema key (trees_in (drop (i + 1) ks))) l) q) ∙ s
    of (suc j) (inl m) p q s = absurd (omega (arith, m.0))
    of zero (inr m) p q s = absurd (omega (arith, m.0))
    of (suc j) (inr m) p q s =
        ap (λ (l : List ℕ). l ++ (sk ++ 58 ∷ (sv ++ rest))) m.1 ∙ append_assoc out (44 ∷ []) (sk ++ 58 ∷ (sv ++ rest))
        ∙ sym (ap (λ (l : List (List ℕ)). out ++ next_pairs l (each_text schema one (trees_in (drop i vs)))) p
        ∙ ap (λ (l : List (List ℕ)). out ++ next_pairs (sk ∷ each_text schema key (trees_in (drop (i + 1) ks))) l) q) ∙ s

pub pairs_done : (schema : Schema) (key one : KindTree) (ks vs : List Value) (i : ℕ) (out new total : List ℕ) → (length ks ≤ i) ⊎ (length vs ≤ i)
    → new ≡ out ++ 125 ∷ []
    → out ++ pairs_from i (each_text schema key (trees_in (drop i ks))) (each_text schema one (trees_in (drop i vs))) ≡ total → new ≡ total
pairs_done schema key one ks vs i out new total le n so_far = n ∙ ap (λ (l : List ℕ). out ++ l) (sym (of le)) ∙ so_far
  where
    no_keys : (i : ℕ) (ks vs : List (List ℕ)) → ks ≡ [] → pairs_from i ks vs ≡ 125 ∷ []
    no_keys zero [] vs f = refl
    no_keys (suc i) [] vs f = refl
    no_keys i (k ∷ ks) vs f = absurd (cc)

    no_values : (i : ℕ) (ks vs : List (List ℕ)) → vs ≡ [] → pairs_from i ks vs ≡ 125 ∷ []
    no_values zero [] [] f = refl
    no_values zero (k ∷ ks) [] f = refl
    no_values (suc i) [] [] f = refl
    no_values (suc i) (k ∷ ks) [] f = refl
    no_values i ks (v ∷ vs) f = absurd (cc)

    of : (length ks ≤ i) ⊎ (length vs ≤ i)
        → pairs_from i (each_text schema key (trees_in (drop i ks))) (each_text schema one (trees_in (drop i vs))) ≡ 125 ∷ []
    of (inl l) = no_keys i (each_text schema key (trees_in (drop i ks))) (each_text schema one (trees_in (drop i vs))) (no_texts schema key ks i l)
    of (inr l) = no_values i (each_text schema key (trees_in (drop i ks))) (each_text schema one (trees_in (drop i vs))) (no_texts schema one vs i l)
