-- What objects of each sort say of their parts and of their text.
use Rattle.std.proofs.Common.{◌≡◌, ℕ, suc, ◌≤◌, max, arith, ◌⊎◌, inl, inr, Bool, cond, List, ◌∷◌, [], ◌++◌, Some, None, refl, sym, ap, subst, ◌∙◌}
use Rattle.std.specs.Prelude.{decimal}
use Rattle.std.proofs.lemmas.Bool.{eq-eqb}
use Rattle.mj_schema.specs.KindTrees.{KindTree}
use Rattle.mj_schema.specs.declared.schema.Schema.{Schema}
use Rattle.value_text.specs.Brackets.{brackets, brackets_in}
use Rattle.value_text.specs.Spelling.{spell, both_lists, first_item, each_text, first_pair, first_field, element_of, key_of, value_of, field_kinds, held}
use Rattle.view_text.specs.steps.Inside.{IsListed, IsMap, IsUnion, inside, keys_in, values_in}
use Rattle.wire_model.specs.Trees.{Tree, Trees, Items, Pairs, Fields, Member, Unknown, none, more}
use Rattle.wire_view.specs.Parts.{part, tag_of}

pub items_listed : (t : Tree) (ts : Trees) → t ≡ Items ts → IsListed t
items_listed t ts e = subst IsListed (sym e) (record { parts = λ i. refl; many = refl; deep = refl })

pub fields_listed : (t : Tree) (ts : Trees) → t ≡ Fields ts → IsListed t
fields_listed t ts e = subst IsListed (sym e) (record { parts = λ i. refl; many = refl; deep = refl })

pub is_map : (t : Tree) (ks vs : Trees) → t ≡ Pairs (more (Items ks) (more (Items vs) none)) → IsMap t
is_map t ks vs e = subst IsMap (sym e) (record { keys = refl; values = refl; is = refl })

-- the text of an array, by its elements
pub items_spelled : (schema : Schema) (k of : KindTree) (t : Tree) (ts : Trees) → t ≡ Items ts → of ≡ element_of k
    → 91 ∷ first_item schema of (inside t) ≡ spell schema k t
unfolding spell
items_spelled schema k of t ts e is =
    ap (λ (l : KindTree). 91 ∷ first_item schema l (inside t)) is
    ∙ subst (λ (u : Tree). 91 ∷ first_item schema (element_of k) (inside u) ≡ spell schema k u) (sym e) refl

-- of a struct, by its fields
pub fields_spelled : (schema : Schema) (k : KindTree) (kinds : List KindTree) (t : Tree) (ts : Trees) → t ≡ Fields ts → kinds ≡ field_kinds schema k
    → 40 ∷ first_field schema kinds (inside t) ≡ spell schema k t
unfolding spell
fields_spelled schema k kinds t ts e is =
    ap (λ (l : List KindTree). 40 ∷ first_field schema l (inside t)) is
    ∙ subst (λ (u : Tree). 40 ∷ first_field schema (field_kinds schema k) (inside u) ≡ spell schema k u) (sym e) refl

-- of a map, by its two lists
pub pairs_spelled : (schema : Schema) (k key one : KindTree) (t keys values : Tree) → IsMap t → Some keys ≡ part t 0 → Some values ≡ part t 1
    → key ≡ key_of k → one ≡ value_of k
    → 123 ∷ first_pair (each_text schema key (inside keys)) (each_text schema one (inside values)) ≡ spell schema k t
unfolding spell both_lists
pairs_spelled schema k key one t keys values map ek ev same like =
    let first : keys ≡ Items (keys_in t) = let e : Some keys ≡ Some (Items (keys_in t)) = ek ∙ map.keys in cc in
    let second : values ≡ Items (values_in t) = let e : Some values ≡ Some (Items (values_in t)) = ev ∙ map.values in cc in
    ap (λ (u : Tree). 123 ∷ first_pair (each_text schema key (inside u)) (each_text schema one (inside values))) first
    ∙ ap (λ (u : Tree). 123 ∷ first_pair (each_text schema key (keys_in t)) (each_text schema one (inside u))) second
    ∙ ap (λ (l : KindTree). 123 ∷ first_pair (each_text schema l (keys_in t)) (each_text schema one (values_in t))) same
    ∙ ap (λ (l : KindTree). 123 ∷ first_pair (each_text schema (key_of k) (keys_in t)) (each_text schema l (values_in t))) like
    ∙ ap (spell schema k) (sym map.is)

-- a list of a map
pub list_listed : (t list : Tree) (ts : Trees) (i : ℕ) → part t i ≡ Some (Items ts) → Some list ≡ part t i → IsListed list
list_listed t list ts i is e = let same : list ≡ Items ts = let both : Some list ≡ Some (Items ts) = e ∙ is in cc in items_listed list ts same

-- a map is no less deep than its lists
pub map_deep : (t keys values : Tree) → IsMap t → Some keys ≡ part t 0 → Some values ≡ part t 1 → max (brackets keys) (brackets values) ≤ brackets t
map_deep t keys values map ek ev =
    let first : keys ≡ Items (keys_in t) = let e : Some keys ≡ Some (Items (keys_in t)) = ek ∙ map.keys in cc in
    let second : values ≡ Items (values_in t) = let e : Some values ≡ Some (Items (values_in t)) = ev ∙ map.values in cc in
    let a : brackets keys ≡ suc (brackets_in (keys_in t)) = ap brackets first in
    let b : brackets values ≡ suc (brackets_in (values_in t)) = ap brackets second in
    let whole : brackets t ≡ max (suc (brackets_in (keys_in t))) (max (suc (brackets_in (values_in t))) 0) = ap brackets map.is in
    omega (arith, a, b, whole)

-- a union has a tag
pub tag_there : (t : Tree) → IsUnion t → None ≡ tag_of t → ⊥
tag_there t shape e = of shape.1
  where
    of : (t ≡ Unknown shape.0) ⊎ ((u : Tree) × (t ≡ Member shape.0 u)) → ⊥
    of (inl is) = let no : None ≡ Some shape.0 = e ∙ ap tag_of is in cc
    of (inr m) = let no : None ≡ Some shape.0 = e ∙ ap tag_of m.1 in cc

-- what is held under the tag is the part of that number
member_of : (tag : ℕ) (u : Tree) → part (Member tag u) tag ≡ Some u
member_of tag u = ap (λ (b : Bool). cond b (Some u) None) (eq-eqb tag tag refl)

pub member_is : (t : Tree) (tag : ℕ) (x : Tree) → IsUnion t → Some tag ≡ tag_of t → Some x ≡ part t tag → t ≡ Member tag x
member_is t tag x shape named e = of shape.1
  where
    of : (t ≡ Unknown shape.0) ⊎ ((u : Tree) × (t ≡ Member shape.0 u)) → t ≡ Member tag x
    of (inl is) = let no : Some x ≡ None = e ∙ ap (λ (v : Tree). part v tag) is in absurd cc
    of (inr m) =
        let tags : Some tag ≡ Some shape.0 = named ∙ ap tag_of m.1 in
        let same : shape.0 ≡ tag = cc in
        let is : t ≡ Member tag m.0 = m.1 ∙ ap (λ (n : ℕ). Member n m.0) same in
        let parts : Some x ≡ Some m.0 = e ∙ ap (λ (v : Tree). part v tag) is ∙ member_of tag m.0 in
        let held' : m.0 ≡ x = cc in
        is ∙ ap (Member tag) held'

pub unknown_is : (t : Tree) (tag : ℕ) → IsUnion t → Some tag ≡ tag_of t → None ≡ part t tag → t ≡ Unknown tag
unknown_is t tag shape named e = of shape.1
  where
    of : (t ≡ Unknown shape.0) ⊎ ((u : Tree) × (t ≡ Member shape.0 u)) → t ≡ Unknown tag
    of (inl is) =
        let tags : Some tag ≡ Some shape.0 = named ∙ ap tag_of is in
        let same : shape.0 ≡ tag = cc in
        is ∙ ap Unknown same
    of (inr m) =
        let tags : Some tag ≡ Some shape.0 = named ∙ ap tag_of m.1 in
        let same : shape.0 ≡ tag = cc in
        let is : t ≡ Member tag m.0 = m.1 ∙ ap (λ (n : ℕ). Member n m.0) same in
        let no : None ≡ Some m.0 = e ∙ ap (λ (v : Tree). part v tag) is ∙ member_of tag m.0 in
        absurd cc

-- its text
pub member_spelled : (schema : Schema) (k : KindTree) (t : Tree) (tag : ℕ) (x : Tree) → t ≡ Member tag x
    → 60 ∷ (decimal tag ++ 58 ∷ (spell schema (held schema k tag) x ++ 62 ∷ [])) ≡ spell schema k t
unfolding spell
member_spelled schema k t tag x e = ap (spell schema k) (sym e)

pub unknown_spelled : (schema : Schema) (k : KindTree) (t : Tree) (tag : ℕ) → t ≡ Unknown tag → 60 ∷ (decimal tag ++ 62 ∷ []) ≡ spell schema k t
unfolding spell
unknown_spelled schema k t tag e = ap (spell schema k) (sym e)
