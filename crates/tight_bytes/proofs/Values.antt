-- What the values of a list, of a map and of a struct are seen as, and that they are smaller.
use Rattle.std.proofs.Common.{◌≡◌, ℕ, suc, ◌+◌, ◌<◌, ◌≤◌, List, [], ◌∷◌, length, drop, get_or, map, Vec, Global, refl, sym, ap, add-one, drop-cons, arith, rules}
use Rattle.std.proofs.lemmas.List.{drop_all}
use Rattle.wire_model.specs.declared.value.Value.{Value, the_lemmas}
use Rattle.wire_model.specs.declared.value.Value.TheVariants as values
use Rattle.wire_model.specs.Trees.{view, trees, Items, Fields, Pairs, more, none, count}
use denote.Param.Weighed.{most}
use Rattle.wire_model.proofs.value.Value.TheLaws.{the_size}

pub size_map : (ks vs : Vec Value Global) → most the_size ks.items < the_size (values.Map ks vs)
size_map ks vs = search (rules, the_lemmas)

pub size_map2 : (ks vs : Vec Value Global) → most the_size vs.items < the_size (values.Map ks vs)
size_map2 ks vs = grind (arith, the_lemmas)

pub view_map : (ks vs : Vec Value Global) → view (values.Map ks vs) ≡ Pairs
    (more (Items (trees (map view ks.items))) (more (Items (trees (map view vs.items))) none))
view_map ks vs = search (rules, the_lemmas)

pub view_list : (vs : Vec Value Global) → view (values.List vs) ≡ Items (trees (map view vs.items))
view_list vs = search (rules, the_lemmas)

pub view_struct : (vs : Vec Value Global) → view (values.Struct vs) ≡ Fields (trees (map view vs.items))
view_struct vs = search (rules, the_lemmas)

-- the value that comes next, and those behind it
pub next_value : (vs : List Value) (i : ℕ) (v : Value) → i < length vs → v ≡ get_or vs i v
    → trees (map view (drop i vs)) ≡ more (view v) (trees (map view (drop (i + 1) vs)))
next_value vs i v lt is =
    let e : drop i vs ≡ v ∷ drop (i + 1) vs = rw (add-one, drop-cons vs i v) (ap (λ g. g ∷ drop (suc i) vs) (sym is)) in
    ap (λ l. trees (map view l)) e

-- and none
pub last_value : (vs : List Value) (i : ℕ) → length vs ≤ i → trees (map view (drop i vs)) ≡ none
last_value vs i le = ap (λ l. trees (map view l)) (drop_all i vs le)

-- as many trees as values
pub count_is : (vs : List Value) → count (trees (map view vs)) ≡ length vs
count_is [] = refl
count_is (v ∷ vs) = ap suc (count_is vs)
