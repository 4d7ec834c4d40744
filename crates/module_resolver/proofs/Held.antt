-- What has each full name, at the nodes of a tree of names.
use Rattle.std.proofs.Common.{◌≡◌, ℕ, zero, suc, ◌+◌, ◌-◌, ◌<◌, ◌≤◌, List, [], ◌∷◌, ◌++◌, map, length, take, drop, get_or, refl, sym, ◌∙◌, ap, subst, arith}
use Rattle.std.specs.Prelude.{Bool, true, false, reverse, ◌||◌, ◌==◌, Option, Some, None, slice_get, option_and_then, nat_eq, if◌then◌else◌}
use Rattle.std.specs.Option.{option_map, option_or, unwrap_or}
use Rattle.std.specs.Str.{bytes_eq}
use Rattle.std.proofs.lemmas.Bool.{eq-eqb, eqb-true, ne_eqb}
use Rattle.std.proofs.lemmas.List.{get_or-map, get_or_default, length-map, map-append}
use Rattle.std.proofs.Math.Seq.{take-length}
use Rattle.std.proofs.lemmas.Option.{slice_get-map, none-some, same_Some}
use Rattle.indexmap.specs.IndexMap.{get}
use Rattle.mojom_ast.specs.declared.names.Identifier.{Identifier}
use Rattle.mj_base.specs.Names.{within}
use Rattle.name_tree.specs.Walks.{walk, Grows}
use Rattle.name_tree.specs.Trees.{child, count, IsNameTree}
use Rattle.name_tree.proofs.Walks.{two_walks, in_tree, one_text, kept_walk}
use Rattle.name_tree.proofs.Steps.{as_before, grown_twice, same_owner}
use Rattle.name_tree.proofs.Owners.{walk_within, value_kept}
use Rattle.module_resolver.specs.declared.target.Target.{Target}
use Rattle.module_resolver.specs.declared.name_index.NameIndex.{NameIndex}
use Rattle.module_resolver.specs.declared.entry.Entry.{Entry}
use Rattle.module_resolver.specs.NameDots.{dots_in}
use Rattle.module_resolver.specs.Seats.{file_of, first_seen, owner, node_of, held}
use Rattle.module_resolver.specs.NamesOf.{texts_from, fronts_of}
use Rattle.module_resolver.specs.steps.Owners.{where_seen, Notes}
use Rattle.module_resolver.specs.steps.Held.{Adds, owner_below, IsSound, IsEntry, IsMeasured, Entered, NotedAt, KeepsNodes}
use Rattle.module_resolver.proofs.Owned.{written}
use Rattle.module_resolver.proofs.MarkedLengths.{no_both}
use Rattle.module_resolver.proofs.DotCounts.{dots_within}
use Rattle.module_resolver.proofs.OneMore.{take_item, map_reverse}

pub none_kept : {A B : Type 0} (own : A → Option B) → ((n : A) → own n ≡ None) → (o : Option A) → option_and_then own o ≡ None
none_kept own none None = refl
none_kept own none (Some n) = none n

-- a name is entered
pub entered : (old new : NameIndex) → new.owners ≡ old.owners → new.dots ≡ old.dots → IsSound old → IsNameTree new.tree
    → Grows (child old.tree) (count old.tree) (child new.tree) (count new.tree)
    → Entered old new
entered old new owners dots sound tree grows = record {
  sound = record {
    tree = tree;
    root = let one = sound.root in let more = grows.longer in omega (arith, one, more);
    inside = λ n le.
        ap (λ m. get nat_eq m n) owners ∙ sound.inside n (let more = grows.longer in omega (arith, more, le));
    dotted = λ name none. same name ∙ sound.dotted name (ap (λ m. get_or m.items (dots_in name) false) (sym dots) ∙ none);
  };
  grows = grows;
  same = same;
}
  where
    same : (name : List ℕ) → held new name ≡ held old name
    same name =
        ap (λ m. option_and_then (get nat_eq m) (walk (child new.tree) 0 [] name)) owners
        ∙ same_owner (get nat_eq old.owners) (child old.tree) (child new.tree) (count old.tree) (count new.tree) tree.tree grows sound.inside 0 [] name

-- nothing is entered
pub entered_none : (index : NameIndex) → IsSound index → Entered index index
entered_none index sound = record { sound = sound; grows = as_before (child index.tree) (count index.tree); same = λ name. refl }

-- names are entered, and then more
pub entered_twice : (old mid new : NameIndex) → Entered old mid → Entered mid new → Entered old new
entered_twice old mid new one two = record {
  sound = two.sound;
  grows = grown_twice (child old.tree) (child mid.tree) (child new.tree) (count old.tree) (count mid.tree) (count new.tree) one.grows two.grows;
  same = λ name. two.same name ∙ one.same name;
}

-- a node stays that of its name
pub node_kept : (old new : NameIndex) → Entered old new → (node : ℕ) (name : List ℕ) (found : ℕ) → node_of old node name ≡ Some found
    → node_of new node name ≡ Some found
node_kept old new both node name found is = kept_walk (child old.tree) (child new.tree) both.grows.kept node [] name found is

-- a node of a name is one of the tree
pub node_there : (index : NameIndex) → IsSound index → (node : ℕ) (name : List ℕ) (found : ℕ) → node_of index node name ≡ Some found → found < count index.tree
node_there index sound node name found is = in_tree (child index.tree) (count index.tree) sound.tree.tree node [] name found is

-- what stands somewhere is one name
pub measured : (index : NameIndex) → IsSound index → (name : List ℕ) (entry : Entry) → IsEntry index name entry → IsMeasured index entry
measured index sound name entry at = λ other also.
    let same : other ≡ name = one_text (child index.tree) (count index.tree) sound.tree.tree entry.node other name also at.is in
    ap dots_in same ∙ at.dotted

-- a name stays where it stands
pub entry_kept : (old new : NameIndex) → KeepsNodes old new → (name : List ℕ) (entry : Entry) → IsEntry old name entry → IsEntry new name entry
entry_kept old new keeps name entry at = record { is = keeps name entry.node at.is; dotted = at.dotted }

-- nodes stay those of their names
pub keeps_nodes : (old new : NameIndex) → Entered old new → KeepsNodes old new
keeps_nodes old new both = λ name node is. node_kept old new both 0 name node is

-- a name is entered within the one that stands somewhere
pub entry_within : (old new : NameIndex) → Entered old new → (outer name : List ℕ) (entry made : Entry) → IsEntry old outer entry
    → node_of new entry.node name ≡ Some made.node → made.dots ≡ entry.dots + dots_in name + 1
    → IsEntry new (within outer name) made
entry_within old new both outer name entry made at is dots =
    let here : node_of new 0 outer ≡ Some entry.node = node_kept old new both 0 outer entry.node at.is in
    let deep = dots_within outer name in
    let one = at.dotted in
    record {
      is = walk_within (child new.tree) outer name entry.node here ∙ is;
      dotted = omega (arith, deep, one, dots);
    }

held_marked : (step : ℕ → List ℕ → Option ℕ) (old new : ℕ → Option (List Target)) (node size len : ℕ) (target : Target) (name : List ℕ) (o : Option ℕ)
    → Adds old new node target → walk step 0 [] name ≡ o → (walk step 0 [] name ≡ Some node → size ≡ len) → (size == len) ≡ false
    → option_and_then old o ≡ None → option_and_then new o ≡ None
held_marked step old new node size len target name None adds e long apart none = refl
held_marked step old new node size len target name (Some k) adds e long apart none = go (node == k) refl
  where
    go : (b : Bool) → (node == k) ≡ b → new k ≡ None
    go true same =
        let here : node ≡ k = eqb-true node k same in
        let is : size ≡ len = long (e ∙ ap (λ (n : ℕ). Some n) (sym here)) in
        absurd (let clash : true ≡ false = sym (eq-eqb size len is) ∙ apart in cc)
    go false differs = adds.writes k ∙ (ap (λ (b : Bool). if b then Some adds.list else old k) differs ∙ none)

-- a target is noted where a name stands
pub noted : (old new : NameIndex) (entry : Entry) (target : Target) → new.tree ≡ old.tree → IsSound old → entry.node < count old.tree
    → IsMeasured old entry
    → ((k : ℕ) → get_or new.dots.items k false ≡ (get_or old.dots.items k false || (k == entry.dots)))
    → Adds (get nat_eq old.owners) (get nat_eq new.owners) entry.node target
    → NotedAt old new entry.node target
noted old new entry target tree sound there counts dots adds = record {
  sound = record {
    tree = subst (λ t. IsNameTree t) (sym tree) sound.tree;
    root = subst (λ t. 0 < count t) (sym tree) sound.root;
    inside = λ n le. beyond n (subst (λ t. count t ≤ n) tree le);
    dotted = λ name none.
        let both = no_both (get_or old.dots.items (dots_in name) false) (dots_in name == entry.dots) (sym (dots (dots_in name)) ∙ none) in
        ap (λ t. option_and_then (get nat_eq new.owners) (walk (child t) 0 [] name)) tree
        ∙ held_marked (child old.tree) (get nat_eq old.owners) (get nat_eq new.owners) entry.node (dots_in name) entry.dots target name
        (walk (child old.tree) 0 [] name) adds refl (counts name) both.1 (sound.dotted name both.0);
  };
  tree = tree;
  notes = λ name is. subst
      (λ t.
      Notes (held old) (λ (q : List ℕ). option_and_then (get nat_eq new.owners) (walk (child t) 0 [] q))
      (λ (p : ℕ → Bool) (q : List ℕ). if bytes_eq q name then where_seen p (file_of target) (Some target) else None)) (sym tree)
      (written (held old) (λ (q : List ℕ). option_and_then (get nat_eq new.owners) (walk (child old.tree) 0 [] q)) name adds.list target
      (λ p.
      adds.adds p
      ∙ ap (λ (o : Option (List Target)). option_or (first_seen p (unwrap_or o [])) (where_seen p (file_of target) (Some target)))
      (sym (ap (option_and_then (get nat_eq old.owners)) is)))
      (value_kept (child old.tree) (count old.tree) (get nat_eq old.owners) (get nat_eq new.owners) entry.node name adds.list sound.tree.tree is adds.writes));
}
  where
    beyond : (n : ℕ) → count old.tree ≤ n → get nat_eq new.owners n ≡ None
    beyond n le =
        let differs : (entry.node == n) ≡ false = ne_eqb entry.node n (λ same. let bad : ⊥ = omega (arith, there, le, same) in bad) in
        adds.writes n ∙ (ap (λ (b : Bool). if b then Some adds.list else get nat_eq old.owners n) differs ∙ sound.inside n le)

-- what has a name in another is what has it below the node of that other
pub below_is : (index : NameIndex) (seen : ℕ → Bool) (outer name : List ℕ) (node : ℕ) → node_of index 0 outer ≡ Some node
    → owner_below index seen node name ≡ owner (held index) seen (within outer name)
below_is index seen outer name node is =
    ap (λ (o : Option ℕ). first_seen seen (unwrap_or (option_and_then (get nat_eq index.owners) o) []))
    (sym (walk_within (child index.tree) outer name node is))

-- nothing has a name in another that was never entered
pub nothing_within : (index : NameIndex) (seen : ℕ → Bool) (outer name : List ℕ) → node_of index 0 outer ≡ None
    → owner (held index) seen (within outer name) ≡ None
nothing_within index seen outer name none =
    ap (λ (o : Option ℕ). first_seen seen (unwrap_or (option_and_then (get nat_eq index.owners) o) []))
    (two_walks (child index.tree) 0 [] outer name ∙ ap (option_and_then (λ (k : ℕ). walk (child index.tree) k [] name)) none)

same_first : (seen : ℕ → Bool) (o e : Option (List Target)) → o ≡ e → first_seen seen (unwrap_or o []) ≡ first_seen seen (unwrap_or e [])
same_first seen o e is = ap (λ (x : Option (List Target)). first_seen seen (unwrap_or x [])) is

-- what has a name stays where names are entered
pub owner_kept : (old new : NameIndex) → Entered old new → (p : ℕ → Bool) (q : List ℕ) → owner (held new) p q ≡ owner (held old) p q
owner_kept old new both p q = same_first p (held new q) (held old q) (both.same q)

-- a target is noted under a name that was entered just before
pub noted_behind : (old mid new : NameIndex) (more : (ℕ → Bool) → List ℕ → Option Target) → Entered old mid → Notes (held mid) (held new) more
    → Notes (held old) (held new) more
noted_behind old mid new more both notes = λ p q. notes p q ∙ ap (λ (o : Option Target). option_or o (more p q)) (owner_kept old mid both p q)

-- nodes stay those of their names
pub nodes_kept : (old new : NameIndex) → Entered old new → (names : List (List ℕ)) (nodes : List ℕ)
    → map (node_of old 0) names ≡ map (λ (n : ℕ). Some n) nodes → map (node_of new 0) names ≡ map (λ (n : ℕ). Some n) nodes
nodes_kept old new both [] nodes h = h
nodes_kept old new both (name ∷ names) [] h = absurd (let bad : ⊥ = cc in bad)
nodes_kept old new both (name ∷ names) (node ∷ nodes) h =
    let one : node_of new 0 name ≡ Some node = node_kept old new both 0 name node (ap (λ (os : List (Option ℕ)). get_or os 0 None) h) in
    let others = nodes_kept old new both names nodes (ap (λ (os : List (Option ℕ)). drop 1 os) h) in
    ap (λ (o : Option ℕ). o ∷ map (node_of new 0) names) one ∙ ap (λ (os : List (Option ℕ)). Some node ∷ os) others

-- lists of nodes stay those of the lists of their names
pub all_kept : {A : Type 0} (names : A → List (List ℕ)) (old new : NameIndex) → Entered old new → (xs : List A) (nodes : List (List ℕ))
    → map (λ (x : A). map (node_of old 0) (names x)) xs ≡ map (λ (ns : List ℕ). map (λ (n : ℕ). Some n) ns) nodes
    → map (λ (x : A). map (node_of new 0) (names x)) xs ≡ map (λ (ns : List ℕ). map (λ (n : ℕ). Some n) ns) nodes
all_kept names old new both [] nodes h = h
all_kept names old new both (x ∷ xs) [] h = absurd (let bad : ⊥ = cc in bad)
all_kept {A} names old new both (x ∷ xs) (one ∷ nodes) h =
    let here = nodes_kept old new both (names x) one (ap (λ (os : List (List (Option ℕ))). get_or os 0 []) h) in
    let others = all_kept names old new both xs nodes (ap (λ (os : List (List (Option ℕ))). drop 1 os) h) in
    ap (λ (o : List (Option ℕ)). o ∷ map (λ (y : A). map (node_of new 0) (names y)) xs) here
    ∙ ap (λ (os : List (List (Option ℕ))). map (λ (n : ℕ). Some n) one ∷ os) others

-- one item more on both sides
pub pushed_more : {A B C : Type 0} (f : A → C) (g : B → C) (xs : List A) (i : ℕ) (x : A) (ys more : List B) (y : B) → i < length xs → x ≡ get_or xs i x
    → more ≡ ys ++ y ∷ [] → map f (take i xs) ≡ map g ys → f x ≡ g y → map f (take (i + 1) xs) ≡ map g more
pushed_more {A} {B} {C} f g xs i x ys more y lt is pushed before here =
    ap (map f) (take_item xs i x lt is)
    ∙ (map-append f (take i xs) (x ∷ [])
    ∙ (ap (λ (zs : List C). zs ++ f x ∷ []) before
    ∙ (ap (λ (z : C). map g ys ++ z ∷ []) here
    ∙ (sym (map-append g ys (y ∷ [])) ∙ ap (map g) (sym pushed)))))

-- the first text is the one that is begun with
pub first_text : (text : List ℕ) (parts : List Identifier) → get_or (texts_from text parts) 0 [] ≡ text
first_text text [] = refl
first_text text (part ∷ parts) = refl

-- how many texts there are
pub texts_long : (text : List ℕ) (parts : List Identifier) → length (texts_from text parts) ≡ length parts + 1
texts_long text [] = refl
texts_long text (part ∷ parts) = let later = texts_long (within text part.text) parts in omega (arith, later)

-- the next text is that of one part more
pub next_text : (text : List ℕ) (parts : List Identifier) (i : ℕ) (part : Identifier) → i < length parts → part ≡ get_or parts i part
    → get_or (texts_from text parts) (i + 1) [] ≡ within (get_or (texts_from text parts) i []) part.text
next_text text [] i part lt is = absurd (let bad : ⊥ = omega (arith, lt) in bad)
next_text text (one ∷ parts) zero part lt is =
    first_text (within text one.text) parts ∙ ap (λ (p : Identifier). within text p.text) (sym is)
next_text text (one ∷ parts) (suc i) part lt is =
    let e : suc i + 1 ≡ suc (i + 1) = omega arith in
    rw e (next_text (within text one.text) parts i part (omega (arith, lt)) is)

-- one part more is entered
pub part_entered : (old new : NameIndex) (text : List ℕ) (parts : List Identifier) (i : ℕ) (part : Identifier) (node made : ℕ) (nodes more : List ℕ)
    → i < length parts → part ≡ get_or parts i part → Entered old new → more ≡ nodes ++ node ∷ []
    → map (node_of old 0) (take i (texts_from text parts)) ≡ map (λ (n : ℕ). Some n) nodes
    → node_of old 0 (get_or (texts_from text parts) i []) ≡ Some node
    → node_of new node part.text ≡ Some made
    → (map (node_of new 0) (take (i + 1) (texts_from text parts)) ≡ map (λ (n : ℕ). Some n) more)
    × (node_of new 0 (get_or (texts_from text parts) (i + 1) []) ≡ Some made)
part_entered old new text parts i part node made nodes more lt item both pushed before here is =
    let texts = texts_from text parts in
    let long = texts_long text parts in
    let there : i < length texts = omega (arith, lt, long) in
    let front = get_or texts i [] in
    let now : node_of new 0 front ≡ Some node = node_kept old new both 0 front node here in (
      pushed_more (node_of new 0) (λ (n : ℕ). Some n) texts i front nodes more node there (get_or_default texts i [] front there) pushed
          (nodes_kept old new both (take i texts) nodes before) now,
      ap (node_of new 0) (next_text text parts i part lt item) ∙ (walk_within (child new.tree) front part.text node now ∙ is),
    )

-- the nodes of a list of names, one by one
pub node_at : (index : NameIndex) (names : List (List ℕ)) (nodes : List ℕ) (k : ℕ) → map (node_of index 0) names ≡ map (λ (n : ℕ). Some n) nodes
    → k < length names → (k < length nodes) × (node_of index 0 (get_or names k []) ≡ Some (get_or nodes k 0))
node_at index names nodes k h lt =
    let many : length names ≡ length nodes =
    sym (length-map names (node_of index 0)) ∙ (ap (λ (os : List (Option ℕ)). length os) h ∙ length-map nodes (λ (n : ℕ). Some n)) in
    let there : k < length nodes = omega (arith, many, lt) in (
      there,
      sym (get_or-map (node_of index 0) names k [] None lt)
          ∙ (ap (λ (os : List (Option ℕ)). get_or os k None) h ∙ get_or-map (λ (n : ℕ). Some n) nodes k 0 None there),
    )

-- what two lists that agree have at one place
pub same_at : {A B C : Type 0} (f : A → C) (g : B → C) (xs : List A) (ys : List B) (i : ℕ) (x : A) (y : B) → map f xs ≡ map g ys
    → slice_get xs i ≡ Some x → slice_get ys i ≡ Some y → f x ≡ g y
same_at {A} {B} {C} f g xs ys i x y h is there =
    same_Some (f x) (g y)
    (sym (ap (option_map f) is) ∙ (sym (slice_get-map f xs i)
    ∙ (ap (λ (zs : List C). slice_get zs i) h ∙ (slice_get-map g ys i ∙ ap (option_map g) there))))

-- the second of two lists that agree has what the first has
pub both_have : {A B C : Type 0} (f : A → C) (g : B → C) (xs : List A) (ys : List B) (i : ℕ) (x : A) → map f xs ≡ map g ys
    → slice_get xs i ≡ Some x → slice_get ys i ≡ None → ⊥
both_have {A} {B} {C} f g xs ys i x h is none =
    none-some (f x)
    (sym (ap (option_map g) none) ∙ (sym (slice_get-map g ys i)
    ∙ (ap (λ (zs : List C). slice_get zs i) (sym h) ∙ (slice_get-map f xs i ∙ ap (option_map f) is))))

-- one function behind another
pub one_behind : {A B C : Type 0} (f : B → C) (g : A → B) (xs : List A) → map f (map g xs) ≡ map (λ (x : A). f (g x)) xs
one_behind f g [] = refl
one_behind f g (x ∷ xs) = ap (λ zs. f (g x) ∷ zs) (one_behind f g xs)

-- the nodes of the fronts, the longest first
pub fronts_turned : (index : NameIndex) (parts : List Identifier) (first : Identifier) (nodes : List ℕ) → 1 ≤ length parts → first ≡ get_or parts 0 first
    → map (node_of index 0) (texts_from first.text (take (length parts - 1) (drop 1 parts))) ≡ map (λ (n : ℕ). Some n) nodes
    → map (node_of index 0) (fronts_of parts) ≡ map (λ (n : ℕ). Some n) (reverse nodes)
fronts_turned index [] first nodes some is h = absurd (let bad : ⊥ = omega (arith, some) in bad)
fronts_turned index (part ∷ parts) first nodes some is h =
    let e : length (part ∷ parts) - 1 ≡ length parts = omega arith in
    let rest : take (length (part ∷ parts) - 1) parts ≡ parts = ap (λ (n : ℕ). take n parts) e ∙ take-length parts in
    let texts : texts_from part.text parts ≡ texts_from first.text (take (length (part ∷ parts) - 1) parts) =
    ap (λ (p : Identifier). texts_from p.text parts) (sym is) ∙ ap (texts_from first.text) (sym rest) in
    map_reverse (node_of index 0) (texts_from part.text parts)
    ∙ (ap (λ (ts : List (List ℕ)). reverse (map (node_of index 0) ts)) texts ∙ (ap reverse h ∙ sym (map_reverse (λ (n : ℕ). Some n) nodes)))
