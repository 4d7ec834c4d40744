-- A value for each tree of which no list is too long for memory.
use Rattle.std.proofs.Common.{◌≡◌, ◌≤◌, ◌<◌, ◌^◌, ℕ, suc, List, [], ◌∷◌, length, map, Box, Vec, Global, refl, sym, ap, ◌∙◌, arith, rules}
use Rattle.wire_model.specs.declared.value.Value.{Value, the_lemmas}
use Rattle.wire_model.specs.declared.value.Value.TheVariants as values
use Rattle.wire_model.specs.Trees.{Tree, Trees, Flag, Whole, Text, Items, Pairs, Fields, Member, Unknown, Handle, Remote, Endpoint, EndpointRemote, Null, none, more, count, trees, view}
use Rattle.script_laws.specs.steps.Short.{IsShort, AreShort}
use denote.RawPtr.{null_ptr}

-- a heap
pub heap : Global
heap = record { memory = record { seal = tt } }

-- a list in memory
abbrev pub listed : {A : Type 0} (xs : List A) → length xs < 2 ^ 63 → Vec A Global
listed xs small = record { ptr = null_ptr; len = length xs; cap = length xs; alloc = heap; items = xs; ok = (refl, omega arith); small = small }

-- the trees of values that hold lists in memory
view_text : (bytes : Vec ℕ Global) → view (values.Text bytes) ≡ Text bytes.items
view_text bytes = search (rules, the_lemmas)

-- of an array
view_list : (vs : Vec Value Global) → view (values.List vs) ≡ Items (trees (map view vs.items))
view_list vs = search (rules, the_lemmas)

-- of a struct
view_struct : (vs : Vec Value Global) → view (values.Struct vs) ≡ Fields (trees (map view vs.items))
view_struct vs = search (rules, the_lemmas)

-- of a map
view_map : (ks vs : Vec Value Global) → view (values.Map ks vs) ≡ Pairs
    (more (Items (trees (map view ks.items))) (more (Items (trees (map view vs.items))) none))
view_map ks vs = search (rules, the_lemmas)

-- and of what a union holds
view_union : (tag : ℕ) (held : Box Value Global) → view (values.Union tag held) ≡ Member tag (view held.value)
view_union tag held = search (rules, the_lemmas)

-- a value of a tree
pub record IsBuilt (t : Tree) : Type 0 where
  pub value : Value
  pub is : view value ≡ t

record AreBuilt (ts : Trees) : Type 0 where
  items : List Value
  are : trees (map view items) ≡ ts

-- as many values as trees
count_of : (vs : List Value) → count (trees (map view vs)) ≡ length vs
count_of [] = refl
count_of (v ∷ vs) = ap suc (count_of vs)

-- so memory can hold them
few : (most : ℕ) (ts : Trees) (b : AreBuilt ts) → most < 2 ^ 63 → count ts ≤ most → length b.items < 2 ^ 63
few most ts b small short = let many = sym (count_of b.items) ∙ ap count b.are in omega (arith, many, small, short)

module _ (most : ℕ) (small : most < 2 ^ 63) where
  mutual
    pub built : (t : Tree) → IsShort most t → IsBuilt t
    built (Flag b) short = record { value = values.Bool b; is = search (rules, the_lemmas) }
    built (Whole n) short = record { value = values.Whole n; is = search (rules, the_lemmas) }
    built (Text bytes) short =
        let vs = listed bytes (omega (arith, small, short)) in
        record { value = values.Text vs; is = view_text vs }
    built (Items ts) short =
        let b = all_built ts short.1 in
        let vs = listed b.items (few most ts b small short.0) in
        record { value = values.List vs; is = view_list vs ∙ ap Items b.are }
    built (Pairs (more (Items ks) (more (Items vs) none))) short =
        let a = all_built ks short.0.1 in
        let b = all_built vs short.1.1 in
        let keys = listed a.items (few most ks a small short.0.0) in
        let items = listed b.items (few most vs b small short.1.0) in
        record {
          value = values.Map keys items;
          is = view_map keys items ∙ ap (λ (ts : Trees). Pairs (more (Items ts) (more (Items (trees (map view b.items))) none))) a.are
              ∙ ap (λ (ts : Trees). Pairs (more (Items ks) (more (Items ts) none))) b.are;
        }
    built (Pairs ts) short = absurd short
    built (Fields ts) short =
        let b = all_built ts short.1 in
        let vs = listed b.items (few most ts b small short.0) in
        record { value = values.Struct vs; is = view_struct vs ∙ ap Fields b.are }
    built (Member tag t) short =
        let b = built t short in
        let held : Box Value Global = record { ptr = null_ptr; alloc = heap; value = b.value } in
        record { value = values.Union tag held; is = view_union tag held ∙ ap (Member tag) b.is }
    built (Unknown tag) short = record { value = values.Unknown tag; is = search (rules, the_lemmas) }
    built (Handle i) short = record { value = values.Handle i; is = search (rules, the_lemmas) }
    built (Remote i v) short = record { value = values.Remote i v; is = search (rules, the_lemmas) }
    built (Endpoint i) short = record { value = values.Endpoint i; is = search (rules, the_lemmas) }
    built (EndpointRemote i v) short = record { value = values.EndpointRemote i v; is = search (rules, the_lemmas) }
    built Null short = record { value = values.Null; is = search (rules, the_lemmas) }

    all_built : (ts : Trees) → AreShort most ts → AreBuilt ts
    all_built none short = record { items = []; are = refl }
    all_built (more t ts) short =
        let b = built t short.0 in
        let bs = all_built ts short.1 in
        record {
          items = b.value ∷ bs.items;
          are = ap (λ (x : Tree). more x (trees (map view bs.items))) b.is ∙ ap (more t) bs.are;
        }
