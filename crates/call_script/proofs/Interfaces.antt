-- Interfaces by their full names, one more each time.
use Rattle.std.proofs.Common.{◌≡◌, ◌+◌, ◌<◌, ◌≤◌, ℕ, List, [], ◌∷◌, ◌++◌, length, take, get_or, refl, sym, ◌∙◌, ap, arith}
use Rattle.std.specs.Prelude.{Bool, true, false, ◌==◌, Option, Some, None, if◌then◌else◌, option_and_then, position}
use Rattle.std.specs.Option.{option_or}
use Rattle.std.specs.Str.{bytes_eq}
use Rattle.std.proofs.lemmas.Bool.{eq-eqb, eqb-true, ne_eqb}
use Rattle.std.proofs.lemmas.Option.{none-some, same_Some}
use Rattle.std.proofs.lemmas.Slice.Eq.{bytes_eq-Decides}
use Rattle.std.specs.List.{position_from}
use Rattle.std.proofs.lemmas.Iterator.Adapters.{position_from-zero}
use Rattle.std.proofs.lemmas.Grind.{common_steps}
use Rattle.std.proofs.lemmas.List.{take_more}
use Rattle.name_tree.specs.Walks.{walk, IsTree, Grows}
use Rattle.name_tree.specs.Trees.{child, count, IsNameTree}
use Rattle.name_tree.specs.declared.tree.NameTree.{NameTree}
use Rattle.name_tree.proofs.Walks.{in_tree, one_text}
use Rattle.name_tree.proofs.Steps.{same_owner}
use Rattle.name_tree.proofs.Owners.{walk_within}
use Rattle.mj_base.specs.Names.{named_in}
use Rattle.mj_schema.specs.Lookups.{interface_named}
use Rattle.mj_schema.specs.declared.rows.InterfaceRow.{InterfaceRow}
use Rattle.call_script.specs.steps.Interfaces.{number_at, are_same, AreKept, AreNumbered, IsKept, IsNoted, StandsAt}
use Rattle.call_script.proofs.NameLemmas.{same_order, or_none}

from_more : {X : Type 0} (p : X → Bool) (i : ℕ) (xs : List X) (x : X)
    → position_from p i (xs ++ x ∷ []) ≡ option_or (position_from p i xs) (if p x then Some (i + length xs) else None)
from_more p i [] x = let e : i + 0 ≡ i = omega arith in rw e refl
from_more {X} p i (y ∷ ys) x = go (p y) (from_more p (i + 1) ys x)
  where
    go : (b : Bool) → position_from p (i + 1) (ys ++ x ∷ []) ≡ option_or (position_from p (i + 1) ys) (if p x then Some (i + 1 + length ys) else None)
        → (if b then Some i else position_from p (i + 1) (ys ++ x ∷ []))
        ≡ option_or (if b then Some i else position_from p (i + 1) ys) (if p x then Some (i + length (y ∷ ys)) else None)
    go true ih = refl
    go false ih = let e : i + length (y ∷ ys) ≡ i + 1 + length ys = omega arith in rw e ih

-- the place of the first, where one stands behind the others
position_more : {X : Type 0} (p : X → Bool) (xs : List X) (x : X)
    → position p (xs ++ x ∷ []) ≡ option_or (position p xs) (if p x then Some (length xs) else None)
position_more p xs x =
    let none_before : 0 + length xs ≡ length xs = omega arith in
    let more = rw none_before at (from_more p 0 xs x) in
    position_from-zero p (xs ++ x ∷ []) ∙ (more ∙ ap (λ o. option_or o (if p x then Some (length xs) else None)) (sym (position_from-zero p xs)))

-- one interface more is numbered
pub numbered_more : (old new : List ℕ → Option ℕ) (rows : List InterfaceRow) (n : ℕ) (row : InterfaceRow)
    → AreNumbered old (take n rows) → row ≡ get_or rows n row → n < length rows → IsNoted old new row.name n → AreNumbered new (take (n + 1) rows)
numbered_more old new rows n row before is below noted q =
    let counted : length (take n rows) ≡ n = grind (arith, common_steps) in
    let more : take (n + 1) rows ≡ take n rows ++ row ∷ [] = take_more rows n row below ∙ ap (λ r. take n rows ++ r ∷ []) (sym is) in
    let p = λ (i : InterfaceRow). bytes_eq i.name q in
    let behind = position_more p (take n rows) row ∙ ap (λ k. option_or (position p (take n rows)) (if p row then Some k else None)) counted in
    let flipped = same_order row.name q _ _ refl refl in
    rw more (noted q ∙ rw (before q, ← flipped) (sym behind))

-- before the first interface none is numbered
pub none_numbered : (rows : List InterfaceRow) (q : List ℕ) → interface_named (take 0 rows) q ≡ None
none_numbered [] q = refl
none_numbered (row ∷ rows) q = refl

-- where nothing is kept, nothing is found
pub none_kept : (numbers : ℕ → Option ℕ) → ((n : ℕ) → numbers n ≡ None) → (o : Option ℕ) → option_and_then numbers o ≡ None
none_kept numbers none None = refl
none_kept numbers none (Some n) = none n

-- a node that has a number keeps it
pub stays_kept : (numbers : ℕ → Option ℕ) (node number first : ℕ) → numbers node ≡ Some first → IsKept numbers numbers node number
stays_kept numbers node number first there n = go (node == n) refl
  where
    go : (b : Bool) → (node == n) ≡ b → numbers n ≡ option_or (numbers n) (if b then Some number else None)
    go true e =
        let here : numbers n ≡ Some first = ap numbers (sym (eqb-true node n e)) ∙ there in
        here ∙ sym (ap (λ (o : Option ℕ). option_or o (Some number)) here)
    go false e = sym (or_none (numbers n))

-- a node that had none has the number that is kept
pub more_kept : (old new : ℕ → Option ℕ) (node number : ℕ) → old node ≡ None
    → ((n : ℕ) → new n ≡ (if node == n then Some number else old n))
    → IsKept old new node number
more_kept old new node number fresh writes n = writes n ∙ go (node == n) refl
  where
    go : (b : Bool) → (node == n) ≡ b → (if b then Some number else old n) ≡ option_or (old n) (if b then Some number else None)
    go true e =
        let none : old n ≡ None = ap old (sym (eqb-true node n e)) ∙ fresh in
        sym (ap (λ (o : Option ℕ). option_or o (Some number)) none)
    go false e = sym (or_none (old n))

-- where the names in a module stand is a node of the tree
pub stands_there : (tree : NameTree) → IsNameTree tree → 0 < count tree → (around : Option (List ℕ)) (node : ℕ) → StandsAt tree around node
    → node < count tree
stands_there tree are root None node is = let top : node ≡ 0 = is in omega (arith, root, top)
stands_there tree are root (Some name) node is = in_tree (child tree) (count tree) are.tree 0 [] name node is

-- names that the code sees as the same are the same
pub same_is : (one other : Option (List ℕ)) → are_same one other ≡ true → one ≡ other
same_is None None is = refl
same_is None (Some y) is = absurd cc
same_is (Some x) None is = absurd cc
same_is (Some x) (Some y) is = ap (λ (t : List ℕ). Some t) ((bytes_eq-Decides x y).0 is)

-- the names in a module stand where they did
pub stands_kept : (old new : NameTree) (around : Option (List ℕ)) (node : ℕ)
    → ((name : List ℕ) (found : ℕ) → walk (child old) 0 [] name ≡ Some found → walk (child new) 0 [] name ≡ Some found)
    → StandsAt old around node → StandsAt new around node
stands_kept old new None node kept is = is
stands_kept old new (Some name) node kept is = kept name node is

-- a name in a module is found from the node of the module on
pub in_module : (tree : NameTree) (around : Option (List ℕ)) (name : List ℕ) (node : ℕ) → StandsAt tree around node
    → walk (child tree) 0 [] (named_in around name) ≡ walk (child tree) node [] name
in_module tree None name node is = ap (λ (n : ℕ). walk (child tree) n [] name) (sym is)
in_module tree (Some outer) name node is = walk_within (child tree) outer name node is

-- a number is kept at the node of a name: the name has it where it had none, and all others have what they had
noted_at : (step : ℕ → List ℕ → Option ℕ) (most : ℕ) → IsTree step most → (old new : ℕ → Option ℕ) (node : ℕ) (name : List ℕ) (number : ℕ)
    → walk step 0 [] name ≡ Some node → IsKept old new node number
    → (q : List ℕ)
    → option_and_then new (walk step 0 [] q) ≡ option_or (option_and_then old (walk step 0 [] q)) (if bytes_eq q name then Some number else None)
noted_at step most tree old new node name number is writes q = go (walk step 0 [] q) refl (bytes_eq q name) refl
  where
    go : (o : Option ℕ) → walk step 0 [] q ≡ o → (b : Bool) → bytes_eq q name ≡ b
        → option_and_then new o ≡ option_or (option_and_then old o) (if b then Some number else None)
    go None leads true same =
        let texts : q ≡ name = (bytes_eq-Decides q name).0 same in
        absurd (none-some node (sym leads ∙ (ap (walk step 0 []) texts ∙ is)))
    go None leads false other = refl
    go (Some k) leads true same =
        let texts : q ≡ name = (bytes_eq-Decides q name).0 same in
        let here : node ≡ k = same_Some node k (sym is ∙ (ap (walk step 0 []) (sym texts) ∙ leads)) in
        writes k ∙ ap (λ (b : Bool). option_or (old k) (if b then Some number else None)) (eq-eqb node k here)
    go (Some k) leads false other =
        let differs : (node == k) ≡ false = ne_eqb node k (λ here.
        let texts : name ≡ q = one_text step most tree k name q (is ∙ ap (λ (n : ℕ). Some n) here) leads in
        let clash : true ≡ false = sym ((bytes_eq-Decides q name).1 (sym texts)) ∙ other in
        cc) in
        writes k ∙ ap (λ (b : Bool). option_or (old k) (if b then Some number else None)) differs

-- a tree has grown, and a number is kept at the node of a name
module _ (old new : NameTree) (before after : ℕ → Option ℕ) (node number : ℕ) (name : List ℕ) (kept : AreKept old before) (tree : IsNameTree new)
    (grows : Grows (child old) (count old) (child new) (count new)) (is : walk (child new) 0 [] name ≡ Some node)
    (writes : IsKept before after node number) where
  there : node < count new
  there = in_tree (child new) (count new) tree.tree 0 [] name node is

  beyond : (n : ℕ) → count new ≤ n → after n ≡ None
  beyond n le =
      let here = there in
      let more = grows.longer in
      let differs : (node == n) ≡ false = ne_eqb node n (λ same. let bad : ⊥ = omega (arith, here, le, same) in bad) in
      let none : before n ≡ None = kept.inside n (omega (arith, more, le)) in
      writes n
      ∙ (ap (λ (b : Bool). option_or (before n) (if b then Some number else None)) differs ∙ ap (λ (o : Option ℕ). option_or o None) none)

  pub kept_more : AreKept new after
  kept_more = let one = kept.root in let more = grows.longer in record { tree_is = tree; root = omega (arith, one, more); inside = beyond }

  pub noted_more : IsNoted (number_at old before) (number_at new after) name number
  noted_more q =
      noted_at (child new) (count new) tree.tree before after node name number is writes q
      ∙ ap (λ (o : Option ℕ). option_or o (if bytes_eq q name then Some number else None))
      (same_owner before (child old) (child new) (count old) (count new) tree.tree grows kept.inside 0 [] q)
