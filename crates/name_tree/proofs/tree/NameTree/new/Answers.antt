use Rattle.std.proofs.Common.{◌≡◌, ℕ, List, refl, ap}
use Rattle.std.specs.Prelude.{None, nat_eq, option_and_then}
use Rattle.indexmap.specs.IndexMap.{get, get_by_text}
use Rattle.name_tree.specs.Trees.{key_of}
use Rattle.name_tree.proofs.Steps.{nothing_below}
use Rattle.name_tree.proofs.Numbers.{no_numbers}
use Rattle.name_tree.proofs.tree.NameTree.new.Goals as goal

pub returns-clause-tree : goal.returns-clause-tree
returns-clause-tree c =
    let none : (part : List ℕ) → get_by_text c.new.result part ≡ None = λ part. rw c.new.ensures.empty refl in
    let empty : (k : ℕ) → get nat_eq c.new-2.result k ≡ None = λ k. rw c.new-2.ensures.empty refl in
    record {
      tree = nothing_below _ _ (λ node part. ap (option_and_then (λ (n : ℕ). get nat_eq c.new-2.result (key_of node n))) (none part));
      numbers = no_numbers _ _ none empty;
    }

pub returns-clause-none : goal.returns-clause-none
returns-clause-none c = λ node part.
    let none : get_by_text c.new.result part ≡ None = rw c.new.ensures.empty refl in
    ap (option_and_then (λ (n : ℕ). get nat_eq c.new-2.result (key_of node n))) none
