use Rattle.std.proofs.Common.{arith, ◌≡◌, ℕ, [], refl}
use Rattle.std.specs.Prelude.{None, nat_eq}
use Rattle.indexmap.specs.IndexMap.{get}
use Rattle.name_tree.specs.Walks.{walk}
use Rattle.name_tree.specs.Trees.{child}
use Rattle.module_resolver.proofs.Held.{none_kept}
use Rattle.module_resolver.proofs.name_index.NameIndex.new.Goals as goal

pub returns-clause-sound : goal.returns-clause-sound
returns-clause-sound c =
    let empty : (n : ℕ) → get nat_eq c.new-2.result n ≡ None = λ n. rw c.new-2.ensures.empty refl in
    let root = c.new.ensures.root in
    record {
      tree = c.new.ensures.tree;
      root = omega (arith, root);
      inside = λ n le. empty n;
      dotted = λ name none. none_kept (get nat_eq c.new-2.result) empty (walk (child c.new.result) 0 [] name);
    }

pub returns-clause-none : goal.returns-clause-none
returns-clause-none c = λ name.
    none_kept (get nat_eq c.new-2.result) (λ n. rw c.new-2.ensures.empty refl) (walk (child c.new.result) 0 [] name)
