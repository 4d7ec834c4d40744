use Rattle.std.proofs.Common.{arith, ◌≡◌, ℕ, List, [], refl, ap}
use Rattle.std.proofs.Math.Path.{fun_ext}
use Rattle.std.specs.Prelude.{None, is_some, nat_eq}
use Rattle.indexmap.specs.IndexMap.{get}
use Rattle.name_tree.specs.Walks.{walk}
use Rattle.name_tree.specs.Trees.{child}
use Rattle.name_refusals.proofs.KnownTree.{none_kept}
use Rattle.name_refusals.proofs.known_names.KnownNames.new.Goals as goal

pub returns-clause-known : goal.returns-clause-known
returns-clause-known c =
    let empty : (n : ℕ) → get nat_eq c.new-2.result n ≡ None = λ n. rw c.new-2.ensures.empty refl in
    let root = c.new.ensures.root in
    record { tree = c.new.ensures.tree; root = omega (arith, root); inside = λ n le. empty n; around = refl }

pub returns-clause-none : goal.returns-clause-none
returns-clause-none c =
    fun_ext
    (λ (name : List ℕ). ap is_some (none_kept (get nat_eq c.new-2.result) (λ n. rw c.new-2.ensures.empty refl) (walk (child c.new.result) 0 [] name)))
