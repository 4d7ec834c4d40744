use Rattle.std.proofs.Common.{◌≡◌, [], length}
use denote.Text.{Utf8}
use denote.Shadow.{shadow}
use Rattle.name_tree.specs.Walks.{walk}
use Rattle.name_tree.specs.Trees.{child}
use Rattle.name_tree.proofs.tree.NameTree.below.Given as goal

abbrev pub invariant-loop-part : goal.invariant-loop-part
invariant-loop-part l = shadow (Utf8 l.left) × (walk (child l.fn.self) l.fn.node [] l.fn.text ≡ walk (child l.fn.self) l.at [] l.left)

abbrev pub decreases-loop-part : goal.decreases-loop-part
decreases-loop-part l = length l.left
