use Rattle.std.proofs.Common.{◌≡◌, ◌<◌, ℕ, List, [], length}
use Rattle.std.specs.Prelude.{Option, Some}
use denote.Text.{Utf8}
use denote.Shadow.{shadow}
use Rattle.name_tree.specs.Walks.{walk, Grows}
use Rattle.name_tree.specs.Trees.{child, count, IsNameTree}
use Rattle.name_tree.proofs.tree.NameTree.enter.Given as goal

abbrev pub invariant-loop-part : goal.invariant-loop-part
invariant-loop-part l =
    shadow (Utf8 l.left) × IsNameTree l.self × Grows (child l.fn.self) (count l.fn.self) (child l.self) (count l.self)
    × (l.at < count l.self)
    × ((later : ℕ → List ℕ → Option ℕ) → ((node : ℕ) (part : List ℕ) (below : ℕ) → child l.self node part ≡ Some below → later node part ≡ Some below)
    → walk later l.fn.node [] l.fn.text ≡ walk later l.at [] l.left)

abbrev pub decreases-loop-part : goal.decreases-loop-part
decreases-loop-part l = length l.left
