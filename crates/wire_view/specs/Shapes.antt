-- The sorts of objects.
use Rattle.std.specs.Prelude.{ℕ, ◌≡◌, ◌⊎◌}
use Rattle.wire_model.specs.Trees.{Tree, Trees, Items, Pairs, Fields, Member, Unknown, none, more}
use Rattle.wire_view.specs.declared.shapes.Shape.{Shape}
use Rattle.wire_view.specs.declared.shapes.Shape.TheVariants as shapes

-- a value is of a sort
abbrev pub HasShape : Shape → Tree → Type 0
HasShape shapes.Struct t = (ts : Trees) × (t ≡ Fields ts)
HasShape shapes.Array t = (ts : Trees) × (t ≡ Items ts)
HasShape shapes.Map t = (ks : Trees) × (vs : Trees) × (t ≡ Pairs (more (Items ks) (more (Items vs) none)))
HasShape shapes.Union t = (tag : ℕ) × ((t ≡ Unknown tag) ⊎ ((u : Tree) × (t ≡ Member tag u)))
