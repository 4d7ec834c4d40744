-- What stands inside objects.
use Rattle.std.specs.Prelude.{◌≡◌, ℕ, suc, Some}
use Rattle.value_text.specs.Brackets.{brackets, brackets_in}
use Rattle.wire_model.specs.Trees.{Tree, Trees, Items, Pairs, Fields, none, more, count}
use Rattle.wire_view.specs.Parts.{nth, part, how_many}
use Rattle.wire_view.specs.Shapes.{HasShape}
use Rattle.wire_view.specs.declared.shapes.Shape.TheVariants as shapes

-- the elements of an array, or the fields of a struct
abbrev pub inside : Tree → Trees
inside (Items ts) = ts
inside (Fields ts) = ts
inside t = none

-- the keys of a map
abbrev pub keys_in : Tree → Trees
keys_in (Pairs (more (Items ks) vs)) = ks
keys_in t = none

-- its values
abbrev pub values_in : Tree → Trees
values_in (Pairs (more ks (more (Items vs) none))) = vs
values_in t = none

-- an array or a struct: its parts are those inside
pub record IsListed (t : Tree) : Type 0 where
  pub parts : (i : ℕ) → part t i ≡ nth (inside t) i
  pub many : how_many t ≡ count (inside t)
  pub deep : brackets t ≡ suc (brackets_in (inside t))

-- a map
pub record IsMap (t : Tree) : Type 0 where
  pub keys : part t 0 ≡ Some (Items (keys_in t))
  pub values : part t 1 ≡ Some (Items (values_in t))
  pub is : t ≡ Pairs (more (Items (keys_in t)) (more (Items (values_in t)) none))

-- a union
abbrev pub IsUnion : Tree → Type 0
IsUnion t = HasShape shapes.Union t
