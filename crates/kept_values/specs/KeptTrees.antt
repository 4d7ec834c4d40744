-- What that which a history keeps of parameters, and of things, stands for.
use Rattle.std.specs.Prelude.{ℕ, List, [], Option, None, Some, pos, map}
use Rattle.wire_model.specs.Trees.{Tree, Whole, Text, Items, Fields, trees, view}
use Rattle.handle_table.specs.declared.thing.Thing.{Thing}
use Rattle.kept_values.specs.declared.parts.Part.{Part}
use Rattle.kept_values.specs.declared.parts.Part.TheVariants as parts
use Rattle.kept_values.specs.declared.parts.Held.{Held}
use Rattle.kept_values.specs.declared.parts.Held.TheVariants as kept

-- a byte, as an element of an array
abbrev pub byte_tree : ℕ → Tree
byte_tree byte = Whole (pos byte)

-- the value that a part is kept of
abbrev pub part_tree : Part → Tree
part_tree (parts.Whole number) = Whole number
part_tree (parts.Text bytes) = Text bytes.items
part_tree (parts.Bytes bytes) = Items (trees (map byte_tree bytes.items))
part_tree (parts.Other value) = view value

-- the value of all parameters
abbrev pub held_tree : Held → Tree
held_tree (kept.Struct fields) = Fields (trees (map part_tree fields.items))
held_tree (kept.Other value) = view value

-- the things of a list: none where there is no list
abbrev pub few_of : Option (List Thing) → List Thing
few_of None = []
few_of (Some things) = things
