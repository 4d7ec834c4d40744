-- Views of structs, and of arrays.
use Rattle.std.specs.Prelude.{Bool, Option, Some, None, if◌then◌else◌}
use Rattle.mj_schema.specs.KindTrees.{KindTree}
use Rattle.wire_model.specs.Trees.{Tree}
use Rattle.wire_view.specs.Views.{tree_of, kind_of}
use Rattle.wire_view.specs.declared.array_view.ArrayView.{ArrayView}
use Rattle.wire_view.specs.declared.struct_view.StructView.{StructView}
use Rattle.wire_view.specs.declared.view.View.{View}

-- a view, if it is of a kind that is wanted
abbrev pub only : (KindTree → Bool) → View → Option View
only wanted v = if wanted (kind_of v) then Some v else None

-- a view of a struct as any view
abbrev pub struct_itself : StructView → View
struct_itself s = s.view

-- the struct that it is of
abbrev pub struct_seen : StructView → Tree
struct_seen s = tree_of s.view

-- a view of an array as any view
abbrev pub array_itself : ArrayView → View
array_itself a = a.view

-- the array that it is of
abbrev pub array_seen : ArrayView → Tree
array_seen a = tree_of a.view
