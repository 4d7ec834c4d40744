-- What a view stands on, as a kind.
use Rattle.std.specs.Prelude.{false, None}
use Rattle.mj_schema.specs.KindTrees.{KindTree, StructKind, ArrayKind, MapKind, UnionKind, kind_view}
use Rattle.wire_view.specs.declared.on.On.{On}
use Rattle.wire_view.specs.declared.on.On.TheVariants as ons

-- the kind of the object itself: whether what points to it may be null, and how many elements its kind fixes, is no part of that
abbrev pub on_kind : On → KindTree
on_kind (ons.Struct number) = StructKind number false
on_kind (ons.Array of) = ArrayKind (kind_view of.now) None false
on_kind (ons.Map key one) = MapKind (kind_view key.now) (kind_view one.now) false
on_kind (ons.Union number) = UnionKind number false
