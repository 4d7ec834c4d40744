-- The value that a part is, and the view of one that is an object.
use Rattle.std.specs.Prelude.{Option, Some, None}
use Rattle.wire_model.specs.Trees.{Tree, Flag, Whole, Text, Handle, Remote, Endpoint, EndpointRemote, Null}
use Rattle.wire_view.specs.Views.{tree_of}
use Rattle.wire_view.specs.declared.parts.Part.{Part}
use Rattle.wire_view.specs.declared.parts.Part.TheVariants as parts
use Rattle.wire_view.specs.declared.view.View.{View}

-- what was found of a part, as a value
abbrev pub tree_in : Part → Tree
tree_in parts.Null = Null
tree_in (parts.Bool b) = Flag b
tree_in (parts.Whole n) = Whole n
tree_in (parts.Text text) = Text text.bytes.now
tree_in (parts.Handle index) = Handle index
tree_in (parts.Remote index version) = Remote index version
tree_in (parts.Endpoint index) = Endpoint index
tree_in (parts.EndpointRemote index version) = EndpointRemote index version
tree_in (parts.Object object) = tree_of object

-- the view of a part that is an object
abbrev pub object_in : Part → Option View
object_in (parts.Object object) = Some object
object_in p = None
