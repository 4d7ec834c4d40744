use Rattle.view_text.proofs.Shaped.{tag_there}
use Rattle.wire_view.specs.Views.{tree_of}
use Rattle.view_text.proofs.printing.tag_at.Goals as goal

pub unreachable-requires : goal.unreachable-requires
unreachable-requires c = tag_there (tree_of c.args.view.now) c.requires c.in-None.ensures
