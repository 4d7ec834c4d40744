use Rattle.std.proofs.Common.{sym, ap, ◌∙◌}
use Rattle.mj_schema.specs.KindTrees.{kind_view}
use Rattle.wire_view.specs.Parts.{text_of}
use Rattle.wire_view.proofs.SlotKinds.{no_string}
use Rattle.wire_view.proofs.cells.string_in.Goals as goal

pub returns-then-is_string : goal.returns-then-is_string
returns-then-is_string c = c.as_string.ensures ∙ ap text_of c.slot_at.ensures.value

pub returns-else-is_string : goal.returns-else-is_string
returns-else-is_string c =
    no_string c.args.schema.now c.args.bytes.now c.args.left c.args.at c.args.bit (kind_view c.args.kind.now) (sym c.if-is_string.ensures)
