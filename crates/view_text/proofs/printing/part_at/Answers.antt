use Rattle.std.proofs.Common.{◌∙◌, arith}
use Rattle.view_text.specs.steps.Inside.{inside}
use Rattle.view_text.proofs.Printed.{nth_there}
use Rattle.wire_view.specs.Views.{tree_of}
use Rattle.view_text.proofs.printing.part_at.Goals as goal

pub unreachable-requires : goal.unreachable-requires
unreachable-requires c =
    nth_there (inside (tree_of c.args.view.now)) c.args.i (omega (arith, c.requires.within, c.requires.listed.many))
    (c.in-None.ensures.value ∙ c.requires.listed.parts c.args.i)

pub returns : goal.returns
returns c = c.in-Some.ensures.value ∙ c.requires.listed.parts c.args.i
