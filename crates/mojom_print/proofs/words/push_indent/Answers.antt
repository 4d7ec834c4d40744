use Rattle.std.proofs.Common.{append_assoc}
use Rattle.std.specs.Prelude.{codes}
use Rattle.mojom_print.proofs.Indents.{indent_more}
use Rattle.mojom_print.specs.Words.{indent}
use Rattle.mojom_print.proofs.words.push_indent.Goals as goal

pub loop-level-preserved : goal.loop-level-preserved
loop-level-preserved c =
    rw (c.in_ok-push_text.ensures, c.loop-level.invariant, indent_more c.loop-level._level)
    (append_assoc c.args.out.now.items (indent c.loop-level._level) (codes "  "))
