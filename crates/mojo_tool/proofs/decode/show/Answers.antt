use Rattle.std.proofs.Common.{sym, ap, ◌∙◌}
use Rattle.std.specs.Option.{option_copied}
use Rattle.wire_view.specs.Views.{tree_of}
use Rattle.mojo_tool.proofs.Shown.{shown_value}
use Rattle.mojo_tool.proofs.decode.show.Goals as goal

pub returns-in-Ok-shown_line-clause-text : goal.returns-in-Ok-shown_line-clause-text
returns-in-Ok-shown_line-clause-text c =
    shown_value c.args.checked.now c.args.name.now c.in-Some.method.now c.parameters_kind-kind.result (tree_of c.root-view.result)
    c.in-Ok.text.items c.in-Ok-shown_line.line
    (ap option_copied (sym c.in-Some.is) ∙ c.method-found.ensures) c.root-view.ensures.value c.parameters_kind-kind.ensures c.in-Ok.ensures
    (rw (c.as_str.ensures, c.as_slice.ensures.value) at c.in-Ok-shown_line.ensures)
