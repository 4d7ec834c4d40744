use Rattle.wire_model.specs.Trees.{view}
use Rattle.mojo_tool.proofs.Asking.{ok_goes, err_goes}
use Rattle.mojo_tool.proofs.Messages.{work_text, work_stops}
use Rattle.mojo_tool.proofs.Sealed.{value_spelled}
use Rattle.mojo_tool.proofs.encode.encode_bytes.Goals as goal

pub returns-in-Ok-clause-text : goal.returns-in-Ok-clause-text
returns-in-Ok-clause-text c =
    let told = rw (c.parameters_kind-kind.ensures, c.without_line_end.ensures) at c.in-Ok.ensures in
    ok_goes _ _ _
    (λ text is. work_text _ _ text
    (value_spelled c.args.schema.now (c.args.target, c.args.number) c.args.bytes.now (view c.in-Ok.value) told.0) is) c.encode_value.ensures.text

pub returns-in-Ok-clause-stop : goal.returns-in-Ok-clause-stop
returns-in-Ok-clause-stop c =
    let told = rw (c.parameters_kind-kind.ensures, c.without_line_end.ensures) at c.in-Ok.ensures in
    err_goes _ _ _
    (λ why stops. work_stops _ _ why
    (value_spelled c.args.schema.now (c.args.target, c.args.number) c.args.bytes.now (view c.in-Ok.value) told.0) stops) c.encode_value.ensures.stop
