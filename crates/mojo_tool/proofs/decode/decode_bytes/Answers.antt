use Rattle.mojo_tool.specs.Work.{Judging, without_line_end}
use Rattle.mojo_tool.proofs.Asking.{ok_goes, err_goes}
use Rattle.mojo_tool.proofs.Messages.{work_text, work_stops}
use Rattle.mojo_tool.proofs.Shown.{unhexed}
use Rattle.mojo_tool.proofs.decode.decode_bytes.Goals as goal

pub returns-in-Ok-clause-text : goal.returns-in-Ok-clause-text
returns-in-Ok-clause-text c =
    let digits = rw c.without_line_end.ensures at c.in-Ok.ensures.ok in
    ok_goes _ _ _
    (λ line is. work_text _ _ line
    (λ work asked. unhexed (Judging c.args.schema.now c.args.expected c.args.name.now c.args.handles) (without_line_end c.args.bytes.now)
    c.in-Ok.message.items work digits asked)
    (rw c.as_slice.ensures.value at is)) c.decode_message.ensures.text

pub returns-in-Ok-clause-stop : goal.returns-in-Ok-clause-stop
returns-in-Ok-clause-stop c =
    let digits = rw c.without_line_end.ensures at c.in-Ok.ensures.ok in
    err_goes _ _ _
    (λ why stops. work_stops _ _ why
    (λ work asked. unhexed (Judging c.args.schema.now c.args.expected c.args.name.now c.args.handles) (without_line_end c.args.bytes.now)
    c.in-Ok.message.items work digits asked)
    (rw c.as_slice.ensures.value at stops)) c.decode_message.ensures.stop
