use Rattle.mojo_tool.specs.Work.{Auditing}
use Rattle.mojo_tool.proofs.Asking.{stopped, ok_goes, err_goes}
use Rattle.mojo_tool.proofs.Messages.{text_at, stops_at, bytes_lead, of_none}
use Rattle.mojo_tool.proofs.Made.{whatever}
use Rattle.mojo_tool.proofs.Seconds.{of_history, one_history, asked_history}
use Rattle.mojo_tool.proofs.From.{fetch_from, file_from}
use Rattle.mojo_tool.proofs.audit.audit_file.Goals as goal

pub returns-in-Err-clause-stop : goal.returns-in-Err-clause-stop
returns-in-Err-clause-stop g c =
    stopped _ _ c.args.name.now (λ files. Auditing c.args.schema c.args.script.now) c.in-Err.stop c.in-Err.ensures.stop

pub returns-in-Ok-clause-text : goal.returns-in-Ok-clause-text
returns-in-Ok-clause-text g c =
    ok_goes _ _ _
    (λ text is. text_at _ _ _ c.args.name.now c.in-Ok.bytes.items (Auditing c.args.schema c.args.script.now) _ text
    (bytes_lead _ c.args.name.now c.in-Ok.bytes.items (Auditing c.args.schema c.args.script.now) c.in-Ok.ensures.bytes c.in-Ok.ensures.short)
    c.in-Ok.ensures.came (rw c.as_slice.ensures.value at is)) c.audit_bytes.ensures.text

pub returns-in-Ok-clause-stop : goal.returns-in-Ok-clause-stop
returns-in-Ok-clause-stop g c =
    err_goes _ _ _
    (λ why stops. stops_at _ _ _ _ why
    (bytes_lead _ c.args.name.now c.in-Ok.bytes.items (Auditing c.args.schema c.args.script.now) c.in-Ok.ensures.bytes c.in-Ok.ensures.short)
    (rw c.as_slice.ensures.value at stops)) c.audit_bytes.ensures.stop

pub returns-in-Ok-clause-named : goal.returns-in-Ok-clause-named
returns-in-Ok-clause-named g c = err_goes _ _ _ (λ why none. of_none _ why none) c.audit_bytes.ensures.named

pub returns-in-Err-clause-stopped : goal.returns-in-Err-clause-stopped
returns-in-Err-clause-stopped g c = one_history c.args.name.now c.in-Err.stop _ _ c.in-Err.ensures.ended

pub returns-in-Ok-clause-whole : goal.returns-in-Ok-clause-whole
returns-in-Ok-clause-whole g c = whatever c.audit_bytes.result _ c.in-Ok.ensures.whole

pub returns-in-Ok-clause-stopped : goal.returns-in-Ok-clause-stopped
returns-in-Ok-clause-stopped g c =
    err_goes _ _ _
    (λ why stops. asked_history _ c.args.name.now why _ _ (of_history c.args.schema c.args.script.now c.in-Ok.bytes.items)
    (rw c.as_slice.ensures.value at stops) c.in-Ok.ensures.whole) c.audit_bytes.ensures.stop

pub returns-in-Err-clause-refused : goal.returns-in-Err-clause-refused
returns-in-Err-clause-refused g c =
    fetch_from c.args.name.now (Auditing c.args.schema c.args.script.now) _ _ c.in-Err.stop _ _ c.in-Err.ensures.ended

pub returns-in-Ok-clause-refused : goal.returns-in-Ok-clause-refused
returns-in-Ok-clause-refused g c =
    err_goes _ _ _
    (λ why stops. file_from c.args.name.now c.in-Ok.bytes.items (Auditing c.args.schema c.args.script.now) _ _ why c.in-Ok.ensures.came
    (rw c.as_slice.ensures.value at stops)) c.audit_bytes.ensures.stop
