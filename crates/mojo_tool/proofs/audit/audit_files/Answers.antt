use Rattle.std.proofs.Common.{◌≤◌, ℕ, [], ◌∷◌, sym, subst}
use Rattle.mj_base.specs.declared.limits.TheConstants.{MAX_FILE_BYTES}
use Rattle.mojo_tool.specs.Work.{Scripted, Historying}
use Rattle.mojo_tool.specs.steps.Audits.{LateAsks}
use Rattle.mojo_tool.proofs.Asking.{stopped, ok_goes, err_goes}
use Rattle.mojo_tool.proofs.From.{ended_from}
use Rattle.mojo_tool.proofs.Histories.{line_stops, history_stops, late_from, late_text, first_named, second_named, line_from}
use Rattle.mojo_tool.proofs.Made.{all_more, also}
use Rattle.mojo_tool.proofs.Messages.{of_none}
use Rattle.mojo_tool.proofs.Seconds.{first_both, line_both, second_both}
use Rattle.mojo_tool.proofs.audit.audit_files.Goals as goal

pub returns-in-Err-clause-stop : goal.returns-in-Err-clause-stop
returns-in-Err-clause-stop g c =
    stopped _ _ c.args.script.now (λ files. Scripted c.args.schema (λ read w. Historying files c.args.history.now c.args.schema read w)) c.in-Err.stop
    c.in-Err.ensures.stop

pub returns-in-Err-read_script-clause-stop : goal.returns-in-Err-read_script-clause-stop
returns-in-Err-read_script-clause-stop g c =
    line_stops c.args.script.now c.args.history.now c.args.schema _ _ c.in-Ok.bytes.items c.in-Err-read_script.stop c.in-Ok.ensures.bytes
    c.in-Ok.ensures.short (rw c.as_slice.ensures.value at c.in-Err-read_script.ensures.stop)

pub returns-in-Err-clause-named : goal.returns-in-Err-clause-named
returns-in-Err-clause-named g c = first_named c.args.script.now c.args.history.now c.args.schema _ c.in-Err.stop c.in-Err.ensures.named

pub returns-in-Err-read_script-clause-named : goal.returns-in-Err-read_script-clause-named
returns-in-Err-read_script-clause-named g c = of_none _ c.in-Err-read_script.stop c.in-Err-read_script.ensures.named

pub audit_file-requires-clause-short : goal.audit_file-requires-clause-short
audit_file-requires-clause-short g c =
    subst (λ (n : ℕ). n ≤ MAX_FILE_BYTES) (sym (rw c.as_slice.ensures.value at c.in-Ok-read_script.ensures.counted)) c.in-Ok.ensures.short

pub audit_file-requires-clause-read : goal.audit_file-requires-clause-read
audit_file-requires-clause-read g c = (c.in-Ok.bytes.items, rw c.as_slice.ensures.value at c.in-Ok-read_script.ensures.script)

pub returns-clause-text : goal.returns-clause-text
returns-clause-text g c =
    ok_goes _ _ _
    (λ text is. late_text c.args.script.now c.args.history.now c.args.schema _ _ _ c.in-Ok.bytes.items text c.in-Ok-read_script.read
    c.in-Ok.ensures.on c.in-Ok.ensures.bytes c.in-Ok.ensures.short c.in-Ok.ensures.came
    (rw c.as_slice.ensures.value at c.in-Ok-read_script.ensures.script) is) c.audit_file.ensures.text

pub returns-clause-stop : goal.returns-clause-stop
returns-clause-stop g c =
    err_goes _ _ _
    (λ why stops. history_stops c.args.script.now c.args.history.now c.args.schema _ _ _ c.in-Ok.bytes.items c.in-Ok-read_script.read why
    c.in-Ok.ensures.on c.in-Ok.ensures.bytes c.in-Ok.ensures.short (rw c.as_slice.ensures.value at c.in-Ok-read_script.ensures.script) stops)
    c.audit_file.ensures.stop

pub returns-clause-named : goal.returns-clause-named
returns-clause-named g c =
    err_goes _ _ _
    (λ why named. second_named c.args.script.now c.args.history.now c.args.schema _ c.in-Ok.bytes.items c.in-Ok-read_script.read why
    c.in-Ok.ensures.bytes (rw c.as_slice.ensures.value at c.in-Ok-read_script.ensures.script) named) c.audit_file.ensures.named

pub returns-clause-whole : goal.returns-clause-whole
returns-clause-whole g c =
    also c.audit_file.result _ _ (all_more (c.args.script.now ∷ []) (c.args.history.now ∷ []) _ _ _ c.in-Ok.ensures.whole) c.audit_file.ensures.whole

pub returns-in-Err-clause-stopped : goal.returns-in-Err-clause-stopped
returns-in-Err-clause-stopped g c = first_both c.args.script.now c.args.history.now c.in-Err.stop _ _ c.in-Err.ensures.ended

pub returns-in-Err-read_script-clause-stopped : goal.returns-in-Err-read_script-clause-stopped
returns-in-Err-read_script-clause-stopped g c =
    line_both c.args.script.now c.args.history.now c.args.schema c.in-Ok.bytes.items c.in-Err-read_script.stop _ _
    (rw c.as_slice.ensures.value at c.in-Err-read_script.ensures.stop) c.in-Ok.ensures.whole

pub returns-clause-stopped : goal.returns-clause-stopped
returns-clause-stopped g c =
    second_both c.audit_file.result c.args.script.now c.args.history.now _ _ _ c.in-Ok.ensures.whole c.audit_file.ensures.stopped

pub returns-in-Err-clause-refused : goal.returns-in-Err-clause-refused
returns-in-Err-clause-refused g c =
    ended_from (LateAsks c.args.script.now c.args.history.now c.args.schema _ _) c.args.script.now c.in-Err.stop _ _ c.in-Err.ensures.ended

pub returns-in-Err-read_script-clause-refused : goal.returns-in-Err-read_script-clause-refused
returns-in-Err-read_script-clause-refused g c =
    line_from c.args.script.now c.args.history.now c.args.schema _ _ c.in-Ok.bytes.items c.in-Err-read_script.stop c.in-Ok.ensures.came
    (rw c.as_slice.ensures.value at c.in-Err-read_script.ensures.stop)

pub returns-clause-refused : goal.returns-clause-refused
returns-clause-refused g c =
    late_from c.args.script.now c.args.history.now c.args.schema c.audit_file.result _ _ _ c.in-Ok.bytes.items c.in-Ok-read_script.read
    c.in-Ok.ensures.came (rw c.as_slice.ensures.value at c.in-Ok-read_script.ensures.script) c.audit_file.ensures.refused
