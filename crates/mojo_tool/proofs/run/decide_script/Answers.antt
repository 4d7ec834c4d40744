use Rattle.std.proofs.Common.{◌≤◌, ℕ, sym, subst, Some}
use Rattle.mj_base.specs.declared.limits.TheConstants.{MAX_FILE_BYTES}
use Rattle.mojo_tool.proofs.Asking.{ok_goes, err_goes}
use Rattle.mojo_tool.proofs.Messages.{of_none}
use Rattle.mojo_tool.proofs.Running.{no_script, script_refused, script_text}
use Rattle.mojo_tool.proofs.Late.{reading_late}
use Rattle.mojo_tool.proofs.Made.{one_late, asked_late, short_late, whatever}
use Rattle.mojo_tool.specs.Work.{Reading}
use Rattle.mojo_tool.proofs.From.{fetch_from, file_from, memory_from}
use Rattle.mojo_tool.proofs.run.decide_script.Goals as goal

pub returns-in-Err-read_script-clause-stop : goal.returns-in-Err-read_script-clause-stop
returns-in-Err-read_script-clause-stop g c =
    no_script _ _ c.args.name.now (Some c.args.order) c.args.schema c.in-Ok.bytes.items c.in-Err-read_script.stop c.in-Ok.ensures.bytes
    c.in-Ok.ensures.short
    (rw c.as_slice.ensures.value at c.in-Err-read_script.ensures.stop)

pub returns-in-Err-read_script-clause-named : goal.returns-in-Err-read_script-clause-named
returns-in-Err-read_script-clause-named g c = of_none _ c.in-Err-read_script.stop c.in-Err-read_script.ensures.named

pub run-requires-clause-short : goal.run-requires-clause-short
run-requires-clause-short g c =
    subst (λ (n : ℕ). n ≤ MAX_FILE_BYTES) (sym (rw c.as_slice.ensures.value at c.in-Ok-read_script.ensures.counted)) c.in-Ok.ensures.short

pub run-requires-clause-read : goal.run-requires-clause-read
run-requires-clause-read g c = (c.in-Ok.bytes.items, rw c.as_slice.ensures.value at c.in-Ok-read_script.ensures.script)

pub returns-clause-text : goal.returns-clause-text
returns-clause-text g c =
    ok_goes _ _ _
    (λ text is. script_text _ _ _ c.args.name.now c.in-Ok.bytes.items text (Some c.args.order) c.args.schema c.in-Ok-read_script.script
    c.in-Ok.ensures.bytes c.in-Ok.ensures.short c.in-Ok.ensures.came (rw c.as_slice.ensures.value at c.in-Ok-read_script.ensures.script) is) c.run.ensures.text

pub returns-in-Err-clause-stopped : goal.returns-in-Err-clause-stopped
returns-in-Err-clause-stopped g c = one_late c.args.name.now c.in-Err.stop _ _ c.in-Err.ensures.ended

pub returns-in-Err-read_script-clause-stopped : goal.returns-in-Err-read_script-clause-stopped
returns-in-Err-read_script-clause-stopped g c =
    asked_late _ c.args.name.now c.in-Err-read_script.stop _ _ (reading_late c.args.schema (Some c.args.order) c.in-Ok.bytes.items)
    (script_refused c.args.schema (Some c.args.order) c.in-Ok.bytes.items c.in-Err-read_script.stop
    (rw c.as_slice.ensures.value at c.in-Err-read_script.ensures.stop)) c.in-Ok.ensures.whole

pub returns-clause-whole : goal.returns-clause-whole
returns-clause-whole g c = whatever c.run.result _ c.in-Ok.ensures.whole

pub returns-clause-stopped : goal.returns-clause-stopped
returns-clause-stopped g c = err_goes _ _ _ (λ why none. short_late c.args.name.now why _ _ none c.in-Ok.ensures.whole) c.run.ensures.memory

pub returns-in-Err-clause-refused : goal.returns-in-Err-clause-refused
returns-in-Err-clause-refused g c =
    fetch_from c.args.name.now (Reading c.args.schema (Some c.args.order)) _ _ c.in-Err.stop _ _ c.in-Err.ensures.ended

pub returns-in-Err-read_script-clause-refused : goal.returns-in-Err-read_script-clause-refused
returns-in-Err-read_script-clause-refused g c =
    file_from c.args.name.now c.in-Ok.bytes.items (Reading c.args.schema (Some c.args.order)) _ _ c.in-Err-read_script.stop c.in-Ok.ensures.came
    (script_refused c.args.schema (Some c.args.order) c.in-Ok.bytes.items c.in-Err-read_script.stop
    (rw c.as_slice.ensures.value at c.in-Err-read_script.ensures.stop))

pub returns-clause-refused : goal.returns-clause-refused
returns-clause-refused g c = memory_from c.run.result c.args.name.now (Reading c.args.schema (Some c.args.order)) _ _ c.run.ensures.memory
