use Rattle.std.proofs.Common.{List, subst, sym}
use Rattle.std.specs.Arc.{arc_value}
use Rattle.mj_schema.specs.declared.schema.Schema.{Schema}
use Rattle.bind_model.specs.declared.event.Event.{Event}
use Rattle.call_script.specs.Sound.{IsScript}
use Rattle.script_run.specs.Followed.{Follows}
use Rattle.history_audit.specs.steps.Said.{IsAudited}
use Rattle.history_audit.proofs.Compared.{audits_by, ok_weaker}
use Rattle.history_audit.proofs.Printed.{are_printable}
use Rattle.history_audit.proofs.auditing.audit_printed.Goals as goal

pub follow-requires-clause-script : goal.follow-requires-clause-script
follow-requires-clause-script c = subst (λ (s : Schema). IsScript s c.args.script.now) (sym c.requires.same) c.requires.sound

pub returns-in-Ok : goal.returns-in-Ok
returns-in-Ok c =
    let schema = c.args.schema.now in
    let script = c.args.script.now in
    let bytes = c.args.bytes.now in
    let printed = c.args.printed.now in
    let followed = c.in-Ok.followed in
    let audited : IsAudited schema script printed bytes c.len-count.result followed = record {
      is = c.requires.sound;
      short = c.requires.short;
      printable =
          are_printable c.runs_in_any_order_can_be_printed.ensures schema c.requires.read.0 script c.requires.words c.requires.read.1 c.requires.sound
          c.requires.short;
      says = c.requires.says;
      count_is = c.len-count.ensures;
      follows =
          subst (λ (s : Schema). Follows s script printed.events followed.ran.history.events followed.whole) c.requires.same
          (subst (λ (es : List Event). Follows (arc_value c.args.shared) script es followed.ran.history.events followed.whole)
          c.as_slice-events.ensures c.in-Ok.ensures.follows);
      left_is = c.in-Ok.ensures.left;
      notes_are = c.in-Ok.ensures.notes;
    } in
    record {
      audits =
          audits_by schema script bytes c.judge.result
          (ok_weaker c.judge.result _ _ (λ audit of. of script printed audited) c.judge.ensures.audits)
          c.judge.ensures.memory;
    }
