use Rattle.std.proofs.Common.{ℕ, ◌≤◌, subst, sym}
use Rattle.mj_base.specs.declared.limits.TheConstants.{MAX_FILE_BYTES}
use Rattle.check_audits.specs.steps.Auditable.{IsAuditable}
use Rattle.check_audits.proofs.subject.script_of.Goals as goal

pub returns-in-Ok : goal.returns-in-Ok
returns-in-Ok c =
    let is : IsAuditable c.args.schema.now c.in-Ok.script = record {
      words = c.requires.words;
      sound = c.in-Ok.ensures.sound;
      source = c.args.bytes.now;
      read = c.in-Ok.ensures.ok;
      short = subst (λ (n : ℕ). n ≤ MAX_FILE_BYTES) (sym c.in-Ok.ensures.counted) c.requires.short;
    } in
    is
