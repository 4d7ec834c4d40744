use Rattle.std.proofs.Common.{◌∙◌, subst, sym}
use Rattle.std.specs.Prelude.{IfOk}
use Rattle.mj_schema.specs.declared.schema.Schema.{Schema}
use Rattle.call_script.specs.Sound.{IsScript}
use Rattle.script_run.specs.Followed.{Follows}
use Rattle.event_follow.proofs.following.follow.Goals as goal

pub follow_over-requires-clause-same : goal.follow_over-requires-clause-same
follow_over-requires-clause-same c = c.in-Ok.ensures ∙ sym c.deref.ensures

pub follow_over-requires-clause-script : goal.follow_over-requires-clause-script
follow_over-requires-clause-script c = subst (λ (s : Schema). IsScript s c.args.script.now) (sym c.deref.ensures) c.requires.script

pub returns-clause-follows : goal.returns-clause-follows
returns-clause-follows c =
    subst (λ (s : Schema). IfOk c.follow_over.result
    (λ followed. Follows s c.args.script.now c.args.events.now followed.ran.history.events followed.whole)) c.deref.ensures c.follow_over.ensures.follows
