use Rattle.std.proofs.Common.{◌∙◌}
use Rattle.script_run.specs.Draining.{DrainedAll, past_in}
use Rattle.script_run.proofs.FewEvents.{part_goes}
use Rattle.script_run.proofs.RunParts.{none_weaker}
use Rattle.threaded_run.specs.steps.Plays.{PlayedAtOnce}
use Rattle.threaded_run.proofs.Whole.{played_of, unspent_by}
use Rattle.threaded_run.proofs.play.finish.Goals as goal

pub drain-requires-clause-script : goal.drain-requires-clause-script
drain-requires-clause-script c = rw c.requires.schema c.requires.script

pub drain-requires-clause-drained : goal.drain-requires-clause-drained
drain-requires-clause-drained c = let may = rw c.in-Ok.is at c.requires.may in may.drain

pub returns-in-Ok-clause-played : goal.returns-in-Ok-clause-played
returns-in-Ok-clause-played c =
    let schema = c.args.schema.now in
    let script = c.args.script.now in
    let core = c.args.core in
    let drained = c.drain.result in
    let may = rw c.in-Ok.is at c.requires.may in
    none_weaker drained.cut (DrainedAll core.schema script (past_in core) drained) (PlayedAtOnce schema script drained)
    (played_of schema script core c.args.rests.items drained c.requires.schema may) c.drain.ensures.drained

pub returns-in-Ok-clause-unspent : goal.returns-in-Ok-clause-unspent
returns-in-Ok-clause-unspent c =
    let may = rw c.in-Ok.is at c.requires.may in
    c.drain.ensures.unspent may.after_joins may.middle c.requires.short may.whole (part_goes c.args.script.now may.after_joins may.joins)
    (λ s w. (may.lines s w).asks)

pub returns-in-Err-clause-played : goal.returns-in-Err-clause-played
returns-in-Err-clause-played c = rw c.cut_off.ensures.cut tt

pub returns-in-Err-clause-unspent : goal.returns-in-Err-clause-unspent
returns-in-Err-clause-unspent c = rw c.cut_off.ensures.cut (unspent_by c.in-Err.cut (λ e. c.requires.unspent (c.in-Err.is ∙ e)))
