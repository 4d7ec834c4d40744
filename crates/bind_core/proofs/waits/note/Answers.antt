use Rattle.std.proofs.Common.{◌≡◌, true, subst}
use Rattle.end_notices.proofs.Lines.{on_ok}
use Rattle.bind_core.specs.EndSets.{has_end}
use Rattle.bind_core.specs.declared.waiting.Cause.{Cause}
use Rattle.bind_core.specs.Causes.{ends_for, flush_cause}
use Rattle.bind_core.proofs.waits.note.Goals as goal

pub returns-clause-more : goal.returns-clause-more
returns-clause-more c = λ cause x h. c.add-2.ensures.more cause x (c.add.ensures.more cause x h)

pub returns-clause-noted : goal.returns-clause-noted
returns-clause-noted c =
    let first : has_end (ends_for c.add.new.self (flush_cause c.args.other c.args.flush)) c.args.end ≡ true =
    subst (λ (cause : Cause). has_end (ends_for c.add.new.self cause) c.args.end ≡ true) c.flushed.ensures c.in_ok-add.ensures.added in
    on_ok c.add-2.result
    (λ last. (
      c.add-2.ensures.more (flush_cause c.args.other c.args.flush) c.args.end first,
      subst (λ (cause : Cause). has_end (ends_for c.add-2.new.self cause) c.args.end ≡ true) c.gone.ensures last,
    ))
    c.add-2.ensures.added
