use Rattle.std.proofs.Common.{ℕ, ap, sym, ◌∙◌}
use Rattle.bind_model.specs.Replies.{told_of}
use Rattle.bind_model.specs.declared.asked.Notice.{Notice}
use Rattle.bind_model.specs.declared.told.Notified.TheVariants.{Flushing}
use Rattle.core_state.specs.Agreement.{past_of}
use Rattle.core_sending.proofs.Notifying.{flushes_few, next_is}
use Rattle.event_tables.specs.AsCore.{state_of}
use Rattle.event_tables.proofs.notices.told_of.Goals as goal

pub next_flush-requires : goal.next_flush-requires
next_flush-requires c = flushes_few (state_of c.args.tables.now) c.requires.holds c.requires.few c.args.end

pub returns-in-Flush : goal.returns-in-Flush
returns-in-Flush c =
    ap (λ (n : ℕ). Flushing n) (c.next_flush.ensures ∙ next_is (state_of c.args.tables.now) c.requires.holds c.args.end)
    ∙ sym (ap (λ (notice : Notice). told_of (past_of (state_of c.args.tables.now)) c.args.end notice) c.in-Flush.is)
