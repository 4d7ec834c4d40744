use Rattle.std.proofs.Common.{sym, ◌∙◌}
use Rattle.core_ends.proofs.Retiring.{pending_refused}
use Rattle.event_tables.specs.AsCore.{state_of}
use Rattle.event_tables.proofs.unsent.close_pending.Goals as goal

pub refuse-requires-clause-why : goal.refuse-requires-clause-why
refuse-requires-clause-why c =
    pending_refused (state_of c.args.tables.now) c.args.seq c.requires c.args.id (sym c.is_out.ensures ∙ c.if-not-is_out.true)
