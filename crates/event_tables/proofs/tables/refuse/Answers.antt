use Rattle.std.proofs.Common.{refl}
use Rattle.event_tables.specs.AsCore.{state_of}
use Rattle.event_tables.proofs.Stepping.{refusal_done}
use Rattle.event_tables.proofs.tables.refuse.Goals as goal

pub returns : goal.returns
returns c =
    refusal_done (state_of c.args.tables.now) c.args.seq c.args.asked c.args.why _ c.requires.able c.requires.why refl refl refl refl refl refl
    c.push_reserved.ensures.events
