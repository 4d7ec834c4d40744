use Rattle.std.proofs.Common.{rules}
use Rattle.turn_lock.proofs.Steps.{takes_turn}
use Rattle.turn_lock.proofs.turn.take.Goals as goal

pub compare_exchange-requires : goal.compare_exchange-requires
compare_exchange-requires g c = (
  search rules,
  search rules,
  takes_turn g.T.Entries.entries g.T.Entries.number g.T.Entries.basis g.T.Entries.lawful _ _ _ _ _ c.requires.pass.2.2,
)
