use Rattle.std.proofs.Common.{rules}
use Rattle.turn_lock.proofs.Seats.{deals}
use Rattle.turn_lock.proofs.turn.deal.Goals as goal

pub split_seat-place-requires : goal.split_seat-place-requires
split_seat-place-requires g c = (
  c.requires.table.0,
  search rules,
  deals g.T.Entries.entries g.T.Entries.number g.T.Entries.basis g.T.Entries.lawful _ _ _
      c.requires.dealer.2 c.requires.room,
)
