use Rattle.std.proofs.Common.{rules, ap}
use Rattle.turn_lock.specs.Passing.{mine_of}
use Rattle.turn_lock.proofs.Seats.{joins}
use Rattle.turn_lock.proofs.Steps.{looks}
use Rattle.turn_lock.proofs.Telling.{rejoined}
use Rattle.turn_lock.proofs.turn.rejoin.Goals as goal

pub join_seat-requires : goal.join_seat-requires
join_seat-requires g c = (
  c.requires.table.0,
  c.requires.table.1,
  c.args.pass.idle.0,
  search rules,
  joins g.T.Entries.entries g.T.Entries.number g.T.Entries.basis g.T.Entries.lawful _ _ _ _ _ c.requires.idle.1 c.args.pass.idle.1,
)

pub load-requires : goal.load-requires
load-requires g c = (search rules, search rules, looks g.T.Entries.entries g.T.Entries.number g.T.Entries.basis g.T.Entries.lawful _ _ _ _)

pub returns-clause-joined : goal.returns-clause-joined
returns-clause-joined g c =
    let l = c.load.ensures.2 in
    let p = c.args.pass.place.me.0 in
    rejoined g.T.Entries.entries g.T.Entries.number g.T.Entries.basis g.T.Entries.lawful c.args.seat.now.me.0 p c.join_seat.new.seat.me.0
    c.load.new.seat.me.0 c.args.pass.number (mine_of p.parts) l.0
    c.args.pass.idle.2 c.requires.idle.1 (ap (λ m. m.0) c.join_seat.ensures.2) l.2 (ap (λ m. m.0) l.1)
