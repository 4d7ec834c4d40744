use Rattle.std.proofs.Common.{rules, ap, ◌∙◌}
use Rattle.turn_lock.proofs.Seats.{copies, joins}
use Rattle.turn_lock.proofs.Steps.{looks}
use Rattle.turn_lock.proofs.Telling.{shows}
use Rattle.turn_lock.proofs.turn.show.Goals as goal

pub split_seat-copy-requires : goal.split_seat-copy-requires
split_seat-copy-requires g c = (c.requires.table.0, search rules, copies g.T.Entries.entries g.T.Entries.number g.T.Entries.basis g.T.Entries.lawful _ _ _)

pub join_seat-requires : goal.join_seat-requires
join_seat-requires g c =
    let given = c.split_seat-copy.ensures.4 in (
      c.requires.table.1,
      search rules,
      ap (λ m. m.1) given,
      search rules,
      joins g.T.Entries.entries g.T.Entries.number g.T.Entries.basis g.T.Entries.lawful _ _ _ _ _ c.requires.rests (ap (λ m. m.0.holds) given),
    )

pub load-requires : goal.load-requires
load-requires g c = (search rules, search rules, looks g.T.Entries.entries g.T.Entries.number g.T.Entries.basis g.T.Entries.lawful _ _ _ _)

pub returns-clause-to : goal.returns-clause-to
returns-clause-to g c =
    let l = c.load.ensures.2 in
    let joined_is = c.join_seat.ensures.2 in
    let given = c.split_seat-copy.ensures.4 in
    let k = shows g.T.Entries.entries g.T.Entries.number g.T.Entries.basis g.T.Entries.lawful c.args.to.now.me.0 c.args.from.now.me.0
    c.split_seat-copy.result.me.0 c.join_seat.new.seat.me.0 l.0 (ap (λ m. m.0) given) (ap (λ m. m.0) joined_is) l.2 in
    (l.0, l.1 ∙ (λ i. (k.0 i, (joined_is i).1)), k.1)
