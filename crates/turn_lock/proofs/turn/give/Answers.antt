use Rattle.std.proofs.Common.{rules}
use Rattle.turn_lock.proofs.Steps.{gives_turn}
use Rattle.turn_lock.proofs.turn.give.Goals as goal

pub swap-requires : goal.swap-requires
swap-requires g c =
    let v = c.requires.value in
    let m = v.2 in (
      c.requires.table.0,
      search rules,
      gives_turn g.T.Entries.entries g.T.Entries.number g.T.Entries.basis g.T.Entries.lawful _ _ _ _ v.0 m.holds v.1 m.listed m.base m.based m.value_based,
    )
