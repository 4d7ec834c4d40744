use Rattle.std.proofs.Common.{rules, ap, ◌∙◌}
use Rattle.turn_lock.proofs.Steps.{waits_for_turn}
use Rattle.turn_lock.proofs.turn.wait_for.Goals as goal

pub swap-requires : goal.swap-requires
swap-requires g c =
    let same = c.loop.invariant.3 in
    let has = c.requires.pass.2.2 in (
      search rules,
      search rules,
      waits_for_turn g.T.Entries.entries g.T.Entries.number g.T.Entries.basis g.T.Entries.lawful _ _ _ _ _ (ap (λ m. m.0.parts) same ∙ has),
    )
