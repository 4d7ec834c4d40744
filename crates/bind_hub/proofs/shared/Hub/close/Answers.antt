use Rattle.bind_hub.proofs.Stepping.{is_in}
use Rattle.bind_hub.proofs.shared.Hub.close.Goals as goal

pub close-core-requires-clause-passes : goal.close-core-requires-clause-passes
close-core-requires-clause-passes c k p h = let i = c.requires.passes k p h in (i.of_table, i.basis)

pub returns-clause-passes : goal.returns-clause-passes
returns-clause-passes c k p h = is_in p.number p.place.me.0 c.close-core.result (c.close-core.ensures.passes k p h)
