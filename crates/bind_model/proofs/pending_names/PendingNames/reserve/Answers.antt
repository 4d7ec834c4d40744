use Rattle.std.proofs.Common.{arith}
use Rattle.std.proofs.lemmas.Grind.{common_steps}
use Rattle.bind_model.proofs.PendingTable.{found, place_found}
use Rattle.bind_model.proofs.pending_names.PendingNames.reserve.Goals as goal

pub returns-clause-same : goal.returns-clause-same
returns-clause-same c = λ p. rw (found _ p, ← c.self.view_is, found c.self.inside.names p) (grind (arith, common_steps))

pub returns-clause-there : goal.returns-clause-there
returns-clause-there c = rw (found _ c.args.id) (grind (arith, common_steps))

pub returns-clause-keeps : goal.returns-clause-keeps
returns-clause-keeps c = λ p h.
    let was = place_found c.self.inside.names c.args.self.now p c.self.view_is h in
    rw (found _ p) (grind (arith, common_steps, was))
