use Rattle.std.proofs.Common.{refl, true}
use Rattle.bind_model.proofs.PendingTable.{no_place, outs_made, places_made}
use Rattle.bind_model.proofs.pending_names.PendingNames.add.Goals.{in-Some, in_default}
use Rattle.bind_model.proofs.pending_names.PendingNames.add.Goals as goal

pub returns-clause-outs : goal.returns-clause-outs
returns-clause-outs c = elim c.match-get_mut.branch [
  | in-Some w ↦ (λ p.
      rw (w.self-inside-is, ← c.self.view_is)
      (outs_made c.self.inside.names (c.get_mut.follows.lender true) c.args.id ((c.get_mut.follows.holds true).3 (rw (← w.in-Some.ensures.value) refl)) p))
  | in_default w ↦ absurd (no_place c.self.inside.names c.args.self.now c.args.id c.self.view_is w.in_default.ensures.value c.requires)
]

pub returns-clause-keeps : goal.returns-clause-keeps
returns-clause-keeps c = elim c.match-get_mut.branch [
  | in-Some w ↦ (λ p.
      rw (w.self-inside-is, ← c.self.view_is)
      (places_made c.self.inside.names (c.get_mut.follows.lender true) c.args.id ((c.get_mut.follows.holds true).3 (rw (← w.in-Some.ensures.value) refl)) p))
  | in_default w ↦ absurd (no_place c.self.inside.names c.args.self.now c.args.id c.self.view_is w.in_default.ensures.value c.requires)
]
