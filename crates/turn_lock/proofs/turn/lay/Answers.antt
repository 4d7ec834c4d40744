use Rattle.std.proofs.Common.{rules, ◌≡◌, [], ◌∷◌, List, sym, subst}
use Rattle.atomic_table.specs.Table.{opening}
use Rattle.turn_lock.specs.steps.Turning.{Turning, opened}
use Rattle.turn_lock.proofs.Seats.{opens}
use Rattle.turn_lock.proofs.turn.lay.Goals as goal

pub new-requires : goal.new-requires
new-requires g c =
    let items : c.push.new.self.items ≡ c.args.value ∷ [] = search rules in
    let about : c.of.result.value ≡ c.args.value = search rules in
    subst (λ (z : List g.row.T.Denot × g.row.T.Denot). Turning g.T.Entries.entries g.T.Entries.number g.T.Entries.basis g.T.Entries.lawful c.args.seats
    (opening (0 ∷ 0 ∷ []) z.0 (opened (g.T.Entries.basis z.1)))) (λ i. (sym items i, sym about i))
    (opens g.T.Entries.entries g.T.Entries.number g.T.Entries.basis g.T.Entries.lawful c.args.seats c.args.value c.requires c.count.ensures.lawful)
