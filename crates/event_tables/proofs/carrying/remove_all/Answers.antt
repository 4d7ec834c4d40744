use Rattle.std.proofs.Common.{List, get_or, subst, sym, take}
use Rattle.std.proofs.lemmas.List.{take_all, take_more}
use Rattle.bind_model.specs.declared.endpoint.PendingId.{PendingId}
use Rattle.core_state.specs.steps.Spends.{SpendsAll}
use Rattle.event_tables.proofs.Losing.{no_less, one_less}
use Rattle.event_tables.proofs.carrying.remove_all.Goals as goal

abbrev none : PendingId
none = record { end = record { seq = 0; serial = 0 }; id = 0 }

pub loop-pending-init : goal.loop-pending-init
loop-pending-init c = no_less c.args.table.now

pub loop-pending-preserved : goal.loop-pending-preserved
loop-pending-preserved c =
    let ps = c.args.pendings.now in
    let at = c.loop-pending.pending-index in
    subst (λ (ps : List PendingId). SpendsAll ps c.args.table.now c.remove.new.self) (sym (take_more ps at none c.loop-pending-test.true))
    (one_less (take at ps) (get_or ps at none) c.args.table.now c.loop-pending.table c.remove.new.self c.loop-pending.invariant c.remove.ensures)

pub returns : goal.returns
returns c =
    subst (λ (ps : List PendingId). SpendsAll ps c.args.table.now c.loop-pending.table)
    (take_all c.loop-pending.pending-index c.args.pendings.now c.loop-pending-test.false) c.loop-pending.invariant
