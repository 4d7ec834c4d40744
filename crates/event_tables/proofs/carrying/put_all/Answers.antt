use Rattle.std.proofs.Common.{List, subst, sym}
use Rattle.std.proofs.lemmas.List.{take_more}
use Rattle.handle_table.specs.declared.thing.Thing.{Thing}
use Rattle.handle_table.specs.declared.thing.Thing.TheVariants.{End}
use Rattle.core_state.specs.Placing.{PutsAll}
use Rattle.core_state.proofs.Placed.{one_more}
use Rattle.event_tables.proofs.carrying.put_all.Goals as goal

pub loop-thing-preserved : goal.loop-thing-preserved
loop-thing-preserved c =
    subst (λ (ts : List Thing). PutsAll ts c.args.place c.args.pipes.now c.put.new.self)
    (sym (take_more c.args.things.now c.loop-thing.thing-index (End (record { seq = 0; serial = 0 })) c.loop-thing-test.true))
    (one_more _ _ _ _ _ _ c.loop-thing.invariant c.put.ensures)
