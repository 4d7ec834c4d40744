use Rattle.std.proofs.Common.{List, sym, subst}
use Rattle.std.proofs.Math.Seq.{split_at}
use Rattle.std.proofs.lemmas.List.{take_more}
use Rattle.handle_table.specs.declared.places.Place.TheVariants as places
use Rattle.handle_table.specs.declared.thing.Thing.{Thing}
use Rattle.handle_table.specs.declared.thing.Thing.TheVariants.{End}
use Rattle.core_state.specs.Placing.{PutsAll}
use Rattle.core_state.proofs.Placed.{one_more}
use Rattle.core_taking.proofs.Handing.{next_kept, one_longer}
use Rattle.core_taking.proofs.receive.hand_out.Goals as goal

pub hand_one-requires-clause-kept : goal.hand_one-requires-clause-kept
hand_one-requires-clause-kept c =
    next_kept _ _ _ _ _ _ (split_at c.args.things.now c.loop-thing.thing-index _ c.loop-thing-test.true) c.requires.there c.loop-thing.invariant.places

pub loop-thing-preserved : goal.loop-thing-preserved
loop-thing-preserved c =
    let more = take_more c.args.things.now c.loop-thing.thing-index (End (record { seq = 0; serial = 0 })) c.loop-thing-test.true in
    record {
      handles = one_longer _ _ _ _ _ c.hand_one.ensures.handles c.loop-thing.invariant.handles more;
      room = rw c.hand_one.ensures.capacity c.loop-thing.invariant.room;
      places =
          subst (λ (ts : List Thing). PutsAll ts places.Out c.args.pipes.now c.hand_one.new.pipes) (sym more)
          (one_more _ _ _ _ _ _ c.loop-thing.invariant.places c.hand_one.ensures.places);
    }
