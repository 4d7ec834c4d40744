use Rattle.std.proofs.Common.{◌≡◌, List, take, sym, subst}
use Rattle.std.specs.Prelude.{◌||◌}
use Rattle.bind_model.specs.Machine.{Entry}
use Rattle.bind_model.specs.Pendings.{is_out}
use Rattle.bind_model.specs.Replies.{has_pending, pendings_at}
use Rattle.bind_model.specs.declared.endpoint.PendingId.{PendingId}
use Rattle.core_taking.specs.Founds.{pending_ids}
use Rattle.core_state.proofs.Entered.{longer_here, split_here}
use Rattle.core_taking.proofs.PendingMade.{more_out, next_placed}
use Rattle.event_takes.proofs.receiving.add_pending.Goals as goal

pub add_one-requires : goal.add_one-requires
add_one-requires c =
    next_placed c.args.end (take c.loop-entry.entry-index c.args.entries.now) c.entry-item.result c.args.entries.now _
    (split_here c.args.entries.now c.loop-entry.entry-index c.entry-item.result c.loop-entry-test.true c.entry-item.is) c.args.pendings.now
    c.loop-entry.pendings c.requires c.loop-entry.invariant.keeps

pub loop-entry-preserved : goal.loop-entry-preserved
loop-entry-preserved c =
    let more = longer_here c.args.entries.now c.loop-entry.entry-index c.entry-item.result c.loop-entry-test.true c.entry-item.is in
    record {
      keeps = λ p h. c.add_one.ensures.keeps p (c.loop-entry.invariant.keeps p h);
      outs =
          subst (λ (es : List Entry). (p : PendingId) → is_out c.add_one.new.pendings p
          ≡ (has_pending (pendings_at c.args.end (pending_ids es)) p || is_out c.args.pendings.now p)) (sym more)
          (more_out c.args.end (take c.loop-entry.entry-index c.args.entries.now) c.entry-item.result c.args.pendings.now c.loop-entry.pendings
          c.add_one.new.pendings c.loop-entry.invariant.outs c.add_one.ensures.outs);
    }
