use Rattle.std.proofs.Common.{◌≡◌, List, take, sym, subst, arith, vec_capacity}
use Rattle.std.specs.Prelude.{◌||◌}
use Rattle.bind_model.specs.Machine.{Entry}
use Rattle.bind_model.specs.Pendings.{is_out}
use Rattle.bind_model.specs.Replies.{has_pending, pendings_at}
use Rattle.bind_model.specs.declared.endpoint.PendingId.{PendingId}
use Rattle.core_taking.specs.Founds.{pending_ids}
use Rattle.core_taking.specs.steps.Pending.{halves_from}
use Rattle.core_state.proofs.Entered.{longer_here, split_here}
use Rattle.core_taking.proofs.PendingMade.{more_made, more_out, next_placed, next_room}
use Rattle.core_taking.proofs.pendings.make_pending.Goals as goal

pub make_one-requires-clause-place : goal.make_one-requires-clause-place
make_one-requires-clause-place c =
    next_placed c.args.end (take c.loop-entry.entry-index c.args.entries.now) c.entry-item.result c.args.entries.now _
    (split_here c.args.entries.now c.loop-entry.entry-index c.entry-item.result c.loop-entry-test.true c.entry-item.is) c.args.pendings.now
    c.loop-entry.pendings c.requires.places c.loop-entry.invariant.keeps

pub make_one-requires-clause-room : goal.make_one-requires-clause-room
make_one-requires-clause-room c = λ h.
    let room = next_room c.args.end (take c.loop-entry.entry-index c.args.entries.now) c.entry-item.result c.args.entries.now _
    (split_here c.args.entries.now c.loop-entry.entry-index c.entry-item.result c.loop-entry-test.true c.entry-item.is)
    c.loop-entry.out.items (vec_capacity c.loop-entry.out) c.loop-entry.invariant.made c.loop-entry.invariant.room h in
    omega (arith, room, c.loop-entry.out.ok)

pub loop-entry-preserved : goal.loop-entry-preserved
loop-entry-preserved c =
    let more = longer_here c.args.entries.now c.loop-entry.entry-index c.entry-item.result c.loop-entry-test.true c.entry-item.is in
    record {
      made =
          subst (λ (es : List Entry). c.make_one.new.out.items ≡ halves_from c.args.end es) (sym more)
          (more_made c.args.end (take c.loop-entry.entry-index c.args.entries.now) c.entry-item.result c.loop-entry.out.items c.make_one.new.out.items
          c.loop-entry.invariant.made c.make_one.ensures.made);
      room = rw c.make_one.ensures.capacity c.loop-entry.invariant.room;
      keeps = λ p h. c.make_one.ensures.keeps p (c.loop-entry.invariant.keeps p h);
      outs =
          subst (λ (es : List Entry). (p : PendingId) → is_out c.make_one.new.pendings p
          ≡ (has_pending (pendings_at c.args.end (pending_ids es)) p || is_out c.args.pendings.now p)) (sym more)
          (more_out c.args.end (take c.loop-entry.entry-index c.args.entries.now) c.entry-item.result c.args.pendings.now c.loop-entry.pendings
          c.make_one.new.pendings c.loop-entry.invariant.outs c.make_one.ensures.outs);
    }
