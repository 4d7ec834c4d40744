use Rattle.std.proofs.Common.{◌≤◌, length, refl, arith}
use Rattle.std.proofs.lemmas.Option.{slice_get_read}
use Rattle.mj_base.specs.declared.limits.TheConstants.{MAX_EVENTS}
use Rattle.script_run.proofs.CutTurns.{unspent_of}
use Rattle.script_run.proofs.Traces.{along_more, along_none, amid_few, stopped_all, stopped_at}
use Rattle.script_run.proofs.tracing.follow_events.Goals as goal

pub loop-event-init : goal.loop-event-init
loop-event-init c = λ after_joins amid.
    along_none c.args.schema.now c.args.script.now after_joins c.args.events.now c.args.core c.args.rests.now c.args.rooms.now c.args.agendas.now amid

pub follow_one-back-requires-clause-amid : goal.follow_one-back-requires-clause-amid
follow_one-back-requires-clause-amid c =
    let a = c.loop-event.invariant c.requires.amid.0 c.requires.amid.1 in
    (c.requires.amid.0, a.middle, a.amid)

pub loop-event-preserved : goal.loop-event-preserved
loop-event-preserved c = λ after_joins first.
    let events = c.args.events.now in
    let k = c.loop-event.event-index in
    let here = slice_get_read events (length events) k c.event-item.result refl c.loop-event-test.true c.event-item.is in
    let a = c.loop-event.invariant after_joins first in
    let one = rw (c.in-Ok-true.is, c.in-Ok-true.field-0-test) at c.follow_one-back.ensures.more in
    along_more c.args.schema.now c.args.script.now after_joins events c.follow_one-back.result.0 c.follow_one-back.new.rests c.follow_one-back.new.rooms
    c.follow_one-back.new.agendas k c.event-item.result here a.middle a.along (one after_joins a.middle a.amid)

pub returns-in-Ok-false-clause-stopped : goal.returns-in-Ok-false-clause-stopped
returns-in-Ok-false-clause-stopped c = λ after_joins first.
    let events = c.args.events.now in
    let k = c.loop-event.event-index in
    let here = slice_get_read events (length events) k c.event-item.result refl c.loop-event-test.true c.event-item.is in
    let a = c.loop-event.invariant after_joins first in
    let none = rw (c.in-Ok-false.is, c.in-Ok-false.field-0-test) at c.follow_one-back.ensures.more in
    stopped_at c.args.schema.now c.args.script.now after_joins events c.follow_one-back.result.0 c.follow_one-back.new.rests c.follow_one-back.new.rooms
    c.follow_one-back.new.agendas k c.loop-event-test.true c.event-item.result here a.middle a.along (none after_joins a.middle a.amid)

pub returns-clause-stopped : goal.returns-clause-stopped
returns-clause-stopped c = λ after_joins first.
    stopped_all c.args.schema.now c.args.script.now after_joins c.args.events.now c.loop-event.core c.loop-event.rests c.loop-event.rooms
    c.loop-event.agendas c.loop-event.event-index c.loop-event-test.false (omega arith) (c.loop-event.invariant after_joins first)

pub returns-in-Err-clause-unspent : goal.returns-in-Err-clause-unspent
returns-in-Err-clause-unspent c = λ short.
    let core = c.loop-event.core in
    let a = c.loop-event.invariant c.requires.amid.0 c.requires.amid.1 in
    let few = amid_few c.args.schema.now c.args.script.now c.requires.script short c.requires.amid.0 a.middle core c.loop-event.rests c.loop-event.rooms
    c.loop-event.agendas a.amid in
    unspent_of c.in-Err.cut (MAX_EVENTS ≤ length core.events) (rw c.in-Err.is at c.follow_one-back.ensures.cut) (λ full. omega (arith, full, few))
