use Rattle.std.proofs.Common.{length, refl, arith}
use Rattle.std.proofs.lemmas.Option.{slice_get_read}
use Rattle.event_follow.proofs.FollowingLemmas.{along_more, along_none, amid_few, stopped_all, stopped_at}
use Rattle.event_follow.proofs.following.follow_events.Goals as goal

pub loop-event-init : goal.loop-event-init
loop-event-init c = λ after_joins amid.
    along_none c.args.schema.now c.args.script.now after_joins c.args.events.now c.args.machine.now c.args.places.now amid

pub follow_one-requires-clause-few : goal.follow_one-requires-clause-few
follow_one-requires-clause-few c =
    let a = c.loop-event.invariant c.requires.amid.0 c.requires.amid.1 in
    amid_few c.args.schema.now c.args.script.now c.requires.script c.requires.short c.requires.amid.0 a.middle c.loop-event.machine c.loop-event.places
    a.amid

pub follow_one-requires-clause-amid : goal.follow_one-requires-clause-amid
follow_one-requires-clause-amid c =
    let a = c.loop-event.invariant c.requires.amid.0 c.requires.amid.1 in
    (c.requires.amid.0, a.middle, a.amid)

pub loop-event-preserved : goal.loop-event-preserved
loop-event-preserved c = λ after_joins first.
    let events = c.args.events.now in
    let k = c.loop-event.event-index in
    let here = slice_get_read events (length events) k c.event-item.result refl c.loop-event-test.true c.event-item.is in
    let a = c.loop-event.invariant after_joins first in
    let one = rw c.if-not-branch.false at c.in_ok-follow_one.ensures in
    along_more c.args.schema.now c.args.script.now after_joins events c.follow_one.new.machine c.follow_one.new.places k c.event-item.result here
    a.middle a.along (one after_joins a.middle a.amid)

pub returns-then-not-branch : goal.returns-then-not-branch
returns-then-not-branch c = λ after_joins first.
    let events = c.args.events.now in
    let k = c.loop-event.event-index in
    let here = slice_get_read events (length events) k c.event-item.result refl c.loop-event-test.true c.event-item.is in
    let a = c.loop-event.invariant after_joins first in
    let none = rw c.if-not-branch.true at c.in_ok-follow_one.ensures in
    stopped_at c.args.schema.now c.args.script.now after_joins events c.follow_one.new.machine c.follow_one.new.places k c.loop-event-test.true
    c.event-item.result here a.middle a.along (none after_joins a.middle a.amid)

pub returns : goal.returns
returns c = λ after_joins first.
    stopped_all c.args.schema.now c.args.script.now after_joins c.args.events.now c.loop-event.machine c.loop-event.places c.loop-event.event-index
    c.loop-event-test.false (omega arith) (c.loop-event.invariant after_joins first)
