use Rattle.std.proofs.Common.{◌<◌, ◌≤◌, ◌++◌, length, drop, arith, refl}
use Rattle.message_pipe.specs.Mail.{handles_of}
use Rattle.message_pipe.specs.Slots.{messages_of}
use Rattle.message_pipe.proofs.Carrying.{handles_all, handles_next}
use Rattle.message_pipe.proofs.slots.add_queued.Goals as goal

pub loop-number-init : goal.loop-number-init
loop-number-init c = refl

pub loop-number-preserved : goal.loop-number-preserved
loop-number-preserved c =
    let keys = c.args.keys.now.items in
    let below : c.loop-number.number < length keys = omega (arith, c.loop-number-test.true, c.len-number-end.ensures, c.args.keys.now.ok.0) in
    handles_next c.args.messages.now keys c.loop-number.number c.index-key.result.now c.loop-number.into.items c.add_of.new.into.items
    (c.args.into.now.items ++ handles_of (messages_of c.args.messages.now (drop c.args.skipped keys))) below c.index-key.ensures
    c.in_ok-add_of.ensures c.loop-number.invariant

pub returns : goal.returns
returns c =
    let keys = c.args.keys.now.items in
    let past : length keys ≤ c.loop-number.number = omega (arith, c.loop-number-test.false, c.len-number-end.ensures, c.args.keys.now.ok.0) in
    handles_all c.args.messages.now keys c.loop-number.number c.loop-number.into.items
    (c.args.into.now.items ++ handles_of (messages_of c.args.messages.now (drop c.args.skipped keys))) past c.loop-number.invariant
