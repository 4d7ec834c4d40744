use Rattle.core_state.specs.Agreement.{schema_of}
use Rattle.event_tables.specs.AsCore.{state_of}
use Rattle.event_follow.proofs.Running.{ok_both}
use Rattle.event_follow.proofs.Turning.{stepped_reply}
use Rattle.event_follow.proofs.turns.send_reply.Goals as goal

pub step-requires-clause-prepared : goal.step-requires-clause-prepared
step-requires-clause-prepared c = c.in_ok-prepared.ensures.prepared (schema_of (state_of c.args.machine.now.tables)) c.requires.reply.read

pub returns : goal.returns
returns c =
    let copy = c.in_ok-prepared.ensures in
    ok_both c.step.result _ _ _ c.step.ensures.steps c.step.ensures.stands
    (λ steps stands. stepped_reply c.args.seq c.args.due.responder c.args.due.reply.now c.in_ok-prepared.prepared c.new-things.result
    c.new-pendings.result c.args.machine.now c.step.new.self copy.target copy.value c.new-things.ensures c.new-pendings.ensures steps stands)
