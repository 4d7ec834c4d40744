use Rattle.event_steps.proofs.steps.dispatch.Goals as goal

pub call-requires-clause-prepared : goal.call-requires-clause-prepared
call-requires-clause-prepared c = rw c.in-Call.is at c.requires.prepared

pub answer-requires-clause-prepared : goal.answer-requires-clause-prepared
answer-requires-clause-prepared c = rw c.in-Answer.is at c.requires.prepared

pub returns-in-Pipe : goal.returns-in-Pipe
returns-in-Pipe c = rw c.in-Pipe.is c.pipe.ensures

pub returns-in-Join : goal.returns-in-Join
returns-in-Join c = rw c.in-Join.is c.join.ensures

pub returns-in-Mint : goal.returns-in-Mint
returns-in-Mint c = rw c.in-Mint.is c.mint.ensures

pub returns-in-Bind : goal.returns-in-Bind
returns-in-Bind c = rw c.in-Bind.is c.bind.ensures

pub returns-in-Associate : goal.returns-in-Associate
returns-in-Associate c = rw c.in-Associate.is c.associate.ensures

pub returns-in-Attach : goal.returns-in-Attach
returns-in-Attach c = rw c.in-Attach.is c.attach.ensures

pub returns-in-Call : goal.returns-in-Call
returns-in-Call c = rw c.in-Call.is c.call.ensures

pub returns-in-Answer : goal.returns-in-Answer
returns-in-Answer c = rw c.in-Answer.is c.answer.ensures

pub returns-in-Raw : goal.returns-in-Raw
returns-in-Raw c = rw c.in-Raw.is c.raw.ensures

pub returns-in-Take : goal.returns-in-Take
returns-in-Take c = rw c.in-Take.is c.take.ensures

pub returns-in-Close : goal.returns-in-Close
returns-in-Close c = rw c.in-Close.is c.close.ensures

pub returns-in-Notify : goal.returns-in-Notify
returns-in-Notify c = rw c.in-Notify.is c.notify.ensures

pub returns-in-Pause : goal.returns-in-Pause
returns-in-Pause c = rw c.in-Pause.is c.pause.ensures

pub returns-in-Data : goal.returns-in-Data
returns-in-Data c = rw c.in-Data.is c.data.ensures

pub returns-in-Flow : goal.returns-in-Flow
returns-in-Flow c = rw c.in-Flow.is c.flow.ensures

pub returns-in-Skip : goal.returns-in-Skip
returns-in-Skip c = rw c.in-Skip.is c.skip.ensures
