use Rattle.event_steps.proofs.steps.close.Goals as goal

pub returns-in-Handle : goal.returns-in-Handle
returns-in-Handle c = rw c.in-Handle.is c.close_thing.ensures

pub returns-in-Pending : goal.returns-in-Pending
returns-in-Pending c = rw c.in-Pending.is c.close_pending.ensures

pub returns-in-Responder : goal.returns-in-Responder
returns-in-Responder c = rw c.in-Responder.is c.close_responder.ensures

pub returns-in-Endpoint : goal.returns-in-Endpoint
returns-in-Endpoint c = rw c.in-Endpoint.is c.close_endpoint.ensures
