use Rattle.std.proofs.Common.{ap, sym}
use Rattle.std.specs.Prelude.{Option}
use Rattle.script_names.specs.Names.{responders_named}
use Rattle.script_names.specs.Settling.{list_of}
use Rattle.event_follow.specs.declared.places.DueReply.{DueReply}
use Rattle.event_follow.specs.steps.Places.{due_in}
use Rattle.event_follow.proofs.settling.named_right.Goals as goal

pub returns-in-Some : goal.returns-in-Some
returns-in-Some c = sym (ap (λ (o : Option DueReply). responders_named (due_in o) (list_of c.args.responder)) c.in-Some.is)

pub returns-in-None : goal.returns-in-None
returns-in-None c = sym (ap (λ (o : Option DueReply). responders_named (due_in o) (list_of c.args.responder)) c.in-None.is)
