use Rattle.std.proofs.Common.{◌∙◌, sym}
use Rattle.std.proofs.lemmas.Result.{IfOk-weaker}
use Rattle.event_notes.proofs.Answering.{request_turned}
use Rattle.event_notes.proofs.Noting.{knows_more, knows_same}
use Rattle.event_notes.proofs.notes.add_response.Goals as goal

pub returns-in-Some : goal.returns-in-Some
returns-in-Some c =
    IfOk-weaker c.insert.result _ _
    (λ done added later knows.
    knows_more c.args.answered.now c.insert.new.self c.args.event.now later c.in-Some.name (sym c.response_of.ensures ∙ c.in-Some.is) added
    request_turned knows)
    c.insert.ensures

pub returns-in-None : goal.returns-in-None
returns-in-None c later knows = knows_same c.args.answered.now c.args.event.now later (sym c.response_of.ensures ∙ c.in-None.is) knows
