use Rattle.std.proofs.Common.{List, ◌∙◌, ap}
use Rattle.bind_model.specs.declared.names.RequestName.{RequestName}
use Rattle.event_notes.specs.steps.Got.{has_request}
use Rattle.event_notes.proofs.Answering.{has_is}
use Rattle.event_notes.proofs.answered.Answered.has.Goals as goal

pub returns : goal.returns
returns c =
    c.contains.ensures
    ∙ (has_is c.self.inside.names.keys c.args.name
    ∙ ap (λ (names : List RequestName). has_request names c.args.name) c.self.view_is)
