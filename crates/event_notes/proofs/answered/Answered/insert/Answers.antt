use Rattle.std.proofs.Common.{List, ◌∙◌, ap}
use Rattle.std.specs.Prelude.{◌||◌}
use Rattle.bind_model.specs.Names.{same_request}
use Rattle.bind_model.specs.declared.names.RequestName.{RequestName}
use Rattle.event_notes.specs.steps.Got.{has_request}
use Rattle.event_notes.proofs.Answering.{added}
use Rattle.event_notes.proofs.answered.Answered.insert.Goals as goal

pub returns : goal.returns
returns c q =
    added c.self.inside.names.keys c.insert.new.self.keys c.args.name c.in_ok-insert.ensures.updates.0 q
    ∙ ap (λ (names : List RequestName). has_request names q || same_request c.args.name q) c.self.view_is
