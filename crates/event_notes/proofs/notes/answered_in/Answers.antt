use Rattle.std.proofs.Common.{ap, ◌∙◌}
use Rattle.bind_model.specs.declared.asked.Asked.TheVariants as asks
use Rattle.bind_model.specs.declared.told.Got.{Got}
use Rattle.bind_model.specs.declared.told.Told.TheVariants as tells
use Rattle.event_notes.specs.steps.Got.{response_of}
use Rattle.event_notes.proofs.notes.answered_in.Goals as goal

pub returns : goal.returns
returns c = c.answered_by.ensures ∙ ap (λ (g : Got). response_of (tells.Taken g) (asks.Take c.args.end)) c.get.ensures
