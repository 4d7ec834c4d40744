use Rattle.std.proofs.Common.{ap, ◌∙◌}
use Rattle.bind_model.specs.Replies.{responders_handed}
use Rattle.bind_model.specs.WireOf.{wire_of}
use Rattle.bind_model.specs.declared.asked.Asked.TheVariants as asks
use Rattle.bind_model.specs.declared.told.Got.{Got}
use Rattle.bind_model.specs.declared.told.Told.TheVariants as tells
use Rattle.plain_names.proofs.handing.right_in.Goals as goal

pub returns : goal.returns
returns c =
    c.right_of.ensures ∙ ap (λ (g : Got). responders_handed (wire_of c.args.schema.now) (tells.Taken g) (asks.Take c.args.end)) c.get.ensures
