use Rattle.std.proofs.Common.{◌∙◌, ap}
use Rattle.module_resolver.specs.LookUp.{sort_of}
use Rattle.module_resolver.specs.Places.{Spot}
use Rattle.module_resolver.proofs.place.Place.sort_of.Goals as goal

pub returns : goal.returns
returns c = c.sort_of.ensures ∙ ap (λ (s : Spot). sort_of s.files c.args.target) c.self.view_is
