use Rattle.std.proofs.Common.{◌∙◌, ap}
use Rattle.module_resolver.specs.Places.{Spot}
use Rattle.module_resolver.proofs.place.Place.within.Goals as goal

pub returns-clause-files : goal.returns-clause-files
returns-clause-files c = c.place.ensures.files ∙ ap (λ (s : Spot). s.files) c.self.view_is

pub returns-clause-file : goal.returns-clause-file
returns-clause-file c = c.place.ensures.file ∙ ap (λ (s : Spot). s.file) c.self.view_is
