use Rattle.std.proofs.Common.{ap}
use Rattle.module_resolver.specs.Places.{Spot}
use Rattle.module_resolver.proofs.place.Place.file.Goals as goal

pub returns : goal.returns
returns c = ap (λ (s : Spot). s.file) c.self.view_is
