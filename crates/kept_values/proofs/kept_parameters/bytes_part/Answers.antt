use Rattle.std.proofs.Common.{map}
use Rattle.wire_model.specs.Trees.{view}
use Rattle.kept_values.proofs.KeptLists.{bytes_kept}
use Rattle.kept_values.proofs.kept_parameters.bytes_part.Goals as goal

pub returns-in-Some : goal.returns-in-Some
returns-in-Some c = bytes_kept c.in_ok-found.found c.in-Some.bytes (map view c.args.items.now) c.in-Some.is c.in_ok-found.ensures
