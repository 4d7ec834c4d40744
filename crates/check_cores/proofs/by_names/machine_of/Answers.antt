use Rattle.std.proofs.Common.{ap, ◌∙◌}
use Rattle.std.specs.Arc.{arc_value}
use Rattle.check_cores.proofs.by_names.machine_of.Goals as goal

pub returns-in-Ok : goal.returns-in-Ok
returns-in-Ok c = (c.new.ensures.stands, ap arc_value c.new.ensures.schema ∙ c.in-Ok.ensures, c.new.ensures.seqs)
