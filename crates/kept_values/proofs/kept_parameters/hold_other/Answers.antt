use Rattle.kept_values.proofs.kept_parameters.hold_other.Goals as goal

pub returns : goal.returns
returns c = c.in_ok-copy.ensures
