use Rattle.kept_values.proofs.kept_parameters.other_part.Goals as goal

pub returns : goal.returns
returns c = c.in_ok-copy.ensures
