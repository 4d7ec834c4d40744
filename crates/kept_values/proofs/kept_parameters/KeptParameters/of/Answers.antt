use Rattle.kept_values.proofs.kept_parameters.KeptParameters.of.Goals as goal

pub returns : goal.returns
returns c = c.in_ok-held.ensures
