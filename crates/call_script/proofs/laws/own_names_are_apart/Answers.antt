use Rattle.call_script.proofs.OwnNames.{own_apart, own_one}
use Rattle.call_script.proofs.laws.own_names_are_apart.Goals as goal

pub returns-clause-joins : goal.returns-clause-joins
returns-clause-joins c = own_apart

pub returns-clause-sequences : goal.returns-clause-sequences
returns-clause-sequences c = own_one
