use Rattle.compat_check.proofs.rounds.step_unless.Goals as goal

pub returns-in-Some-clause-goes : goal.returns-in-Some-clause-goes
returns-in-Some-clause-goes c none = let is = c.in-Some.is in absurd cc

pub returns-in_ok-kept-in-None-clause-stops : goal.returns-in_ok-kept-in-None-clause-stops
returns-in_ok-kept-in-None-clause-stops c why some_ = let is = c.in-None.is in absurd cc

pub returns-in_ok-kept-in-None-clause-goes : goal.returns-in_ok-kept-in-None-clause-goes
returns-in_ok-kept-in-None-clause-goes c none list is = c.in_ok-kept-in-None.ensures.skims list is
