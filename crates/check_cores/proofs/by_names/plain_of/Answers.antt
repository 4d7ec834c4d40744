use Rattle.std.proofs.lemmas.Result.{IfOk-weaker}
use Rattle.check_cores.proofs.by_names.plain_of.Goals as goal

pub returns-in_ok-prepared-in-Call : goal.returns-in_ok-prepared-in-Call
returns-in_ok-prepared-in-Call c schema of = let is = rw c.in-Call.is at of in c.in_ok-prepared-in-Call.ensures schema is

pub returns-in_ok-prepared-in-Answer : goal.returns-in_ok-prepared-in-Answer
returns-in_ok-prepared-in-Answer c schema of = let is = rw c.in-Answer.is at of in c.in_ok-prepared-in-Answer.ensures schema is

pub returns-in-Raw : goal.returns-in-Raw
returns-in-Raw c = IfOk-weaker c.raw_of.result _ _ (λ plain all schema of. all schema) c.raw_of.ensures

pub returns-in_default : goal.returns-in_default
returns-in_default c = IfOk-weaker c.other_of.result _ _ (λ plain all schema of. all schema) c.other_of.ensures
