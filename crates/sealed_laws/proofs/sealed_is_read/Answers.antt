use Rattle.sealed_laws.proofs.Sealed.{few_are_met, passed_is_read, sealed_is_read}
use Rattle.sealed_laws.proofs.sealed_is_read.Goals as goal

pub returns-clause-passed : goal.returns-clause-passed
returns-clause-passed c = passed_is_read c.passed_is_encodable.ensures

pub returns-clause-few : goal.returns-clause-few
returns-clause-few c = few_are_met c.passed_is_encodable.ensures

pub returns-clause-sealed : goal.returns-clause-sealed
returns-clause-sealed c = sealed_is_read c.passed_is_encodable.ensures
