use Rattle.message_validator.proofs.Sealed.{tight_stands}
use Rattle.message_validator.proofs.laws.tight_stands.Goals as goal

pub returns : goal.returns
returns c = tight_stands
