use Rattle.tight_bytes.proofs.GoodRows.{good_found}
use Rattle.tight_bytes.proofs.rows.good_struct.Goals as goal

pub returns-clause-good : goal.returns-clause-good
returns-clause-good c = good_found c.find_struct.result c.args.schema.now c.args.number c.find_struct.ensures.found
