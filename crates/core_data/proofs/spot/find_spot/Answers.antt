use Rattle.std.proofs.Common.{sym}
use Rattle.core_data.proofs.Spotted.{few_serial}
use Rattle.core_data.proofs.spot.find_spot.Goals as goal

pub other_token-requires : goal.other_token-requires
other_token-requires c = few_serial c.args.state.now c.requires c.in-Token.token c.in-Some.found (sym c.in-Some.ensures)
