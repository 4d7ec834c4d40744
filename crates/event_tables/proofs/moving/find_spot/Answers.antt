use Rattle.std.proofs.Common.{sym}
use Rattle.core_data.proofs.Spotted.{few_serial}
use Rattle.event_tables.specs.AsCore.{state_of}
use Rattle.event_tables.proofs.moving.find_spot.Goals as goal

pub other_token-requires : goal.other_token-requires
other_token-requires c = few_serial (state_of c.args.tables.now) c.requires c.in-Token.token c.in-Some.found (sym c.in-Some.ensures)
