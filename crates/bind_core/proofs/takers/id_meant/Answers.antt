use Rattle.std.proofs.Common.{refl}
use Rattle.std.proofs.lemmas.Bool.{ne_eqb}
use Rattle.bind_core.proofs.WhoTakes.{id_read}
use Rattle.bind_core.proofs.takers.id_meant.Goals as goal

pub returns-in-Ok : goal.returns-in-Ok
returns-in-Ok c = id_read c.args.bytes.now c.in-Ok.header (c.in-Ok.ensures.exactly.0 refl) c.in-Ok.ensures.said (ne_eqb _ _ c.if-header.true)
