use Rattle.std.proofs.Common.{ap}
use Rattle.mj_schema.specs.declared.rows.VersionRow.{VersionRow}
use Rattle.wire_view.proofs.known.known_before.Goals as goal

pub returns : goal.returns
returns c = ap (λ (r : VersionRow). r.fields) c.row_for-found.ensures
