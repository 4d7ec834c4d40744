use Rattle.std.proofs.Common.{◌≡◌, ℕ, ◌-◌, ◌≤◌, List, length, slice_index_or, ap}
use Rattle.mj_schema.specs.declared.rows.VersionRow.{VersionRow}
use Rattle.wire_model.specs.Rows.{row_for}
use Rattle.schema_rows.proofs.Sound.{newest_is_found}
use Rattle.wire_view.proofs.known.known_in.Goals as goal

newest_fields : (rows : List VersionRow) (d : VersionRow) (version : ℕ) → 1 ≤ length rows
    → (slice_index_or rows (length rows - 1) d).version ≤ version
    → (slice_index_or rows (length rows - 1) d).fields ≡ (row_for rows version).fields
newest_fields rows d version h le = ap (λ (r : VersionRow). r.fields) (newest_is_found rows d version h le)

pub returns-in-len1-up : goal.returns-in-len1-up
returns-in-len1-up c = newest_fields c.args.rows.now _ c.args.version c.in-len1-up.len_at_least c.if-newest-version.true
