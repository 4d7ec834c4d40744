use Rattle.std.proofs.Common.{ℕ, ◌+◌, List, length, Option, ap, ◌∙◌, arith}
use Rattle.mj_base.specs.Bytes.{number32}
use Rattle.mj_schema.specs.declared.rows.StructRow.{StructRow}
use Rattle.mj_schema.specs.declared.rows.VersionRow.{VersionRow}
use Rattle.wire_model.specs.Marks.{visit}
use Rattle.wire_model.specs.Rows.{row_for}
use Rattle.wire_model.specs.Values.{value}
use Rattle.wire_view.specs.Known.{fields_of, known_of}
use Rattle.wire_view.proofs.Fields.{facts}
use Rattle.wire_view.proofs.Standing.{row_readable}
use Rattle.wire_view.proofs.Targets.{struct_whole}
use Rattle.wire_view.proofs.view.View.of_struct.Goals as goal

pub overflow_add-at : goal.overflow_add-at
overflow_add-at c =
    let bytes = c.args.bytes.now in
    let r = facts c.args.left c.args.schema.now bytes c.args.at c.args.row.now
    (row_readable (length bytes) (visit c.args.left c.args.schema.now bytes) c.args.schema.now bytes c.args.at c.args.number c.args.row.now c.requires.found
    c.requires.readable) in
    omega (arith, r.header, r.ends)

pub le32-version-requires : goal.le32-version-requires
le32-version-requires c =
    let bytes = c.args.bytes.now in
    let r = facts c.args.left c.args.schema.now bytes c.args.at c.args.row.now
    (row_readable (length bytes) (visit c.args.left c.args.schema.now bytes) c.args.schema.now bytes c.args.at c.args.number c.args.row.now c.requires.found
    c.requires.readable) in
    omega (arith, r.header, r.ends)

pub standing-requires-clause-whole : goal.standing-requires-clause-whole
standing-requires-clause-whole c =
    struct_whole (value c.args.left c.args.schema.now c.args.bytes.now) c.args.schema.now c.args.bytes.now c.args.at c.args.number c.args.row.now
    c.requires.found

pub standing-requires-clause-row : goal.standing-requires-clause-row
standing-requires-clause-row c = c.as_slice-2.ensures ∙ ap fields_of c.requires.found

pub standing-requires-clause-version : goal.standing-requires-clause-version
standing-requires-clause-version c =
    c.known_in-known.ensures
    ∙ ap (λ (rows : List VersionRow). (row_for rows c.le32-version.result).fields) c.as_slice.ensures
    ∙ ap (λ (n : ℕ). (row_for c.args.row.now.versions n).fields) c.le32-version.ensures
    ∙ ap (λ (o : Option StructRow). known_of o (number32 c.args.bytes.now (c.args.at + 4))) c.requires.found
