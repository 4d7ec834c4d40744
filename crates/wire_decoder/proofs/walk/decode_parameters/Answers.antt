use Rattle.std.proofs.Common.{ap, sym, subst, ◌∙◌, ◌-◌, Option, length}
use Rattle.std.specs.Option.{option_copied}
use Rattle.mj_schema.specs.declared.rows.StructRow.{StructRow}
use Rattle.wire_model.specs.Marks.{found_struct_marks, visit}
use Rattle.wire_model.specs.Tight.{MAX_DEPTH}
use Rattle.readable_marks.specs.Readable.{AreReadable}
use Rattle.readable_marks.proofs.Reading.{parameters_readable}
use Rattle.wire_decoder.proofs.walk.decode_parameters.Goals as goal

pub decode_struct-requires-clause-readable : goal.decode_struct-requires-clause-readable
decode_struct-requires-clause-readable c =
    let schema = c.args.schema.now in
    let bytes = c.args.bytes.now in
    let marks = parameters_readable (length bytes) schema bytes c.args.start c.args.number c.requires.readable in
    subst (λ (o : Option StructRow). AreReadable (length bytes) (found_struct_marks (visit (MAX_DEPTH - 1) schema bytes) schema bytes c.args.start o))
    (sym c.find_struct.ensures.found ∙ ap option_copied c.in-Some.is) marks
