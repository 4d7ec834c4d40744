use Rattle.std.proofs.Common.{◌≡◌, ℕ, length, Some, None, sym, ap, ◌∙◌}
use Rattle.wire_model.specs.Tight.{marks_of, value_of}
use Rattle.readable_marks.proofs.Reading.{settled_readable}
use Rattle.wire_view.proofs.Parameters.{parameters_there, parameters_stand, parameters_value}
use Rattle.wire_view.proofs.message.root.Goals as goal

pub unreachable-requires : goal.unreachable-requires
unreachable-requires c =
    let v = c.args.checked.now in
    let row = parameters_there v.schema.now v.expected v.bytes.now v.number v.parameters in
    let no : None ≡ Some row.0 = c.in-None.ensures.found ∙ sym row.1 in
    cc

pub of_struct-requires-clause-readable : goal.of_struct-requires-clause-readable
of_struct-requires-clause-readable c =
    let v = c.args.checked.now in
    let settled = c.stands.ensures.payload in
    parameters_stand (length v.bytes.now) v.schema.now v.bytes.now v.start v.number
    (settled_readable v.start v.end (length v.bytes.now) (marks_of v.schema.now v.bytes.now v.start v.number) v.within settled.fine settled.orderly)

pub returns-clause-value : goal.returns-clause-value
returns-clause-value c =
    let v = c.args.checked.now in
    c.of_struct.ensures.value ∙ parameters_value v.schema.now v.bytes.now v.start v.number
    ∙ ap (λ (at : ℕ). value_of v.schema.now v.bytes.now at v.number) v.starts
