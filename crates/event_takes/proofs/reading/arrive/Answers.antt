use Rattle.std.proofs.Common.{false, ap, ◌∙◌}
use Rattle.std.proofs.lemmas.Result.{IfOk-weaker}
use Rattle.mj_schema.specs.KindTrees.{StructKind}
use Rattle.wire_encoder.specs.Checks.{checks}
use Rattle.wire_model.specs.Message.{payload_start}
use Rattle.wire_model.specs.Tight.{value_of}
use Rattle.wire_model.specs.Trees.{Tree, view}
use Rattle.bind_model.specs.Replies.{got_known}
use Rattle.bind_model.specs.WireOf.{content_in, endpoints_named}
use Rattle.core_state.specs.Agreement.{past_of, wire_in}
use Rattle.core_taking.specs.Founds.{header_of}
use Rattle.core_taking.proofs.Arrives.{admits_read, read_value}
use Rattle.core_taking.proofs.Arriving.{strange_is}
use Rattle.event_tables.specs.AsCore.{state_of}
use Rattle.event_takes.proofs.reading.arrive.Goals as goal

pub returns-in-Some : goal.returns-in-Some
returns-in-Some c = λ read stands.
    let s = (state_of c.args.tables.now) in
    let m = c.args.message.now in
    let checked = c.args.checked.now in
    ap (got_known (wire_in s) (past_of s) c.args.end m (header_of m c.args.header.now)
    (content_in checked.schema.now checked.expected m.bytes checked.number))
    (strange_is s c.requires.holds c.args.end m c.args.ids.now
    (endpoints_named (checks checked.schema.now 0 false (StructKind checked.number false) (view c.in_ok-value.value)))
    c.in_ok-admitted.admitted c.requires.ids c.in_ok-admitted.ensures
    ∙ c.in-Some.is)

pub arrive_known-requires-clause-value : goal.arrive_known-requires-clause-value
arrive_known-requires-clause-value c =
    let checked = c.args.checked.now in
    c.in_ok-value.ensures.value ∙ read_value checked.schema.now checked.bytes.now c.args.message.now.bytes checked.number c.requires.bytes

pub returns : goal.returns
returns c =
    let s = (state_of c.args.tables.now) in
    let m = c.args.message.now in
    let checked = c.args.checked.now in
    let value = c.in_ok-value.ensures.value ∙ read_value checked.schema.now checked.bytes.now m.bytes checked.number c.requires.bytes in
    IfOk-weaker c.arrive_known.result _ _
    (λ found told read stands. told (wire_in s) (past_of s) c.args.end (record {
      read = read;
      stands = stands;
      admits = admits_read s c.requires.holds c.args.end m c.args.ids.now
          (endpoints_named (checks checked.schema.now 0 false (StructKind checked.number false) (view c.in_ok-value.value)))
          (endpoints_named (checks checked.schema.now 0 false (StructKind checked.number false)
          (value_of checked.schema.now m.bytes (payload_start m.bytes) checked.number)))
          c.in_ok-admitted.admitted c.requires.ids
          (ap (λ (t : Tree). endpoints_named (checks checked.schema.now 0 false (StructKind checked.number false) t)) value)
          c.in_ok-admitted.ensures;
    }))
    c.arrive_known.ensures
