use Rattle.std.proofs.Common.{◌≡◌, ℕ, ◌*◌, List, length, refl, sym, ap, ◌∙◌, subst}
use Rattle.std.proofs.lemmas.Result.{IfOk-weaker}
use Rattle.mj_base.specs.declared.header.Header.{Header}
use Rattle.message_header.specs.FirstFailed.{first_failed}
use Rattle.message_header.specs.Said.{header_said}
use Rattle.wire_model.specs.HeaderMarks.{header_marks}
use Rattle.wire_model.specs.Message.{ids_read}
use Rattle.wire_model.specs.Stands.{IsFine}
use Rattle.bind_model.specs.Replies.{headed}
use Rattle.bind_model.specs.WireOf.{wire_of}
use Rattle.core_taking.specs.Founds.{IsRead, header_of}
use Rattle.core_state.specs.Agreement.{past_of, schema_of, wire_in}
use Rattle.core_taking.proofs.Arriving.{delivers, obeys}
use Rattle.core_taking.proofs.HandlesFew.{handles_fit}
use Rattle.core_state.proofs.Steady.{found_is}
use Rattle.core_taking.proofs.WireReads.{header_fails, header_reads}
use Rattle.event_tables.specs.AsCore.{state_of}
use Rattle.event_takes.proofs.reading.read.Goals as goal

pub returns-in-Err : goal.returns-in-Err
returns-in-Err c =
    ap (headed (wire_in (state_of c.args.tables.now)) (past_of (state_of c.args.tables.now)) c.args.seq c.args.end c.args.message.now)
    (header_fails (schema_of (state_of c.args.tables.now)) c.args.message.now.bytes c.in-Err.fault
    (ap (λ (bytes : List ℕ). first_failed (header_marks bytes)) (sym c.as_slice-bytes.ensures) ∙ c.in-Err.ensures.first))

pub returns-then-header : goal.returns-then-header
returns-then-header c =
    let schema = schema_of (state_of c.args.tables.now) in
    let past = past_of (state_of c.args.tables.now) in
    let m = c.args.message.now in
    let header = c.in-Ok.header in
    let same = c.as_slice-bytes.ensures in
    let fine : IsFine (header_marks m.bytes) = subst (λ (bytes : List ℕ). IsFine (header_marks bytes)) same (c.in-Ok.ensures.exactly.0 refl) in
    let said : header ≡ header_said m.bytes = c.in-Ok.ensures.said ∙ ap (λ (bytes : List ℕ). header_said bytes) same in
    obeys (wire_of schema) past c.args.seq c.args.end m (header_of m header) (header_reads schema m.bytes header fine said) c.if-header.true
    c.control.result (c.control.ensures m (sym same) (sym c.len.ensures))

pub deliver-requires-clause-few : goal.deliver-requires-clause-few
deliver-requires-clause-few c = handles_fit (state_of c.args.tables.now) c.requires.holds c.args.end c.args.message.now c.requires.front

pub deliver-requires-clause-there : goal.deliver-requires-clause-there
deliver-requires-clause-there c = c.find-endpoint.ensures ∙ found_is c.requires.holds.agrees c.args.end c.in-Ok.header.interface_id

pub carried_ids-requires-clause-said : goal.carried_ids-requires-clause-said
carried_ids-requires-clause-said c = ap (λ (h : Header). h.ids) c.in-Ok.ensures.said

pub deliver-requires-clause-ids : goal.deliver-requires-clause-ids
deliver-requires-clause-ids c = c.deref.ensures.value ∙ c.in_ok-ids.ensures ∙ ap (λ (bytes : List ℕ). ids_read bytes) c.as_slice-bytes.ensures

pub returns : goal.returns
returns c =
    let schema = schema_of (state_of c.args.tables.now) in
    let past = past_of (state_of c.args.tables.now) in
    let m = c.args.message.now in
    let header = c.in-Ok.header in
    let same = c.as_slice-bytes.ensures in
    let fine : IsFine (header_marks m.bytes) = subst (λ (bytes : List ℕ). IsFine (header_marks bytes)) same (c.in-Ok.ensures.exactly.0 refl) in
    let said : header ≡ header_said m.bytes = c.in-Ok.ensures.said ∙ ap (λ (bytes : List ℕ). header_said bytes) same in
    let read : IsRead (wire_of schema) past c.args.end m header = record {
      front = c.requires.front;
      says = header_reads schema m.bytes header fine said;
      counted = c.in-Ok.ensures.placed.counted ∙ ap (λ (bytes : List ℕ). 4 * length (ids_read bytes)) same;
    } in
    IfOk-weaker c.deliver.result _ _
    (λ found told.
    delivers (wire_of schema) past c.args.seq c.args.end m header read c.if-header.false c.find-endpoint.result
    (c.find-endpoint.ensures ∙ found_is c.requires.holds.agrees c.args.end header.interface_id) found (told read))
    c.deliver.ensures
