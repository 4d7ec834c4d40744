use Rattle.std.proofs.Common.{◌≡◌, ℕ, List, length, refl, sym, ap, ◌∙◌, subst}
use Rattle.std.specs.Prelude.{Some}
use Rattle.std.proofs.lemmas.Result.{IfOk-weaker}
use Rattle.bounds_claims.specs.Runs.{first_fault}
use Rattle.mj_schema.specs.declared.schema.Schema.{Schema}
use Rattle.message_validator.specs.Before.{before_payload}
use Rattle.mj_base.specs.Bytes.{number32}
use Rattle.wire_model.specs.Expected.{message_marks}
use Rattle.wire_model.specs.Message.{request_read}
use Rattle.wire_model.specs.declared.target.MessageSide.{MessageSide}
use Rattle.bind_model.specs.Replies.{judged}
use Rattle.bind_model.specs.WireOf.{content_in}
use Rattle.bind_model.specs.declared.told.Told.{Told}
use Rattle.core_state.specs.Agreement.{past_of, schema_of, wire_in}
use Rattle.core_taking.specs.Founds.{Tells, header_of}
use Rattle.core_taking.proofs.Arrives.{content_stands}
use Rattle.core_taking.proofs.Arriving.{asked_told, unasked_is, unasked_told}
use Rattle.core_taking.proofs.WireReads.{failed, passed}
use Rattle.event_tables.specs.AsCore.{state_of}
use Rattle.event_takes.proofs.reading.judge.Goals as goal

pub returns-in-Err : goal.returns-in-Err
returns-in-Err c = λ read.
    let s = (state_of c.args.tables.now) in
    let m = c.args.message.now in
    let e = c.args.endpoint in
    ap (judged (wire_in s) (past_of s) c.args.end m (header_of m c.args.header.now) e)
    (failed (schema_of s) e.side e.interface m.bytes (length m.handles) c.as_slice.result.now c.in-Ok.handles c.comes_to.result c.in-Err.fault
    c.as_slice.ensures (c.in-Ok.ensures.1 ∙ c.len.ensures) c.comes_to.ensures
    (subst
    (λ (schema : Schema). first_fault (before_payload c.as_slice.result.now c.in-Ok.handles)
    (message_marks schema (record { interface = e.interface; side = c.comes_to.result }) c.as_slice.result.now)
    ≡ Some c.in-Err.fault)
    c.deref.ensures c.in-Err.ensures.first))

pub returns-then-is_unasked : goal.returns-then-is_unasked
returns-then-is_unasked c = λ read.
    let s = (state_of c.args.tables.now) in
    let m = c.args.message.now in
    let e = c.args.endpoint in
    let checked = c.in-Ok-check.checked in
    let kept = c.in-Ok-check.ensures.kept in
    let same : checked.bytes.now ≡ m.bytes = kept.2 ∙ c.as_slice.ensures in
    let stands = passed (schema_of s) e.side e.interface m.bytes (length m.handles) checked.schema.now checked.expected checked.bytes.now checked.handles
    checked.number (kept.0 ∙ c.deref.ensures)
    (kept.1 ∙ ap (λ (side : MessageSide). record { interface = e.interface; side = side }) c.comes_to.ensures)
    same (kept.3 ∙ c.in-Ok.ensures.1 ∙ c.len.ensures) checked.stands checked.parameters in
    ap (judged (wire_in s) (past_of s) c.args.end m (header_of m c.args.header.now) e) stands
    ∙ unasked_told (wire_in s) (past_of s) c.args.end m (header_of m c.args.header.now) e
    (content_in checked.schema.now checked.expected m.bytes checked.number) checked.request checked.method checked.expected.side
    (checked.asked ∙ ap request_read same) (checked.named ∙ ap (λ (bytes : List ℕ). number32 bytes 12) same) refl
    (unasked_is s c.requires.holds c.args.end c.args.header.now.interface_id e c.requires.there c.requires.alive checked.expected.side
    checked.request checked.method ∙ (sym c.is_unasked.ensures ∙ c.if-is_unasked.true))

pub returns : goal.returns
returns c =
    let s = (state_of c.args.tables.now) in
    let m = c.args.message.now in
    let e = c.args.endpoint in
    let checked = c.in-Ok-check.checked in
    let kept = c.in-Ok-check.ensures.kept in
    let same : checked.bytes.now ≡ m.bytes = kept.2 ∙ c.as_slice.ensures in
    let stands = passed (schema_of s) e.side e.interface m.bytes (length m.handles) checked.schema.now checked.expected checked.bytes.now checked.handles
    checked.number (kept.0 ∙ c.deref.ensures)
    (kept.1 ∙ ap (λ (side : MessageSide). record { interface = e.interface; side = side }) c.comes_to.ensures)
    same (kept.3 ∙ c.in-Ok.ensures.1 ∙ c.len.ensures) checked.stands checked.parameters in
    IfOk-weaker c.arrive.result _ _
    (λ found told read.
    subst (λ (t : Told). Tells (wire_in s) (past_of s) c.args.end found t)
    (sym (ap (judged (wire_in s) (past_of s) c.args.end m (header_of m c.args.header.now) e) stands
    ∙ asked_told (wire_in s) (past_of s) c.args.end m (header_of m c.args.header.now) e
    (content_in checked.schema.now checked.expected m.bytes checked.number) checked.request checked.method checked.expected.side
    (checked.asked ∙ ap request_read same) (checked.named ∙ ap (λ (bytes : List ℕ). number32 bytes 12) same) refl
    (unasked_is s c.requires.holds c.args.end c.args.header.now.interface_id e c.requires.there c.requires.alive checked.expected.side
    checked.request checked.method ∙ (sym c.is_unasked.ensures ∙ c.if-is_unasked.false))))
    (told read (content_stands (wire_in s) (past_of s) c.args.end c.args.header.now.interface_id e m
    (content_in checked.schema.now checked.expected m.bytes checked.number) c.requires.there stands)))
    c.arrive.ensures
