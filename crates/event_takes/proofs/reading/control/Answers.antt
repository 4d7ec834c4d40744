use Rattle.std.proofs.Common.{refl, sym, ◌∙◌}
use Rattle.core_state.specs.Agreement.{past_of, schema_of, wire_in}
use Rattle.core_taking.proofs.Obeying.{control_bad, control_held, control_told, tells_as}
use Rattle.event_tables.specs.AsCore.{state_of}
use Rattle.event_takes.proofs.reading.control.Goals as goal

pub returns-in-Err : goal.returns-in-Err
returns-in-Err c = λ m same many.
    control_bad (schema_of (state_of c.args.tables.now)) (past_of (state_of c.args.tables.now)) c.args.end m c.args.bytes.now same c.in-Err.fault
    c.in-Err.ensures.first

pub returns-then-handles-eq0 : goal.returns-then-handles-eq0
returns-then-handles-eq0 c = λ m same many.
    tells_as (wire_in (state_of c.args.tables.now)) (past_of (state_of c.args.tables.now)) c.args.end c.hear.result _ _
    (control_told (schema_of (state_of c.args.tables.now)) (past_of (state_of c.args.tables.now)) c.args.end m c.args.bytes.now same c.in-Ok.control
    (c.in-Ok.ensures.exactly.0 refl) c.in-Ok.ensures.says (many ∙ c.if-handles-eq0.true))
    c.hear.ensures

pub returns : goal.returns
returns c = λ m same many.
    control_held (schema_of (state_of c.args.tables.now)) (past_of (state_of c.args.tables.now)) c.args.end m c.args.bytes.now same c.in-Ok.control
    (c.in-Ok.ensures.exactly.0 refl) c.in-Ok.ensures.says (λ none. c.if-handles-eq0.false (sym many ∙ none))
