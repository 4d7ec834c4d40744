use Rattle.std.proofs.Common.{◌≡◌, ℕ, Bool, [], ◌∷◌, sym, ap, ◌∙◌, subst, arith}
use Rattle.std.specs.Prelude.{◌==◌, if◌then◌else◌, Some, IsSome, Ok, Err}
use Rattle.std.proofs.lemmas.Bool.{ne_eqb}
use Rattle.handle_table.specs.declared.thing.Thing.TheVariants.{End}
use Rattle.message_pipe.specs.Ends.{is_closed, end_of}
use Rattle.bind_model.specs.declared.asked.Asked.TheVariants as asks
use Rattle.bind_model.specs.declared.asked.Closing.TheVariants as closings
use Rattle.bind_model.specs.declared.told.Told.TheVariants as tells
use Rattle.bind_model.specs.Machine.{goes_with}
use Rattle.endpoint_router.specs.Rows.{row_at}
use Rattle.core_state.specs.Routers.{found_at, router_at}
use Rattle.core_state.specs.Agreement.{past_of, wire_in}
use Rattle.core_state.specs.Doing.{told_to}
use Rattle.core_state.proofs.Closed.{endpoint_told}
use Rattle.core_state.proofs.Opening.{opened_there}
use Rattle.core_state.proofs.Turned.{found_row}
use Rattle.event_tables.specs.AsCore.{state_of}
use Rattle.event_tables.proofs.closing.close_endpoint.Goals as goal

pub refuse-requires-clause-why : goal.refuse-requires-clause-why
refuse-requires-clause-why c =
    let state = state_of c.args.tables.now in
    endpoint_told (wire_in state) state.seqs (past_of state) c.requires.holds.legal c.args.seq c.requires.within state.pipes state.endpoints
    c.requires.holds.agrees c.args.end c.args.id (Err c.in-Err.why) c.in-Err.ensures

pub close_end-requires-clause-here : goal.close_end-requires-clause-here
close_end-requires-clause-here c =
    let state = state_of c.args.tables.now in
    let there : found_at state.endpoints c.args.end c.args.id ≡ Some c.in-Ok._endpoint =
    opened_there c.args.seq (is_closed (end_of state.pipes.ends c.args.end)) c.args.id (found_at state.endpoints c.args.end c.args.id) c.in-Ok._endpoint
    (sym c.open_at.ensures ∙ c.in-Ok.is) in
    subst (λ (n : ℕ). IsSome (row_at (router_at state.endpoints c.args.end) n)) c.if-id-eq0.true
    (found_row (router_at state.endpoints c.args.end) c.args.id c.in-Ok._endpoint there)

pub close_end-requires-clause-told : goal.close_end-requires-clause-told
close_end-requires-clause-told c =
    let state = state_of c.args.tables.now in
    subst
    (λ (n : ℕ). told_to state c.args.seq (asks.Close (closings.Endpoint c.args.end n))
    ≡ tells.Closed (if n == 0 then goes_with (wire_in state) (past_of state) (End c.args.end ∷ []) else []))
    c.if-id-eq0.true
    (endpoint_told (wire_in state) state.seqs (past_of state) c.requires.holds.legal c.args.seq c.requires.within state.pipes state.endpoints
    c.requires.holds.agrees c.args.end c.args.id (Ok c.in-Ok._endpoint) (sym c.in-Ok.is ∙ c.open_at.ensures))

pub close_one-requires-clause-told : goal.close_one-requires-clause-told
close_one-requires-clause-told c =
    let state = state_of c.args.tables.now in
    endpoint_told (wire_in state) state.seqs (past_of state) c.requires.holds.legal c.args.seq c.requires.within state.pipes state.endpoints
    c.requires.holds.agrees c.args.end c.args.id (Ok c.in-Ok-2.field-0) (sym c.in-Ok-2.is ∙ c.open_at.ensures)
    ∙ ap (λ (b : Bool). tells.Closed (if b then goes_with (wire_in state) (past_of state) (End c.args.end ∷ []) else []))
    (ne_eqb c.args.id 0 (λ e. omega (arith, e, c.if-id-eq0.false)))
