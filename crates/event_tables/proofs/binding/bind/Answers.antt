use Rattle.std.proofs.Common.{ap, sym, ◌∙◌}
use Rattle.handle_table.specs.Places.{place_of}
use Rattle.handle_table.specs.declared.thing.Thing.{Thing}
use Rattle.bind_model.specs.Replies.{bound_as}
use Rattle.core_state.specs.Agreement.{is_out, past_of, schema_of}
use Rattle.core_ends.proofs.Binding.{bind_no_name, bind_told}
use Rattle.event_tables.specs.AsCore.{state_of}
use Rattle.event_tables.proofs.binding.bind.Goals as goal

pub refuse-requires-clause-why : goal.refuse-requires-clause-why
refuse-requires-clause-why c =
    let s = state_of c.args.tables.now in
    bind_no_name (schema_of s) s.seqs (past_of s) c.args.seq c.args.thing c.args.side c.args.interface
    (is_out (place_of s.pipes.table c.args.thing)) (c.requires.holds.agrees.outs c.args.thing)
    (sym c.may_bind.ensures ∙ c.if-not-may_bind.true)

pub refuse-requires-in-Token-clause-why : goal.refuse-requires-in-Token-clause-why
refuse-requires-in-Token-clause-why c =
    let s = state_of c.args.tables.now in
    bind_told (schema_of s) s.seqs (past_of s) c.args.seq c.args.thing c.args.side c.args.interface
    (is_out (place_of s.pipes.table c.args.thing)) (c.requires.holds.agrees.outs c.args.thing)
    (sym c.may_bind.ensures ∙ c.if-not-may_bind.false)
    ∙ ap (λ (z : Thing). bound_as z) c.in-Token.is
