use Rattle.std.proofs.Common.{sym, ap, ◌∙◌}
use Rattle.handle_table.specs.Places.{place_of}
use Rattle.handle_table.specs.declared.thing.Thing.{Thing}
use Rattle.bind_model.specs.Replies.{bound_as}
use Rattle.core_state.specs.Agreement.{is_out, past_of, schema_of}
use Rattle.core_ends.proofs.Binding.{bind_no_name, bind_told}
use Rattle.core_ends.proofs.bind.bind.Goals as goal

pub refuse-requires-clause-why : goal.refuse-requires-clause-why
refuse-requires-clause-why c =
    let s = c.args.state.now in
    bind_no_name (schema_of s) s.seqs (past_of s) c.args.seq c.args.handle c.args.side c.args.interface
    (is_out (place_of s.pipes.table c.thing-thing.result))
    (ap (λ (z : Thing). is_out (place_of s.pipes.table z)) c.thing-thing.ensures ∙ c.requires.able.holds.agrees.outs c.args.handle)
    (sym c.may_bind.ensures ∙ c.if-not-may_bind.true)

pub refuse-requires-in-Token-clause-why : goal.refuse-requires-in-Token-clause-why
refuse-requires-in-Token-clause-why c =
    let s = c.args.state.now in
    bind_told (schema_of s) s.seqs (past_of s) c.args.seq c.args.handle c.args.side c.args.interface
    (is_out (place_of s.pipes.table c.thing-thing.result))
    (ap (λ (z : Thing). is_out (place_of s.pipes.table z)) c.thing-thing.ensures ∙ c.requires.able.holds.agrees.outs c.args.handle)
    (sym c.may_bind.ensures ∙ c.if-not-may_bind.false)
    ∙ ap (λ (z : Thing). bound_as z) (sym c.thing-thing.ensures ∙ c.in-Token.is)
