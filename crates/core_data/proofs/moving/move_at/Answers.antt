use Rattle.std.proofs.Common.{ap, refl, ◌∙◌}
use Rattle.std.specs.Prelude.{is_some, Option}
use Rattle.data_pipe.specs.Pipe.{Pipe}
use Rattle.core_data.specs.steps.Moved.{command_of}
use Rattle.core_data.proofs.Flowing.{bytes_told, flow_done, line_there, says_why}
use Rattle.core_data.proofs.Staying.{all_done_from, all_undone_from, can_still}
use Rattle.core_data.proofs.moving.move_at.Goals as goal

pub told_bytes-requires : goal.told_bytes-requires
told_bytes-requires c =
    ap (λ (o : Option Pipe). is_some o)
    (line_there c.args.state.now c.args.seq c.requires.can.able c.args.moved.handle c.args.moved.flow c.args.at c.requires.there)

pub flow-requires : goal.flow-requires
flow-requires c =
    ap (λ (o : Option Pipe). is_some o)
    (line_there c.args.state.now c.args.seq c.requires.can.able c.args.moved.handle c.args.moved.flow c.args.at c.requires.there)

pub returns-in-Ok-flow-clause-done : goal.returns-in-Ok-flow-clause-done
returns-in-Ok-flow-clause-done c =
    flow_done c.args.state.now c.args.seq c.requires.can.able c.args.moved.handle c.args.moved.flow c.args.at c.requires.there
    _ c.in-Ok-flow.flowed refl refl refl refl refl refl c.in-Ok-flow.ensures.ok
    c.with_bytes.result
    (c.with_bytes.ensures ∙ (rw c.in-Ok.ensures (bytes_told _ c.args.at.gone c.args.moved.flow c.in-Ok-flow.flowed c.in-Ok-flow.ensures.ok.0)))
    c.push_reserved.ensures.events

pub unmoved-requires-clause-can : goal.unmoved-requires-clause-can
unmoved-requires-clause-can c =
    can_still c.args.state.now c.flow.new.self c.in-Err.ensures.err.1 c.args.seq (command_of c.args.moved) c.requires.can

pub unmoved-requires-clause-why : goal.unmoved-requires-clause-why
unmoved-requires-clause-why c =
    says_why c.args.state.now c.args.seq c.requires.can.able c.args.moved c.args.at c.requires.there c.in-Err.refused c.in-Err.ensures.err.0

pub returns-in-Err-clause-done : goal.returns-in-Err-clause-done
returns-in-Err-clause-done c =
    all_done_from c.args.state.now c.flow.new.self c.in-Err.ensures.err.1 c.unmoved.new.state c.args.seq (command_of c.args.moved) c.unmoved.result
    c.unmoved.ensures.done

pub returns-in-Err-clause-undone : goal.returns-in-Err-clause-undone
returns-in-Err-clause-undone c =
    all_undone_from c.args.state.now c.flow.new.self c.in-Err.ensures.err.1 c.unmoved.new.state (command_of c.args.moved) c.unmoved.result
    c.unmoved.ensures.undone
