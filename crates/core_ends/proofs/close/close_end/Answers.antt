use Rattle.std.proofs.Common.{refl, subst, List}
use Rattle.handle_table.specs.declared.thing.Thing.{Thing}
use Rattle.message_pipe.specs.Contents.{Closes}
use Rattle.core_ends.proofs.Doing.{end_done}
use Rattle.core_ends.proofs.close.close_end.Goals as goal

pub returns-clause-done : goal.returns-clause-done
returns-clause-done c =
    let state = c.args.state.now in
    let goes = c.in_ok-goes.goes in
    end_done state _ c.args.seq c.requires.able refl refl refl refl goes.noted goes.told c.in_ok-goes.ensures.told c.args.end
    c.requires.told c.in_ok-goes.ensures.noted c.turn.ensures c.push_reserved.ensures.events
    (subst (λ (things : List Thing). Closes things state.pipes c.close.new.self) c.as_slice.ensures c.close.ensures)
