use Rattle.std.proofs.Common.{List, refl, subst}
use Rattle.handle_table.specs.declared.thing.Thing.{Thing}
use Rattle.message_pipe.specs.Contents.{Closes}
use Rattle.core_taking.proofs.Taken.{bad_done}
use Rattle.core_taking.proofs.take.spoil.Goals as goal

pub returns-clause-done : goal.returns-clause-done
returns-clause-done c =
    bad_done c.args.state.now _ c.args.seq c.requires.able refl refl c.args.end c.args.why c.in-Ok.goes.noted c.in-Ok.goes.told
    c.in-Ok.ensures.told c.requires.told c.in-Ok.ensures.noted refl refl refl c.push_reserved.ensures.events
    (subst (λ (ts : List Thing). Closes ts c.args.state.now.pipes c.close.new.self) c.as_slice.ensures c.close.ensures)
