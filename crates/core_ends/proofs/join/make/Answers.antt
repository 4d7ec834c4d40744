use Rattle.std.proofs.Common.{refl}
use Rattle.core_ends.proofs.Made.{few_made, pipe_done}
use Rattle.core_ends.proofs.Staying.{two_of}
use Rattle.core_ends.proofs.join.make.Goals as goal

pub make-requires : goal.make-requires
make-requires c = few_made c.args.state.now c.args.seq c.requires.able

pub returns-in-Ok-clause-done : goal.returns-in-Ok-clause-done
returns-in-Ok-clause-done c command asked =
    pipe_done c.args.state.now _ c.args.seq c.requires.able refl refl refl refl c.args.other c.args.asked command
    c.from_vec-in-Ok.result c.from_vec.result c.in-Ok.pipe.0 c.in-Ok.pipe.1 asked c.requires.told refl c.push_reserved-in-Ok-4.ensures.events
    (two_of c.in_ok-things.things.items c.push_reserved.new.self.items c.push_reserved-in-Ok.new.self.items c.from_vec.result
    c.thing.result c.thing-in-Ok.result c.in-Ok.pipe.0 c.in-Ok.pipe.1 c.in_ok-things.ensures.items c.push_reserved.ensures.items
    c.push_reserved-in-Ok.ensures.items c.from_vec.ensures c.thing.ensures c.thing-in-Ok.ensures)
    (two_of c.in_ok-handles.handles.items c.push_reserved-in-Ok-2.new.self.items c.push_reserved-in-Ok-3.new.self.items c.from_vec-in-Ok.result
    c.in-Ok.pipe.0 c.in-Ok.pipe.1 c.in-Ok.pipe.0 c.in-Ok.pipe.1 c.in_ok-handles.ensures.items c.push_reserved-in-Ok-2.ensures.items
    c.push_reserved-in-Ok-3.ensures.items c.from_vec-in-Ok.ensures refl refl)
    c.in-Ok.ensures.ok
