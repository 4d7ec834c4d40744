use Rattle.std.proofs.Common.{refl}
use Rattle.core_ends.proofs.Made.{few_made, token_done}
use Rattle.core_ends.proofs.Staying.{one_of}
use Rattle.core_ends.proofs.mint.make.Goals as goal

pub mint-requires : goal.mint-requires
mint-requires c = few_made c.args.state.now c.args.seq c.requires

pub returns-in-Ok-clause-done : goal.returns-in-Ok-clause-done
returns-in-Ok-clause-done c =
    token_done c.args.state.now _ c.args.seq c.requires refl refl refl refl c.args.sort c.from_vec-in-Ok.result c.from_vec.result c.in-Ok.handle
    refl c.push_reserved-in-Ok-2.ensures.events
    (one_of c.in_ok-things.things.items c.push_reserved.new.self.items c.from_vec.result c.thing.result c.in-Ok.handle
    c.in_ok-things.ensures.items c.push_reserved.ensures.items c.from_vec.ensures c.thing.ensures)
    (one_of c.in_ok-handles.handles.items c.push_reserved-in-Ok.new.self.items c.from_vec-in-Ok.result c.in-Ok.handle c.in-Ok.handle
    c.in_ok-handles.ensures.items c.push_reserved-in-Ok.ensures.items c.from_vec-in-Ok.ensures refl)
    c.in-Ok.ensures.ok
