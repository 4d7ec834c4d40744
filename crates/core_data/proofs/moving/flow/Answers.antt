use Rattle.std.proofs.Common.{ap, sym, ◌∙◌}
use Rattle.handle_table.specs.declared.thing.Thing.{Thing}
use Rattle.core_data.specs.Spots.{spot_in}
use Rattle.core_data.proofs.Spotted.{nowhere}
use Rattle.core_data.proofs.moving.flow.Goals as goal

pub refuse_moved-requires-clause-why : goal.refuse_moved-requires-clause-why
refuse_moved-requires-clause-why c =
    nowhere c.args.state.now c.args.seq c.requires.able.holds c.args.flow c.args.handle c.in-Err.why
    (ap (λ (x : Thing). spot_in c.args.state.now x c.args.flow) (sym c.thing.ensures) ∙ sym c.in-Err.ensures)

pub move_at-requires-clause-there : goal.move_at-requires-clause-there
move_at-requires-clause-there c =
    ap (λ (x : Thing). spot_in c.args.state.now x c.args.flow) (sym c.thing.ensures) ∙ sym c.in-Ok.ensures
