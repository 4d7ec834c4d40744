use Rattle.std.proofs.Common.{◌∙◌, false, refl}
use Rattle.script_names.proofs.RoomsSettled.{have_same, have_settled, held_through, names_same, names_still}
use Rattle.script_run.proofs.worker.answer.Goals as goal

pub returns-in-Ok-settle-clause-names : goal.returns-in-Ok-settle-clause-names
returns-in-Ok-settle-clause-names g c =
    let same = held_through c.args.rooms.now c.make_place.new.self _ c.ask.new.rooms c.make_place.ensures.same refl refl refl refl c.ask.ensures.held in
    names_still c.none-names.result c.none-names.ensures c.in_ok-told.told false c.ask.new.rooms c.settle.new.self c.in-Ok-settle.ensures.settles
    ∙ names_same c.args.rooms.now c.ask.new.rooms same

pub returns-in-Ok-settle-clause-have : goal.returns-in-Ok-settle-clause-have
returns-in-Ok-settle-clause-have g c = λ count have.
    let same = held_through c.args.rooms.now c.make_place.new.self _ c.ask.new.rooms c.make_place.ensures.same refl refl refl refl c.ask.ensures.held in
    have_settled c.none-names.result c.in_ok-told.told false count c.ask.new.rooms c.settle.new.self c.in-Ok-settle.ensures.settles
    (have_same count c.args.rooms.now c.ask.new.rooms same have)
