use Rattle.std.proofs.Common.{◌<◌, ℕ, refl, subst, sym}
use Rattle.std.proofs.lemmas.Option.{slice_get-get_or}
use Rattle.handle_table.specs.declared.thing.Thing.{Thing}
use Rattle.script_run.specs.steps.Joints.{Knows}
use Rattle.script_run.specs.Rooms.{Come}
use Rattle.script_run.proofs.Joining.{come_gave}
use Rattle.script_run.proofs.joins.give.Goals as goal

pub returns : goal.returns
returns c =
    let rooms = c.args.rooms.now in
    let mid = c.know.new.rooms in
    let within = subst (λ (n : ℕ). c.args.seq.0 < n) (sym c.know.ensures.count) c.requires.within in
    let here = slice_get-get_or mid c.args.seq.0 c.index-rooms-seq.result within in
    come_gave c.args.seq c.args.name c.args.handle rooms mid
    (subst (λ (x : Thing). Come (Knows c.args.name x) rooms mid) c.thing.ensures c.know.ensures) _ _ here refl refl refl
    c.hold.ensures.named c.hold.ensures.kept c.hold.ensures.room
