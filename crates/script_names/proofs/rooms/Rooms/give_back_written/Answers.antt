use Rattle.std.proofs.Common.{◌∙◌, ap}
use Rattle.script_names.specs.Tables.{filled}
use Rattle.script_names.proofs.TableLemmas.{given_nil}
use Rattle.script_names.proofs.rooms.Rooms.give_back_written.Goals as goal

pub returns-in-Some-clause-handles : goal.returns-in-Some-clause-handles
returns-in-Some-clause-handles c =
    rw c.in-Some.is (c.hold.ensures.named ∙ ap (λ table. filled table c.in-Some.name c.args.end) c.give_handles.ensures.handles)

pub returns-in-None-clause-handles : goal.returns-in-None-clause-handles
returns-in-None-clause-handles c =
    rw c.in-None.is
    (c.give_one.ensures.named ∙ (c.give.ensures.named ∙ given_nil c.into_vec.result.items c.args.self.now.handles.named.items))
