use Rattle.std.proofs.Common.{refl}
use Rattle.mojo_tool.specs.Work.{Judging}
use Rattle.mojo_tool.proofs.Asking.{ok_goes, err_goes}
use Rattle.mojo_tool.proofs.Messages.{memory_stops, memory_names}
use Rattle.mojo_tool.proofs.Shown.{shown_here, faulty_work}
use Rattle.mojo_tool.proofs.decode.decode_message.Goals as goal

pub returns-in-Ok-clause-text : goal.returns-in-Ok-clause-text
returns-in-Ok-clause-text c =
    let kept = c.in-Ok.ensures.kept in
    ok_goes _ _ _
    (λ line is. shown_here c.in-Ok.checked c.args.schema.now c.args.expected c.args.name.now c.args.message.now c.args.handles line
    kept.0 kept.1 kept.2 (c.in-Ok.ensures.exactly.0 refl) is) c.show.ensures.text

pub returns-in-Ok-clause-stop : goal.returns-in-Ok-clause-stop
returns-in-Ok-clause-stop c =
    err_goes _ _ _
    (λ why none. memory_stops (Judging c.args.schema.now c.args.expected c.args.name.now c.args.handles c.args.message.now) why none)
    c.show.ensures.memory

pub returns-in-Ok-clause-named : goal.returns-in-Ok-clause-named
returns-in-Ok-clause-named c = err_goes _ _ _ (λ why none. memory_names (λ name. ⊥) why none) c.show.ensures.memory

pub returns-in-Err-clause-stop : goal.returns-in-Err-clause-stop
returns-in-Err-clause-stop c =
    faulty_work c.args.schema.now c.args.expected c.args.name.now c.args.message.now c.args.handles c.in-Err.fault c.in-Err.ensures.first
