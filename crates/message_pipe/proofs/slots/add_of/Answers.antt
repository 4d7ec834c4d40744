use Rattle.std.proofs.Common.{◌++◌, sym, ap, ◌∙◌, append-nil}
use Rattle.std.specs.Prelude.{Option}
use Rattle.message_pipe.specs.declared.message.Message.{Message}
use Rattle.message_pipe.specs.Slots.{message_in, message_of}
use Rattle.message_pipe.proofs.Carrying.{extended}
use Rattle.message_pipe.proofs.slots.add_of.Goals as goal

pub returns-in-Some : goal.returns-in-Some
returns-in-Some c = extended c.extend_from_slice.result c.args.into.now.items c.extend_from_slice.new.self.items c.as_slice.result.now
    (message_of c.args.messages.now c.args.key).handles c.extend_from_slice.ensures.items
    (c.as_slice.ensures ∙ ap (λ (o : Option Message). (message_in o).handles) c.in-Some.ensures)

pub returns-in-None : goal.returns-in-None
returns-in-None c = sym (append-nil c.args.into.now.items)
    ∙ ap (λ (o : Option Message). c.args.into.now.items ++ (message_in o).handles) c.in-None.ensures
