-- Which ends a command may make ready, and the wait that it gives.
use Rattle.std.specs.Prelude.{Option, Some, None}
use Rattle.mj_base.specs.declared.ids.EndId.{EndId}
use Rattle.handle_table.specs.declared.thing.Thing.TheVariants.{End}
use Rattle.bind_core.specs.Causes.{HasCauses, Lists}
use Rattle.bind_model.specs.declared.asked.Asked.{Asked}
use Rattle.bind_model.specs.declared.asked.Asked.TheVariants.{Answer, Associate, Attach, Bind, Call, Close, Notify, Pause, Raw, Take}
use Rattle.bind_model.specs.declared.asked.Closing.TheVariants as closings
use Rattle.plain_names.specs.declared.commands.PlainCommand.{PlainCommand}
use Rattle.plain_names.specs.declared.commands.PlainCommand.TheVariants as commands

-- the end that is named by what is asked
abbrev pub end_asked : Asked → Option EndId
end_asked (Bind (End x) side interface) = Some x
end_asked (Associate x side interface) = Some x
end_asked (Attach p t) = Some p.end
end_asked (Call x id s) = Some x
end_asked (Answer r s) = Some r.end
end_asked (Raw (End x) bytes handles) = Some x
end_asked (Take x) = Some x
end_asked (Notify x notice) = Some x
end_asked (Pause x a k) = Some x
end_asked (Close (closings.Endpoint x id)) = Some x
end_asked (Close (closings.Pending p)) = Some p.end
end_asked asked = None

-- the same by the command
abbrev pub end_named : PlainCommand → Option EndId
end_named (commands.Bind (End x) side interface) = Some x
end_named (commands.Associate x side interface) = Some x
end_named (commands.Attach p t) = Some p.end
end_named (commands.Call x id prepared names moment) = Some x
end_named (commands.Answer r prepared names moment) = Some r.end
end_named (commands.Raw (End x) bytes things) = Some x
end_named (commands.Take x) = Some x
end_named (commands.Notify x notice) = Some x
end_named (commands.Pause x a k) = Some x
end_named (commands.Close (closings.Endpoint x id)) = Some x
end_named (commands.Close (closings.Pending p)) = Some p.end
end_named command = None

-- both causes of the wait that is asked for have its end
abbrev pub NotesWait : Lists → Asked → Type 0
NotesWait lists (Pause b a k) = HasCauses lists b (record { end = a; flush = k })
NotesWait lists asked = Unit {0}
