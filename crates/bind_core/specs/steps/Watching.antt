-- Which ends a command may make ready, and which are watched no longer.
use Rattle.bind_model.specs.declared.commands.ToClose.TheVariants as close
use Rattle.std.specs.Prelude.{◌≡◌, Bool, true, false, ◌||◌, List, Option, Some, None, is_some}
use Rattle.mj_base.specs.declared.ids.EndId.{EndId}
use Rattle.handle_table.specs.Things.{same_end}
use Rattle.handle_table.specs.declared.thing.Thing.TheVariants.{End}
use Rattle.bind_model.specs.Machine.{peer}
use Rattle.bind_model.specs.declared.event.Event.{Event}
use Rattle.bind_core.specs.EndSets.{has_end}
use Rattle.core_state.specs.Agreement.{past_of}
use Rattle.bind_core.specs.Takers.{ready_taker}
use Rattle.bind_model.specs.declared.commands.Command.{Command}
use Rattle.bind_model.specs.declared.commands.Command.TheVariants.{Associate, Attach, Bind, Call, Answer, Raw, Take, Close, Notify, Pause}
use Rattle.core_state.specs.declared.state.State.{State}

-- the end that a command is about
abbrev pub end_named : Command → Option EndId
end_named (Bind (End x) side interface) = Some x
end_named (Associate x side interface) = Some x
end_named (Attach pending t) = Some pending.name.end
end_named (Call x id prepared handles pendings moment) = Some x
end_named (Answer r prepared handles pendings moment) = Some r.end
end_named (Raw (End x) bytes handles) = Some x
end_named (Take x) = Some x
end_named (Close (close.Pending pending)) = Some pending.name.end
end_named (Close (close.Endpoint x id)) = Some x
end_named (Notify x notice) = Some x
end_named (Pause x a k) = Some x
end_named command = None

-- whether an end is this one, or its peer
abbrev pub is_near : List Event → Option EndId → EndId → Bool
is_near past None y = false
is_near past (Some x) y = same_end x y || same_end (peer past x) y

-- all that are in one set are in another
abbrev pub IsWithin : List EndId → List EndId → Type 0
IsWithin old new = (x : EndId) → has_end old x ≡ true → has_end new x ≡ true

-- all that are near an end are in the set
abbrev pub HasNear : State → Option EndId → List EndId → Type 0
HasNear s end ends = (x : EndId) → is_near (past_of s) end x ≡ true → has_end ends x ≡ true

-- each end where a take is ready stays in the set
abbrev pub KeepsTaken : State → List EndId → List EndId → Type 0
KeepsTaken s old new = (x : EndId) → is_some (ready_taker s x) ≡ true → has_end old x ≡ true → has_end new x ≡ true
