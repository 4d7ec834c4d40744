-- Ends that wait, by what ends their waits: that an end goes, or that it consumes the flush of a number.
use Rattle.std.specs.Prelude.{ℕ, ◌≡◌, ◌+◌, ◌==◌, ◌&&◌, ◌++◌, Bool, true, false, List, [], ◌∷◌, Option, Some, None, is_some}
use Rattle.std.specs.List.{list_any}
use Rattle.std.specs.Map.{lookup}
use Rattle.mj_base.specs.declared.ids.EndId.{EndId}
use Rattle.handle_table.specs.Things.{same_end}
use Rattle.handle_table.specs.declared.thing.Thing.{Thing}
use Rattle.handle_table.specs.declared.thing.Thing.TheVariants.{End, Token}
use Rattle.bind_model.specs.Machine.{gone_by}
use Rattle.bind_model.specs.Notices.{Wait}
use Rattle.bind_model.specs.declared.asked.Asked.{Asked}
use Rattle.bind_model.specs.declared.asked.Asked.TheVariants.{Take}
use Rattle.bind_model.specs.declared.commands.Command.{Command}
use Rattle.bind_model.specs.declared.commands.Command.TheVariants.{Pause}
use Rattle.bind_model.specs.declared.event.Event.{Event}
use Rattle.bind_model.specs.declared.told.Noted.TheVariants.{Flushed}
use Rattle.bind_model.specs.declared.told.Told.{Told}
use Rattle.bind_model.specs.declared.told.Told.TheVariants.{Control}
use Rattle.bind_core.specs.EndSets.{has_end}
use Rattle.bind_core.specs.declared.waiting.Cause.{Cause}

-- ## Causes

-- an end goes
abbrev pub gone_cause : EndId → Cause
gone_cause x = record { end = x; what = 0 }

-- it consumes the flush of a number
abbrev pub flush_cause : EndId → ℕ → Cause
flush_cause x k = record { end = x; what = k + 1 }

-- whether two causes are one
abbrev pub same_cause : Cause → Cause → Bool
same_cause a b = same_end a.end b.end && (a.what == b.what)

-- whether a cause is one of these
abbrev pub has_cause : List Cause → Cause → Bool
has_cause causes c = list_any (λ d. same_cause d c) causes

-- those that went ends are
abbrev pub gone_causes : List Thing → List Cause
gone_causes [] = []
gone_causes (End x ∷ things) = gone_cause x ∷ gone_causes things
gone_causes (Token t ∷ things) = gone_causes things

-- those that an event is
abbrev pub causes_of : Told → Asked → List Cause
causes_of (Control (Flushed k)) (Take y) = flush_cause y k ∷ []
causes_of told asked = gone_causes (gone_by told)

-- the same, where it is known whether a flush was consumed
abbrev pub causes_or : Told → Option Cause → List Cause
causes_or told (Some c) = c ∷ []
causes_or told None = gone_causes (gone_by told)

-- ## Ends by causes

-- for causes the ends with waits that they end, and maybe others
abbrev pub Lists : Type 0
Lists = List (Cause × List EndId)

-- the list of a cause
abbrev pub list_of : Lists → Cause → Option (List EndId)
list_of lists c = lookup (same_cause c) lists

-- whether a cause has a list
abbrev pub has_list : Lists → Cause → Bool
has_list lists c = is_some (list_of lists c)

-- the ends in it
abbrev pub ends_in : Option (List EndId) → List EndId
ends_in None = []
ends_in (Some ends) = ends

-- the ends of a cause
abbrev pub ends_for : Lists → Cause → List EndId
ends_for lists c = ends_in (list_of lists c)

-- the ends of some causes
abbrev pub all_for : Lists → List Cause → List EndId
all_for lists [] = []
all_for lists (c ∷ causes) = ends_for lists c ++ all_for lists causes

-- no cause has fewer ends
abbrev pub Grows : Lists → Lists → Type 0
Grows old new = (c : Cause) (x : EndId) → has_end (ends_for old c) x ≡ true → has_end (ends_for new c) x ≡ true

-- all but these causes have the ends that they had
abbrev pub Spares : List Cause → Lists → Lists → Type 0
Spares causes old new = (c : Cause) → has_cause causes c ≡ false → ends_for new c ≡ ends_for old c

-- both causes of a wait have its end
abbrev pub HasCauses : Lists → EndId → Wait → Type 0
HasCauses lists x w = (has_end (ends_for lists (flush_cause w.end w.flush)) x ≡ true) × (has_end (ends_for lists (gone_cause w.end)) x ≡ true)

-- those of the wait that a command gives
abbrev pub IsNoted : Lists → Command → Type 0
IsNoted lists (Pause b a k) = HasCauses lists b (record { end = a; flush = k })
IsNoted lists command = Unit {0}

-- ## The last event

-- the newest of events
abbrev pub newest : List Event → Option Event
newest [] = None
newest (event ∷ past) = Some event

-- the causes that it is
abbrev pub causes_in : Option Event → List Cause
causes_in None = []
causes_in (Some event) = causes_of event.told event.asked

-- the ends with waits that the last event may have ended
abbrev pub woken : Lists → Option Event → List EndId
woken lists None = []
woken lists (Some event) = all_for lists (causes_of event.told event.asked)
