-- What ends keep of controls, in one table.
use Rattle.std.specs.Prelude.{◌≡◌, Bool, false, List, Option, Some, None, if◌then◌else◌, is_some}
use Rattle.std.specs.Map.{lookup}
use Rattle.mj_base.specs.declared.ids.EndId.{EndId}
use Rattle.handle_table.specs.Things.{same_end}
use Rattle.bind_model.specs.declared.asked.Notice.{Notice}
use Rattle.end_notices.specs.Seen.{Seen, has_room, none_seen, seen_of}
use Rattle.end_notices.specs.declared.notices.Notices.{Notices}

-- a line for each end that keeps something, and maybe for others
abbrev pub Lines : Type 0
Lines = List (EndId × Notices)

-- the line of an end
abbrev pub line_of : Lines → EndId → Option Notices
line_of lines x = lookup (same_end x) lines

-- what a line says, where there is one
abbrev pub seen_in : Option Notices → Seen
seen_in None = none_seen
seen_in (Some notices) = seen_of notices

-- what is seen of what an end keeps
abbrev pub notices_at : Lines → EndId → Seen
notices_at lines x = seen_in (line_of lines x)

-- whether an end has a line
abbrev pub has_line : Lines → EndId → Bool
has_line lines x = is_some (line_of lines x)

-- whether the line of an end has a place for the query that a notice may be
abbrev pub room_in : Notice → Option Notices → Bool
room_in notice None = false
room_in notice (Some notices) = has_room notice notices

-- whether a notice of an end may be noted
abbrev pub can_note : Lines → EndId → Notice → Bool
can_note lines x notice = room_in notice (line_of lines x)

-- nothing changes that can be seen
abbrev pub AllSame : Lines → Lines → Type 0
AllSame old new = (x : EndId) → notices_at new x ≡ notices_at old x

-- this becomes of what one end keeps, and all else stays
abbrev pub BecomesAt : (Seen → Seen) → EndId → Lines → Lines → Type 0
BecomesAt f end old new = (x : EndId) → notices_at new x ≡ (if same_end end x then f (notices_at old x) else notices_at old x)
