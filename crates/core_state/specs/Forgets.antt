-- What of the waits of ends may be forgotten.
use Rattle.std.specs.Prelude.{◌≡◌, List}
use Rattle.mj_base.specs.declared.ids.EndId.{EndId}
use Rattle.message_pipe.specs.Contents.{Contents}
use Rattle.message_pipe.specs.Ends.{end_of, is_closed}
use Rattle.bind_model.specs.declared.event.Event.{Event}
use Rattle.bind_model.specs.Machine.{is_gone}
use Rattle.end_notices.specs.Agreement.{AllAgree as NoticesAgree}
use Rattle.end_notices.specs.Table.{Lines}

-- what ends keep of controls agrees with all events that it agreed with, where these pipes say which ends are gone
abbrev pub StaysTrue : Contents → Lines → Lines → Type 0
StaysTrue pipes old new =
    (past : List Event) → ((x : EndId) → is_closed (end_of pipes.ends x) ≡ is_gone past x) → NoticesAgree past old → NoticesAgree past new
