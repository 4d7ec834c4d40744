-- What a history sends fits the methods that it is for.
use Rattle.std.specs.Prelude.{List, [], ◌∷◌}
use Rattle.mj_schema.specs.declared.schema.Schema.{Schema}
use Rattle.bind_model.specs.declared.asked.Asked.{Asked}
use Rattle.bind_model.specs.declared.asked.Asked.TheVariants.{Answer, Call}
use Rattle.bind_model.specs.declared.event.Event.{Event}
use Rattle.reply_laws.specs.Own.{FitsMethod}

-- what a call or an answer is to send fits its method, whatever the reply is
abbrev pub AsksFit : Schema → Asked → Type 0
AsksFit schema (Call y id s) = FitsMethod schema s
AsksFit schema (Answer r s) = FitsMethod schema s
AsksFit schema asked = Unit {0}

-- so it is with each event, the newest first
abbrev pub AllFit : Schema → List Event → Type 0
AllFit schema [] = Unit {0}
AllFit schema (event ∷ past) = AsksFit schema event.asked × AllFit schema past
