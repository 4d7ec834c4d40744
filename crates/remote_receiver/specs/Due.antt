-- When a job may run: right behind the take that got its response.
use Rattle.std.specs.Prelude.{true, ◌≡◌, ◌++◌, List, [], ◌∷◌}
use Rattle.mj_base.specs.declared.ids.SeqId.{SeqId}
use Rattle.bind_model.specs.Replies.{is_response}
use Rattle.bind_model.specs.declared.asked.Asked.{Asked}
use Rattle.bind_model.specs.declared.asked.Asked.TheVariants.{Take}
use Rattle.bind_model.specs.declared.event.Event.{Event}
use Rattle.bind_model.specs.declared.told.Got.{Got}
use Rattle.bind_model.specs.declared.told.Told.{Told}
use Rattle.bind_model.specs.declared.told.Told.TheVariants.{Taken}
use Rattle.remote_receiver.specs.declared.job.Answered.{Answered}
use Rattle.remote_receiver.specs.Stepped.{answered}

-- of what was seen, the newest event is this one of a sequence
pub record IsNewest (me : SeqId) (seen : List Event) (asked : Asked) (told : Told) : Type 0 where
  pub before : List Event
  pub newest : seen ≡ before ++ record { seq = me; asked = asked; told = told } ∷ []

-- a job may run on this: the newest event is a take of the sequence that got it, and it is a response
pub record IsDue (me : SeqId) (seen : List Event) (got : Answered) : Type 0 where
  pub message : Got
  pub newest : IsNewest me seen (Take got.end) (Taken message)
  pub response : is_response message.target.side ≡ true
  pub same : got ≡ answered got.end message
