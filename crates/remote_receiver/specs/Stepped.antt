-- What a desk did, step by step, and what it was told.
use Rattle.bind_model.specs.declared.told.Noted.TheVariants as noted
use Rattle.std.specs.Prelude.{Bool, false, ◌==◌, ◌&&◌, Option, Some, None, if◌then◌else◌}
use Rattle.mj_base.specs.declared.ids.EndId.{EndId}
use Rattle.bind_model.specs.Plain.{asked_of, told_of}
use Rattle.bind_model.specs.declared.commands.Command.{Command}
use Rattle.bind_model.specs.declared.commands.Reply.{Reply}
use Rattle.bind_model.specs.Replies.{is_response}
use Rattle.bind_model.specs.declared.asked.Asked.{Asked}
use Rattle.bind_model.specs.declared.asked.Asked.TheVariants.{Call, Take, Close}
use Rattle.bind_model.specs.declared.asked.Closing.TheVariants.{Endpoint, Pending}
use Rattle.bind_model.specs.declared.told.Got.{Got}
use Rattle.bind_model.specs.declared.told.Told.{Told}
use Rattle.bind_model.specs.declared.told.Told.TheVariants.{Sent, Taken, Control, Bad, Closed, No}
use Rattle.bind_model.specs.declared.told.Why.TheVariants.{PeerClosed}
use Rattle.response_map.specs.Keys.{is_of_end, is_of_endpoint}
use Rattle.response_map.specs.declared.key.Key.{Key}
use Rattle.remote_receiver.specs.declared.job.Answered.{Answered}

-- one step: what was asked, what was told, and the job that was given with it
pub record Step (C : Type 0) : Type 0 where
  pub asked : Asked
  pub told : Told
  pub job : Option C

-- the job that was given with a call that was sent, under its request
abbrev pub given_by : {C : Type 0} → Asked → Told → Option C → Option (Key × C)
given_by (Call end id outgoing) (Sent request bytes) (Some job) = Some (record { end = end; id = id; request = request }, job)
given_by asked told job = None

-- the job that was given with this step, under its request
abbrev pub given : {C : Type 0} → Step C → Option (Key × C)
given step = given_by step.asked step.told step.job

-- what a take at an end got, for the job of its request
abbrev pub answered : EndId → Got → Answered
answered end g = record { end = end; id = g.id; request = g.request; method = g.target.method; value = g.parameters }

-- the request that a response answers
abbrev pub key_of : Answered → Key
key_of got = record { end = got.end; id = got.id; request = got.request }

-- two requests are one: of one endpoint, under one number
abbrev pub same_key : Key → Key → Bool
same_key a b = is_of_endpoint a.end a.id b && (a.request == b.request)

-- the response to a request, where a take is told it
abbrev pub response_by : Key → Asked → Told → Option Answered
response_by key (Take end) (Taken g) =
    if is_response g.target.side && same_key (key_of (answered end g)) key then Some (answered end g) else None
response_by key asked told = None

-- whether a reply shows that the endpoint of a request is over: it is closed here, its peer is, or its end has gone
abbrev pub shows_end : Key → Asked → Told → Bool
shows_end key (Close (Endpoint end id)) (Closed gone) = if id == 0 then is_of_end end key else is_of_endpoint end id key
shows_end key (Close (Pending p)) (Closed gone) = is_of_endpoint p.end p.id key
shows_end key (Take end) (Bad why gone) = is_of_end end key
shows_end key (Take end) (No PeerClosed) = is_of_end end key
shows_end key (Take end) (Control (noted.Closed id)) = is_of_endpoint end id key
shows_end key asked told = false

-- a command, the reply to it, and the job that came with it
abbrev pub step_of : {C : Type 0} → Command → Reply → Option C → Step C
step_of command reply job = record { asked = asked_of command; told = told_of reply; job = job }
