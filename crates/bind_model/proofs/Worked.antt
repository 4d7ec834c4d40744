-- Histories worked by hand, computed by the definitions over a small wire.
use Rattle.std.proofs.Common.{◌≡◌, ℕ, List, [], ◌∷◌, ◌++◌, refl}
use Rattle.std.specs.Prelude.{Some, None, true, false}
use Rattle.handle_table.specs.declared.thing.Thing.{Thing}
use Rattle.handle_table.specs.declared.thing.Thing.TheVariants.{End, Token}
use Rattle.wire_encoder.specs.declared.endpoint.EndpointSide.TheVariants.{Remote, Receiver}
use Rattle.wire_model.specs.declared.target.MessageSide.TheVariants.{Request, Response}
use Rattle.bind_model.specs.declared.asked.Outgoing.{Outgoing}
use Rattle.bind_model.specs.declared.endpoint.PendingId.{PendingId}
use Rattle.bind_model.specs.declared.asked.Closing.TheVariants as closings
use Rattle.bind_model.specs.declared.asked.Asked.{Asked}
use Rattle.bind_model.specs.declared.asked.Asked.TheVariants.{Pipe, Join, Mint, Bind, Associate, Attach, Call, Answer, Raw, Take, Close, Notify, Pause, Data}
use Rattle.bind_model.specs.declared.asked.Asked.TheVariants.{Flow}
use Rattle.bind_model.specs.declared.asked.Notice.TheVariants.{Query, Require, Flush}
use Rattle.control_bytes.specs.declared.control.Control.TheVariants as says
use Rattle.bind_model.specs.declared.flow.Flow.{Flow as FlowType}
use Rattle.bind_model.specs.declared.flow.Flow.TheVariants as flows
use Rattle.handle_table.specs.declared.thing.TokenId.{TokenId}
use Rattle.bind_model.specs.declared.flow.Flowed.TheVariants as flowed
use Rattle.bind_model.specs.declared.told.Noted.TheVariants as noted
use Rattle.bind_model.specs.declared.told.Notified.TheVariants.{Asking, Flushing}
use Rattle.bind_model.specs.declared.told.Why.TheVariants as whys
use Rattle.bind_model.specs.declared.told.BadWhy.TheVariants as bads
use Rattle.bind_model.specs.declared.told.Told.TheVariants.{Made, Sent, Taken, Dropped, Control, Bad, Closed, Notified, Pausing, Flowed, No}
use Rattle.wire_model.specs.Trees.{Null}
use Rattle.handle_table.specs.declared.thing.TokenSort.TheVariants.{SharedBuffer}
use Rattle.bind_model.specs.Ready.{ready}
use Rattle.bind_model.proofs.SmallWire.{small_control, small, Step, play, newest, e, out_of, got}

abbrev token : ℕ → Thing
token n = Token (record { seq = 0; serial = n })

abbrev request : ℕ → ℕ → List Thing → List PendingId → Outgoing
request interface method handles pendings = out_of interface method Request handles pendings

-- a pipe's end lies in a message at an end that lies in a message: all three go
cascade : newest (play [] (
    record { by = 0; asked = Pipe } ∷ record { by = 0; asked = Pipe } ∷ record { by = 0; asked = Pipe }
    ∷ record { by = 0; asked = Bind (End (e 0 2)) Remote 0 } ∷ record { by = 0; asked = Call (e 0 2) 0 (request 0 7 (End (e 0 5) ∷ []) []) }
    ∷ record { by = 0; asked = Bind (End (e 0 0)) Remote 0 } ∷ record { by = 0; asked = Call (e 0 0) 0 (request 0 7 (End (e 0 3) ∷ []) []) }
    ∷ record { by = 0; asked = Close (closings.Handle (End (e 0 1))) } ∷ []))
    ≡ Closed (End (e 0 1) ∷ End (e 0 3) ∷ End (e 0 5) ∷ [])
cascade = refl

abbrev by_ : ℕ → Asked → Step
by_ n asked = record { by = n; asked = asked }

abbrev far : ℕ
far = 2147483649

-- an associated endpoint is on its way to sequence 1
abbrev sent_off : List Step
sent_off =
    by_ 0 (Join (record { 0 = 1 })) ∷ by_ 0 (Bind (End (e 0 0)) Remote 0) ∷ by_ 1 (Bind (End (e 1 0)) Receiver 0)
    ∷ by_ 0 (Associate (e 0 0) Remote 1) ∷ by_ 0 (Call (e 0 0) 0 (request 0 5 [] (record { end = e 0 0; id = far } ∷ [])))
    ∷ by_ 0 (Call (e 0 0) far (request 1 3 [] [])) ∷ by_ 0 (Call (e 0 0) 0 (request 0 2 [] [])) ∷ by_ 1 (Take (e 1 0)) ∷ []

abbrev attached : List Step
attached = sent_off ++ by_ 1 (Attach (record { end = e 1 0; id = far }) (record { 0 = 2 })) ∷ []

-- a message to an endpoint that waits holds up those behind
unbound : newest (play [] (sent_off ++ by_ 1 (Take (e 1 0)) ∷ [])) ≡ No (whys.Unbound far)
unbound = refl

-- a message to an endpoint on another sequence too
elsewhere : newest (play [] (attached ++ by_ 1 (Take (e 1 0)) ∷ [])) ≡ No (whys.Elsewhere (record { 0 = 2 }))
elsewhere = refl

-- its own sequence gets it
its_own : newest (play [] (attached ++ by_ 2 (Take (e 1 0)) ∷ []))
    ≡ Taken (got far 1 3 0 [])
its_own = refl

abbrev shut : List Step
shut = attached ++ by_ 2 (Close (closings.Endpoint (e 1 0) far)) ∷ []

-- what comes for a closed endpoint is dropped in its turn
dropped : newest (play [] (shut ++ by_ 1 (Take (e 1 0)) ∷ [])) ≡ Dropped far []
dropped = refl

-- its peer is told by a control, and then calls there no more
control : newest (play [] (shut ++ by_ 0 (Take (e 0 0)) ∷ [])) ≡ Control (noted.Closed far)
control = refl

known_closed : newest (play [] (shut ++ by_ 0 (Take (e 0 0)) ∷ by_ 0 (Call (e 0 0) far (request 1 3 [] [])) ∷ [])) ≡ No whys.Disconnected
known_closed = refl

-- two requests wait for responses, and the free end writes the response to the first twice
abbrev twice : List Step
twice =
    by_ 0 Pipe ∷ by_ 0 (Bind (End (e 0 0)) Remote 0) ∷ by_ 0 (Call (e 0 0) 0 (request 0 9 [] [])) ∷ by_ 0 (Call (e 0 0) 0 (request 0 9 [] []))
    ∷ by_ 0 (Raw (End (e 0 1)) (0 ∷ 1 ∷ 1 ∷ 9 ∷ []) []) ∷ by_ 0 (Raw (End (e 0 1)) (0 ∷ 1 ∷ 1 ∷ 9 ∷ []) []) ∷ by_ 0 (Take (e 0 0)) ∷ by_ 0 (Take (e 0 0)) ∷ []

unasked : newest (play [] twice) ≡ Bad (bads.Unasked 1) (End (e 0 0) ∷ [])
unasked = refl

after_bad : newest (play [] (twice ++ by_ 0 (Take (e 0 0)) ∷ [])) ≡ No whys.Disconnected
after_bad = refl

-- a call that carries the end that it goes to
self_send : newest (play [] (by_ 0 Pipe ∷ by_ 0 (Bind (End (e 0 0)) Remote 0) ∷ by_ 0 (Call (e 0 0) 0 (request 0 7 (End (e 0 1) ∷ []) [])) ∷ []))
    ≡ No whys.SelfSend
self_send = refl

-- the peer closes endpoint 0, and nothing is unread
peer_closed : newest (play [] (by_ 0 Pipe ∷ by_ 0 (Bind (End (e 0 0)) Remote 0) ∷ by_ 0 (Bind (End (e 0 1)) Receiver 0)
    ∷ by_ 0 (Close (closings.Endpoint (e 0 1) 0)) ∷ by_ 0 (Take (e 0 0)) ∷ [])) ≡ No whys.PeerClosed
peer_closed = refl

-- who takes next: at the end of sequence 1 the sequence that the front's endpoint was attached on
next_taker : ready small (play [] attached) ≡ Some (record { 0 = 2 }, e 1 0)
next_taker = refl

-- while it waits nobody can
none_ready : ready small (play [] sent_off) ≡ None
none_ready = refl

-- where it is closed, whoever has endpoint 0 drops it; the control at the other end comes first, since that end is less
drops_next : ready small (play [] shut) ≡ Some (record { 0 = 0 }, e 0 0)
drops_next = refl

-- nothing is unread at an end whose peer is open
empty : newest (play [] (by_ 0 Pipe ∷ by_ 0 (Bind (End (e 0 0)) Remote 0) ∷ by_ 0 (Take (e 0 0)) ∷ [])) ≡ No whys.Empty
empty = refl

-- an endpoint that was received can't be sent on by another pipe
sent_on : newest (play [] (sent_off ++ by_ 1 Pipe ∷ by_ 1 (Bind (End (e 1 1)) Remote 0)
    ∷ by_ 1 (Call (e 1 1) 0 (request 0 5 [] (record { end = e 1 0; id = far } ∷ []))) ∷ [])) ≡ No (whys.WrongPipe far)
sent_on = refl

-- a token that was given away isn't there any more
given_away : newest (play [] (by_ 0 Pipe ∷ by_ 0 (Mint SharedBuffer) ∷ by_ 0 (Bind (End (e 0 0)) Remote 0)
    ∷ by_ 0 (Call (e 0 0) 0 (request 0 7 (Token (record { seq = 0; serial = 0 }) ∷ []) []))
    ∷ by_ 0 (Close (closings.Handle (Token (record { seq = 0; serial = 0 })))) ∷ [])) ≡ No whys.NoName
given_away = refl

-- a closed end takes what lies unread at it along, the other end's mail stays to be read
mail_stays : newest (play [] (by_ 0 Pipe ∷ by_ 0 (Bind (End (e 0 0)) Remote 0) ∷ by_ 0 (Bind (End (e 0 1)) Receiver 0)
    ∷ by_ 0 (Call (e 0 0) 0 (request 0 2 [] []))
    ∷ by_ 0 (Close (closings.Endpoint (e 0 0) 0)) ∷ by_ 0 (Take (e 0 1)) ∷ []))
    ≡ Taken (got 0 0 2 0 [])
mail_stays = refl

-- a handle that the parameters don't name goes, and the others come out in order
some_named : newest (play [] (
    by_ 0 Pipe ∷ by_ 0 (Mint SharedBuffer) ∷ by_ 0 (Mint SharedBuffer) ∷ by_ 0 (Mint SharedBuffer) ∷ by_ 0 (Bind (End (e 0 1)) Receiver 0)
    ∷ by_ 0 (Raw (End (e 0 0)) (0 ∷ 0 ∷ 0 ∷ 6 ∷ []) (token 0 ∷ token 1 ∷ token 2 ∷ [])) ∷ by_ 0 (Take (e 0 1)) ∷ []))
    ≡ Taken (record {
      id = 0;
      target = record { interface = 0; method = 6; side = Request };
      parameters = Null;
      request = 0;
      handles = token 0 ∷ token 2
          ∷ [];
      pendings = [];
      gone = token 1 ∷ [];
      moment = None;
    })
some_named = refl

-- a request is taken, answered by its responder, and the response got at the end that asked
abbrev answered : List Step
answered =
    by_ 0 Pipe ∷ by_ 0 (Bind (End (e 0 0)) Remote 0) ∷ by_ 0 (Bind (End (e 0 1)) Receiver 0) ∷ by_ 0 (Call (e 0 0) 0 (request 0 9 [] [])) ∷ by_ 0 (Take (e 0 1))
    ∷ by_ 0 (Answer (record { end = e 0 1; id = 0; request = 1; interface = 0; method = 9 })
    (out_of 0 9 Response [] [])) ∷ []

response_sent : newest (play [] answered) ≡ Sent 1 (0 ∷ 1 ∷ 1 ∷ 9 ∷ [])
response_sent = refl

response_got : newest (play [] (answered ++ by_ 0 (Take (e 0 0)) ∷ []))
    ≡ Taken (record (got 0 0 9 1 []) { target = record { interface = 0; method = 9; side = Response } })
response_got = refl

-- a responder answers once
answered_once : newest (play [] (answered ++ by_ 0 (Close (closings.Responder (record { end = e 0 1; id = 0; request = 1; interface = 0; method = 9 })))
    ∷ [])) ≡ No whys.NoName
answered_once = refl

-- three free ends, one in a message at the next
by_raw : newest (play [] (by_ 0 Pipe ∷ by_ 0 Pipe ∷ by_ 0 Pipe ∷ by_ 0 (Raw (End (e 0 2)) [] (End (e 0 5) ∷ []))
    ∷ by_ 0 (Raw (End (e 0 0)) [] (End (e 0 3) ∷ []))
    ∷ by_ 0 (Close (closings.Handle (End (e 0 1)))) ∷ []))
    ≡ Closed (End (e 0 1) ∷ End (e 0 3) ∷ End (e 0 5) ∷ [])
by_raw = refl

-- ## Versions, flushes and pauses

abbrev pair : List Step
pair = by_ 0 Pipe ∷ by_ 0 (Bind (End (e 0 0)) Remote 0) ∷ by_ 0 (Bind (End (e 0 1)) Receiver 0) ∷ []

version_asked : newest (play [] (pair ++ by_ 0 (Notify (e 0 0) (Query 0)) ∷ [])) ≡ Notified Asking
version_asked = refl

version_queried : newest (play [] (pair ++ by_ 0 (Notify (e 0 0) (Query 0)) ∷ by_ 0 (Take (e 0 1)) ∷ [])) ≡ Control (noted.Queried 0 (Some 1))
version_queried = refl

version_told : newest (play [] (pair ++ by_ 0 (Notify (e 0 0) (Query 0)) ∷ by_ 0 (Take (e 0 1)) ∷ by_ 0 (Take (e 0 0)) ∷ []))
    ≡ Control (noted.Version 0 1)
version_told = refl

-- a version that nobody asked for
version_unasked : newest (play [] (by_ 0 Pipe ∷ by_ 0 (Bind (End (e 0 0)) Remote 0) ∷ by_ 0 (Raw (End (e 0 1)) (small_control (says.Version 0 1)) [])
    ∷ by_ 0 (Take (e 0 0)) ∷ [])) ≡ Bad (bads.Unasked 0) (End (e 0 0) ∷ [])
version_unasked = refl

-- each query brings one
version_once : newest (play [] (by_ 0 Pipe ∷ by_ 0 (Bind (End (e 0 0)) Remote 0) ∷ by_ 0 (Notify (e 0 0) (Query 0))
    ∷ by_ 0 (Raw (End (e 0 1)) (small_control (says.Version 0 1)) []) ∷ by_ 0 (Raw (End (e 0 1)) (small_control (says.Version 0 1)) [])
    ∷ by_ 0 (Take (e 0 0)) ∷ by_ 0 (Take (e 0 0)) ∷ [])) ≡ Bad (bads.Unasked 0) (End (e 0 0) ∷ [])
version_once = refl

too_old : newest (play [] (pair ++ by_ 0 (Notify (e 0 0) (Require 0 2)) ∷ by_ 0 (Take (e 0 1)) ∷ [])) ≡ Bad (bads.TooOld 2) (End (e 0 1) ∷ [])
too_old = refl

new_enough : newest (play [] (pair ++ by_ 0 (Notify (e 0 0) (Require 0 1)) ∷ by_ 0 (Take (e 0 1)) ∷ [])) ≡ Control (noted.Required 0 1)
new_enough = refl

-- a receiver asks nothing, but may flush
wrong_side : newest (play [] (pair ++ by_ 0 (Notify (e 0 1) (Query 0)) ∷ [])) ≡ No whys.WrongSide
wrong_side = refl

receiver_flushes : newest (play [] (pair ++ by_ 0 (Notify (e 0 1) Flush) ∷ by_ 0 (Notify (e 0 1) Flush) ∷ [])) ≡ Notified (Flushing 2)
receiver_flushes = refl

-- an associated endpoint that came and isn't attached yet is asked too; one that is closed isn't
query_pending : newest (play [] (
    by_ 0 (Join (record { 0 = 1 })) ∷ by_ 0 (Bind (End (e 0 0)) Remote 0) ∷ by_ 1 (Bind (End (e 1 0)) Receiver 0)
    ∷ by_ 0 (Associate (e 0 0) Remote 1) ∷ by_ 0 (Call (e 0 0) 0 (request 0 5 [] (record { end = e 0 0; id = far } ∷ [])))
    ∷ by_ 0 (Notify (e 0 0) (Query far)) ∷ by_ 1 (Take (e 1 0)) ∷ by_ 1 (Take (e 1 0)) ∷ [])) ≡ Control (noted.Queried far (Some 2))
query_pending = refl

query_closed : newest (play [] (
    by_ 0 (Join (record { 0 = 1 })) ∷ by_ 0 (Bind (End (e 0 0)) Remote 0) ∷ by_ 1 (Bind (End (e 1 0)) Receiver 0)
    ∷ by_ 0 (Associate (e 0 0) Remote 1) ∷ by_ 0 (Call (e 0 0) 0 (request 0 5 [] (record { end = e 0 0; id = far } ∷ [])))
    ∷ by_ 0 (Notify (e 0 0) (Query far)) ∷ by_ 1 (Take (e 1 0)) ∷ by_ 1 (Close (closings.Pending (record { end = e 1 0; id = far })))
    ∷ by_ 1 (Take (e 1 0)) ∷ []))
    ≡ Control (noted.Queried far None)
query_closed = refl

abbrev two_pairs : List Step
two_pairs =
    pair ++ by_ 0 Pipe ∷ by_ 0 (Bind (End (e 0 3)) Receiver 0) ∷ by_ 0 (Bind (End (e 0 2)) Remote 0) ∷ by_ 0 (Call (e 0 2) 0 (request 0 2 [] []))
    ∷ by_ 0 (Pause (e 0 3) (e 0 1) 1) ∷ []

paused_then : newest (play [] two_pairs) ≡ Pausing
paused_then = refl

paused_take : newest (play [] (two_pairs ++ by_ 0 (Take (e 0 3)) ∷ [])) ≡ No (whys.Paused (e 0 1))
paused_take = refl

paused_passed : ready small (play [] two_pairs) ≡ None
paused_passed = refl

flush_sent : newest (play [] (two_pairs ++ by_ 0 (Notify (e 0 0) Flush) ∷ [])) ≡ Notified (Flushing 1)
flush_sent = refl

flush_got : newest (play [] (two_pairs ++ by_ 0 (Notify (e 0 0) Flush) ∷ by_ 0 (Take (e 0 1)) ∷ [])) ≡ Control (noted.Flushed 1)
flush_got = refl

taken_again : newest (play [] (two_pairs ++ by_ 0 (Notify (e 0 0) Flush) ∷ by_ 0 (Take (e 0 1)) ∷ by_ 0 (Take (e 0 3)) ∷ []))
    ≡ Taken (got 0 0 2 0 [])
taken_again = refl

-- it is met as well where the other end has gone
met_gone : newest (play [] (two_pairs ++ by_ 0 (Close (closings.Endpoint (e 0 1) 0)) ∷ by_ 0 (Take (e 0 3)) ∷ []))
    ≡ Taken (got 0 0 2 0 [])
met_gone = refl

self_pause : newest (play [] (pair ++ by_ 0 (Pause (e 0 0) (e 0 0) 1) ∷ [])) ≡ No whys.SelfPause
self_pause = refl

-- ## Data pipes

abbrev flow : ℕ → FlowType → Step
flow n f = by_ 0 (Flow (token n) f)

abbrev tok : ℕ → TokenId
tok n = record { seq = 0; serial = n }

abbrev data_1 : List Step
data_1 = by_ 0 (Data 4) ∷ flow 0 (flows.Put (1 ∷ 2 ∷ 3 ∷ 4 ∷ 5 ∷ []) false) ∷ []

abbrev data_2 : List Step
data_2 = data_1 ++ flow 0 (flows.Put (170 ∷ []) true) ∷ flow 1 (flows.Get 3 false) ∷ []

abbrev data_3 : List Step
data_3 = data_2 ++ flow 0 (flows.Put (6 ∷ 7 ∷ []) true) ∷ flow 0 (flows.Put (8 ∷ 9 ∷ []) true) ∷ flow 1 flows.BeginGet ∷ []

abbrev data_4 : List Step
data_4 = data_3 ++ flow 1 (flows.Get 1 false) ∷ flow 1 (flows.EndGet 2) ∷ by_ 0 (Close (closings.Handle (token 0))) ∷ flow 1 (flows.Get 9 false) ∷ []

data_made : newest (play [] (by_ 0 (Data 4) ∷ [])) ≡ Made (token 0 ∷ token 1 ∷ [])
data_made = refl

bad_size : newest (play [] (by_ 0 (Data 0) ∷ [])) ≡ No (whys.BadSize 0)
bad_size = refl

put_some : newest (play [] data_1) ≡ Flowed (tok 0) (flowed.Put 4)
put_some = refl

put_full : newest (play [] (data_1 ++ flow 0 (flows.Put (170 ∷ []) true) ∷ [])) ≡ No whys.Full
put_full = refl

got_three : newest (play [] data_2) ≡ Flowed (tok 1) (flowed.Bytes (1 ∷ 2 ∷ 3 ∷ []))
got_three = refl

put_two : newest (play [] (data_2 ++ flow 0 (flows.Put (6 ∷ 7 ∷ []) true) ∷ [])) ≡ Flowed (tok 0) (flowed.Put 2)
put_two = refl

put_short : newest (play [] (data_2 ++ flow 0 (flows.Put (6 ∷ 7 ∷ []) true) ∷ flow 0 (flows.Put (8 ∷ 9 ∷ []) true) ∷ [])) ≡ No (whys.Short 1)
put_short = refl

view_all : newest (play [] data_3) ≡ Flowed (tok 1) (flowed.View (4 ∷ 6 ∷ 7 ∷ []))
view_all = refl

get_busy : newest (play [] (data_3 ++ flow 1 (flows.Get 1 false) ∷ [])) ≡ No (whys.Busy (tok 1))
get_busy = refl

get_ended : newest (play [] (data_3 ++ flow 1 (flows.Get 1 false) ∷ flow 1 (flows.EndGet 2) ∷ [])) ≡ Flowed (tok 1) flowed.Ended
get_ended = refl

got_last : newest (play [] data_4) ≡ Flowed (tok 1) (flowed.Bytes (7 ∷ []))
got_last = refl

got_none : newest (play [] (data_4 ++ flow 1 (flows.Get 1 false) ∷ [])) ≡ No whys.PeerClosed
got_none = refl

get_nothing : newest (play [] (data_4 ++ flow 1 (flows.Get 0 false) ∷ [])) ≡ Flowed (tok 1) (flowed.Bytes [])
get_nothing = refl

not_data : newest (play [] (by_ 0 (Data 4) ∷ flow 1 (flows.Put [] false) ∷ [])) ≡ No whys.NotData
not_data = refl

end_idle : newest (play [] (by_ 0 (Data 4) ∷ flow 0 (flows.EndPut []) ∷ [])) ≡ No whys.Idle
end_idle = refl

put_in_place : newest (play [] (data_1 ++ flow 1 (flows.Get 1 false) ∷ flow 0 flows.BeginPut ∷ flow 1 (flows.Get 9 false)
    ∷ flow 0 (flows.EndPut (5 ∷ 6 ∷ [])) ∷ []))
    ≡ No whys.TooLong
put_in_place = refl

put_gone : newest (play [] (by_ 0 (Data 4) ∷ by_ 0 (Close (closings.Handle (token 1))) ∷ flow 0 (flows.Put [] false) ∷ [])) ≡ No whys.Disconnected
put_gone = refl

-- a token that something was begun at isn't sent
busy_sent : newest (play [] (by_ 0 (Data 4) ∷ flow 0 flows.BeginPut ∷ by_ 0 Pipe ∷ by_ 0 (Bind (End (e 0 0)) Remote 0)
    ∷ by_ 0 (Call (e 0 0) 0 (request 0 7 (token 0 ∷ []) [])) ∷ [])) ≡ No (whys.Busy (tok 0))
busy_sent = refl

-- an endpoint that was asked for its version, and whose asker is closed before the answer comes: nobody waits for it any more, so it is bad
closed_query : newest (play [] (
    by_ 0 (Join (record { 0 = 1 })) ∷ by_ 0 (Bind (End (e 0 0)) Remote 0) ∷ by_ 1 (Bind (End (e 1 0)) Receiver 0)
    ∷ by_ 0 (Associate (e 0 0) Remote 1) ∷ by_ 0 (Call (e 0 0) 0 (request 0 5 [] (record { end = e 0 0; id = far } ∷ [])))
    ∷ by_ 0 (Notify (e 0 0) (Query far)) ∷ by_ 0 (Close (closings.Endpoint (e 0 0) far)) ∷ by_ 1 (Take (e 1 0)) ∷ by_ 1 (Take (e 1 0))
    ∷ by_ 0 (Take (e 0 0)) ∷ [])) ≡ Bad (bads.Unasked 0) (End (e 0 0) ∷ [])
closed_query = refl
