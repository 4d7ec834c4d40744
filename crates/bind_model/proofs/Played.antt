-- Histories that an independent program played over the small wire: its replies, and who is ready at the end, are those of the definitions.
use Rattle.std.proofs.Common.{◌≡◌, ℕ, List, [], ◌∷◌, refl}
use Rattle.std.specs.Prelude.{Some, None, true, false, map, reverse}
use Rattle.handle_table.specs.declared.thing.Thing.{Thing}
use Rattle.handle_table.specs.declared.thing.Thing.TheVariants.{End, Token}
use Rattle.wire_encoder.specs.declared.endpoint.EndpointSide.TheVariants.{Remote, Receiver}
use Rattle.wire_model.specs.declared.target.MessageSide.TheVariants.{Request}
use Rattle.bind_model.specs.declared.endpoint.PendingId.{PendingId}
use Rattle.bind_model.specs.declared.asked.Closing.TheVariants as closings
use Rattle.bind_model.specs.declared.asked.Asked.{Asked}
use Rattle.bind_model.specs.declared.asked.Asked.TheVariants.{Pipe, Join, Bind, Associate, Attach, Call, Raw, Take, Close, Notify, Pause, Data, Flow}
use Rattle.bind_model.specs.declared.asked.Notice.TheVariants.{Query, Require, Flush}
use Rattle.bind_model.specs.declared.flow.Flow.TheVariants as flows
use Rattle.handle_table.specs.declared.thing.TokenId.{TokenId}
use Rattle.bind_model.specs.declared.flow.Flowed.TheVariants as flowed
use Rattle.bind_model.specs.declared.told.Noted.TheVariants as noted
use Rattle.bind_model.specs.declared.told.Notified.TheVariants.{Asking, Flushing, Requiring}
use Rattle.bind_model.specs.declared.told.Why.TheVariants as whys
use Rattle.bind_model.specs.declared.told.BadWhy.TheVariants as bads
use Rattle.bind_model.specs.declared.told.Told.{Told}
use Rattle.bind_model.specs.declared.told.Told.TheVariants.{Made, Sent, Taken, Control, Bad, Closed, Notified, Pausing, Flowed, No, Bound, Associated, Wrote}
use Rattle.bind_model.specs.declared.event.Event.{Event}
use Rattle.bind_model.specs.Ready.{ready}
use Rattle.mj_base.specs.declared.fault.FaultKind.TheVariants.{IllegalHandle}
use Rattle.bind_model.proofs.SmallWire.{small, Step, play, e, out_of, got}
use Rattle.mj_base.specs.declared.ids.SeqId.{SeqId}

-- an end as a thing
abbrev end : ℕ → ℕ → Thing
end seq serial = End (e seq serial)

-- a token by its numbers, and as a thing
abbrev tk : ℕ → ℕ → TokenId
tk seq serial = record { seq = seq; serial = serial }

abbrev token : ℕ → ℕ → Thing
token seq serial = Token (tk seq serial)

-- a pending by its end and its id
abbrev half : ℕ → ℕ → ℕ → PendingId
half seq serial id = record { end = e seq serial; id = id }

-- a sequence
abbrev on : ℕ → SeqId
on n = record { 0 = n }

-- a command with what that program told
record Row : Type 0 where
  step : Step
  told : Told

abbrev did : ℕ → Asked → Told → Row
did n asked told = record { step = record { by = n; asked = asked }; told = told }

-- the commands, and what it told
abbrev steps : List Row → List Step
steps rows = map (λ (r : Row). r.step) rows

abbrev tolds : List Row → List Told
tolds rows = map (λ (r : Row). r.told) rows

-- what the definitions tell
abbrev replies : List Row → List Told
replies rows = reverse (map (λ (event : Event). event.told) (play [] (steps rows)))

abbrev row_1 : List Row
row_1 =
    did 0 (Data 1) (Made (token 0 0 ∷ token 0 1 ∷ [])) ∷ did 0 Pipe (Made (end 0 0 ∷ end 0 1 ∷ [])) ∷ did 0 Pipe (Made (end 0 2 ∷ end 0 3 ∷ [])) ∷
    did 0 Pipe (Made (end 0 4 ∷ end 0 5 ∷ [])) ∷ did 0 Pipe (Made (end 0 6 ∷ end 0 7 ∷ [])) ∷ did 0 (Bind (end 0 3) Remote 0) (Bound (e 0 3)) ∷
    did 0 (Bind (end 0 6) Remote 1) (Bound (e 0 6)) ∷ did 0 (Notify (e 0 6) Flush) (Notified (Flushing 1)) ∷
    did 0 (Close (closings.Handle (end 0 1))) (Closed (end 0 1 ∷ [])) ∷ did 0 (Call (e 0 6) 0 (out_of 1 7 Request (end 0 7 ∷ []) [])) (No whys.SelfSend) ∷
    did 1 (Raw (end 0 0) (4294967295 ∷ 3 ∷ 2147483649 ∷ 3 ∷ []) []) (No whys.Disconnected) ∷ did 0 (Take (e 0 3)) (No whys.Empty) ∷
    did 0 (Associate (e 0 3) Remote 1) (Associated (half 0 3 2147483649)) ∷ did 0 (Flow (token 0 1) (flows.Get 9 false)) (No whys.Empty) ∷
    did 0 (Notify (e 0 3) (Query 2147483649)) (Notified Asking) ∷ did 0 (Bind (end 0 2) Receiver 0) (Bound (e 0 2)) ∷
    did 0 (Notify (e 0 0) (Query 2147483649)) (No whys.NoName) ∷ did 0 (Bind (end 0 0) Remote 1) (Bound (e 0 0)) ∷
    did 0 (Bind (end 0 7) Receiver 1) (Bound (e 0 7)) ∷ did 0 (Notify (e 0 3) (Query 2147483649)) (Notified Asking) ∷
    did 1 (Flow (token 0 1) (flows.Get 9 false)) (No whys.Empty) ∷
    did 0 (Call (e 0 7) 0 (out_of 1 5 Request [] (half 0 3 2147483649 ∷ []))) (No whys.WrongSide) ∷
    did 1 (Flow (token 0 0) (flows.Put (66 ∷ 4 ∷ []) false)) (Flowed (tk 0 0) (flowed.Put 1)) ∷ did 0 (Notify (e 0 7) (Query 0)) (No whys.WrongSide) ∷
    did 0 (Pause (e 0 6) (e 0 0) 1) Pausing ∷ did 0 (Take (e 0 2)) (Control (noted.Queried 2147483649 None)) ∷
    did 1 (Call (e 0 5) 2147483649 (out_of 0 9 Request [] [])) (No whys.NoName) ∷ did 0 (Notify (e 0 2) Flush) (Notified (Flushing 1)) ∷
    did 1 (Flow (token 0 0) (flows.Put (53 ∷ []) true)) (No whys.Full) ∷ did 0 (Flow (token 0 0) (flows.Put (6 ∷ 7 ∷ []) false)) (No whys.Full) ∷
    did 1 (Close (closings.Pending (half 0 3 2147483649))) (Closed []) ∷ did 0 (Flow (token 0 0) (flows.Put (36 ∷ 38 ∷ 11 ∷ 5 ∷ []) false)) (No whys.Full) ∷
    did 0 (Flow (token 0 0) flows.BeginPut) (No whys.Full) ∷ did 0 (Pause (e 0 2) (e 0 0) 2) Pausing ∷ did 0 (Take (e 0 3)) (Control (noted.Flushed 1)) ∷
    did 0 (Flow (token 0 0) (flows.Put (132 ∷ []) false)) (No whys.Full) ∷ did 0 (Flow (end 0 5) (flows.Get 9 false)) (No whys.NotData) ∷
    did 0 (Take (e 0 7)) (Control (noted.Flushed 1)) ∷ did 0 (Raw (end 0 5) (4294967295 ∷ 2 ∷ 0 ∷ 0 ∷ []) []) (Wrote (e 0 5)) ∷
    did 0 (Raw (end 0 4) (4294967295 ∷ 1 ∷ 2147483649 ∷ 0 ∷ []) []) (Wrote (e 0 4)) ∷ []

played_1 : replies row_1 ≡ tolds row_1
played_1 = refl

ready_1 : ready small (play [] (steps row_1)) ≡ None
ready_1 = refl

abbrev row_2 : List Row
row_2 =
    did 0 Pipe (Made (end 0 0 ∷ end 0 1 ∷ [])) ∷ did 0 (Data 1) (Made (token 0 0 ∷ token 0 1 ∷ [])) ∷ did 0 Pipe (Made (end 0 2 ∷ end 0 3 ∷ [])) ∷
    did 0 Pipe (Made (end 0 4 ∷ end 0 5 ∷ [])) ∷ did 0 (Data 4) (Made (token 0 2 ∷ token 0 3 ∷ [])) ∷ did 0 (Take (e 0 2)) (No whys.NoName) ∷
    did 0 (Call (e 0 3) 1 (out_of 0 2 Request [] [])) (No whys.NoName) ∷ did 0 (Bind (end 0 1) Remote 0) (Bound (e 0 1)) ∷
    did 0 (Take (e 0 1)) (No whys.Empty) ∷ did 0 (Call (e 0 1) 0 (out_of 0 7 Request (end 0 4 ∷ []) [])) (Sent 0 (0 ∷ 0 ∷ 0 ∷ 7 ∷ [])) ∷
    did 0 (Pause (e 0 1) (e 0 1) 1) (No whys.SelfPause) ∷ did 0 (Take (e 0 1)) (No whys.Empty) ∷
    did 0 (Raw (end 0 5) (4294967295 ∷ 3 ∷ 0 ∷ 3 ∷ []) []) (Wrote (e 0 5)) ∷ did 0 (Pause (e 0 1) (e 0 1) 1) (No whys.SelfPause) ∷
    did 0 (Bind (end 0 0) Receiver 0) (Bound (e 0 0)) ∷ did 0 (Bind (end 0 2) Remote 0) (Bound (e 0 2)) ∷ did 0 (Bind (end 0 3) Receiver 0) (Bound (e 0 3)) ∷
    did 0 (Call (e 0 2) 0 (out_of 0 2 Request [] [])) (Sent 0 (0 ∷ 0 ∷ 0 ∷ 2 ∷ [])) ∷
    did 0 (Call (e 0 1) 0 (out_of 0 2 Request [] [])) (Sent 0 (0 ∷ 0 ∷ 0 ∷ 2 ∷ [])) ∷ did 0 (Bind (end 0 5) Remote 1) (Bound (e 0 5)) ∷
    did 0 (Call (e 0 2) 0 (out_of 0 2 Request [] [])) (Sent 0 (0 ∷ 0 ∷ 0 ∷ 2 ∷ [])) ∷
    did 1 (Flow (token 0 0) flows.BeginPut) (Flowed (tk 0 0) (flowed.Space 1)) ∷ did 1 (Flow (token 0 3) (flows.Get 9 false)) (No whys.Empty) ∷
    did 0 (Notify (e 0 1) (Query 0)) (Notified Asking) ∷ did 0 (Call (e 0 4) 0 (out_of 0 7 Request (token 0 0 ∷ []) [])) (No whys.NoName) ∷
    did 0 (Flow (token 0 3) flows.BeginGet) (No whys.Empty) ∷ did 0 (Flow (token 0 2) (flows.Put (59 ∷ []) false)) (Flowed (tk 0 2) (flowed.Put 1)) ∷
    did 1 (Flow (token 0 1) (flows.Get 9 false)) (No whys.Empty) ∷ did 0 (Flow (token 0 3) flows.BeginGet) (Flowed (tk 0 3) (flowed.View (59 ∷ []))) ∷
    did 0 (Associate (e 0 2) Remote 1) (Associated (half 0 2 2147483649)) ∷ did 0 (Notify (e 0 3) Flush) (Notified (Flushing 1)) ∷
    did 0 (Call (e 0 2) 0 (out_of 0 9 Request [] [])) (Sent 1 (0 ∷ 1 ∷ 0 ∷ 9 ∷ [])) ∷
    did 0 (Call (e 0 0) 0 (out_of 0 7 Request (token 0 3 ∷ []) [])) (No whys.WrongSide) ∷ did 0 (Take (e 0 0)) (Taken (got 0 0 7 0 (end 0 4 ∷ []))) ∷
    did 0 (Take (e 0 0)) (Taken (got 0 0 2 0 [])) ∷ did 0 (Notify (e 0 1) (Require 0 3)) (Notified Requiring) ∷
    did 0 (Raw (token 0 2) (4294967295 ∷ 5 ∷ 1 ∷ 0 ∷ []) []) (No whys.NotPipe) ∷
    did 0 (Flow (token 0 0) (flows.EndPut (33 ∷ 248 ∷ 171 ∷ 235 ∷ []))) (No whys.TooLong) ∷ did 0 (Take (e 0 0)) (Control (noted.Queried 0 (Some 1))) ∷
    did 0 (Take (e 0 0)) (Bad (bads.TooOld 3) (end 0 0 ∷ [])) ∷ []

played_2 : replies row_2 ≡ tolds row_2
played_2 = refl

ready_2 : ready small (play [] (steps row_2)) ≡ Some ((on 0), e 0 1)
ready_2 = refl

abbrev row_3 : List Row
row_3 =
    did 0 (Join (on 1)) (Made (end 0 0 ∷ end 1 0 ∷ [])) ∷ did 0 Pipe (Made (end 0 1 ∷ end 0 2 ∷ [])) ∷ did 0 Pipe (Made (end 0 3 ∷ end 0 4 ∷ [])) ∷
    did 0 (Data 3) (Made (token 0 0 ∷ token 0 1 ∷ [])) ∷ did 0 Pipe (Made (end 0 5 ∷ end 0 6 ∷ [])) ∷ did 0 (Take (e 0 5)) (No whys.NoName) ∷
    did 0 (Bind (end 0 1) Remote 1) (Bound (e 0 1)) ∷ did 0 (Flow (token 0 0) flows.BeginPut) (Flowed (tk 0 0) (flowed.Space 3)) ∷
    did 0 (Take (e 0 1)) (No whys.Empty) ∷ did 0 (Take (e 0 1)) (No whys.Empty) ∷
    did 0 (Call (e 0 1) 0 (out_of 1 2 Request [] [])) (Sent 0 (0 ∷ 0 ∷ 0 ∷ 2 ∷ [])) ∷ did 1 (Raw (end 0 6) (4294967295 ∷ 3 ∷ 1 ∷ 3 ∷ []) []) (Wrote (e 0 6)) ∷
    did 0 (Bind (end 0 4) Remote 1) (Bound (e 0 4)) ∷ did 0 (Bind (end 0 2) Receiver 1) (Bound (e 0 2)) ∷ did 1 (Bind (end 0 6) Remote 0) (Bound (e 0 6)) ∷
    did 1 (Flow (token 0 0) (flows.EndPut (192 ∷ 235 ∷ 197 ∷ []))) (Flowed (tk 0 0) (flowed.Put 3)) ∷ did 0 (Take (e 0 2)) (Taken (got 0 1 2 0 [])) ∷
    did 1 (Flow (token 0 1) (flows.Get 9 false)) (Flowed (tk 0 1) (flowed.Bytes (192 ∷ 235 ∷ 197 ∷ []))) ∷ did 0 (Bind (end 0 5) Receiver 0) (Bound (e 0 5)) ∷
    did 0 (Flow (token 0 0) (flows.EndPut (66 ∷ 215 ∷ 149 ∷ 138 ∷ []))) (No whys.Idle) ∷ did 0 (Notify (e 1 0) (Query 0)) (No whys.NoName) ∷
    did 0 (Take (e 0 5)) (Bad (bads.Unasked 0) (end 0 5 ∷ [])) ∷ did 1 (Pause (e 1 0) (e 0 4) 1) (No whys.NoName) ∷
    did 0 (Flow (token 0 1) (flows.Get 2 false)) (No whys.Empty) ∷ did 0 (Close (closings.Handle (end 0 0))) (Closed (end 0 0 ∷ [])) ∷
    did 0 (Flow (token 0 0) flows.BeginPut) (Flowed (tk 0 0) (flowed.Space 3)) ∷ did 0 (Call (e 0 1) 0 (out_of 1 5 Request [] [])) (No whys.WrongTokens) ∷
    did 0 (Notify (e 0 2) (Query 0)) (No whys.WrongSide) ∷ did 0 (Take (e 0 4)) (No whys.Empty) ∷
    did 1 (Flow (token 0 0) (flows.EndPut (52 ∷ []))) (Flowed (tk 0 0) (flowed.Put 1)) ∷
    did 0 (Flow (token 0 0) (flows.Put (122 ∷ 54 ∷ 51 ∷ 31 ∷ []) false)) (Flowed (tk 0 0) (flowed.Put 2)) ∷
    did 0 (Raw (token 0 1) (4294967295 ∷ 5 ∷ 1 ∷ 0 ∷ []) (end 0 3 ∷ [])) (No whys.NotPipe) ∷ did 1 (Take (e 0 6)) (No whys.PeerClosed) ∷
    did 0 (Flow (token 0 0) (flows.Put (136 ∷ 111 ∷ 157 ∷ []) false)) (No whys.Full) ∷
    did 0 (Flow (token 0 1) (flows.Get 3 false)) (Flowed (tk 0 1) (flowed.Bytes (52 ∷ 122 ∷ 54 ∷ []))) ∷
    did 0 (Raw (token 0 0) (4294967295 ∷ 2 ∷ 0 ∷ 0 ∷ []) (end 0 3 ∷ [])) (No whys.NotPipe) ∷ did 0 (Pause (e 0 4) (e 0 4) 2) (No whys.SelfPause) ∷
    did 1 (Flow (token 0 0) (flows.Put [] false)) (Flowed (tk 0 0) (flowed.Put 0)) ∷ did 0 (Call (e 0 4) 0 (out_of 1 5 Request [] [])) (No whys.WrongTokens) ∷
    did 1 (Associate (e 0 6) Remote 1) (Associated (half 0 6 2147483649)) ∷ []

played_3 : replies row_3 ≡ tolds row_3
played_3 = refl

ready_3 : ready small (play [] (steps row_3)) ≡ None
ready_3 = refl

abbrev row_4 : List Row
row_4 =
    did 0 Pipe (Made (end 0 0 ∷ end 0 1 ∷ [])) ∷ did 0 Pipe (Made (end 0 2 ∷ end 0 3 ∷ [])) ∷ did 0 (Data 4) (Made (token 0 0 ∷ token 0 1 ∷ [])) ∷
    did 0 (Join (on 1)) (Made (end 0 4 ∷ end 1 0 ∷ [])) ∷ did 0 (Data 3) (Made (token 0 2 ∷ token 0 3 ∷ [])) ∷
    did 0 (Raw (end 1 0) (4294967295 ∷ 2 ∷ 0 ∷ 0 ∷ []) (token 0 0 ∷ [])) (Wrote (e 1 0)) ∷
    did 0 (Flow (token 0 2) (flows.Put (99 ∷ 211 ∷ []) false)) (Flowed (tk 0 2) (flowed.Put 2)) ∷ did 0 (Bind (end 0 0) Remote 1) (Bound (e 0 0)) ∷
    did 1 (Bind (end 1 0) Remote 1) (Bound (e 1 0)) ∷ did 0 (Flow (token 0 2) (flows.Put (164 ∷ 101 ∷ 165 ∷ []) true)) (No (whys.Short 1)) ∷
    did 0 (Bind (end 0 2) Remote 0) (Bound (e 0 2)) ∷ did 1 (Notify (e 1 0) Flush) (Notified (Flushing 1)) ∷
    did 0 (Notify (e 0 0) Flush) (Notified (Flushing 1)) ∷ did 0 (Flow (token 0 1) (flows.Get 9 false)) (No whys.Empty) ∷
    did 0 (Flow (token 0 2) (flows.Put (149 ∷ 209 ∷ 102 ∷ 244 ∷ []) false)) (Flowed (tk 0 2) (flowed.Put 1)) ∷
    did 1 (Flow (token 0 2) (flows.Put [] true)) (Flowed (tk 0 2) (flowed.Put 0)) ∷ did 0 (Flow (token 0 2) flows.BeginPut) (No whys.Full) ∷
    did 0 (Bind (end 0 3) Receiver 0) (Bound (e 0 3)) ∷ did 1 (Notify (e 1 0) Flush) (Notified (Flushing 2)) ∷
    did 0 (Bind (end 0 4) Receiver 1) (Bound (e 0 4)) ∷ did 0 (Notify (e 0 4) (Query 0)) (No whys.WrongSide) ∷
    did 1 (Flow (token 0 3) (flows.Get 9 false)) (Flowed (tk 0 3) (flowed.Bytes (99 ∷ 211 ∷ 149 ∷ []))) ∷
    did 0 (Flow (token 0 2) flows.BeginPut) (Flowed (tk 0 2) (flowed.Space 3)) ∷ did 0 (Call (e 0 4) 0 (out_of 1 5 Request [] [])) (No whys.WrongSide) ∷
    did 0 (Take (e 0 4)) (Bad (bads.Message (record { kind = IllegalHandle; at = 0 })) (end 0 4 ∷ token 0 0 ∷ [])) ∷
    did 0 (Flow (token 0 1) (flows.Get 9 false)) (No whys.PeerClosed) ∷ did 1 (Call (e 1 0) 0 (out_of 1 2 Request [] [])) (No whys.Disconnected) ∷
    did 1 (Call (e 0 4) 0 (out_of 1 7 Request (token 0 2 ∷ []) [])) (No whys.Disconnected) ∷ did 0 (Take (e 0 2)) (No whys.Empty) ∷
    did 1 (Raw (token 0 2) (4294967295 ∷ 2 ∷ 0 ∷ 0 ∷ []) (end 0 1 ∷ [])) (No whys.NotPipe) ∷
    did 0 (Call (e 0 3) 0 (out_of 0 7 Request (end 0 1 ∷ []) [])) (No whys.WrongSide) ∷
    did 0 (Raw (token 0 1) (4294967295 ∷ 1 ∷ 2147483649 ∷ 0 ∷ []) []) (No whys.NotPipe) ∷ did 1 (Flow (token 0 3) flows.BeginGet) (No whys.Empty) ∷
    did 0 (Call (e 0 4) 0 (out_of 1 2 Request [] [])) (No whys.Disconnected) ∷ did 1 (Flow (token 0 3) (flows.Get 9 false)) (No whys.Empty) ∷
    did 0 (Associate (e 0 4) Remote 1) (No whys.Disconnected) ∷ did 0 (Take (e 0 2)) (No whys.Empty) ∷ did 0 (Take (e 0 3)) (No whys.Empty) ∷
    did 0 (Take (e 0 0)) (No whys.Empty) ∷ did 0 (Flow (token 0 1) (flows.Put (118 ∷ []) false)) (No whys.NotData) ∷ []

played_4 : replies row_4 ≡ tolds row_4
played_4 = refl

ready_4 : ready small (play [] (steps row_4)) ≡ None
ready_4 = refl

abbrev row_5 : List Row
row_5 =
    did 0 (Data 4) (Made (token 0 0 ∷ token 0 1 ∷ [])) ∷ did 0 Pipe (Made (end 0 0 ∷ end 0 1 ∷ [])) ∷ did 0 Pipe (Made (end 0 2 ∷ end 0 3 ∷ [])) ∷
    did 0 (Data 1) (Made (token 0 2 ∷ token 0 3 ∷ [])) ∷ did 0 Pipe (Made (end 0 4 ∷ end 0 5 ∷ [])) ∷ did 1 (Take (e 0 0)) (No whys.NoName) ∷
    did 0 (Bind (end 0 3) Remote 0) (Bound (e 0 3)) ∷ did 1 (Flow (token 0 0) flows.BeginPut) (Flowed (tk 0 0) (flowed.Space 4)) ∷
    did 0 (Bind (end 0 4) Remote 0) (Bound (e 0 4)) ∷ did 0 (Bind (end 0 0) Remote 1) (Bound (e 0 0)) ∷
    did 0 (Flow (token 0 0) (flows.EndPut [])) (Flowed (tk 0 0) (flowed.Put 0)) ∷ did 1 (Raw (end 0 1) (4294967295 ∷ 3 ∷ 1 ∷ 3 ∷ []) []) (Wrote (e 0 1)) ∷
    did 1 (Flow (token 0 2) (flows.Put (90 ∷ 40 ∷ []) false)) (Flowed (tk 0 2) (flowed.Put 1)) ∷
    did 0 (Flow (token 0 3) flows.BeginGet) (Flowed (tk 0 3) (flowed.View (90 ∷ []))) ∷ did 0 (Take (e 0 0)) (Bad (bads.Unasked 0) (end 0 0 ∷ [])) ∷
    did 1 (Flow (token 0 0) (flows.Put (75 ∷ 57 ∷ 193 ∷ []) false)) (Flowed (tk 0 0) (flowed.Put 3)) ∷ did 0 (Bind (end 0 2) Receiver 0) (Bound (e 0 2)) ∷
    did 0 (Bind (end 0 5) Receiver 0) (Bound (e 0 5)) ∷ did 1 (Call (e 0 4) 0 (out_of 0 9 Request [] [])) (No (whys.Elsewhere (on 0))) ∷
    did 0 (Take (e 0 3)) (No whys.Empty) ∷ did 1 (Raw (end 0 0) (4294967295 ∷ 5 ∷ 1 ∷ 0 ∷ []) []) (No whys.NoName) ∷
    did 0 (Call (e 0 3) 0 (out_of 0 2 Request [] [])) (Sent 0 (0 ∷ 0 ∷ 0 ∷ 2 ∷ [])) ∷ did 0 (Notify (e 0 4) (Query 0)) (Notified Asking) ∷
    did 0 (Take (e 0 2)) (Taken (got 0 0 2 0 [])) ∷ did 0 (Notify (e 0 2) Flush) (Notified (Flushing 1)) ∷
    did 0 (Flow (token 0 0) (flows.EndPut (149 ∷ []))) (No whys.Idle) ∷ did 1 (Flow (token 0 2) flows.BeginPut) (No whys.Full) ∷
    did 0 (Notify (e 0 5) (Query 0)) (No whys.WrongSide) ∷ did 0 (Call (e 0 5) 0 (out_of 0 9 Request [] [])) (No whys.WrongSide) ∷
    did 1 (Flow (token 0 1) (flows.Get 3 false)) (Flowed (tk 0 1) (flowed.Bytes (75 ∷ 57 ∷ 193 ∷ []))) ∷
    did 1 (Flow (token 0 2) (flows.Put (73 ∷ 84 ∷ []) false)) (No whys.Full) ∷ did 1 (Notify (e 0 4) (Query 1)) (No whys.NoName) ∷
    did 0 (Flow (token 0 1) flows.BeginGet) (No whys.Empty) ∷ did 0 (Flow (token 0 0) (flows.Put (250 ∷ 250 ∷ []) false)) (Flowed (tk 0 0) (flowed.Put 2)) ∷
    did 0 (Flow (token 0 1) flows.BeginGet) (Flowed (tk 0 1) (flowed.View (250 ∷ 250 ∷ []))) ∷
    did 1 (Flow (token 0 0) (flows.Put (55 ∷ 15 ∷ []) false)) (Flowed (tk 0 0) (flowed.Put 2)) ∷ did 1 (Flow (token 0 2) flows.BeginPut) (No whys.Full) ∷
    did 0 (Take (e 0 3)) (Control (noted.Flushed 1)) ∷ did 1 (Flow (token 0 3) (flows.EndGet 1)) (Flowed (tk 0 3) flowed.Ended) ∷
    did 0 (Flow (token 0 0) (flows.Put [] false)) (Flowed (tk 0 0) (flowed.Put 0)) ∷ []

played_5 : replies row_5 ≡ tolds row_5
played_5 = refl

ready_5 : ready small (play [] (steps row_5)) ≡ Some ((on 0), e 0 5)
ready_5 = refl

abbrev row_6 : List Row
row_6 =
    did 0 Pipe (Made (end 0 0 ∷ end 0 1 ∷ [])) ∷ did 0 Pipe (Made (end 0 2 ∷ end 0 3 ∷ [])) ∷ did 0 Pipe (Made (end 0 4 ∷ end 0 5 ∷ [])) ∷
    did 0 (Data 4) (Made (token 0 0 ∷ token 0 1 ∷ [])) ∷ did 0 (Data 1) (Made (token 0 2 ∷ token 0 3 ∷ [])) ∷
    did 0 (Flow (token 0 0) (flows.Put (45 ∷ 217 ∷ 171 ∷ 47 ∷ []) true)) (Flowed (tk 0 0) (flowed.Put 4)) ∷
    did 1 (Flow (token 0 2) (flows.Put (61 ∷ 45 ∷ 101 ∷ 59 ∷ []) false)) (Flowed (tk 0 2) (flowed.Put 1)) ∷ did 0 (Bind (end 0 1) Remote 0) (Bound (e 0 1)) ∷
    did 0 (Bind (end 0 3) Remote 1) (Bound (e 0 3)) ∷ did 0 (Flow (token 0 3) (flows.Get 9 false)) (Flowed (tk 0 3) (flowed.Bytes (61 ∷ []))) ∷
    did 1 (Flow (token 0 3) (flows.Get 9 false)) (No whys.Empty) ∷ did 0 (Notify (e 0 3) Flush) (Notified (Flushing 1)) ∷
    did 1 (Flow (token 0 3) (flows.Get 9 false)) (No whys.Empty) ∷ did 0 (Bind (end 0 5) Remote 0) (Bound (e 0 5)) ∷
    did 0 (Notify (e 0 3) (Require 0 2)) (Notified Requiring) ∷ did 0 (Take (e 0 5)) (No whys.Empty) ∷ did 0 (Bind (end 0 2) Remote 1) (Bound (e 0 2)) ∷
    did 1 (Flow (token 0 3) flows.BeginGet) (No whys.Empty) ∷ did 1 (Flow (token 0 3) flows.BeginGet) (No whys.Empty) ∷
    did 0 (Bind (end 0 4) Receiver 0) (Bound (e 0 4)) ∷ did 1 (Flow (token 0 0) flows.BeginPut) (No whys.Full) ∷ did 0 (Pause (e 0 5) (e 0 3) 1) Pausing ∷
    did 0 (Notify (e 0 5) (Query 0)) (Notified Asking) ∷ did 1 (Flow (token 0 2) (flows.Put [] false)) (Flowed (tk 0 2) (flowed.Put 0)) ∷
    did 0 (Call (e 0 2) 0 (out_of 1 5 Request [] [])) (No whys.WrongTokens) ∷
    did 0 (Flow (token 0 1) (flows.Get 2 true)) (Flowed (tk 0 1) (flowed.Bytes (45 ∷ 217 ∷ []))) ∷ did 0 (Pause (e 0 4) (e 0 3) 2) Pausing ∷
    did 1 (Flow (token 0 0) (flows.Put (55 ∷ 1 ∷ 82 ∷ 61 ∷ []) false)) (Flowed (tk 0 0) (flowed.Put 2)) ∷
    did 0 (Notify (e 0 4) Flush) (Notified (Flushing 1)) ∷ did 0 (Call (e 0 1) 0 (out_of 0 2 Request [] [])) (Sent 0 (0 ∷ 0 ∷ 0 ∷ 2 ∷ [])) ∷
    did 0 (Flow (token 0 1) (flows.Get 9 false)) (Flowed (tk 0 1) (flowed.Bytes (171 ∷ 47 ∷ 55 ∷ 1 ∷ []))) ∷
    did 0 (Notify (e 0 1) Flush) (Notified (Flushing 1)) ∷
    did 0 (Flow (token 0 2) (flows.Put (56 ∷ 69 ∷ 233 ∷ 100 ∷ []) false)) (Flowed (tk 0 2) (flowed.Put 1)) ∷
    did 0 (Flow (end 0 0) (flows.Put (172 ∷ 52 ∷ 191 ∷ []) true)) (No whys.NotData) ∷ did 0 (Take (e 0 2)) (Control (noted.Flushed 1)) ∷
    did 0 (Flow (token 0 1) (flows.Get 9 false)) (No whys.Empty) ∷ did 0 (Take (e 0 2)) (Control (noted.Required 0 2)) ∷
    did 1 (Flow (token 0 3) flows.BeginGet) (Flowed (tk 0 3) (flowed.View (56 ∷ []))) ∷ did 0 (Take (e 0 5)) (No (whys.Paused (e 0 3))) ∷
    did 1 (Flow (token 0 1) flows.BeginGet) (No whys.Empty) ∷ []

played_6 : replies row_6 ≡ tolds row_6
played_6 = refl

ready_6 : ready small (play [] (steps row_6)) ≡ None
ready_6 = refl

abbrev row_7 : List Row
row_7 =
    did 0 Pipe (Made (end 0 0 ∷ end 0 1 ∷ [])) ∷ did 0 Pipe (Made (end 0 2 ∷ end 0 3 ∷ [])) ∷ did 0 (Join (on 1)) (Made (end 0 4 ∷ end 1 0 ∷ [])) ∷
    did 0 Pipe (Made (end 0 5 ∷ end 0 6 ∷ [])) ∷ did 0 Pipe (Made (end 0 7 ∷ end 0 8 ∷ [])) ∷ did 0 (Bind (end 0 8) Remote 0) (Bound (e 0 8)) ∷
    did 0 (Data 70000) (No (whys.BadSize 70000)) ∷ did 0 (Bind (end 0 3) Remote 0) (Bound (e 0 3)) ∷ did 0 (Bind (end 0 1) Remote 0) (Bound (e 0 1)) ∷
    did 0 (Data 0) (No (whys.BadSize 0)) ∷ did 0 (Data 0) (No (whys.BadSize 0)) ∷ did 0 (Take (e 0 3)) (No whys.Empty) ∷
    did 0 (Data 2) (Made (token 0 0 ∷ token 0 1 ∷ [])) ∷ did 0 (Flow (token 0 1) (flows.Get 9 false)) (No whys.Empty) ∷
    did 0 (Pause (e 0 3) (e 0 8) 1) Pausing ∷ did 0 (Pause (e 0 1) (e 0 1) 1) (No whys.SelfPause) ∷ did 1 (Take (e 0 6)) (No whys.NoName) ∷
    did 0 (Flow (token 0 0) flows.BeginPut) (Flowed (tk 0 0) (flowed.Space 2)) ∷ did 0 (Bind (end 0 2) Receiver 0) (Bound (e 0 2)) ∷
    did 1 (Pause (e 0 8) (e 0 1) 1) (No (whys.Elsewhere (on 0))) ∷ did 0 (Bind (end 0 6) Remote 0) (Bound (e 0 6)) ∷
    did 0 (Notify (e 0 1) Flush) (Notified (Flushing 1)) ∷ did 1 (Flow (token 0 0) (flows.EndPut (52 ∷ []))) (Flowed (tk 0 0) (flowed.Put 1)) ∷
    did 0 (Notify (e 0 3) Flush) (Notified (Flushing 1)) ∷ did 0 (Call (e 0 8) 0 (out_of 0 2 Request [] [])) (Sent 0 (0 ∷ 0 ∷ 0 ∷ 2 ∷ [])) ∷
    did 0 (Notify (e 0 2) (Query 0)) (No whys.WrongSide) ∷ did 0 (Flow (token 0 1) (flows.EndGet 3)) (No whys.Idle) ∷
    did 1 (Flow (token 0 1) (flows.Get 9 false)) (Flowed (tk 0 1) (flowed.Bytes (52 ∷ []))) ∷
    did 0 (Flow (token 0 0) flows.BeginPut) (Flowed (tk 0 0) (flowed.Space 2)) ∷
    did 1 (Flow (token 0 0) (flows.EndPut (166 ∷ 102 ∷ 141 ∷ []))) (No whys.TooLong) ∷
    did 0 (Flow (token 0 0) (flows.EndPut (239 ∷ []))) (Flowed (tk 0 0) (flowed.Put 1)) ∷ did 0 (Notify (e 0 6) Flush) (Notified (Flushing 1)) ∷
    did 1 (Raw (token 0 1) (4294967295 ∷ 3 ∷ 0 ∷ 3 ∷ []) (token 0 1 ∷ [])) (No whys.NoName) ∷ did 0 (Notify (e 0 3) (Query 0)) (Notified Asking) ∷
    did 1 (Raw (end 0 5) (4294967295 ∷ 3 ∷ 0 ∷ 3 ∷ []) (token 0 0 ∷ [])) (Wrote (e 0 5)) ∷ did 0 (Notify (e 0 2) (Require 0 2)) (No whys.WrongSide) ∷
    did 0 (Take (e 0 2)) (Control (noted.Flushed 1)) ∷ did 0 (Flow (token 0 1) (flows.Get 1 false)) (Flowed (tk 0 1) (flowed.Bytes (239 ∷ []))) ∷
    did 0 (Notify (e 0 1) (Query 0)) (Notified Asking) ∷ did 0 (Take (e 0 2)) (Control (noted.Queried 0 (Some 1))) ∷ []

played_7 : replies row_7 ≡ tolds row_7
played_7 = refl

ready_7 : ready small (play [] (steps row_7)) ≡ Some ((on 0), e 0 6)
ready_7 = refl

abbrev row_8 : List Row
row_8 =
    did 0 (Join (on 1)) (Made (end 0 0 ∷ end 1 0 ∷ [])) ∷ did 0 Pipe (Made (end 0 1 ∷ end 0 2 ∷ [])) ∷ did 0 (Join (on 1)) (Made (end 0 3 ∷ end 1 1 ∷ [])) ∷
    did 0 Pipe (Made (end 0 4 ∷ end 0 5 ∷ [])) ∷ did 0 Pipe (Made (end 0 6 ∷ end 0 7 ∷ [])) ∷ did 1 (Notify (e 0 4) (Require 0 0)) (No whys.NoName) ∷
    did 1 (Take (e 0 5)) (No whys.NoName) ∷ did 1 (Call (e 1 0) 0 (out_of 0 7 Request (end 0 0 ∷ []) [])) (No whys.NoName) ∷
    did 1 (Bind (end 1 0) Remote 0) (Bound (e 1 0)) ∷ did 0 (Bind (end 0 1) Remote 0) (Bound (e 0 1)) ∷ did 0 (Bind (end 0 7) Remote 1) (Bound (e 0 7)) ∷
    did 0 (Raw (end 0 3) (4294967295 ∷ 4 ∷ 0 ∷ 2 ∷ []) []) (Wrote (e 0 3)) ∷ did 0 (Bind (end 0 6) Receiver 1) (Bound (e 0 6)) ∷
    did 0 (Bind (end 0 0) Receiver 0) (Bound (e 0 0)) ∷ did 0 (Data 70000) (No (whys.BadSize 70000)) ∷ did 0 (Take (e 0 0)) (No whys.Empty) ∷
    did 0 (Data 70000) (No (whys.BadSize 70000)) ∷ did 0 (Data 70000) (No (whys.BadSize 70000)) ∷ did 0 (Data 70000) (No (whys.BadSize 70000)) ∷
    did 0 (Data 0) (No (whys.BadSize 0)) ∷ did 0 (Data 0) (No (whys.BadSize 0)) ∷ did 1 (Close (closings.Endpoint (e 1 0) 0)) (Closed (end 1 0 ∷ [])) ∷
    did 0 (Raw (end 0 5) (4294967295 ∷ 1 ∷ 2147483649 ∷ 0 ∷ []) (end 0 4 ∷ [])) (No whys.SelfSend) ∷ did 0 (Data 2) (Made (token 0 0 ∷ token 0 1 ∷ [])) ∷
    did 0 (Take (e 0 0)) (No whys.PeerClosed) ∷ did 0 (Raw (end 0 2) (4294967295 ∷ 3 ∷ 1 ∷ 3 ∷ []) (token 0 0 ∷ [])) (Wrote (e 0 2)) ∷
    did 0 (Notify (e 0 6) Flush) (Notified (Flushing 1)) ∷ did 0 (Flow (end 1 1) (flows.Put (164 ∷ 154 ∷ []) false)) (No whys.NotData) ∷
    did 0 (Take (e 0 1)) (Bad (bads.Message (record { kind = IllegalHandle; at = 0 })) (end 0 1 ∷ token 0 0 ∷ [])) ∷
    did 0 (Take (e 0 7)) (Control (noted.Flushed 1)) ∷ did 1 (Raw (token 0 0) (4294967295 ∷ 1 ∷ 2147483649 ∷ 0 ∷ []) []) (No whys.NoName) ∷
    did 1 (Call (e 1 0) 0 (out_of 0 2 Request [] [])) (No whys.Disconnected) ∷ did 0 (Pause (e 0 7) (e 0 0) 1) Pausing ∷
    did 1 (Flow (end 0 2) (flows.Put (47 ∷ 64 ∷ 183 ∷ 33 ∷ []) true)) (No whys.NotData) ∷ did 0 (Associate (e 0 1) Remote 1) (No whys.Disconnected) ∷
    did 1 (Call (e 1 0) 0 (out_of 0 2 Request [] [])) (No whys.Disconnected) ∷ did 1 (Flow (end 0 3) flows.BeginPut) (No whys.NotData) ∷
    did 0 (Notify (e 0 7) (Require 0 1)) (Notified Requiring) ∷ did 0 (Flow (end 0 2) flows.BeginPut) (No whys.NotData) ∷
    did 0 (Pause (e 0 6) (e 0 0) 1) Pausing ∷ []

played_8 : replies row_8 ≡ tolds row_8
played_8 = refl

ready_8 : ready small (play [] (steps row_8)) ≡ None
ready_8 = refl

abbrev row_9 : List Row
row_9 =
    did 0 (Data 3) (Made (token 0 0 ∷ token 0 1 ∷ [])) ∷ did 0 Pipe (Made (end 0 0 ∷ end 0 1 ∷ [])) ∷ did 0 Pipe (Made (end 0 2 ∷ end 0 3 ∷ [])) ∷
    did 0 Pipe (Made (end 0 4 ∷ end 0 5 ∷ [])) ∷ did 0 Pipe (Made (end 0 6 ∷ end 0 7 ∷ [])) ∷ did 0 (Take (e 0 2)) (No whys.NoName) ∷
    did 0 (Bind (end 0 1) Remote 1) (Bound (e 0 1)) ∷ did 0 (Call (e 0 1) 0 (out_of 1 2 Request [] [])) (Sent 0 (0 ∷ 0 ∷ 0 ∷ 2 ∷ [])) ∷
    did 0 (Flow (token 0 0) flows.BeginPut) (Flowed (tk 0 0) (flowed.Space 3)) ∷ did 0 (Bind (end 0 0) Receiver 0) (Bound (e 0 0)) ∷
    did 0 (Flow (token 0 1) (flows.Get 0 false)) (Flowed (tk 0 1) (flowed.Bytes [])) ∷ did 0 (Bind (end 0 6) Remote 0) (Bound (e 0 6)) ∷
    did 0 (Take (e 0 0)) (Taken (got 0 0 2 0 [])) ∷ did 0 (Flow (token 0 0) (flows.EndPut (52 ∷ 28 ∷ []))) (Flowed (tk 0 0) (flowed.Put 2)) ∷
    did 0 (Take (e 0 6)) (No whys.Empty) ∷ did 0 (Bind (end 0 4) Remote 0) (Bound (e 0 4)) ∷ did 0 (Bind (end 0 2) Remote 0) (Bound (e 0 2)) ∷
    did 1 (Notify (e 0 0) (Query 1)) (No whys.NoName) ∷ did 1 (Flow (token 0 0) (flows.Put (113 ∷ []) false)) (Flowed (tk 0 0) (flowed.Put 1)) ∷
    did 1 (Flow (token 0 0) (flows.Put [] true)) (Flowed (tk 0 0) (flowed.Put 0)) ∷
    did 0 (Flow (token 0 0) (flows.Put (76 ∷ 197 ∷ 244 ∷ 70 ∷ []) true)) (No whys.Full) ∷ did 0 (Pause (e 0 2) (e 0 0) 1) Pausing ∷
    did 1 (Notify (e 0 2) (Query 0)) (No (whys.Elsewhere (on 0))) ∷ did 0 (Notify (e 0 1) (Query 0)) (Notified Asking) ∷
    did 1 (Flow (token 0 1) (flows.Get 3 false)) (Flowed (tk 0 1) (flowed.Bytes (52 ∷ 28 ∷ 113 ∷ []))) ∷
    did 0 (Flow (token 0 1) flows.BeginGet) (No whys.Empty) ∷ did 0 (Call (e 0 6) 0 (out_of 0 7 Request (end 0 7 ∷ []) [])) (No whys.SelfSend) ∷
    did 0 (Notify (e 0 4) (Require 0 1)) (Notified Requiring) ∷ did 0 (Call (e 0 1) 0 (out_of 1 7 Request (token 0 0 ∷ []) [])) (Sent 0 (0 ∷ 0 ∷ 0 ∷ 7 ∷ [])) ∷
    did 0 (Take (e 0 0)) (Control (noted.Queried 0 (Some 1))) ∷ did 0 (Flow (token 0 1) (flows.Put (218 ∷ 47 ∷ 139 ∷ 145 ∷ []) false)) (No whys.NotData) ∷
    did 0 (Notify (e 0 6) (Query 0)) (Notified Asking) ∷ did 0 (Associate (e 0 0) Receiver 1) (Associated (half 0 0 1)) ∷
    did 0 (Close (closings.Handle (token 0 1))) (Closed (token 0 1 ∷ [])) ∷ did 0 (Close (closings.Handle (end 0 7))) (Closed (end 0 7 ∷ [])) ∷
    did 0 (Notify (e 0 0) Flush) (Notified (Flushing 1)) ∷ did 0 (Take (e 0 0)) (Taken (got 0 0 7 0 (token 0 0 ∷ []))) ∷
    did 0 (Take (e 0 1)) (Control (noted.Version 0 1)) ∷ did 1 (Flow (token 0 0) flows.BeginPut) (No whys.Disconnected) ∷
    did 0 (Flow (token 0 0) (flows.Get 2 false)) (No whys.NotData) ∷ []

played_9 : replies row_9 ≡ tolds row_9
played_9 = refl

ready_9 : ready small (play [] (steps row_9)) ≡ Some ((on 0), e 0 1)
ready_9 = refl

abbrev row_10 : List Row
row_10 =
    did 0 Pipe (Made (end 0 0 ∷ end 0 1 ∷ [])) ∷ did 0 Pipe (Made (end 0 2 ∷ end 0 3 ∷ [])) ∷ did 0 (Join (on 1)) (Made (end 0 4 ∷ end 1 0 ∷ [])) ∷
    did 0 (Data 3) (Made (token 0 0 ∷ token 0 1 ∷ [])) ∷ did 0 (Data 4) (Made (token 0 2 ∷ token 0 3 ∷ [])) ∷ did 0 (Bind (end 0 1) Remote 1) (Bound (e 0 1)) ∷
    did 1 (Flow (token 0 0) (flows.EndPut [])) (No whys.Idle) ∷ did 0 (Flow (token 0 3) (flows.Get 0 true)) (Flowed (tk 0 3) (flowed.Bytes [])) ∷
    did 0 (Take (e 0 1)) (No whys.Empty) ∷ did 0 (Bind (end 0 4) Remote 1) (Bound (e 0 4)) ∷ did 1 (Flow (token 0 1) (flows.Get 2 true)) (No whys.Empty) ∷
    did 1 (Bind (end 1 0) Receiver 1) (Bound (e 1 0)) ∷ did 1 (Notify (e 1 0) Flush) (Notified (Flushing 1)) ∷ did 0 (Bind (end 0 3) Remote 1) (Bound (e 0 3)) ∷
    did 0 (Bind (end 0 2) Receiver 1) (Bound (e 0 2)) ∷ did 0 (Flow (token 0 0) (flows.Put (184 ∷ []) false)) (Flowed (tk 0 0) (flowed.Put 1)) ∷
    did 1 (Flow (token 0 3) flows.BeginGet) (No whys.Empty) ∷ did 0 (Call (e 0 1) 0 (out_of 1 5 Request [] [])) (No whys.WrongTokens) ∷
    did 1 (Flow (token 0 3) flows.BeginGet) (No whys.Empty) ∷ did 0 (Take (e 0 4)) (Control (noted.Flushed 1)) ∷
    did 0 (Flow (token 0 3) (flows.Get 2 false)) (No whys.Empty) ∷ did 0 (Flow (token 0 0) flows.BeginPut) (Flowed (tk 0 0) (flowed.Space 2)) ∷
    did 1 (Flow (token 0 2) (flows.Put (83 ∷ 86 ∷ 207 ∷ []) false)) (Flowed (tk 0 2) (flowed.Put 3)) ∷
    did 0 (Associate (e 0 4) Remote 1) (Associated (half 0 4 2147483649)) ∷ did 1 (Notify (e 1 0) (Require 0 3)) (No whys.WrongSide) ∷
    did 1 (Flow (token 0 2) flows.BeginPut) (Flowed (tk 0 2) (flowed.Space 1)) ∷
    did 1 (Flow (token 0 1) (flows.Get 9 false)) (Flowed (tk 0 1) (flowed.Bytes (184 ∷ []))) ∷ did 1 (Flow (token 0 1) (flows.Get 1 true)) (No whys.Empty) ∷
    did 0 (Flow (end 0 0) (flows.Get 2 true)) (No whys.NotData) ∷ did 1 (Notify (e 1 0) (Query 0)) (No whys.WrongSide) ∷
    did 1 (Flow (token 0 1) (flows.Get 9 false)) (No whys.Empty) ∷ did 0 (Pause (e 0 4) (e 0 2) 1) Pausing ∷ did 0 (Take (e 0 4)) (No (whys.Paused (e 0 2))) ∷
    did 0 (Pause (e 0 1) (e 1 0) 1) (No (whys.Elsewhere (on 1))) ∷ did 0 (Raw (token 0 2) (4294967295 ∷ 4 ∷ 0 ∷ 2 ∷ []) []) (No whys.NotPipe) ∷
    did 0 (Call (e 0 2) 0 (out_of 1 7 Request (token 0 0 ∷ []) [])) (No whys.WrongSide) ∷ did 1 (Take (e 1 0)) (No whys.Empty) ∷
    did 0 (Take (e 0 2)) (No whys.Empty) ∷ did 0 (Take (e 0 2)) (No whys.Empty) ∷ did 0 (Take (e 0 1)) (No whys.Empty) ∷ []

played_10 : replies row_10 ≡ tolds row_10
played_10 = refl

ready_10 : ready small (play [] (steps row_10)) ≡ None
ready_10 = refl

abbrev row_11 : List Row
row_11 =
    did 0 Pipe (Made (end 0 0 ∷ end 0 1 ∷ [])) ∷ did 0 (Join (on 1)) (Made (end 0 2 ∷ end 1 0 ∷ [])) ∷ did 0 Pipe (Made (end 0 3 ∷ end 0 4 ∷ [])) ∷
    did 0 Pipe (Made (end 0 5 ∷ end 0 6 ∷ [])) ∷ did 0 Pipe (Made (end 0 7 ∷ end 0 8 ∷ [])) ∷
    did 0 (Raw (end 0 1) (4294967295 ∷ 1 ∷ 2147483649 ∷ 0 ∷ []) (end 1 0 ∷ [])) (Wrote (e 0 1)) ∷ did 0 (Associate (e 0 4) Receiver 1) (No whys.NoName) ∷
    did 1 (Pause (e 0 7) (e 0 1) 1) (No whys.NoName) ∷ did 0 (Take (e 0 0)) (No whys.NoName) ∷
    did 0 (Raw (end 0 6) (4294967295 ∷ 2 ∷ 0 ∷ 0 ∷ []) []) (Wrote (e 0 6)) ∷ did 0 (Data 5) (Made (token 0 0 ∷ token 0 1 ∷ [])) ∷
    did 0 (Bind (end 0 4) Remote 1) (Bound (e 0 4)) ∷ did 0 (Bind (end 0 3) Receiver 1) (Bound (e 0 3)) ∷ did 0 (Pause (e 0 3) (e 0 4) 1) Pausing ∷
    did 0 (Bind (end 0 8) Remote 0) (Bound (e 0 8)) ∷ did 1 (Bind (end 0 5) Remote 1) (Bound (e 0 5)) ∷ did 0 (Bind (end 0 0) Remote 0) (Bound (e 0 0)) ∷
    did 0 (Notify (e 0 8) (Require 0 1)) (Notified Requiring) ∷ did 1 (Flow (token 0 0) flows.BeginPut) (Flowed (tk 0 0) (flowed.Space 5)) ∷
    did 0 (Pause (e 0 8) (e 0 4) 1) Pausing ∷ did 1 (Flow (end 0 7) (flows.EndGet 0)) (No whys.NotData) ∷
    did 0 (Take (e 0 0)) (Bad (bads.Message (record { kind = IllegalHandle; at = 0 })) (end 0 0 ∷ end 1 0 ∷ [])) ∷
    did 1 (Take (e 0 5)) (Control (noted.Queried 0 None)) ∷ did 0 (Take (e 0 0)) (No whys.Disconnected) ∷
    did 1 (Flow (token 0 0) (flows.EndPut (167 ∷ []))) (Flowed (tk 0 0) (flowed.Put 1)) ∷ did 1 (Take (e 0 0)) (No whys.Disconnected) ∷
    did 1 (Flow (token 0 1) (flows.Get 9 false)) (Flowed (tk 0 1) (flowed.Bytes (167 ∷ []))) ∷
    did 0 (Raw (token 0 1) (4294967295 ∷ 3 ∷ 0 ∷ 3 ∷ []) []) (No whys.NotPipe) ∷ did 0 (Take (e 0 3)) (No (whys.Paused (e 0 4))) ∷
    did 0 (Flow (token 0 1) (flows.Get 3 false)) (No whys.Empty) ∷ did 1 (Call (e 0 5) 0 (out_of 1 2 Request [] [])) (Sent 0 (0 ∷ 0 ∷ 0 ∷ 2 ∷ [])) ∷
    did 1 (Associate (e 0 0) Receiver 1) (No whys.Disconnected) ∷ did 0 (Pause (e 0 0) (e 0 0) 1) (No whys.Disconnected) ∷
    did 0 (Flow (token 0 0) (flows.Put (254 ∷ 102 ∷ 210 ∷ 58 ∷ []) false)) (Flowed (tk 0 0) (flowed.Put 4)) ∷
    did 0 (Flow (token 0 0) (flows.Put (81 ∷ 104 ∷ 111 ∷ []) false)) (Flowed (tk 0 0) (flowed.Put 1)) ∷
    did 0 (Notify (e 0 3) (Require 0 1)) (No whys.WrongSide) ∷ did 1 (Flow (token 0 0) (flows.Put (215 ∷ 64 ∷ 102 ∷ []) false)) (No whys.Full) ∷
    did 0 (Notify (e 0 3) (Query 0)) (No whys.WrongSide) ∷ did 0 (Take (e 0 3)) (No (whys.Paused (e 0 4))) ∷
    did 0 (Flow (token 0 0) (flows.Put (181 ∷ 220 ∷ 107 ∷ []) false)) (No whys.Full) ∷ []

played_11 : replies row_11 ≡ tolds row_11
played_11 = refl

ready_11 : ready small (play [] (steps row_11)) ≡ None
ready_11 = refl

abbrev row_12 : List Row
row_12 =
    did 0 (Data 4) (Made (token 0 0 ∷ token 0 1 ∷ [])) ∷ did 0 (Data 1) (Made (token 0 2 ∷ token 0 3 ∷ [])) ∷ did 0 Pipe (Made (end 0 0 ∷ end 0 1 ∷ [])) ∷
    did 0 (Join (on 1)) (Made (end 0 2 ∷ end 1 0 ∷ [])) ∷ did 0 (Join (on 1)) (Made (end 0 3 ∷ end 1 1 ∷ [])) ∷ did 0 (Take (e 0 2)) (No whys.NoName) ∷
    did 1 (Flow (token 0 0) flows.BeginPut) (Flowed (tk 0 0) (flowed.Space 4)) ∷ did 0 (Bind (end 0 2) Remote 1) (Bound (e 0 2)) ∷
    did 0 (Call (e 0 2) 0 (out_of 1 7 Request (end 1 0 ∷ []) [])) (No whys.SelfSend) ∷ did 0 (Take (e 0 2)) (No whys.Empty) ∷
    did 1 (Bind (end 1 0) Receiver 1) (Bound (e 1 0)) ∷ did 1 (Bind (end 0 0) Remote 0) (Bound (e 0 0)) ∷
    did 0 (Flow (token 0 3) flows.BeginGet) (No whys.Empty) ∷ did 0 (Bind (end 0 1) Receiver 0) (Bound (e 0 1)) ∷
    did 1 (Bind (end 1 1) Remote 0) (Bound (e 1 1)) ∷ did 1 (Call (e 0 0) 0 (out_of 0 9 Request [] [])) (Sent 1 (0 ∷ 1 ∷ 0 ∷ 9 ∷ [])) ∷
    did 1 (Notify (e 1 0) (Require 0 0)) (No whys.WrongSide) ∷ did 1 (Call (e 0 3) 0 (out_of 0 5 Request [] [])) (No whys.NoName) ∷
    did 1 (Flow (token 0 2) (flows.Put [] false)) (Flowed (tk 0 2) (flowed.Put 0)) ∷ did 0 (Notify (e 0 1) (Query 0)) (No whys.WrongSide) ∷
    did 0 (Take (e 0 1)) (Taken (got 0 0 9 1 [])) ∷ did 0 (Flow (token 0 1) (flows.Get 3 false)) (No whys.Empty) ∷
    did 1 (Pause (e 0 0) (e 0 2) 1) (No (whys.Elsewhere (on 0))) ∷ did 0 (Take (e 0 2)) (No whys.Empty) ∷
    did 1 (Flow (token 0 3) (flows.Get 3 false)) (No whys.Empty) ∷ did 0 (Take (e 0 1)) (No whys.Empty) ∷
    did 1 (Call (e 0 0) 0 (out_of 0 5 Request [] [])) (No whys.WrongTokens) ∷ did 1 (Close (closings.Handle (token 0 0))) (Closed (token 0 0 ∷ [])) ∷
    did 0 (Associate (e 0 1) Receiver 1) (Associated (half 0 1 1)) ∷ did 1 (Take (e 0 2)) (No whys.Empty) ∷
    did 1 (Flow (token 0 2) flows.BeginPut) (Flowed (tk 0 2) (flowed.Space 1)) ∷
    did 0 (Call (e 0 2) 0 (out_of 1 2 Request [] [])) (Sent 0 (0 ∷ 0 ∷ 0 ∷ 2 ∷ [])) ∷
    did 0 (Call (e 0 2) 0 (out_of 1 7 Request (token 0 1 ∷ []) [])) (Sent 0 (0 ∷ 0 ∷ 0 ∷ 7 ∷ [])) ∷ did 1 (Take (e 1 0)) (Taken (got 0 1 2 0 [])) ∷
    did 0 (Notify (e 0 3) (Require 1 3)) (No whys.NoName) ∷ did 1 (Notify (e 1 1) Flush) (Notified (Flushing 1)) ∷
    did 1 (Take (e 1 0)) (Taken (got 0 1 7 0 (token 0 1 ∷ []))) ∷ did 1 (Flow (token 0 2) flows.BeginPut) (No (whys.Busy (tk 0 2))) ∷
    did 1 (Attach (half 0 1 1) (on 1)) (No (whys.WrongPipe 1)) ∷ did 0 (Call (e 0 1) 1 (out_of 1 2 Request [] [])) (No whys.WrongSide) ∷ []

played_12 : replies row_12 ≡ tolds row_12
played_12 = refl

ready_12 : ready small (play [] (steps row_12)) ≡ None
ready_12 = refl

abbrev row_13 : List Row
row_13 =
    did 0 (Join (on 1)) (Made (end 0 0 ∷ end 1 0 ∷ [])) ∷ did 0 (Join (on 1)) (Made (end 0 1 ∷ end 1 1 ∷ [])) ∷
    did 0 (Join (on 1)) (Made (end 0 2 ∷ end 1 2 ∷ [])) ∷ did 0 (Join (on 1)) (Made (end 0 3 ∷ end 1 3 ∷ [])) ∷ did 0 Pipe (Made (end 0 4 ∷ end 0 5 ∷ [])) ∷
    did 0 (Bind (end 0 5) Receiver 0) (Bound (e 0 5)) ∷ did 0 (Notify (e 0 5) Flush) (Notified (Flushing 1)) ∷
    did 0 (Call (e 0 5) 0 (out_of 0 5 Request [] [])) (No whys.WrongSide) ∷ did 0 (Pause (e 0 5) (e 0 5) 1) (No whys.SelfPause) ∷
    did 0 (Data 5) (Made (token 0 0 ∷ token 0 1 ∷ [])) ∷ did 1 (Flow (token 0 1) flows.BeginGet) (No whys.Empty) ∷
    did 1 (Bind (end 0 3) Remote 1) (Bound (e 0 3)) ∷ did 0 (Bind (end 1 2) Remote 0) (Bound (e 1 2)) ∷
    did 0 (Flow (token 0 1) (flows.Get 3 false)) (No whys.Empty) ∷ did 1 (Raw (end 0 0) (4294967295 ∷ 5 ∷ 1 ∷ 0 ∷ []) (token 0 0 ∷ [])) (Wrote (e 0 0)) ∷
    did 0 (Take (e 1 2)) (No whys.Empty) ∷ did 0 (Bind (end 0 2) Receiver 0) (Bound (e 0 2)) ∷
    did 0 (Call (e 0 5) 0 (out_of 0 7 Request (end 0 1 ∷ []) [])) (No whys.WrongSide) ∷
    did 0 (Flow (end 0 0) (flows.Put (97 ∷ 230 ∷ []) false)) (No whys.NotData) ∷
    did 1 (Flow (end 1 3) (flows.Put (222 ∷ 22 ∷ 179 ∷ []) false)) (No whys.NotData) ∷ did 0 (Take (e 0 2)) (No whys.Empty) ∷
    did 0 (Flow (token 0 0) (flows.Put [] false)) (No whys.NoName) ∷ did 1 (Associate (e 0 3) Receiver 1) (Associated (half 0 3 2147483649)) ∷
    did 0 (Bind (end 0 0) Remote 0) (Bound (e 0 0)) ∷ did 1 (Notify (e 0 3) (Query 2147483649)) (No whys.WrongSide) ∷ did 1 (Take (e 0 3)) (No whys.Empty) ∷
    did 1 (Close (closings.Handle (token 0 1))) (Closed (token 0 1 ∷ [])) ∷ did 0 (Notify (e 0 5) (Query 0)) (No whys.WrongSide) ∷
    did 0 (Data 2) (Made (token 0 2 ∷ token 0 3 ∷ [])) ∷ did 0 (Notify (e 0 5) (Require 0 0)) (No whys.WrongSide) ∷
    did 1 (Pause (e 0 3) (e 0 5) 2) (No (whys.Elsewhere (on 0))) ∷ did 0 (Flow (token 0 2) (flows.Put (39 ∷ 244 ∷ 212 ∷ []) true)) (No (whys.Short 2)) ∷
    did 1 (Flow (token 0 2) (flows.EndPut (26 ∷ 89 ∷ 46 ∷ 218 ∷ []))) (No whys.Idle) ∷
    did 0 (Flow (token 0 2) flows.BeginPut) (Flowed (tk 0 2) (flowed.Space 2)) ∷ did 0 (Take (e 0 0)) (No whys.Empty) ∷ did 0 (Take (e 1 2)) (No whys.Empty) ∷
    did 0 (Flow (token 0 3) (flows.Get 9 false)) (No whys.Empty) ∷ did 1 (Take (e 0 3)) (No whys.Empty) ∷ did 0 (Take (e 0 2)) (No whys.Empty) ∷
    did 0 (Take (e 0 2)) (No whys.Empty) ∷ []

played_13 : replies row_13 ≡ tolds row_13
played_13 = refl

ready_13 : ready small (play [] (steps row_13)) ≡ None
ready_13 = refl

abbrev row_14 : List Row
row_14 =
    did 0 (Join (on 1)) (Made (end 0 0 ∷ end 1 0 ∷ [])) ∷ did 0 (Data 3) (Made (token 0 0 ∷ token 0 1 ∷ [])) ∷ did 0 Pipe (Made (end 0 1 ∷ end 0 2 ∷ [])) ∷
    did 0 Pipe (Made (end 0 3 ∷ end 0 4 ∷ [])) ∷ did 0 (Data 1) (Made (token 0 2 ∷ token 0 3 ∷ [])) ∷ did 0 (Bind (end 0 1) Remote 1) (Bound (e 0 1)) ∷
    did 0 (Take (e 0 1)) (No whys.Empty) ∷ did 1 (Bind (end 0 2) Receiver 1) (Bound (e 0 2)) ∷
    did 0 (Call (e 0 1) 0 (out_of 1 5 Request [] [])) (No whys.WrongTokens) ∷ did 0 (Bind (end 0 0) Remote 1) (Bound (e 0 0)) ∷
    did 0 (Bind (end 0 3) Remote 1) (Bound (e 0 3)) ∷ did 1 (Flow (token 0 1) (flows.Get 3 false)) (No whys.Empty) ∷
    did 0 (Bind (end 0 4) Receiver 1) (Bound (e 0 4)) ∷ did 1 (Flow (token 0 1) (flows.Get 9 false)) (No whys.Empty) ∷
    did 1 (Notify (e 0 2) Flush) (Notified (Flushing 1)) ∷ did 0 (Notify (e 0 0) (Query 0)) (Notified Asking) ∷
    did 0 (Take (e 0 1)) (Control (noted.Flushed 1)) ∷ did 1 (Flow (token 0 2) (flows.Put (101 ∷ 187 ∷ 251 ∷ 196 ∷ []) true)) (No (whys.Short 1)) ∷
    did 0 (Flow (token 0 3) flows.BeginGet) (No whys.Empty) ∷ did 0 (Flow (token 0 2) (flows.Put [] false)) (Flowed (tk 0 2) (flowed.Put 0)) ∷
    did 0 (Close (closings.Endpoint (e 0 1) 0)) (Closed (end 0 1 ∷ [])) ∷ did 0 (Take (e 0 4)) (No whys.Empty) ∷
    did 1 (Flow (token 0 1) flows.BeginGet) (No whys.Empty) ∷ did 1 (Flow (token 0 2) flows.BeginPut) (Flowed (tk 0 2) (flowed.Space 1)) ∷
    did 0 (Pause (e 0 4) (e 1 0) 1) (No whys.NoName) ∷ did 0 (Call (e 0 0) 0 (out_of 1 9 Request [] [])) (Sent 1 (0 ∷ 1 ∷ 0 ∷ 9 ∷ [])) ∷
    did 0 (Call (e 0 1) 0 (out_of 1 2 Request [] [])) (No whys.Disconnected) ∷ did 0 (Take (e 0 0)) (No whys.Empty) ∷
    did 1 (Flow (token 0 2) (flows.EndPut (156 ∷ []))) (Flowed (tk 0 2) (flowed.Put 1)) ∷
    did 1 (Raw (token 0 1) (4294967295 ∷ 1 ∷ 2147483649 ∷ 0 ∷ []) (token 0 3 ∷ [])) (No whys.NotPipe) ∷
    did 1 (Flow (token 0 2) (flows.Put (139 ∷ 87 ∷ []) true)) (No whys.Full) ∷ did 1 (Flow (end 1 0) (flows.Put [] false)) (No whys.NotData) ∷
    did 0 (Notify (e 0 4) (Query 0)) (No whys.WrongSide) ∷ did 0 (Take (e 0 0)) (No whys.Empty) ∷
    did 1 (Flow (token 0 2) (flows.Put [] false)) (Flowed (tk 0 2) (flowed.Put 0)) ∷
    did 0 (Flow (token 0 3) (flows.Get 9 false)) (Flowed (tk 0 3) (flowed.Bytes (156 ∷ []))) ∷ did 0 (Notify (e 0 3) (Require 0 2)) (Notified Requiring) ∷
    did 1 (Notify (e 0 2) (Require 0 2)) (No whys.WrongSide) ∷ did 1 (Flow (token 0 3) (flows.Get 3 false)) (No whys.Empty) ∷
    did 0 (Associate (e 0 1) Receiver 1) (No whys.Disconnected) ∷ []

played_14 : replies row_14 ≡ tolds row_14
played_14 = refl

ready_14 : ready small (play [] (steps row_14)) ≡ Some ((on 0), e 0 4)
ready_14 = refl
