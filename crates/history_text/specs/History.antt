-- The text of a history: a line for each event, then one for each callback, then one for each thing that is left, and last how many events there were.
use Rattle.std.specs.Fmt.{signed_decimal}
use Rattle.handle_table.specs.declared.thing.TokenId.{TokenId}
use Rattle.bind_model.specs.declared.asked.Notice.{Notice}
use Rattle.bind_model.specs.declared.asked.Notice.TheVariants as notices
use Rattle.bind_model.specs.declared.flow.Flow.{Flow}
use Rattle.bind_model.specs.declared.flow.Flow.TheVariants as flows
use Rattle.bind_model.specs.declared.flow.Flowed.{Flowed}
use Rattle.bind_model.specs.declared.flow.Flowed.TheVariants as floweds
use Rattle.bind_model.specs.declared.told.Noted.{Noted}
use Rattle.bind_model.specs.declared.told.Noted.TheVariants as noteds
use Rattle.bind_model.specs.declared.told.Notified.{Notified}
use Rattle.bind_model.specs.declared.told.Notified.TheVariants as notifieds
use Rattle.std.specs.Prelude.{ℕ, ℤ, Bool, true, false, Option, Some, None, suc, decimal, ◌++◌, List, [], ◌∷◌, length, map, codes}
use Rattle.std.specs.List.{flat_map, join_by}
use Rattle.hex.specs.Hex.{encode_lower}
use Rattle.mj_base.specs.declared.ids.EndId.{EndId}
use Rattle.mj_schema.specs.declared.schema.Schema.{Schema}
use Rattle.handle_table.specs.declared.thing.Thing.{Thing}
use Rattle.handle_table.specs.declared.thing.Thing.TheVariants.{End, Token}
use Rattle.wire_model.specs.declared.target.Target.{Target}
use Rattle.wire_model.specs.Trees.{Tree}
use Rattle.wire_encoder.specs.Prepared.{parameters_of, kind_for}
use Rattle.value_text.specs.Spelling.{spell}
use Rattle.bind_model.specs.declared.endpoint.PendingId.{PendingId}
use Rattle.bind_model.specs.declared.endpoint.ResponderId.{ResponderId}
use Rattle.bind_model.specs.declared.asked.Outgoing.{Outgoing}
use Rattle.bind_model.specs.declared.asked.Closing.{Closing}
use Rattle.bind_model.specs.declared.asked.Closing.TheVariants as closings
use Rattle.bind_model.specs.declared.asked.Asked.{Asked}
use Rattle.bind_model.specs.declared.asked.Asked.TheVariants.{Pipe, Join, Mint, Bind, Associate, Attach, Call, Answer, Raw, Take, Close, Skip, Notify, Pause, Data, Flow as Move}
use Rattle.bind_model.specs.declared.told.BadWhy.{BadWhy}
use Rattle.bind_model.specs.declared.told.BadWhy.TheVariants as bads
use Rattle.bind_model.specs.declared.told.Why.{Why}
use Rattle.bind_model.specs.declared.told.Why.TheVariants.{NoName, NotPipe, Disconnected, Unbound, Elsewhere, WrongSide, WrongMethod, WrongTokens}
use Rattle.bind_model.specs.declared.told.Why.TheVariants.{WrongPipe, SelfSend, TooLong, TooManyHandles, Full, Empty, PeerClosed, Paused, SelfPause, BadSize, NotData, Busy, Idle, Short}
use Rattle.bind_model.specs.declared.told.Got.{Got}
use Rattle.bind_model.specs.declared.told.Told.{Told}
use Rattle.bind_model.specs.declared.told.Told.TheVariants.{Made, Bound, Associated, Attached, Sent, Wrote, Taken, Dropped, Control, Bad}
use Rattle.bind_model.specs.declared.told.Told.TheVariants.{Closed, Skipped, No, Notified as Informed, Pausing, Flowed as Moved}
use Rattle.bind_model.specs.declared.event.Event.{Event}
use Rattle.history_text.specs.Names.{interface_name, method_text}
use Rattle.history_text.specs.Words.{side_word, sort_word, message_word, fate_word, fault_word}
use Rattle.history_text.specs.declared.notes.Note.{Note}

-- bytes in hexadecimal, and `-` for no bytes
abbrev pub hex_text : List ℕ → List ℕ
hex_text [] = codes "-"
hex_text (b ∷ bytes) = encode_lower (b ∷ bytes)

-- an end as `e0.1`: its sequence and its number there
abbrev pub end_text : EndId → List ℕ
end_text x = codes "e" ++ (decimal x.seq ++ (codes "." ++ decimal x.serial))

-- a token as `t0.1`
abbrev pub token_text : TokenId → List ℕ
token_text t = codes "t" ++ (decimal t.seq ++ (codes "." ++ decimal t.serial))

-- an end, or a token as `t0.1`
abbrev pub thing_text : Thing → List ℕ
thing_text (End x) = end_text x
thing_text (Token t) = token_text t

-- an endpoint as `e0.1#5`: its end, and its id there
abbrev pub endpoint_text : EndId → ℕ → List ℕ
endpoint_text x id = end_text x ++ (codes "#" ++ decimal id)

-- a pending endpoint as `pe0.1#5`
abbrev pub pending_text : PendingId → List ℕ
pending_text p = codes "p" ++ endpoint_text p.end p.id

-- a responder as `re0.1#5@7.2`: its endpoint, the request's id and the method's ordinal
abbrev pub responder_text : ResponderId → List ℕ
responder_text r = codes "r" ++ (endpoint_text r.end r.id ++ (codes "@" ++ (decimal r.request ++ (codes "." ++ decimal r.method))))

-- a list as `[e0.0,t0.0]`, of anything that has a text
abbrev pub list_text : {A : Type 0} → (A → List ℕ) → List A → List ℕ
list_text text xs = codes "[" ++ (join_by text (codes ",") xs ++ codes "]")

-- things in a list
abbrev pub things_text : List Thing → List ℕ
things_text things = list_text thing_text things

-- pending endpoints in a list
abbrev pub pendings_text : List PendingId → List ℕ
pendings_text pendings = list_text pending_text pendings

-- handles and then pendings, in one list
abbrev pub tokens_text : List Thing → List PendingId → List ℕ
tokens_text handles pendings = list_text (λ (text : List ℕ). text) (map thing_text handles ++ map pending_text pendings)

-- what is closed
abbrev pub closing_text : Closing → List ℕ
closing_text (closings.Handle x) = thing_text x
closing_text (closings.Pending p) = pending_text p
closing_text (closings.Responder r) = responder_text r
closing_text (closings.Endpoint x id) = endpoint_text x id

-- parameters, as a value of their method's struct, or of the first one where the schema lacks the method
abbrev pub parameters_text : Schema → Target → Tree → List ℕ
parameters_text schema target parameters = spell schema (kind_for (parameters_of schema target)) parameters

-- a method and its parameters
abbrev pub message_text : Schema → Target → Tree → List ℕ
message_text schema target parameters =
    method_text schema target.interface target.method ++ (codes " " ++ parameters_text schema target parameters)

-- what a call or an answer sends
abbrev pub outgoing_text : Schema → Outgoing → List ℕ
outgoing_text schema o = message_text schema o.target o.parameters ++ (codes " " ++ tokens_text o.handles o.pendings)

-- where there is a moment, it stands behind the word
abbrev pub at_text : Option ℤ → List ℕ
at_text None = []
at_text (Some moment) = codes "-at " ++ signed_decimal moment

-- a control that is asked for
abbrev pub notice_text : EndId → Notice → List ℕ
notice_text x (notices.Query id) = codes "query " ++ endpoint_text x id
notice_text x (notices.Require id version) = codes "require " ++ (endpoint_text x id ++ (codes " " ++ decimal version))
notice_text x notices.Flush = codes "flush " ++ end_text x

-- whether all is asked for, behind the word
abbrev pub all_text : Bool → List ℕ
all_text true = codes "-all"
all_text false = []

-- what a data pipe is asked for
abbrev pub flow_text : Thing → Flow → List ℕ
flow_text x (flows.Put bytes all) = codes "put" ++ (all_text all ++ (codes " " ++ (thing_text x ++ (codes " " ++ hex_text bytes))))
flow_text x (flows.Get n all) = codes "get" ++ (all_text all ++ (codes " " ++ (thing_text x ++ (codes " " ++ decimal n))))
flow_text x flows.BeginPut = codes "begin-put " ++ thing_text x
flow_text x (flows.EndPut bytes) = codes "end-put " ++ (thing_text x ++ (codes " " ++ hex_text bytes))
flow_text x flows.BeginGet = codes "begin-get " ++ thing_text x
flow_text x (flows.EndGet n) = codes "end-get " ++ (thing_text x ++ (codes " " ++ decimal n))

-- a command
abbrev pub asked_text : Schema → Asked → List ℕ
asked_text schema Pipe = codes "pipe"
asked_text schema (Join t) = codes "join " ++ decimal t.0
asked_text schema (Mint sort) = codes "mint " ++ sort_word sort
asked_text schema (Bind x side interface) = codes "bind " ++ (thing_text x ++ (codes " " ++ (side_word side ++ (codes " " ++ interface_name schema interface))))
asked_text schema (Associate x side interface) =
    codes "associate " ++ (end_text x ++ (codes " " ++ (side_word side ++ (codes " " ++ interface_name schema interface))))
asked_text schema (Attach p t) = codes "attach " ++ (pending_text p ++ (codes " " ++ decimal t.0))
asked_text schema (Call x id outgoing) =
    codes "call" ++ (at_text outgoing.moment ++ (codes " " ++ (endpoint_text x id ++ (codes " " ++ outgoing_text schema outgoing))))
asked_text schema (Answer r outgoing) =
    codes "answer" ++ (at_text outgoing.moment ++ (codes " " ++ (responder_text r ++ (codes " " ++ outgoing_text schema outgoing))))
asked_text schema (Raw x bytes handles) = codes "raw " ++ (thing_text x ++ (codes " " ++ (hex_text bytes ++ (codes " " ++ things_text handles))))
asked_text schema (Take x) = codes "take " ++ end_text x
asked_text schema (Close thing) = codes "close " ++ closing_text thing
asked_text schema (Notify x notice) = notice_text x notice
asked_text schema (Pause b a flush) = codes "pause " ++ (end_text b ++ (codes " " ++ (end_text a ++ (codes " " ++ decimal flush))))
asked_text schema (Data size) = codes "data " ++ decimal size
asked_text schema (Move x flow) = flow_text x flow
asked_text schema (Skip line) = codes "skip " ++ decimal line

-- why a message is bad
abbrev pub bad_text : BadWhy → List ℕ
bad_text (bads.Message fault) = fault_word fault.kind ++ (codes " " ++ decimal fault.at)
bad_text (bads.Unasked request) = codes "unasked " ++ decimal request
bad_text (bads.StrangeId id) = codes "strange-id " ++ decimal id
bad_text (bads.TooOld version) = codes "too-old " ++ decimal version

-- why a command is refused
abbrev pub why_text : Why → List ℕ
why_text NoName = codes "no-name"
why_text NotPipe = codes "not-pipe"
why_text Disconnected = codes "disconnected"
why_text (Unbound id) = codes "unbound " ++ decimal id
why_text (Elsewhere t) = codes "elsewhere " ++ decimal t.0
why_text WrongSide = codes "wrong-side"
why_text WrongMethod = codes "wrong-method"
why_text WrongTokens = codes "wrong-tokens"
why_text (WrongPipe id) = codes "wrong-pipe " ++ decimal id
why_text SelfSend = codes "self-send"
why_text TooLong = codes "too-long"
why_text TooManyHandles = codes "too-many-handles"
why_text Full = codes "full"
why_text Empty = codes "empty"
why_text PeerClosed = codes "peer-closed"
why_text (Paused x) = codes "paused " ++ end_text x
why_text SelfPause = codes "self-pause"
why_text (BadSize size) = codes "bad-size " ++ decimal size
why_text NotData = codes "not-data"
why_text (Busy t) = codes "busy " ++ token_text t
why_text Idle = codes "idle"
why_text (Short n) = codes "short " ++ decimal n

-- the lists of what a take got: the handles and the endpoints that are named, and what is gone
abbrev pub lists_text : Got → List ℕ
lists_text g = things_text g.handles ++ (codes " " ++ (pendings_text g.pendings ++ (codes " " ++ things_text g.gone)))

-- what a take got
abbrev pub got_text : Schema → Got → List ℕ
got_text schema g =
    message_word g.target.side ++ (codes " " ++ (decimal g.id ++ (codes " "
    ++ (message_text schema g.target g.parameters ++ (codes " " ++ (decimal g.request ++ (codes " " ++ lists_text g)))))))

-- a version, and `-` for none
abbrev pub version_text : Option ℕ → List ℕ
version_text None = codes "-"
version_text (Some version) = decimal version

-- what a control says
abbrev pub noted_text : Noted → List ℕ
noted_text (noteds.Closed id) = codes "control " ++ decimal id
noted_text (noteds.Queried id version) = codes "queried " ++ (decimal id ++ (codes " " ++ version_text version))
noted_text (noteds.Version id version) = codes "version " ++ (decimal id ++ (codes " " ++ decimal version))
noted_text (noteds.Required id version) = codes "required " ++ (decimal id ++ (codes " " ++ decimal version))
noted_text (noteds.Flushed flush) = codes "flushed " ++ decimal flush

-- a control that was written
abbrev pub notified_text : Notified → List ℕ
notified_text notifieds.Asking = codes "asking"
notified_text notifieds.Requiring = codes "requiring"
notified_text (notifieds.Flushing flush) = codes "flushing " ++ decimal flush

-- what a data pipe did
abbrev pub flowed_text : TokenId → Flowed → List ℕ
flowed_text t (floweds.Put n) = codes "put " ++ (token_text t ++ (codes " " ++ decimal n))
flowed_text t (floweds.Bytes bytes) = codes "got-bytes " ++ (token_text t ++ (codes " " ++ hex_text bytes))
flowed_text t (floweds.Space n) = codes "space " ++ (token_text t ++ (codes " " ++ decimal n))
flowed_text t (floweds.View bytes) = codes "view " ++ (token_text t ++ (codes " " ++ hex_text bytes))
flowed_text t floweds.Ended = codes "ended " ++ token_text t

-- a reply
abbrev pub told_text : Schema → Told → List ℕ
told_text schema (Made things) = codes "made " ++ things_text things
told_text schema (Bound x) = codes "bound " ++ end_text x
told_text schema (Associated p) = codes "associated " ++ pending_text p
told_text schema (Attached id) = codes "attached " ++ decimal id
told_text schema (Sent request bytes) = codes "sent " ++ (decimal request ++ (codes " " ++ hex_text bytes))
told_text schema (Wrote x) = codes "wrote " ++ end_text x
told_text schema (Taken g) = codes "got" ++ (at_text g.moment ++ (codes " " ++ got_text schema g))
told_text schema (Dropped id gone) = codes "dropped " ++ (decimal id ++ (codes " " ++ things_text gone))
told_text schema (Control noted) = noted_text noted
told_text schema (Bad why gone) = codes "bad " ++ (bad_text why ++ (codes " " ++ things_text gone))
told_text schema (Closed gone) = codes "closed " ++ things_text gone
told_text schema (Informed notified) = notified_text notified
told_text schema Pausing = codes "pausing"
told_text schema (Moved t flowed) = flowed_text t flowed
told_text schema Skipped = codes "skipped"
told_text schema (No why) = codes "no " ++ why_text why

-- the line of an event: its number, its sequence, the command and the reply
abbrev pub event_line : Schema → ℕ → Event → List ℕ
event_line schema k event =
    decimal k ++ (codes " " ++ (decimal event.seq.0 ++ (codes " "
    ++ (asked_text schema event.asked ++ (codes " -> " ++ (told_text schema event.told ++ codes "\n"))))))

-- the lines of events, numbered from k on
abbrev pub event_lines : Schema → ℕ → List Event → List ℕ
event_lines schema k [] = []
event_lines schema k (event ∷ events) = event_line schema k event ++ event_lines schema (suc k) events

-- the line of a callback, as `callback 0 e0.1#5 7 ran`: the sequence that called, the endpoint, the request's id, and what became of the callback
abbrev pub note_line : Note → List ℕ
note_line note =
    codes "callback " ++ (decimal note.seq.0 ++ (codes " " ++ (endpoint_text note.end note.id
    ++ (codes " " ++ (decimal note.request ++ (codes " " ++ (fate_word note.fate ++ codes "\n")))))))

-- the line of a thing that is left
abbrev pub left_line : Thing → List ℕ
left_line x = codes "left " ++ (thing_text x ++ codes "\n")

-- the last line
abbrev pub done_line : ℕ → List ℕ
done_line count = codes "done " ++ (decimal count ++ codes "\n")

-- the whole text: the events from number 0 on, the oldest first, then the callbacks and then what is left, both in the order given
abbrev pub history_text : Schema → List Event → List Note → List Thing → List ℕ
history_text schema history notes left =
    event_lines schema 0 history ++ (flat_map note_line notes ++ (flat_map left_line left ++ done_line (length history)))
