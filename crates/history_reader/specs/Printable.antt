-- What a text of a history can say: numbers of their widths, and names and values that are the schema's.
use Rattle.std.specs.Prelude.{ℕ, ◌+◌, ◌++◌, List, [], ◌∷◌, Option, Some, None}
use Rattle.std.specs.List.{flat_map}
use Rattle.mj_schema.specs.declared.schema.Schema.{Schema}
use Rattle.wire_model.specs.declared.target.MessageSide.TheVariants.{Request, Response}
use Rattle.bind_model.specs.declared.asked.Asked.{Asked}
use Rattle.bind_model.specs.declared.asked.Asked.TheVariants as askeds
use Rattle.bind_model.specs.declared.asked.Closing.{Closing}
use Rattle.bind_model.specs.declared.asked.Closing.TheVariants as closings
use Rattle.bind_model.specs.declared.asked.Notice.{Notice}
use Rattle.bind_model.specs.declared.asked.Notice.TheVariants as notices
use Rattle.bind_model.specs.declared.event.Event.{Event}
use Rattle.bind_model.specs.declared.flow.Flow.{Flow}
use Rattle.bind_model.specs.declared.flow.Flow.TheVariants as flows
use Rattle.bind_model.specs.declared.flow.Flowed.{Flowed}
use Rattle.bind_model.specs.declared.flow.Flowed.TheVariants as floweds
use Rattle.bind_model.specs.declared.told.BadWhy.{BadWhy}
use Rattle.bind_model.specs.declared.told.BadWhy.TheVariants as bads
use Rattle.bind_model.specs.declared.told.Got.{Got}
use Rattle.bind_model.specs.declared.told.Noted.{Noted}
use Rattle.bind_model.specs.declared.told.Noted.TheVariants as noteds
use Rattle.bind_model.specs.declared.told.Notified.{Notified}
use Rattle.bind_model.specs.declared.told.Notified.TheVariants as notifieds
use Rattle.bind_model.specs.declared.told.Told.{Told}
use Rattle.bind_model.specs.declared.told.Told.TheVariants as tells
use Rattle.bind_model.specs.declared.told.Why.{Why}
use Rattle.bind_model.specs.declared.told.Why.TheVariants as whys
use Rattle.history_text.specs.declared.notes.Note.{Note}
use Rattle.history_text.specs.History.{event_lines, note_line, left_line, done_line}
use Rattle.history_reader.specs.declared.printed.Printed.{Printed}
pub use Rattle.line_parts.specs.Printable.{IsSmall, IsWide, IsLong, IsMoment, IsSequence, IsEnd, IsToken, IsThing, IsPending, IsResponder}
pub use Rattle.line_parts.specs.Printable.{AreAll, AreBytes, IsInterface, IsMessage, IsOutgoing}

-- what is closed, by numbers of their widths
abbrev pub IsClosing : Closing → Type 0
IsClosing (closings.Handle x) = IsThing x
IsClosing (closings.Pending p) = IsPending p
IsClosing (closings.Responder r) = IsResponder r
IsClosing (closings.Endpoint x id) = IsEnd x × IsSmall id

-- a control that is to be written, by numbers of 32 bits
abbrev pub IsNotice : Notice → Type 0
IsNotice (notices.Query id) = IsSmall id
IsNotice (notices.Require id version) = IsSmall id × IsSmall version
IsNotice notices.Flush = Unit {0}

-- a command about a data pipe, by bytes and numbers of 32 bits
abbrev pub IsFlow : Flow → Type 0
IsFlow (flows.Put bytes all) = AreBytes bytes
IsFlow (flows.Get n all) = IsSmall n
IsFlow flows.BeginPut = Unit {0}
IsFlow (flows.EndPut bytes) = AreBytes bytes
IsFlow flows.BeginGet = Unit {0}
IsFlow (flows.EndGet n) = IsSmall n

-- a command, by numbers of their widths, and by names and values that are the schema's
abbrev pub IsAsked : Schema → Asked → Type 0
IsAsked schema askeds.Pipe = Unit {0}
IsAsked schema (askeds.Join t) = IsSequence t
IsAsked schema (askeds.Mint sort) = Unit {0}
IsAsked schema (askeds.Bind x side interface) = IsThing x × IsInterface schema interface
IsAsked schema (askeds.Associate x side interface) = IsEnd x × IsInterface schema interface
IsAsked schema (askeds.Attach p t) = IsPending p × IsSequence t
IsAsked schema (askeds.Call x id outgoing) = IsEnd x × IsSmall id × IsOutgoing schema Request outgoing
IsAsked schema (askeds.Answer r outgoing) = IsResponder r × IsOutgoing schema Response outgoing
IsAsked schema (askeds.Raw x bytes handles) = IsThing x × AreBytes bytes × AreAll IsThing handles
IsAsked schema (askeds.Take x) = IsEnd x
IsAsked schema (askeds.Close closing) = IsClosing closing
IsAsked schema (askeds.Notify x notice) = IsEnd x × IsNotice notice
IsAsked schema (askeds.Pause x other flush) = IsEnd x × (IsEnd other × IsSmall flush)
IsAsked schema (askeds.Data size) = IsSmall size
IsAsked schema (askeds.Flow x flow) = IsThing x × IsFlow flow
IsAsked schema (askeds.Skip line) = IsSmall line

-- why a message is bad, by numbers of their widths
abbrev pub IsBadWhy : BadWhy → Type 0
IsBadWhy (bads.Message fault) = IsWide fault.at
IsBadWhy (bads.Unasked request) = IsWide request
IsBadWhy (bads.StrangeId id) = IsSmall id
IsBadWhy (bads.TooOld version) = IsSmall version

-- why a command is refused, by numbers of 32 bits
abbrev pub IsWhy : Why → Type 0
IsWhy (whys.Unbound id) = IsSmall id
IsWhy (whys.Elsewhere t) = IsSequence t
IsWhy (whys.WrongPipe id) = IsSmall id
IsWhy (whys.Paused x) = IsEnd x
IsWhy (whys.BadSize size) = IsSmall size
IsWhy (whys.Busy t) = IsToken t
IsWhy (whys.Short n) = IsSmall n
IsWhy _ = Unit {0}

-- what a take got, by numbers of their widths, and by a method and a value that are the schema's
abbrev pub IsGot : Schema → Got → Type 0
IsGot schema g =
    IsSmall g.id × IsMessage schema g.target.side g.target g.parameters × IsWide g.request
    × AreAll IsThing g.handles × AreAll IsPending g.pendings × AreAll IsThing g.gone × IsMoment g.moment

-- a version, where there is one
abbrev pub IsVersion : Option ℕ → Type 0
IsVersion None = Unit {0}
IsVersion (Some version) = IsSmall version

-- a control that was consumed, by numbers of 32 bits
abbrev pub IsNoted : Noted → Type 0
IsNoted (noteds.Closed id) = IsSmall id
IsNoted (noteds.Queried id version) = IsSmall id × IsVersion version
IsNoted (noteds.Version id version) = IsSmall id × IsSmall version
IsNoted (noteds.Required id version) = IsSmall id × IsSmall version
IsNoted (noteds.Flushed flush) = IsSmall flush

-- a control that was written, by numbers of 32 bits
abbrev pub IsNotified : Notified → Type 0
IsNotified notifieds.Asking = Unit {0}
IsNotified notifieds.Requiring = Unit {0}
IsNotified (notifieds.Flushing flush) = IsSmall flush

-- a reply about a data pipe, by bytes and numbers of 32 bits
abbrev pub IsFlowed : Flowed → Type 0
IsFlowed (floweds.Put n) = IsSmall n
IsFlowed (floweds.Bytes bytes) = AreBytes bytes
IsFlowed (floweds.Space n) = IsSmall n
IsFlowed (floweds.View bytes) = AreBytes bytes
IsFlowed floweds.Ended = Unit {0}

-- a reply, by numbers of their widths, and by names and values that are the schema's
abbrev pub IsTold : Schema → Told → Type 0
IsTold schema (tells.Made things) = AreAll IsThing things
IsTold schema (tells.Bound x) = IsEnd x
IsTold schema (tells.Associated p) = IsPending p
IsTold schema (tells.Attached id) = IsSmall id
IsTold schema (tells.Sent request bytes) = IsWide request × AreBytes bytes
IsTold schema (tells.Wrote x) = IsEnd x
IsTold schema (tells.Taken g) = IsGot schema g
IsTold schema (tells.Dropped id gone) = IsSmall id × AreAll IsThing gone
IsTold schema (tells.Control noted) = IsNoted noted
IsTold schema (tells.Bad why gone) = IsBadWhy why × AreAll IsThing gone
IsTold schema (tells.Closed gone) = AreAll IsThing gone
IsTold schema (tells.Notified notified) = IsNotified notified
IsTold schema tells.Pausing = Unit {0}
IsTold schema (tells.Flowed t flowed) = IsToken t × IsFlowed flowed
IsTold schema tells.Skipped = Unit {0}
IsTold schema (tells.No why) = IsWhy why

-- an event whose sequence, command and reply the text can say
abbrev pub IsEvent : Schema → Event → Type 0
IsEvent schema event = IsSequence event.seq × IsAsked schema event.asked × IsTold schema event.told

-- events, numbered from k on; each number is of 64 bits
abbrev pub AreEvents : Schema → ℕ → List Event → Type 0
AreEvents schema k [] = Unit {0}
AreEvents schema k (event ∷ events) = IsWide k × IsEvent schema event × AreEvents schema (k + 1) events

-- a callback
abbrev pub IsNote : Note → Type 0
IsNote note = IsSequence note.seq × (IsEnd note.end × IsSmall note.id) × IsWide note.request

-- what a text can say
abbrev pub IsPrintable : Schema → Printed → Type 0
IsPrintable schema p = AreEvents schema 0 p.events × AreAll IsNote p.notes × AreAll IsThing p.left × IsWide p.count

-- its text: that of the history where the count is how many events there are
abbrev pub printed_text : Schema → Printed → List ℕ
printed_text schema p = event_lines schema 0 p.events ++ (flat_map note_line p.notes ++ (flat_map left_line p.left ++ done_line p.count))
