-- The events of a script: the joins, in order; the lines of the sequences, each behind the line of its sequence before it; and then a drain: a take
-- wherever a message is ready, until none is. An automatic reply follows directly after the take of a request that it is for.
use Rattle.std.specs.Prelude.{ℕ, ◌≡◌, ◌<◌, ◌++◌, List, [], ◌∷◌, length, reverse, Option, Some, None, slice_get}
use Rattle.std.specs.Option.{option_map}
use Rattle.mj_base.specs.declared.ids.EndId.{EndId}
use Rattle.mj_base.specs.declared.ids.SeqId.{SeqId}
use Rattle.mj_schema.specs.declared.schema.Schema.{Schema}
use Rattle.bind_model.specs.declared.asked.Asked.{Asked}
use Rattle.bind_model.specs.declared.asked.Asked.TheVariants as asks
use Rattle.bind_model.specs.declared.event.Event.{Event}
use Rattle.bind_model.specs.Ready.{ready}
use Rattle.bind_model.specs.Seen.{own_of}
use Rattle.bind_model.specs.Wire.{Wire}
use Rattle.bind_model.specs.WireOf.{wire_of}
use Rattle.call_script.specs.declared.script.AutoReply.{AutoReply}
use Rattle.call_script.specs.declared.script.Line.{Line}
use Rattle.call_script.specs.declared.script.Script.{Script}
use Rattle.script_names.specs.Autos.{Due, due, line_at}
use Rattle.script_names.specs.Names.{Named, unnamed, joined, named}
use Rattle.script_names.specs.Asking.{outgoing, asked_by}
use Rattle.script_run.specs.Order.{TakeTurns, joins_of, lines_of}

-- ## Parts of a history

-- each of these events, the newest first, asks what is next behind those before it
abbrev pub AsksNext : (List Event → Option Asked) → List Event → Type 0
AsksNext next [] = Unit {0}
AsksNext next (event ∷ own) = (next own ≡ Some event.asked) × AsksNext next own

-- each does, and behind all of them there is no next
pub record AsksAll (next : List Event → Option Asked) (own : List Event) : Type 0 where
  pub asks : AsksNext next own
  pub over : next own ≡ None

-- who asks, and what
abbrev pub Next : Type 0
Next = SeqId × Asked

-- each of these events, the newest first, is of the sequence that asks next, and asks what is next
abbrev pub GoesOn : (List Event → Option Next) → List Event → Type 0
GoesOn next [] = Unit {0}
GoesOn next (event ∷ own) = (next own ≡ Some (event.seq, event.asked)) × GoesOn next own

-- a part of a history: events behind those before, each the next, until there is no next
pub record IsPart (next : List Event → Option Next) (before after : List Event) : Type 0 where
  pub own : List Event
  pub whole : after ≡ own ++ before
  pub asks : GoesOn next own
  pub over : next own ≡ None

-- ## Automatic replies

-- the automatic reply that is due
abbrev pub replied : Due → Asked
replied (r, reply) = asks.Answer r (outgoing reply.prepared [] [] None)

-- it comes first, and else something other
abbrev pub reply_first : Option Due → Option Asked → Option Asked
reply_first (Some d) other = Some (replied d)
reply_first None other = other

-- ## The lines

-- the names of a sequence after its own events behind those of the joins
abbrev pub names_of : Wire → Script → List Event → SeqId → List Event → Named
names_of wire script after_joins s own = named wire script.autos (lines_of script s) (joined s (joins_of script) after_joins) own

-- what a sequence asks behind its own events: the automatic reply that is due, or what its next line asks
abbrev pub next_of : Wire → Script → List Event → SeqId → List Event → Option Asked
next_of wire script after_joins s own = reply_first (due wire script.autos own)
    (option_map (asked_by (names_of wire script after_joins s own)) (line_at wire script.autos (lines_of script s) own))

-- ## The joins

-- a line's sequence, and what it asks: to join
abbrev pub joins_by : Line → Next
joins_by line = (line.seq, asked_by unnamed line)

-- the join behind these events
abbrev pub next_join : Script → List Event → Option Next
next_join script own = option_map joins_by (slice_get (joins_of script) (length own))

-- ## The drain

-- what is asked, by the sequence that has an automatic reply due
abbrev pub reply_or : Option Due → Option Next → Option Next
reply_or (Some d) other = Some (d.1.seq, replied d)
reply_or None other = other

-- a take at the end that is ready, by the sequence that takes there, where no automatic reply is due
abbrev pub next_take : Wire → List AutoReply → List Event → List Event → Option Next
next_take wire autos before own =
    reply_or (due wire autos (own ++ before)) (option_map (λ (turn : SeqId × EndId). (turn.0, asks.Take turn.1)) (ready wire (own ++ before)))

-- ## The whole

-- the events behind the joins, the newest first, are those of the lines: each sequence does all of its own, in order
abbrev pub DoesLines : Wire → Script → List Event → List Event → Type 0
DoesLines wire script after_joins middle = (s : SeqId) → s.0 < script.seqs → AsksAll (next_of wire script after_joins s) (own_of s middle)

-- the events, the newest first, are the script's, in whatever order its sequences do their lines
pub record PastInSomeOrder (schema : Schema) (script : Script) (past : List Event) : Type 0 where
  pub after_joins : List Event
  pub middle : List Event
  pub joins : IsPart (next_join script) [] after_joins
  pub lines : DoesLines (wire_of schema) script after_joins middle
  pub drain : IsPart (next_take (wire_of schema) script.autos (middle ++ after_joins)) (middle ++ after_joins) past

-- the events, in order, are the script's, in whatever order its sequences do their lines
abbrev pub InSomeOrder : Schema → Script → List Event → Type 0
InSomeOrder schema script history = PastInSomeOrder schema script (reverse history)

-- the events, the newest first, are the script's, where its sequences do their lines in turns by this order, or side by side where there is none
pub record PastOfScript (schema : Schema) (script : Script) (order : Option ℕ) (past : List Event) : Type 0 where
  pub after_joins : List Event
  pub middle : List Event
  pub joins : IsPart (next_join script) [] after_joins
  pub lines : DoesLines (wire_of schema) script after_joins middle
  pub turns : TakeTurns (wire_of schema) script order middle
  pub drain : IsPart (next_take (wire_of schema) script.autos (middle ++ after_joins)) (middle ++ after_joins) past

-- the events, in order, are the script's
abbrev pub OfScript : Schema → Script → Option ℕ → List Event → Type 0
OfScript schema script order history = PastOfScript schema script order (reverse history)
