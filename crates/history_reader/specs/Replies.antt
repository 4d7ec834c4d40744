-- How replies stand in a line, up to its end and with it.
use Rattle.std.specs.Prelude.{ℕ, ℤ, false, true, List, [], ◌∷◌, Option, Some, None, codes}
use Rattle.mj_schema.specs.declared.schema.Schema.{Schema}
use Rattle.handle_table.specs.declared.thing.Thing.{Thing}
use Rattle.wire_model.specs.Trees.{Tree}
use Rattle.wire_model.specs.declared.target.MessageSide.{MessageSide}
use Rattle.wire_model.specs.declared.target.MessageSide.TheVariants.{Request, Response}
use Rattle.wire_model.specs.declared.target.Target.{Target}
use Rattle.bind_model.specs.declared.endpoint.PendingId.{PendingId}
use Rattle.bind_model.specs.declared.told.Told.{Told}
use Rattle.bind_model.specs.declared.told.Told.TheVariants as tells
use Rattle.byte_rules.specs.Lang.{Lang, as_value, closed, ◌then◌, ◌▸◌}
use Rattle.value_text.specs.Numbers.{index}
use Rattle.line_parts.specs.Signs.{line_end, blank}
use Rattle.line_parts.specs.Keywords.{keyword}
use Rattle.line_parts.specs.Ids.{wide, moment, end, pending}
use Rattle.line_parts.specs.Lists.{things, pendings, hex}
use Rattle.line_parts.specs.Messages.{message}
use Rattle.line_parts.specs.declared.names.Names.{Names}
use Rattle.history_reader.specs.Reasons.{line, refusal, bad}
use Rattle.history_reader.specs.Noted.{noted_after, notified_after}
use Rattle.history_reader.specs.Flowed.{flowed_after}
use Rattle.history_reader.specs.declared.flowed.FlowedWord.TheVariants as floweds
use Rattle.history_reader.specs.declared.noted.NotedWord.TheVariants as noteds
use Rattle.history_reader.specs.declared.noted.NotifiedWord.TheVariants as notifieds
use Rattle.history_reader.specs.declared.replies.ReplyWord.{ReplyWord}
use Rattle.history_reader.specs.declared.replies.ReplyWord.TheVariants as replies

-- the words of replies
abbrev pub reply_words : List (ReplyWord × List ℕ)
reply_words =
    (replies.Made, codes "made") ∷ (replies.Bound, codes "bound") ∷ (replies.Associated, codes "associated") ∷ (replies.Attached, codes "attached")
    ∷ (replies.Sent, codes "sent") ∷ (replies.Wrote, codes "wrote") ∷ (replies.Got false, codes "got") ∷ (replies.Got true, codes "got-at")
    ∷ (replies.Dropped, codes "dropped") ∷ (replies.Control noteds.Closed, codes "control") ∷ (replies.Control noteds.Queried, codes "queried")
    ∷ (replies.Control noteds.Version, codes "version") ∷ (replies.Control noteds.Required, codes "required")
    ∷ (replies.Control noteds.Flushed, codes "flushed") ∷ (replies.Bad, codes "bad") ∷ (replies.Closed, codes "closed")
    ∷ (replies.Notified notifieds.Asking, codes "asking") ∷ (replies.Notified notifieds.Requiring, codes "requiring")
    ∷ (replies.Notified notifieds.Flushing, codes "flushing") ∷ (replies.Pausing, codes "pausing") ∷ (replies.Flowed floweds.Put, codes "put")
    ∷ (replies.Flowed floweds.Bytes, codes "got-bytes") ∷ (replies.Flowed floweds.Space, codes "space") ∷ (replies.Flowed floweds.View, codes "view")
    ∷ (replies.Flowed floweds.Ended, codes "ended") ∷ (replies.Skipped, codes "skipped") ∷ (replies.No, codes "no") ∷ []

-- a side of a method
unfoldable pub message_side : Lang MessageSide
message_side = keyword ((Request, codes "request") ∷ (Response, codes "response") ∷ [])

-- what a take got at a moment, of all its parts
abbrev pub got_of : Option ℤ → ℕ → Target × Tree → ℕ → List Thing → List PendingId → List Thing → Told
got_of at id (target, v) request handles pendings gone = tells.Taken (record {
  id = id;
  target = target;
  parameters = v;
  request = request;
  handles = handles;
  pendings = pendings;
  gone = gone;
  moment = at;
})

-- the lists of what a take got: handles, pending endpoints, and what is gone, and the line's end
unfoldable pub got_lists : Option ℤ → ℕ → Target × Tree → ℕ → Lang Told
got_lists at id m request = things then λ handles. blank ▸ pendings then λ ps. blank ▸ line (got_of at id m request handles ps) things

-- what a take got at a moment, which stands before it, and the line's end
unfoldable pub got : Schema → Names → Option ℤ → Lang Told
got schema names at = blank ▸ message_side then λ side. blank ▸ index then λ id. blank ▸ message schema names side then λ m.
    wide then λ request. blank ▸ got_lists at id m request

-- behind `got-at`: a moment, and then as behind `got`
unfoldable pub got_at : Schema → Names → Lang Told
got_at schema names = blank ▸ moment then λ at. got schema names (Some at)

-- behind `made`: what was made
unfoldable pub made : Lang Told
made = blank ▸ line tells.Made things

-- behind `bound`: an end
unfoldable pub bound : Lang Told
bound = blank ▸ line tells.Bound end

-- behind `associated`: a pending endpoint
unfoldable pub associated : Lang Told
associated = blank ▸ line tells.Associated pending

-- behind `attached`: the id of an endpoint
unfoldable pub attached : Lang Told
attached = blank ▸ line tells.Attached index

-- behind `sent`: the id of the request, and the bytes
unfoldable pub sent : Lang Told
sent = blank ▸ wide then λ request. blank ▸ as_value (tells.Sent request) (hex line_end)

-- behind `wrote`: an end
unfoldable pub wrote : Lang Told
wrote = blank ▸ line tells.Wrote end

-- behind `dropped`: the id that the message was for, and what went with it
unfoldable pub dropped : Lang Told
dropped = blank ▸ index then λ id. blank ▸ line (tells.Dropped id) things

-- behind `bad`: why, and what is gone
unfoldable pub bad_reply : Lang Told
bad_reply = blank ▸ bad then λ why. blank ▸ line (tells.Bad why) things

-- behind `closed`: what is gone
unfoldable pub gone_reply : Lang Told
gone_reply = blank ▸ line tells.Closed things

-- what stands behind the word of each reply, up to the line's end and with it
abbrev pub told_after : Schema → Names → ReplyWord → Lang Told
told_after schema names replies.Made = made
told_after schema names replies.Bound = bound
told_after schema names replies.Associated = associated
told_after schema names replies.Attached = attached
told_after schema names replies.Sent = sent
told_after schema names replies.Wrote = wrote
told_after schema names (replies.Got false) = got schema names None
told_after schema names (replies.Got true) = got_at schema names
told_after schema names replies.Dropped = dropped
told_after schema names (replies.Control word) = noted_after word
told_after schema names replies.Bad = bad_reply
told_after schema names replies.Closed = gone_reply
told_after schema names (replies.Notified word) = notified_after word
told_after schema names replies.Pausing = closed line_end tells.Pausing
told_after schema names (replies.Flowed word) = flowed_after word
told_after schema names replies.Skipped = closed line_end tells.Skipped
told_after schema names replies.No = refusal

-- a reply, and the line's end
unfoldable pub told : Schema → Names → Lang Told
told schema names = keyword reply_words then told_after schema names
