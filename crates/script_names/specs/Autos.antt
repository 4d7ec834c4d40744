-- Automatic replies: which one is due after an event, and which events are those of lines.
use Rattle.std.specs.Prelude.{ℕ, Bool, ◌+◌, ◌==◌, ◌&&◌, List, [], ◌∷◌, Option, None, find, slice_get, is_some, if◌then◌else◌}
use Rattle.std.specs.Option.{option_map}
use Rattle.mj_base.specs.declared.ids.SeqId.{SeqId}
use Rattle.bind_model.specs.declared.endpoint.ResponderId.{ResponderId}
use Rattle.bind_model.specs.declared.event.Event.{Event}
use Rattle.bind_model.specs.Replies.{responders_handed}
use Rattle.bind_model.specs.Wire.{Wire}
use Rattle.call_script.specs.declared.script.AutoReply.{AutoReply}
use Rattle.call_script.specs.declared.script.Line.{Line}

-- whether a sequence answers requests of this responder's method with it
abbrev pub replies_to : SeqId → ResponderId → AutoReply → Bool
replies_to seq r reply =
    (reply.seq.0 == seq.0) && (reply.prepared.target.interface == r.interface) && (reply.prepared.target.method == r.method)

-- a responder, and what is answered with it
abbrev pub Due : Type 0
Due = ResponderId × AutoReply

-- the first automatic reply of a sequence that is for one of these responders
abbrev pub due_for : List AutoReply → SeqId → List ResponderId → Option Due
due_for autos seq [] = None
due_for autos seq (r ∷ rs) = option_map (λ (reply : AutoReply). (r, reply)) (find (replies_to seq r) autos)

-- what is due directly after the newest event: the reply to the request that it got
abbrev pub due : Wire → List AutoReply → List Event → Option Due
due wire autos [] = None
due wire autos (event ∷ past) = due_for autos event.seq (responders_handed wire event.told event.asked)

-- how many of these events are those of lines: all but the automatic replies
abbrev pub lines_done : Wire → List AutoReply → List Event → ℕ
lines_done wire autos [] = 0
lines_done wire autos (event ∷ past) =
    if is_some (due wire autos past) then lines_done wire autos past else lines_done wire autos past + 1

-- the line whose event comes after these, if no automatic reply does
abbrev pub line_at : Wire → List AutoReply → List Line → List Event → Option Line
line_at wire autos lines past = if is_some (due wire autos past) then None else slice_get lines (lines_done wire autos past)
