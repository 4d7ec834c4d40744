-- What is taken for a message, and what is asked with it.
use Rattle.std.specs.Prelude.{ℕ, ℤ, ◌≡◌, ◌+◌, ◌≤◌, Bool, true, false, List, length, Option, option_and_then, vec_len, vec_capacity}
use Rattle.std.specs.Option.{option_map}
use Rattle.mj_base.specs.declared.ids.EndId.{EndId}
use Rattle.handle_table.specs.declared.thing.Thing.{Thing}
use Rattle.wire_encoder.specs.declared.prepared.Prepared.{Prepared}
use Rattle.bind_model.specs.declared.asked.Asked.{Asked}
use Rattle.bind_model.specs.declared.asked.Asked.TheVariants as asks
use Rattle.bind_model.specs.declared.asked.Outgoing.{Outgoing}
use Rattle.bind_model.specs.declared.endpoint.ResponderId.{ResponderId}
use Rattle.bind_model.specs.Pendings.{Half, names_of}
use Rattle.call_script.specs.declared.script.NameId.{NameId}
use Rattle.script_names.specs.declared.names.Names.{Names}
use Rattle.script_names.specs.declared.rooms.Rooms.{Rooms}
use Rattle.script_names.specs.Asking.{or_skip, outgoing}
use Rattle.script_names.specs.Held.{held_at}
use Rattle.script_names.specs.Tables.{left_by, taken_from}

-- both lists, where both are there
abbrev pub both : Option (List Thing) → Option (List Half) → Option (List Thing × List Half)
both things halves =
    option_and_then (λ (xs : List Thing). option_map (λ (ps : List Half). (xs, ps)) halves) things

-- what is held under the names of a line's list
abbrev pub tokens_of : Names → Rooms → Option (List Thing × List Half)
tokens_of names rooms =
    both (taken_from rooms.handles.named.items names.handles.items) (taken_from rooms.pendings.named.items names.pendings.items)

-- it was taken, or nothing was
abbrev pub left_if : {X : Type 0} → Bool → List (Option X) → List NameId → List (Option X)
left_if true table names = left_by table names
left_if false table names = table

-- what is held under the names of a line's list was taken, or nothing was; all else stays
pub record TookTokens (taken : Bool) (names : Names) (old new : Rooms) : Type 0 where
  pub handles : new.handles.named.items ≡ left_if taken old.handles.named.items names.handles.items
  pub pendings : new.pendings.named.items ≡ left_if taken old.pendings.named.items names.pendings.items
  pub stands : new.stands ≡ old.stands
  pub responders : new.responders ≡ old.responders
  pub kept : new.kept ≡ old.kept

-- there is room to give these back
pub record HasRoomOf (things : List Thing) (halves : List Half) (rooms : Rooms) : Type 0 where
  pub handles : length things + vec_len rooms.handles.others ≤ vec_capacity rooms.handles.others
  pub pendings : length halves + vec_len rooms.pendings.others ≤ vec_capacity rooms.pendings.others

-- what is sent with them, at this moment
abbrev pub sent : Prepared → Option ℤ → Names → Rooms → Option Outgoing
sent prepared moment names rooms =
    option_map (λ (tokens : List Thing × List Half). outgoing prepared tokens.0 (names_of tokens.1) moment) (tokens_of names rooms)

-- to call with them from the endpoint of this id at the end that is meant, or to skip the line of this number
abbrev pub called : ℕ → Option EndId → ℕ → Prepared → Option ℤ → Names → Rooms → Asked
called number end id prepared moment names rooms = or_skip number
    (option_and_then (λ (y : EndId). option_map (λ (out : Outgoing). asks.Call y id out) (sent prepared moment names rooms)) end)

-- to answer with them by the responder that is held, or to skip the line of this number
abbrev pub answered : ℕ → Option ResponderId → Prepared → Option ℤ → Names → Rooms → Asked
answered number responder prepared moment names rooms = or_skip number
    (option_and_then (λ (r : ResponderId). option_map (λ (out : Outgoing). asks.Answer r out) (sent prepared moment names rooms)) responder)

-- what is written raw from what is held under a name, with what is held under others
abbrev pub written : ℕ → NameId → List ℕ → Names → Rooms → Asked
written number name bytes names rooms = or_skip number (option_and_then
    (λ (xs : List Thing). option_map (λ (x : Thing). asks.Raw x bytes xs) (held_at (left_by rooms.handles.named.items names.handles.items) name))
    (taken_from rooms.handles.named.items names.handles.items))
