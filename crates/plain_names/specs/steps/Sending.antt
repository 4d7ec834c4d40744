-- What lines ask that send something, by what is held.
use Rattle.std.specs.Prelude.{ℕ, ℤ, List, Option, None, option_and_then, if◌then◌else◌}
use Rattle.std.specs.Option.{option_map}
use Rattle.mj_base.specs.declared.ids.EndId.{EndId}
use Rattle.handle_table.specs.declared.thing.Thing.{Thing}
use Rattle.wire_encoder.specs.declared.prepared.Prepared.{Prepared}
use Rattle.bind_model.specs.declared.asked.Asked.{Asked}
use Rattle.bind_model.specs.declared.asked.Asked.TheVariants as asks
use Rattle.bind_model.specs.declared.asked.Outgoing.{Outgoing}
use Rattle.bind_model.specs.declared.endpoint.PendingId.{PendingId}
use Rattle.bind_model.specs.declared.endpoint.ResponderId.{ResponderId}
use Rattle.call_script.specs.declared.script.NameId.{NameId}
use Rattle.core_sending.specs.declared.carried.CarriedNames.{CarriedNames}
use Rattle.script_names.specs.Asking.{all_held, or_skip, outgoing}
use Rattle.script_names.specs.Names.{has_name}

-- both lists, where both are there
abbrev pub both_of : Option (List Thing) → Option (List PendingId) → Option CarriedNames
both_of things pendings = option_and_then
    (λ (xs : List Thing). option_map (λ (ps : List PendingId). record { things = xs; pendings = ps }) pendings) things

-- what is sent with them, at this moment
abbrev pub sent_of : Prepared → Option ℤ → Option CarriedNames → Option Outgoing
sent_of prepared moment carried =
    option_map (λ (c : CarriedNames). outgoing prepared c.things c.pendings moment) carried

-- to call with them from the endpoint of this id at the end that is meant, or to skip the line of this number
abbrev pub called_with : ℕ → Option EndId → ℕ → Prepared → Option ℤ → Option CarriedNames → Asked
called_with number end id prepared moment carried = or_skip number
    (option_and_then (λ (y : EndId). option_map (λ (out : Outgoing). asks.Call y id out) (sent_of prepared moment carried)) end)

-- to answer with them by the right that is held, or to skip the line of this number
abbrev pub answered_with : ℕ → Option ResponderId → Prepared → Option ℤ → Option CarriedNames → Asked
answered_with number responder prepared moment carried = or_skip number
    (option_and_then (λ (r : ResponderId). option_map (λ (out : Outgoing). asks.Answer r out) (sent_of prepared moment carried)) responder)

-- to write bytes from a thing with these, or to skip the line of this number
abbrev pub written_from : ℕ → Thing → List ℕ → Option (List Thing) → Asked
written_from number x bytes things = or_skip number (option_map (λ (xs : List Thing). asks.Raw x bytes xs) things)

-- to write bytes from what is held under a name, with what is held under others, or to skip the line of this number
abbrev pub written_with : ℕ → NameId → List ℕ → (NameId → Option Thing) → List NameId → Asked
written_with number n bytes held list = or_skip number (if has_name list n then None else option_and_then
    (λ (x : Thing). option_map (λ (xs : List Thing). asks.Raw x bytes xs) (all_held held list))
    (held n))
