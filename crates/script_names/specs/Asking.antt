-- What the lines of a sequence ask, by what its names stand for and hold.
use Rattle.std.specs.Prelude.{ℕ, ℤ, List, [], ◌∷◌, Option, Some, None, option_and_then, unwrap_or, if◌then◌else◌}
use Rattle.std.specs.Option.{option_map}
use Rattle.mj_base.specs.declared.ids.EndId.{EndId}
use Rattle.handle_table.specs.declared.thing.Thing.{Thing}
use Rattle.handle_table.specs.declared.thing.Thing.TheVariants.{End, Token}
use Rattle.wire_encoder.specs.declared.prepared.Prepared.{Prepared}
use Rattle.wire_model.specs.Trees.{view}
use Rattle.bind_model.specs.declared.asked.Asked.{Asked}
use Rattle.bind_model.specs.declared.asked.Asked.TheVariants as asks
use Rattle.bind_model.specs.declared.asked.Closing.TheVariants as closings
use Rattle.bind_model.specs.declared.asked.Outgoing.{Outgoing}
use Rattle.bind_model.specs.declared.endpoint.PendingId.{PendingId}
use Rattle.bind_model.specs.declared.endpoint.ResponderId.{ResponderId}
use Rattle.call_script.specs.declared.script.Command.{Command}
use Rattle.call_script.specs.declared.script.Command.TheVariants.{Join, Pipe, Mint, Bind, Associate, Attach, Call, Take, Answer, Raw, CloseToken, CloseEndpoint}
use Rattle.call_script.specs.declared.script.Command.TheVariants.{Notify, Pause, Data, Flow}
use Rattle.call_script.specs.declared.script.Line.{Line}
use Rattle.call_script.specs.declared.script.NameId.{NameId}
use Rattle.script_names.specs.Names.{Named, has_name, pendings_named, things_named}

-- what is sent: the prepared parameters, these handles and pendings, and this moment
abbrev pub outgoing : Prepared → List Thing → List PendingId → Option ℤ → Outgoing
outgoing prepared things pendings moment = record {
  target = prepared.target;
  parameters = view prepared.value;
  handles = things;
  pendings = pendings;
  moment = moment;
}

-- the end that is meant, where it is one
abbrev pub as_end : Option Thing → Option EndId
as_end None = None
as_end (Some (End x)) = Some x
as_end (Some (Token t)) = None

-- what is asked where it can be, and else to skip the line of this number
abbrev pub or_skip : ℕ → Option Asked → Asked
or_skip number asked = unwrap_or asked (asks.Skip number)

-- what is held under these names, in order; none where one of them holds nothing or stands twice
abbrev pub all_held : {X : Type 0} → (NameId → Option X) → List NameId → Option (List X)
all_held holds [] = Some []
all_held {X} holds (n ∷ names) =
    if has_name names n then None else option_and_then (λ (x : X). option_map (λ (xs : List X). x ∷ xs) (all_held holds names)) (holds n)

-- to close the handle that is held, or else the pending, or else the responder
abbrev pub closed_of : Option Thing → Option PendingId → Option ResponderId → Option Asked
closed_of (Some x) pending responder = Some (asks.Close (closings.Handle x))
closed_of None (Some p) responder = Some (asks.Close (closings.Pending p))
closed_of None None responder = option_map (λ (r : ResponderId). asks.Close (closings.Responder r)) responder

-- by what the names of a sequence stand for and hold
module _ (names : Named) where
  -- what is sent with the handles and the pendings that are held under these names, at this moment
  abbrev pub sent_with : Prepared → List NameId → Option ℤ → Option Outgoing
  sent_with prepared list moment = option_and_then
      (λ (xs : List Thing). option_map (λ (ps : List PendingId). outgoing prepared xs ps moment) (all_held names.pending (pendings_named names.stands list)))
      (all_held names.handle (things_named names.stands list))

  -- bytes from an end, with the handles that are held under names, its own not among them
  abbrev pub raw_with : NameId → List ℕ → List NameId → Option Asked
  raw_with n bytes list =
      if has_name list n then None else option_and_then
      (λ (x : Thing). option_map (λ (xs : List Thing). asks.Raw x bytes xs) (all_held names.handle list))
      (names.handle n)

  -- what a command asks, where all that it needs is there
  abbrev pub asked_for : Command → Option Asked
  asked_for (Join other first second) = Some (asks.Join other)
  asked_for (Pipe first second) = Some asks.Pipe
  asked_for (Mint sort n) = Some (asks.Mint sort)
  asked_for (Bind n side interface) = option_map (λ (x : Thing). asks.Bind x side interface) (names.handle n)
  asked_for (Associate n side interface p) = option_map (λ (y : EndId). asks.Associate y side interface) (as_end (names.stands n))
  asked_for (Attach n seq) = option_map (λ (p : PendingId). asks.Attach p seq) (names.pending n)
  asked_for (Call n id prepared list moment) = option_and_then
      (λ (y : EndId). option_map (λ (sent : Outgoing). asks.Call y id sent) (sent_with prepared list moment))
      (as_end (names.stands n))
  asked_for (Take n list) = option_map asks.Take (as_end (names.stands n))
  asked_for (Answer n prepared list moment) = option_and_then
      (λ (r : ResponderId). option_map (λ (sent : Outgoing). asks.Answer r sent) (sent_with prepared list moment))
      (names.responder n)
  asked_for (Raw n bytes list) = raw_with n bytes list
  asked_for (CloseToken n) = closed_of (names.handle n) (names.pending n) (names.responder n)
  asked_for (CloseEndpoint n id) = option_map (λ (y : EndId). asks.Close (closings.Endpoint y id)) (as_end (names.stands n))
  asked_for (Notify n notice) = option_map (λ (y : EndId). asks.Notify y notice) (as_end (names.stands n))
  asked_for (Pause n m flush) = option_and_then
      (λ (b : EndId). option_map (λ (a : EndId). asks.Pause b a flush) (as_end (names.stands m)))
      (as_end (names.stands n))
  asked_for (Data size first second) = Some (asks.Data size)
  asked_for (Flow n flow) = option_map (λ (x : Thing). asks.Flow x flow) (names.handle n)

  -- what a line asks
  abbrev pub asked_by : Line → Asked
  asked_by line = or_skip line.number (asked_for line.command)
