-- What the lines ask that send something is what is held under their names.
use Rattle.std.proofs.Common.{◌≡◌, ℕ, Bool, List, ap, refl, sym, ◌∙◌}
use Rattle.std.specs.Prelude.{ℤ, Option, Some, None, is_some, option_and_then, if◌then◌else◌}
use Rattle.std.specs.Option.{option_map}
use Rattle.mj_base.specs.declared.ids.EndId.{EndId}
use Rattle.handle_table.specs.declared.thing.Thing.{Thing}
use Rattle.wire_encoder.specs.declared.prepared.Prepared.{Prepared}
use Rattle.bind_model.specs.declared.asked.Asked.TheVariants as asks
use Rattle.bind_model.specs.declared.asked.Outgoing.{Outgoing}
use Rattle.bind_model.specs.declared.endpoint.PendingId.{PendingId}
use Rattle.bind_model.specs.declared.endpoint.ResponderId.{ResponderId}
use Rattle.call_script.specs.declared.script.Command.{Command}
use Rattle.call_script.specs.declared.script.Command.TheVariants.{Call, Answer, Raw}
use Rattle.call_script.specs.declared.script.Line.{Line}
use Rattle.call_script.specs.declared.script.NameId.{NameId}
use Rattle.script_names.specs.Asking.{all_held, as_end, asked_by, asked_for, or_skip, outgoing, sent_with}
use Rattle.script_names.specs.Held.{held_at}
use Rattle.script_names.specs.Names.{Named, has_name, pendings_named, things_named}
use Rattle.script_names.specs.Needs.{AreNames, handles_needed, pendings_needed}
use Rattle.script_names.specs.declared.names.Names.{Names}
use Rattle.plain_names.specs.Held.{named_in}
use Rattle.plain_names.specs.declared.named.PlainNames.{PlainNames}
use Rattle.plain_names.specs.steps.Sending.{answered_with, both_of, called_with, sent_of, written_with}

-- what a line asks is what its command does
pub asked_is : (names : Named) (line : Line) {command : Command} → line.command ≡ command
    → or_skip line.number (asked_for names command) ≡ asked_by names line
asked_is names line is = ap (λ (c : Command). or_skip line.number (asked_for names c)) (sym is)

-- what is written, by whether the name stands in the list too, and by what is held under it
pub written_at : (number : ℕ) (n : NameId) (bytes : List ℕ) (held : NameId → Option Thing) (list read : List NameId) → read ≡ list
    → (twice : Bool) (thing : Option Thing) → has_name read n ≡ twice → held n ≡ thing
    → or_skip number (if twice then None
    else option_and_then (λ (x : Thing). option_map (λ (xs : List Thing). asks.Raw x bytes xs) (all_held held read)) thing)
    ≡ written_with number n bytes held list
written_at number n bytes held list read same twice thing is here =
    ap (λ (b : Bool). or_skip number (if b then None
    else option_and_then (λ (x : Thing). option_map (λ (xs : List Thing). asks.Raw x bytes xs) (all_held held read)) thing)) (sym is)
    ∙ (ap (λ (o : Option Thing). or_skip number (if has_name read n then None
    else option_and_then (λ (x : Thing). option_map (λ (xs : List Thing). asks.Raw x bytes xs) (all_held held read)) o)) (sym here)
    ∙ ap (written_with number n bytes held) same)

-- what is sent with both lists, where both are there
sent_both : (prepared : Prepared) (moment : Option ℤ) (things : Option (List Thing)) (pendings : Option (List PendingId))
    → sent_of prepared moment (both_of things pendings)
    ≡ option_and_then (λ (xs : List Thing). option_map (λ (ps : List PendingId). outgoing prepared xs ps moment) pendings) things
sent_both prepared moment None pendings = refl
sent_both prepared moment (Some xs) None = refl
sent_both prepared moment (Some xs) (Some ps) = refl

module _ (names : PlainNames) (lists : Names) where
  -- whether a name stands for an end or a token
  abbrev stands_there : NameId → Bool
  stands_there n = is_some (held_at names.stands.things.items n)

  -- the things that are held under the names of a line's list
  abbrev things_there : Option (List Thing)
  things_there = all_held (held_at names.handles.items.items) lists.handles.items

  -- and the pendings
  abbrev pendings_there : Option (List PendingId)
  pendings_there = all_held (held_at names.pendings.items.items) lists.pendings.items

  sent_is : (prepared : Prepared) (list : List NameId) (moment : Option ℤ) → lists.handles.items ≡ things_named (named_in names).stands list
      → lists.pendings.items ≡ pendings_named (named_in names).stands list
      → sent_of prepared moment (both_of things_there pendings_there) ≡ sent_with (named_in names) prepared list moment
  sent_is prepared list moment hs ps =
      sent_both prepared moment things_there pendings_there
      ∙ (ap (λ (ns : List NameId). option_and_then
      (λ (xs : List Thing). option_map (λ (qs : List PendingId). outgoing prepared xs qs moment) pendings_there)
      (all_held (held_at names.handles.items.items) ns)) hs
      ∙ ap (λ (ns : List NameId). option_and_then
      (λ (xs : List Thing). option_map (λ (qs : List PendingId). outgoing prepared xs qs moment) (all_held (held_at names.pendings.items.items) ns))
      (all_held (held_at names.handles.items.items) (things_named (named_in names).stands list))) ps)

  module _ (line : Line) (are : AreNames stands_there line.command lists) where
    -- a call asks what its line does
    pub called_is : {n : NameId} {id : ℕ} {prepared : Prepared} {list : List NameId} {moment : Option ℤ} → line.command ≡ Call n id prepared list moment
        → called_with line.number (as_end (held_at names.stands.things.items n)) id prepared moment (both_of things_there pendings_there)
        ≡ asked_by (named_in names) line
    called_is {n} {id} {prepared} {list} {moment} is =
        let hs : lists.handles.items ≡ things_named (named_in names).stands list = are.handles ∙ ap (handles_needed stands_there) is in
        let ps : lists.pendings.items ≡ pendings_named (named_in names).stands list = are.pendings ∙ ap (pendings_needed stands_there) is in
        ap (λ (s : Option Outgoing). or_skip line.number (option_and_then (λ (y : EndId). option_map (λ (out : Outgoing). asks.Call y id out) s)
        (as_end (held_at names.stands.things.items n)))) (sent_is prepared list moment hs ps)
        ∙ asked_is (named_in names) line is

    -- and an answer
    pub answered_is : {n : NameId} {prepared : Prepared} {list : List NameId} {moment : Option ℤ} → line.command ≡ Answer n prepared list moment
        → answered_with line.number (held_at names.responders.items.items n) prepared moment (both_of things_there pendings_there)
        ≡ asked_by (named_in names) line
    answered_is {n} {prepared} {list} {moment} is =
        let hs : lists.handles.items ≡ things_named (named_in names).stands list = are.handles ∙ ap (handles_needed stands_there) is in
        let ps : lists.pendings.items ≡ pendings_named (named_in names).stands list = are.pendings ∙ ap (pendings_needed stands_there) is in
        ap (λ (s : Option Outgoing). or_skip line.number (option_and_then (λ (r : ResponderId). option_map (λ (out : Outgoing). asks.Answer r out) s)
        (held_at names.responders.items.items n))) (sent_is prepared list moment hs ps)
        ∙ asked_is (named_in names) line is

    -- and what is written raw
    pub written_is : {n : NameId} {bytes : List ℕ} {list : List NameId} → line.command ≡ Raw n bytes list
        → written_with line.number n bytes (held_at names.handles.items.items) lists.handles.items ≡ asked_by (named_in names) line
    written_is {n} {bytes} {list} is =
        let hs : lists.handles.items ≡ list = are.handles ∙ ap (handles_needed stands_there) is in
        ap (written_with line.number n bytes (held_at names.handles.items.items)) hs ∙ asked_is (named_in names) line is
