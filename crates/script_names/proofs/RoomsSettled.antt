-- Rooms between a line's steps, and once a reply without names is settled.
use Rattle.std.proofs.Common.{◌≡◌, ℕ, Bool, true, false, List, [], length, drop, refl, ap, ◌∙◌, Vec, Global}
use Rattle.std.specs.Prelude.{Option, Some, None, Result, Ok, Err, IfOk, OnOk, slice_get, ◌+◌}
use Rattle.std.proofs.Math.Seq.{drop-nil}
use Rattle.handle_table.specs.declared.thing.Thing.{Thing}
use Rattle.bind_model.specs.Pendings.{Half}
use Rattle.bind_model.specs.declared.commands.Command.{Command}
use Rattle.bind_model.specs.declared.commands.Command.TheVariants as commands
use Rattle.bind_model.specs.declared.commands.ToClose.TheVariants as close
use Rattle.bind_model.specs.declared.commands.Reply.{Reply}
use Rattle.bind_model.specs.declared.commands.Reply.TheVariants.{Made, Associated, Wrote, Got, Flowed, No}
use Rattle.bind_model.specs.declared.endpoint.ResponderId.{ResponderId}
use Rattle.call_script.specs.declared.script.NameId.{NameId}
use Rattle.script_names.specs.declared.names.Names.{Names}
use Rattle.script_names.specs.declared.rooms.Rooms.{Rooms}
use Rattle.script_names.specs.declared.stands.Stands.{Stands}
use Rattle.script_names.specs.Carried.{halves_with, responder_with, things_with}
use Rattle.script_names.specs.Needs.{AreNone}
use Rattle.script_names.specs.Held.{HaveNames, name_of, names_in}
use Rattle.script_names.specs.Rooms.{SameHeld}
use Rattle.script_names.specs.Settling.{Settles, TookFor, handles_under, held_under, list_of, pendings_under, place_for, responder_under}
use Rattle.script_names.specs.Settling.{settled_handles, settled_pendings, settled_responders, settled_stands}
use Rattle.script_names.specs.Held.{held_at}
use Rattle.script_names.specs.Tables.{filled_one}
use Rattle.script_names.proofs.LineNames.{same_named}
use Rattle.script_names.proofs.NameLemmas.{given_nowhere, length_filled, length_given, length_left}

-- the table of handles in code
abbrev pub Handles : Type 0
Handles = Vec (Option Thing) Global

-- the table of pending endpoints
abbrev pub Halves : Type 0
Halves = Vec (Option Half) Global

-- the table of responders
abbrev pub Rights : Type 0
Rights = Vec (Option ResponderId) Global

-- ## Where nothing of it differs

-- one between changed nothing of it either
pub held_through : (first second third last : Rooms) → SameHeld first second → third.stands ≡ second.stands → third.handles.named ≡ second.handles.named
    → third.pendings.named ≡ second.pendings.named → third.responders.named ≡ second.responders.named → SameHeld third last → SameHeld first last
held_through first second third last a stands handles pendings responders b = record {
  stands = b.stands ∙ (stands ∙ a.stands);
  handles = b.handles ∙ (handles ∙ a.handles);
  pendings = b.pendings ∙ (pendings ∙ a.pendings);
  responders = b.responders ∙ (responders ∙ a.responders);
}

pub names_same : (old new : Rooms) → SameHeld old new → names_in new ≡ names_in old
names_same old new same = same_named
    (ap (λ (s : Stands). held_at s.things.items) same.stands)
    (ap (λ (v : Handles). held_at v.items) same.handles)
    (ap (λ (v : Halves). λ (n : NameId). name_of (held_at v.items n)) same.pendings)
    (ap (λ (v : Rights). held_at v.items) same.responders)

pub have_same : (count : ℕ) (old new : Rooms) → SameHeld old new → HaveNames count old → HaveNames count new
have_same count old new same have = record {
  stands = ap (λ (s : Stands). length s.things.items) same.stands ∙ have.stands;
  handles = ap (λ (v : Handles). length v.items) same.handles ∙ have.handles;
  pendings = ap (λ (v : Halves). length v.items) same.pendings ∙ have.pendings;
  responders = ap (λ (v : Rights). length v.items) same.responders ∙ have.responders;
}

-- what was settled since it was the same
pub settled_since : (names : Names) (reply : Reply) (is_due : Bool) (mid since new : Rooms) → SameHeld mid since → Settles names reply is_due since new
    → Settles names reply is_due mid new
settled_since names reply is_due mid since new same settles = record {
  stands = settles.stands ∙ ap (λ (s : Stands). settled_stands names reply s.things.items) same.stands;
  handles = settles.handles ∙ ap (λ (v : Handles). settled_handles names reply v.items) same.handles;
  pendings = settles.pendings ∙ ap (λ (v : Halves). settled_pendings names reply v.items) same.pendings;
  responders = settles.responders ∙ ap (λ (v : Rights). settled_responders names is_due reply v.items) same.responders;
}

-- ## As many names as before

module _ (names : Names) where
  stands_length : (reply : Reply) (table : List (Option Thing)) → length (settled_stands names reply table) ≡ length table
  stands_length (Made things) table = length_given names.sets.items things table
  stands_length (Got g) table = length_given names.sets.items g.handles table
  stands_length reply table = refl

  handles_length : (reply : Reply) (table : List (Option Thing)) → length (settled_handles names reply table) ≡ length table
  handles_length (Made things) table = length_given names.sets.items things table
  handles_length (Got g) table = length_given names.sets.items g.handles table
  handles_length (Wrote back) table = length_filled names.one back table
  handles_length (Flowed back flowed) table = length_filled names.one back table
  handles_length (No why command) table =
      length_given (handles_under names.one names.handles.items names.pendings.items command) (things_with command) table
  handles_length reply table = refl

  pendings_length : (reply : Reply) (table : List (Option Half)) → length (settled_pendings names reply table) ≡ length table
  pendings_length (Associated half) table = length_filled (slice_get names.sets.items 0) half table
  pendings_length (Got g) table = length_given (drop (length g.handles) names.sets.items) g.pendings table
  pendings_length (No why command) table =
      length_given (pendings_under names.one names.handles.items names.pendings.items command) (halves_with command) table
  pendings_length reply table = refl

  held_length : (name : Option NameId) (o : Option ResponderId) (table : List (Option ResponderId)) → length (held_under names name o table) ≡ length table
  held_length name None table = refl
  held_length name (Some r) table = length_filled name r table

  rights_length : (is_due : Bool) (reply : Reply) (table : List (Option ResponderId)) → length (settled_responders names is_due reply table) ≡ length table
  rights_length is_due (Got g) table = held_length (place_for names is_due (length g.handles + length g.pendings)) g.responder table
  rights_length is_due (No why command) table =
      length_given (responder_under names.one names.handles.items names.pendings.items command) (list_of (responder_with command)) table
  rights_length is_due reply table = refl

  pub have_settled : (reply : Reply) (is_due : Bool) (count : ℕ) (mid new : Rooms) → Settles names reply is_due mid new → HaveNames count mid
      → HaveNames count new
  have_settled reply is_due count mid new settles have = record {
    stands = ap length settles.stands ∙ (stands_length reply mid.stands.things.items ∙ have.stands);
    handles = ap length settles.handles ∙ (handles_length reply mid.handles.named.items ∙ have.handles);
    pendings = ap length settles.pendings ∙ (pendings_length reply mid.pendings.named.items ∙ have.pendings);
    responders = ap length settles.responders ∙ (rights_length is_due reply mid.responders.named.items ∙ have.responders);
  }

  pub have_left : (command : Command) (count : ℕ) (old mid : Rooms) → TookFor names command old mid → HaveNames count old → HaveNames count mid
  have_left command count old mid took have = record {
    stands = ap (λ (s : Stands). length s.things.items) took.stands ∙ have.stands;
    handles = ap length took.no_handles
        ∙ (length_left (handles_under names.one names.handles.items names.pendings.items command) old.handles.named.items ∙ have.handles);
    pendings = ap length took.no_pendings
        ∙ (length_left (pendings_under names.one names.handles.items names.pendings.items command) old.pendings.named.items ∙ have.pendings);
    responders = ap length took.no_responder
        ∙ (length_left (responder_under names.one names.handles.items names.pendings.items command) old.responders.named.items ∙ have.responders);
  }

-- a line leaves as many
pub have_done : (names : Names) (command : Command) (reply : Reply) (is_due : Bool) (count : ℕ) (start first mid since rooms : Rooms) → HaveNames count start
    → SameHeld start first → TookFor names command first mid → SameHeld mid since → Settles names reply is_due since rooms → HaveNames count rooms
have_done names command reply is_due count start first mid since rooms have held took kept settles =
    have_settled names reply is_due count since rooms settles
    (have_same count mid since kept (have_left names command count first mid took (have_same count start first held have)))

pub have_all : {A E : Type 0} (names : Names) (command : Command) (reply : Reply) (is_due : A → Bool) (count : ℕ) (start first mid since rooms : Rooms)
    → HaveNames count start → SameHeld start first → TookFor names command first mid → SameHeld mid since → (result : Result A E)
    → IfOk result (λ found. Settles names reply (is_due found) since rooms) → OnOk result (HaveNames count rooms)
have_all names command reply is_due count start first mid since rooms have held took kept (Ok found) settles =
    have_done names command reply (is_due found) count start first mid since rooms have held took kept settles
have_all names command reply is_due count start first mid since rooms have held took kept (Err cut) settles = tt

-- ## Without names

module _ (names : Names) (none : AreNone names) where
  none_one : {X : Type 0} (x : X) (table : List (Option X)) → filled_one names.one x table ≡ table
  none_one x table = ap (λ (o : Option NameId). filled_one o x table) none.one

  none_set : {X : Type 0} (k : ℕ) (x : X) (table : List (Option X)) → filled_one (slice_get names.sets.items k) x table ≡ table
  none_set k x table = ap (λ (ns : List NameId). filled_one (slice_get ns k) x table) none.sets

  none_behind : (k : ℕ) → drop k names.sets.items ≡ []
  none_behind k = ap (λ (ns : List NameId). drop k ns) none.sets ∙ drop-nil k

  no_handles : (command : Command) → handles_under None [] [] command ≡ []
  no_handles (commands.Close (close.Handle handle)) = refl
  no_handles (commands.Close (close.Pending pending)) = refl
  no_handles (commands.Close (close.Responder responder)) = refl
  no_handles (commands.Close (close.Endpoint end id)) = refl
  no_handles command = refl

  no_pendings : (command : Command) → pendings_under None [] [] command ≡ []
  no_pendings (commands.Close (close.Handle handle)) = refl
  no_pendings (commands.Close (close.Pending pending)) = refl
  no_pendings (commands.Close (close.Responder responder)) = refl
  no_pendings (commands.Close (close.Endpoint end id)) = refl
  no_pendings command = refl

  no_responder : (command : Command) → responder_under None [] [] command ≡ []
  no_responder (commands.Close (close.Handle handle)) = refl
  no_responder (commands.Close (close.Pending pending)) = refl
  no_responder (commands.Close (close.Responder responder)) = refl
  no_responder (commands.Close (close.Endpoint end id)) = refl
  no_responder command = refl

  none_handles : (command : Command) → handles_under names.one names.handles.items names.pendings.items command ≡ []
  none_handles command = rw (none.one, none.handles, none.pendings) (no_handles command)

  none_pendings : (command : Command) → pendings_under names.one names.handles.items names.pendings.items command ≡ []
  none_pendings command = rw (none.one, none.handles, none.pendings) (no_pendings command)

  none_responder : (command : Command) → responder_under names.one names.handles.items names.pendings.items command ≡ []
  none_responder command = rw (none.one, none.handles, none.pendings) (no_responder command)

  stands_still : (reply : Reply) (table : List (Option Thing)) → settled_stands names reply table ≡ table
  stands_still (Made things) table = given_nowhere names.sets.items things table none.sets
  stands_still (Got g) table = given_nowhere names.sets.items g.handles table none.sets
  stands_still reply table = refl

  handles_still : (reply : Reply) (table : List (Option Thing)) → settled_handles names reply table ≡ table
  handles_still (Made things) table = given_nowhere names.sets.items things table none.sets
  handles_still (Got g) table = given_nowhere names.sets.items g.handles table none.sets
  handles_still (Wrote back) table = none_one back table
  handles_still (Flowed back flowed) table = none_one back table
  handles_still (No why command) table =
      given_nowhere (handles_under names.one names.handles.items names.pendings.items command) (things_with command) table (none_handles command)
  handles_still reply table = refl

  pendings_still : (reply : Reply) (table : List (Option Half)) → settled_pendings names reply table ≡ table
  pendings_still (Associated half) table = none_set 0 half table
  pendings_still (Got g) table = given_nowhere (drop (length g.handles) names.sets.items) g.pendings table (none_behind (length g.handles))
  pendings_still (No why command) table =
      given_nowhere (pendings_under names.one names.handles.items names.pendings.items command) (halves_with command) table (none_pendings command)
  pendings_still reply table = refl

  held_still : (is_due : Bool) (k : ℕ) (o : Option ResponderId) (table : List (Option ResponderId))
      → held_under names (place_for names is_due k) o table ≡ table
  held_still is_due k None table = refl
  held_still true k (Some r) table = refl
  held_still false k (Some r) table = none_set k r table

  rights_still : (is_due : Bool) (reply : Reply) (table : List (Option ResponderId)) → settled_responders names is_due reply table ≡ table
  rights_still is_due (Got g) table = held_still is_due (length g.handles + length g.pendings) g.responder table
  rights_still is_due (No why command) table =
      given_nowhere (responder_under names.one names.handles.items names.pendings.items command) (list_of (responder_with command)) table
      (none_responder command)
  rights_still is_due reply table = refl

  pub names_still : (reply : Reply) (is_due : Bool) (mid new : Rooms) → Settles names reply is_due mid new → names_in new ≡ names_in mid
  names_still reply is_due mid new settles = same_named
      (ap (λ (t : List (Option Thing)). held_at t) (settles.stands ∙ stands_still reply mid.stands.things.items))
      (ap (λ (t : List (Option Thing)). held_at t) (settles.handles ∙ handles_still reply mid.handles.named.items))
      (ap (λ (t : List (Option Half)). λ (n : NameId). name_of (held_at t n)) (settles.pendings ∙ pendings_still reply mid.pendings.named.items))
      (ap (λ (t : List (Option ResponderId)). held_at t) (settles.responders ∙ rights_still is_due reply mid.responders.named.items))
