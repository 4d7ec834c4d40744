-- What a line asks by what is held, and that the names under which its command takes are those that are spent.
use Rattle.std.proofs.Common.{◌≡◌, ℕ, Bool, true, false, List, [], ◌∷◌, refl, sym, ap, ◌∙◌, subst}
use Rattle.std.specs.Prelude.{ℤ, Option, Some, None, option_and_then, is_some, if◌then◌else◌}
use Rattle.std.specs.Option.{option_map}
use Rattle.handle_table.specs.declared.thing.Thing.{Thing}
use Rattle.wire_encoder.specs.declared.prepared.Prepared.{Prepared}
use Rattle.bind_model.specs.Pendings.{Half, names_of}
use Rattle.bind_model.specs.Plain.{asked_of}
use Rattle.bind_model.specs.declared.asked.Asked.{Asked}
use Rattle.bind_model.specs.declared.asked.Asked.TheVariants as asks
use Rattle.bind_model.specs.declared.asked.Closing.TheVariants as closings
use Rattle.bind_model.specs.declared.asked.Outgoing.{Outgoing}
use Rattle.bind_model.specs.declared.commands.Command.{Command}
use Rattle.bind_model.specs.declared.commands.Command.TheVariants as commands
use Rattle.bind_model.specs.declared.commands.ToClose.TheVariants as close
use Rattle.bind_model.specs.declared.endpoint.PendingId.{PendingId}
use Rattle.bind_model.specs.declared.endpoint.ResponderId.{ResponderId}
use Rattle.call_script.specs.declared.script.Command.{Command as LineCommand}
use Rattle.call_script.specs.declared.script.Command.TheVariants.{Join, Pipe, Mint, Bind, Associate, Attach, Call, Take, Answer, Raw, CloseToken, CloseEndpoint}
use Rattle.call_script.specs.declared.script.Command.TheVariants.{Notify, Pause, Data, Flow}
use Rattle.call_script.specs.declared.script.Line.{Line}
use Rattle.call_script.specs.declared.script.NameId.{NameId}
use Rattle.script_names.specs.Names.{Named, handles_spent, has_name, pendings_named, pendings_spent, responders_spent, things_named}
use Rattle.script_names.specs.Asking.{all_held, as_end, asked_by, asked_for, closed_of, or_skip, outgoing, sent_with}
use Rattle.script_names.specs.declared.names.Names.{Names}
use Rattle.script_names.specs.declared.rooms.Rooms.{Rooms}
use Rattle.script_names.specs.Needs.{AreNames, handles_needed, pendings_needed}
use Rattle.script_names.specs.Held.{name_of, names_in}
use Rattle.script_names.specs.Settling.{SpendsAs, before_list, handles_under, listed, own_before, pendings_under, responder_under}
use Rattle.script_names.specs.Held.{held_at}
use Rattle.script_names.specs.Tables.{left_by, taken_from}
use Rattle.script_names.specs.steps.Tokens.{answered, both, called, sent, written}
use Rattle.script_names.proofs.NameLemmas.{held_left}
use Rattle.script_names.proofs.TableLemmas.{taken_from-all_held}

-- ## What is asked

-- what a line asks is what its command does
pub asked_is : (names : Named) (line : Line) {command : LineCommand} → line.command ≡ command
    → or_skip line.number (asked_for names command) ≡ asked_by names line
asked_is names line is = ap (λ (c : LineCommand). or_skip line.number (asked_for names c)) (sym is)

-- the names of the pendings that are held
all_held-names : (holds : NameId → Option Half) (list : List NameId)
    → all_held (λ (n : NameId). name_of (holds n)) list ≡ option_map names_of (all_held holds list)
all_held-names holds [] = refl
all_held-names holds (n ∷ names) = rw (all_held-names holds names) (go (has_name names n) (holds n) (all_held holds names))
  where
    go : (c : Bool) (o : Option Half) (rest : Option (List Half))
        → (if c then None else option_and_then (λ (p : PendingId). option_map (λ (ps : List PendingId). p ∷ ps) (option_map names_of rest)) (name_of o))
        ≡ option_map names_of (if c then None else option_and_then (λ (h : Half). option_map (λ (hs : List Half). h ∷ hs) rest) o)
    go true o rest = refl
    go false None rest = refl
    go false (Some h) None = refl
    go false (Some h) (Some hs) = refl

-- what is sent with both lists, where both are there
sent_both : (prepared : Prepared) (moment : Option ℤ) (things : Option (List Thing)) (halves : Option (List Half))
    → option_map (λ (tokens : List Thing × List Half). outgoing prepared tokens.0 (names_of tokens.1) moment) (both things halves)
    ≡ option_and_then (λ (xs : List Thing). option_map (λ (ps : List PendingId). outgoing prepared xs ps moment) (option_map names_of halves)) things
sent_both prepared moment None halves = refl
sent_both prepared moment (Some xs) None = refl
sent_both prepared moment (Some xs) (Some hs) = refl

module _ (rooms : Rooms) (names : Names) where
  -- whether a name stands for an end or a token
  abbrev stands_there : NameId → Bool
  stands_there n = is_some (held_at rooms.stands.things.items n)

  -- what is sent with what is taken from a line's names
  sent_is : (prepared : Prepared) (list : List NameId) (moment : Option ℤ) → names.handles.items ≡ things_named (names_in rooms).stands list
      → names.pendings.items ≡ pendings_named (names_in rooms).stands list
      → sent prepared moment names rooms ≡ sent_with (names_in rooms) prepared list moment
  sent_is prepared list moment hs ps =
      let things : taken_from rooms.handles.named.items names.handles.items
      ≡ all_held (held_at rooms.handles.named.items) (things_named (names_in rooms).stands list) =
      taken_from-all_held rooms.handles.named.items names.handles.items ∙ ap (all_held (held_at rooms.handles.named.items)) hs in
      let halves : taken_from rooms.pendings.named.items names.pendings.items
      ≡ all_held (held_at rooms.pendings.named.items) (pendings_named (names_in rooms).stands list) =
      taken_from-all_held rooms.pendings.named.items names.pendings.items ∙ ap (all_held (held_at rooms.pendings.named.items)) ps in
      sent_both prepared moment (taken_from rooms.handles.named.items names.handles.items) (taken_from rooms.pendings.named.items names.pendings.items)
      ∙ (ap (λ (o : Option (List Thing)). option_and_then
      (λ (xs : List Thing). option_map (λ (ps : List PendingId). outgoing prepared xs ps moment)
      (option_map names_of (taken_from rooms.pendings.named.items names.pendings.items))) o) things
      ∙ ap (λ (o : Option (List PendingId)). option_and_then (λ (xs : List Thing). option_map (λ (ps : List PendingId). outgoing prepared xs ps moment) o)
      (all_held (held_at rooms.handles.named.items) (things_named (names_in rooms).stands list)))
      (ap (option_map names_of) halves ∙ sym (all_held-names (held_at rooms.pendings.named.items) (pendings_named (names_in rooms).stands list))))

  module _ (line : Line) (are : AreNames stands_there line.command names) where
    -- a call asks what its line does
    pub called_is : {n : NameId} {id : ℕ} {prepared : Prepared} {list : List NameId} {moment : Option ℤ} → line.command ≡ Call n id prepared list moment
        → called line.number (as_end (held_at rooms.stands.things.items n)) id prepared moment names rooms ≡ asked_by (names_in rooms) line
    called_is {n} {id} {prepared} {list} {moment} is =
        let hs : names.handles.items ≡ things_named (names_in rooms).stands list = are.handles ∙ ap (handles_needed stands_there) is in
        let ps : names.pendings.items ≡ pendings_named (names_in rooms).stands list = are.pendings ∙ ap (pendings_needed stands_there) is in
        ap (λ (s : Option Outgoing). or_skip line.number (option_and_then (λ y. option_map (λ (out : Outgoing). asks.Call y id out) s)
        (as_end (held_at rooms.stands.things.items n)))) (sent_is prepared list moment hs ps)
        ∙ asked_is (names_in rooms) line is

    -- and an answer
    pub answered_is : {n : NameId} {prepared : Prepared} {list : List NameId} {moment : Option ℤ} → line.command ≡ Answer n prepared list moment
        → answered line.number (held_at rooms.responders.named.items n) prepared moment names rooms ≡ asked_by (names_in rooms) line
    answered_is {n} {prepared} {list} {moment} is =
        let hs : names.handles.items ≡ things_named (names_in rooms).stands list = are.handles ∙ ap (handles_needed stands_there) is in
        let ps : names.pendings.items ≡ pendings_named (names_in rooms).stands list = are.pendings ∙ ap (pendings_needed stands_there) is in
        ap (λ (s : Option Outgoing). or_skip line.number (option_and_then (λ (r : ResponderId). option_map (λ (out : Outgoing). asks.Answer r out) s)
        (held_at rooms.responders.named.items n))) (sent_is prepared list moment hs ps)
        ∙ asked_is (names_in rooms) line is

    -- and what is written raw
    pub written_is : {n : NameId} {bytes : List ℕ} {list : List NameId} → line.command ≡ Raw n bytes list
        → written line.number n bytes names rooms ≡ asked_by (names_in rooms) line
    written_is {n} {bytes} {list} is =
        let hs : names.handles.items ≡ list = are.handles ∙ ap (handles_needed stands_there) is in
        let table = rooms.handles.named.items in
        ap (λ (ns : List NameId). or_skip line.number (option_and_then
        (λ (xs : List Thing). option_map (λ (x : Thing). asks.Raw x bytes xs) (held_at (left_by table ns) n)) (taken_from table ns))) hs
        ∙ (ap (λ (o : Option Thing). or_skip line.number (option_and_then
        (λ (xs : List Thing). option_map (λ (x : Thing). asks.Raw x bytes xs) o) (taken_from table list))) (held_left list table n)
        ∙ (ap (λ (o : Option (List Thing)). or_skip line.number (option_and_then
        (λ (xs : List Thing). option_map (λ (x : Thing). asks.Raw x bytes xs) (if has_name list n then None else held_at table n)) o))
        (taken_from-all_held table list)
        ∙ (ap (or_skip line.number) (go (has_name list n) (held_at table n) (all_held (held_at table) list))
        ∙ asked_is (names_in rooms) line is)))
      where
        go : (c : Bool) (o : Option Thing) (rest : Option (List Thing))
            → option_and_then (λ (xs : List Thing). option_map (λ (x : Thing). asks.Raw x bytes xs) (if c then None else o)) rest
            ≡ (if c then None else option_and_then (λ (x : Thing). option_map (λ (xs : List Thing). asks.Raw x bytes xs) rest) o)
        go true o None = refl
        go true o (Some xs) = refl
        go false None None = refl
        go false None (Some xs) = refl
        go false (Some x) None = refl
        go false (Some x) (Some xs) = refl

-- ## What is spent

-- the names of what goes with a command, by what is asked
module _ (one : Option NameId) (handle_names pending_names : List NameId) where
  -- of its handles
  abbrev handles_asked : Asked → List NameId
  handles_asked (asks.Bind x side interface) = listed one
  handles_asked (asks.Call y id out) = handle_names
  handles_asked (asks.Answer r out) = handle_names
  handles_asked (asks.Raw x bytes xs) = before_list one handle_names
  handles_asked (asks.Close (closings.Handle x)) = listed one
  handles_asked (asks.Flow x f) = before_list one []
  handles_asked asked = []

  -- of its pendings
  abbrev pendings_asked : Asked → List NameId
  pendings_asked (asks.Attach p seq) = listed one
  pendings_asked (asks.Call y id out) = pending_names
  pendings_asked (asks.Answer r out) = pending_names
  pendings_asked (asks.Close (closings.Pending p)) = listed one
  pendings_asked asked = []

  -- of its responder
  abbrev responder_asked : Asked → List NameId
  responder_asked (asks.Answer r out) = listed one
  responder_asked (asks.Close (closings.Responder r)) = listed one
  responder_asked asked = []

  handles_are : (command : Command) → handles_under one handle_names pending_names command ≡ handles_asked (asked_of command)
  handles_are (commands.Close (close.Handle x)) = refl
  handles_are command = refl

  pendings_are : (command : Command) → pendings_under one handle_names pending_names command ≡ pendings_asked (asked_of command)
  pendings_are (commands.Close (close.Pending p)) = refl
  pendings_are command = refl

  responder_are : (command : Command) → responder_under one handle_names pending_names command ≡ responder_asked (asked_of command)
  responder_are (commands.Close (close.Responder r)) = refl
  responder_are command = refl

-- with the name of an end that bytes are written from, or of a token that they are moved at
abbrev own_asked : Asked → Option NameId → List NameId → List NameId
own_asked (asks.Raw x bytes xs) one spent = before_list one spent
own_asked (asks.Flow x f) one spent = before_list one spent
own_asked asked one spent = spent

own_are : (command : Command) (one : Option NameId) (spent : List NameId) → own_before command one spent ≡ own_asked (asked_of command) one spent
own_are (commands.Raw x bytes xs) one spent = refl
own_are (commands.Flow x f) one spent = refl
own_are (commands.Close (close.Handle x)) one spent = refl
own_are command one spent = refl

-- as SpendsAs, by what is asked
record SpendsAsked (stands : NameId → Option Thing) (line : LineCommand) (names : Names) (asked : Asked) : Type 0 where
  handles : handles_asked names.one names.handles.items names.pendings.items asked ≡ own_asked asked names.one (handles_spent stands line asked)
  pendings : pendings_asked names.one names.handles.items names.pendings.items asked ≡ pendings_spent stands line asked
  responder : responder_asked names.one names.handles.items names.pendings.items asked ≡ responders_spent stands line asked

-- what is skipped, or asked with what is there
module _ (P : Asked → Type 0) (number : ℕ) (skipped : P (asks.Skip number)) where
  with_one : {X : Type 0} (f : X → Asked) (o : Option X) → ((x : X) → P (f x)) → P (or_skip number (option_map f o))
  with_one f None h = skipped
  with_one f (Some x) h = h x

  with_two : {X Y : Type 0} (f : X → Y → Asked) (o : Option X) (q : Option Y) → ((x : X) (y : Y) → P (f x y))
      → P (or_skip number (option_and_then (λ (x : X). option_map (f x) q) o))
  with_two f None q h = skipped
  with_two f (Some x) None h = skipped
  with_two f (Some x) (Some y) h = h x y

  with_test : (b : Bool) (o : Option Asked) → P (or_skip number o) → P (or_skip number (if b then None else o))
  with_test true o h = skipped
  with_test false o h = h

  with_closed : (thing : Option Thing) (pending : Option PendingId) (responder : Option ResponderId)
      → ((x : Thing) → P (asks.Close (closings.Handle x))) → ((p : PendingId) → P (asks.Close (closings.Pending p)))
      → ((r : ResponderId) → P (asks.Close (closings.Responder r))) → P (or_skip number (closed_of thing pending responder))
  with_closed (Some x) pending responder a b c = a x
  with_closed None (Some p) responder a b c = b p
  with_closed None None None a b c = skipped
  with_closed None None (Some r) a b c = c r

-- a line that is skipped spends nothing
spends_nothing : (stands : NameId → Option Thing) (line : LineCommand) (names : Names) (number : ℕ) → SpendsAsked stands line names (asks.Skip number)
spends_nothing stands line names number = record { handles = refl; pendings = refl; responder = refl }

-- what a line asks is spent so
spends_for : (held : Named) (number : ℕ) (line : LineCommand) (names : Names) → AreNames (λ (n : NameId). is_some (held.stands n)) line names
    → SpendsAsked held.stands line names (or_skip number (asked_for held line))
spends_for held number (Join other first second) names are = record { handles = refl; pendings = refl; responder = refl }
spends_for held number (Pipe first second) names are = record { handles = refl; pendings = refl; responder = refl }
spends_for held number (Mint sort n) names are = record { handles = refl; pendings = refl; responder = refl }
spends_for held number (Bind n side interface) names are =
    with_one (SpendsAsked held.stands (Bind n side interface) names) number (spends_nothing held.stands (Bind n side interface) names number)
    (λ x. asks.Bind x side interface) (held.handle n) (λ x. record { handles = ap listed are.one; pendings = refl; responder = refl })
spends_for held number (Associate n side interface p) names are =
    with_one (SpendsAsked held.stands (Associate n side interface p) names) number (spends_nothing held.stands (Associate n side interface p) names number)
    (λ y. asks.Associate y side interface) (as_end (held.stands n)) (λ y. record { handles = refl; pendings = refl; responder = refl })
spends_for held number (Attach n seq) names are =
    with_one (SpendsAsked held.stands (Attach n seq) names) number (spends_nothing held.stands (Attach n seq) names number)
    (λ p. asks.Attach p seq) (held.pending n) (λ p. record { handles = refl; pendings = ap listed are.one; responder = refl })
spends_for held number (Call n id prepared list moment) names are =
    with_two (SpendsAsked held.stands (Call n id prepared list moment) names) number (spends_nothing held.stands (Call n id prepared list moment) names number)
    (λ y out. asks.Call y id out) (as_end (held.stands n)) (sent_with held prepared list moment)
    (λ y out. record { handles = are.handles; pendings = are.pendings; responder = refl })
spends_for held number (Take n list) names are =
    with_one (SpendsAsked held.stands (Take n list) names) number (spends_nothing held.stands (Take n list) names number)
    (λ y. asks.Take y) (as_end (held.stands n)) (λ y. record { handles = refl; pendings = refl; responder = refl })
spends_for held number (Answer n prepared list moment) names are =
    with_two (SpendsAsked held.stands (Answer n prepared list moment) names) number (spends_nothing held.stands (Answer n prepared list moment) names number)
    (λ r out. asks.Answer r out) (held.responder n) (sent_with held prepared list moment)
    (λ r out. record { handles = are.handles; pendings = are.pendings; responder = ap listed are.one })
spends_for held number (Raw n bytes list) names are =
    let nothing = spends_nothing held.stands (Raw n bytes list) names number in
    with_test (SpendsAsked held.stands (Raw n bytes list) names) number nothing (has_name list n)
    (option_and_then (λ (x : Thing). option_map (λ (xs : List Thing). asks.Raw x bytes xs) (all_held held.handle list)) (held.handle n))
    (with_two (SpendsAsked held.stands (Raw n bytes list) names) number nothing (λ x xs. asks.Raw x bytes xs) (held.handle n) (all_held held.handle list)
    (λ x xs. record { handles = ap (before_list names.one) are.handles; pendings = refl; responder = refl }))
spends_for held number (CloseToken n) names are =
    with_closed (SpendsAsked held.stands (CloseToken n) names) number (spends_nothing held.stands (CloseToken n) names number)
    (held.handle n) (held.pending n) (held.responder n)
    (λ x. record { handles = ap listed are.one; pendings = refl; responder = refl })
    (λ p. record { handles = refl; pendings = ap listed are.one; responder = refl })
    (λ r. record { handles = refl; pendings = refl; responder = ap listed are.one })
spends_for held number (CloseEndpoint n id) names are =
    with_one (SpendsAsked held.stands (CloseEndpoint n id) names) number (spends_nothing held.stands (CloseEndpoint n id) names number)
    (λ y. asks.Close (closings.Endpoint y id)) (as_end (held.stands n)) (λ y. record { handles = refl; pendings = refl; responder = refl })
spends_for held number (Notify n notice) names are =
    with_one (SpendsAsked held.stands (Notify n notice) names) number (spends_nothing held.stands (Notify n notice) names number)
    (λ y. asks.Notify y notice) (as_end (held.stands n)) (λ y. record { handles = refl; pendings = refl; responder = refl })
spends_for held number (Pause n m flush) names are =
    with_two (SpendsAsked held.stands (Pause n m flush) names) number (spends_nothing held.stands (Pause n m flush) names number)
    (λ b a. asks.Pause b a flush) (as_end (held.stands n)) (as_end (held.stands m))
    (λ b a. record { handles = refl; pendings = refl; responder = refl })
spends_for held number (Data size first second) names are = record { handles = refl; pendings = refl; responder = refl }
spends_for held number (Flow n flow) names are =
    with_one (SpendsAsked held.stands (Flow n flow) names) number (spends_nothing held.stands (Flow n flow) names number)
    (λ x. asks.Flow x flow) (held.handle n) (λ x. record { handles = refl; pendings = refl; responder = refl })

-- the command that asks what its line does takes from under the names of what is spent
pub spends_as : (held : Named) (line : Line) (names : Names) (command : Command) → AreNames (λ (n : NameId). is_some (held.stands n)) line.command names
    → asked_of command ≡ asked_by held line → SpendsAs held.stands line.command names command
spends_as held line names command are e =
    let s : SpendsAsked held.stands line.command names (asked_of command) =
    subst (λ (a : Asked). SpendsAsked held.stands line.command names a) (sym e) (spends_for held line.number line.command names are) in
    record {
      handles =
          handles_are names.one names.handles.items names.pendings.items command
          ∙ (s.handles ∙ sym (own_are command names.one (handles_spent held.stands line.command (asked_of command))));
      pendings = pendings_are names.one names.handles.items names.pendings.items command ∙ s.pendings;
      responder = responder_are names.one names.handles.items names.pendings.items command ∙ s.responder;
    }
