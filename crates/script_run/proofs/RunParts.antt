-- How a run begins, where the joins end, where the lines end, and the whole.
use Rattle.std.proofs.Common.{◌≡◌, ◌<◌, ℕ, zero, suc, Bool, Bor, true, false, List, [], ◌∷◌, ◌++◌, get_or, length, map, refl, sym, ap, ◌∙◌, subst, arith}
use Rattle.std.specs.Prelude.{◌==◌, Option, Some, None, Result, Ok, Err, IfOk, OnOk, IfNone, replicate, reverse, slice_get, option_and_then, if◌then◌else◌}
use Rattle.std.specs.List.{AllByRecursion}
use Rattle.std.specs.Option.{option_map}
use Rattle.std.proofs.Math.Path.{fun_ext}
use Rattle.std.proofs.lemmas.List.{append-nil, length-replicate, length-reverse}
use Rattle.std.proofs.lemmas.Option.{slice_get-map, slice_get_past, slice_get_read}
use Rattle.mj_base.specs.declared.ids.SeqId.{SeqId}
use Rattle.mj_schema.specs.declared.schema.Schema.{Schema}
use Rattle.handle_table.proofs.NumberedLemmas.{get-push}
use Rattle.handle_table.specs.declared.thing.Thing.{Thing}
use Rattle.bind_core.specs.Play.{Play}
use Rattle.bind_model.specs.Pendings.{Half}
use Rattle.bind_model.specs.Left.{left}
use Rattle.bind_model.specs.Replies.{Legal, responders_handed}
use Rattle.bind_model.specs.Wire.{Wire}
use Rattle.bind_model.specs.WireOf.{wire_of}
use Rattle.bind_model.specs.declared.asked.Asked.TheVariants as asks
use Rattle.bind_model.specs.declared.endpoint.PendingId.{PendingId}
use Rattle.bind_model.specs.declared.endpoint.ResponderId.{ResponderId}
use Rattle.bind_model.specs.declared.event.Event.{Event}
use Rattle.bind_model.specs.declared.told.Told.{Told}
use Rattle.bind_model.specs.declared.told.Told.TheVariants.{Taken}
use Rattle.callback_laws.specs.Callbacks.{callbacks}
use Rattle.call_script.specs.declared.script.Command.{Command}
use Rattle.call_script.specs.declared.script.Command.TheVariants.{Join}
use Rattle.call_script.specs.declared.script.Line.{Line}
use Rattle.call_script.specs.declared.script.NameId.{NameId}
use Rattle.call_script.specs.declared.script.Script.{Script}
use Rattle.call_script.specs.Sound.{IsLine}
use Rattle.remote_receiver.specs.declared.rest.Rest.{Rest}
use Rattle.script_names.specs.Autos.{due}
use Rattle.script_names.specs.Names.{joined, unnamed}
use Rattle.script_run.specs.OfScript.{GoesOn, IsPart, Next, OfScript, joins_by, next_join, next_take}
use Rattle.script_names.specs.Asking.{asked_by}
use Rattle.script_run.specs.Order.{is_join, joins_of}
use Rattle.script_run.specs.declared.cut.Cut.{Cut}
use Rattle.script_run.specs.declared.draining.Drained.{Drained}
use Rattle.script_run.specs.declared.plain.Plain.{Plain}
use Rattle.script_names.specs.declared.rooms.Rooms.{Rooms}
use Rattle.script_run.specs.declared.runner.Ran.{Ran}
use Rattle.script_run.specs.Draining.{DrainedAll, HasDrained, HaveRested, IsCoreOf, past_in}
use Rattle.script_run.specs.steps.Going.{HasDone, HasJoined, Played, PlayedAll}
use Rattle.script_run.specs.steps.Orders.{AreInOrder}
use Rattle.script_names.specs.Held.{HaveNames, name_of, names_in}
use Rattle.script_run.specs.steps.Running.{AreDone, AreLines, IsRunning}
use Rattle.script_run.specs.Rooms.{AreUnnamed, IsUnnamed}
use Rattle.script_names.specs.Held.{held_at}
use Rattle.script_run.proofs.OrderLists.{kept_passes}
use Rattle.script_run.proofs.TurnLemmas.{AreCounted, line_holds, over_left}

-- ## Names that stand for nothing

pub none_held : {X : Type 0} (size : ℕ) (n : NameId) → held_at (replicate {A = Option X} size None) n ≡ None
none_held {X} size n = go size n.0
  where
    go : (k m : ℕ) → option_and_then (λ (held : Option X). held) (slice_get (replicate {A = Option X} k None) m) ≡ None
    go zero m = refl
    go (suc k) zero = refl
    go (suc k) (suc m) = go k m

pub none_there : {X : Type 0} (xs : List X) → length xs ≡ 0 → xs ≡ []
none_there [] e = refl
none_there (x ∷ xs) e = absurd (omega (arith, e))

-- a new room
pub unnamed_new : (room : Rooms) → HaveNames 0 room → IsUnnamed 0 room
unnamed_new room have = record {
  stands = none_there room.stands.things.items have.stands;
  handles = none_there room.handles.named.items have.handles;
  pendings = none_there room.pendings.named.items have.pendings;
  responders = none_there room.responders.named.items have.responders;
}

-- one room more
pub each_pushed : (P : Rooms → Type 0) (rooms : List Rooms) (last : Rooms) → P last → ((k : ℕ) (room : Rooms) → slice_get rooms k ≡ Some room → P room)
    → (k : ℕ) (room : Rooms) → slice_get (rooms ++ last ∷ []) k ≡ Some room → P room
each_pushed P rooms last own others k room e = go (length rooms == k) (sym (get-push last rooms k) ∙ e)
  where
    go : (b : Bool) → (if b then Some last else slice_get rooms k) ≡ Some room → P room
    go true h = let same : last ≡ room = cc in subst P same own
    go false h = others k room h

pub unnamed_names : (size : ℕ) (room : Rooms) → IsUnnamed size room → HaveNames size room
unnamed_names size room is = record {
  stands = ap length is.stands ∙ length-replicate size None;
  handles = ap length is.handles ∙ length-replicate size None;
  pendings = ap length is.pendings ∙ length-replicate size None;
  responders = ap length is.responders ∙ length-replicate size None;
}

pub unnamed_held : (size : ℕ) (room : Rooms) → IsUnnamed size room → names_in room ≡ unnamed
unnamed_held size room is =
    let things : held_at room.stands.things.items ≡ (λ (n : NameId). None) =
    fun_ext (λ (n : NameId). ap (λ (table : List (Option Thing)). held_at table n) is.stands ∙ none_held size n) in
    let handles : held_at room.handles.named.items ≡ (λ (n : NameId). None) =
    fun_ext (λ (n : NameId). ap (λ (table : List (Option Thing)). held_at table n) is.handles ∙ none_held size n) in
    let pendings : (λ (n : NameId). name_of (held_at room.pendings.named.items n)) ≡ (λ (n : NameId). None) =
    fun_ext (λ (n : NameId). ap name_of (ap (λ (table : List (Option Half)). held_at table n) is.pendings ∙ none_held size n)) in
    let responders : held_at room.responders.named.items ≡ (λ (n : NameId). None) =
    fun_ext (λ (n : NameId). ap (λ (table : List (Option ResponderId)). held_at table n) is.responders ∙ none_held size n) in
    ap (λ (f : NameId → Option Thing). record (names_in room) { stands = f }) things
    ∙ (ap (λ (f : NameId → Option Thing). record (names_in room) { stands = unnamed.stands; handle = f }) handles
    ∙ (ap (λ (f : NameId → Option PendingId). record unnamed { pending = f; responder = held_at room.responders.named.items }) pendings
    ∙ ap (λ (f : NameId → Option ResponderId). record unnamed { responder = f }) responders))

-- before the first join
pub joined_none : (schema : Schema) (script : Script) (core : Play) (rests : List (Rest Plain)) (rooms : List Rooms) → core.schema ≡ schema
    → core.seqs ≡ script.seqs → core.events ≡ [] → HaveRested core rests → AreUnnamed script.seqs script.names rooms
    → HasJoined schema script 0 core rests rooms
joined_none schema script core rests rooms of seqs fresh rested are =
    let none : past_in core ≡ [] = ap reverse fresh in
    record {
      core = record { schema = of; seqs = seqs; legal = rw none tt; few = rw fresh (omega arith) };
      rests = rested;
      asks = rw none tt;
      count = ap length fresh;
      rooms = record {
        count = are.count;
        names = λ s room e. unnamed_names script.names room (are.each s.0 room e);
        held = λ s room e.
            unnamed_held script.names room (are.each s.0 room e) ∙ ap (λ (past : List Event). joined s (joins_of script) past) (sym none);
      };
    }

-- ## Behind the joins

no_responder : (wire : Wire) (told : Told) (other : SeqId) → responders_handed wire told (asks.Join other) ≡ []
no_responder wire (Taken g) other = refl
no_responder wire told other = refl

joins_ask : (line : Line) → is_join line.command ≡ true → (other : SeqId) × (asked_by unnamed line ≡ asks.Join other)
joins_ask line e = go line.command refl e
  where
    go : (command : Command) → line.command ≡ command → is_join command ≡ true → (other : SeqId) × (asked_by unnamed line ≡ asks.Join other)
    go (Join other first second) h join = (other, rw h refl)
    go command h join = absurd cc

-- no automatic reply is due behind a join
pub none_joined : (wire : Wire) (script : Script) (past : List Event) → GoesOn (next_join script) past → due wire script.autos past ≡ None
none_joined wire script [] goes = refl
none_joined wire script (event ∷ past) goes = by (slice_get (joins_of script) (length past)) refl goes.0
  where
    by : (o : Option Line) → slice_get (joins_of script) (length past) ≡ o → option_map joins_by o ≡ Some (event.seq, event.asked)
        → due wire script.autos (event ∷ past) ≡ None
    by None e h = absurd cc
    by (Some line) e h =
        let join : is_join line.command ≡ true = kept_passes (λ (l : Line). is_join l.command) script.lines (length past) line e in
        let found = joins_ask line join in
        let pair : joins_by line ≡ (event.seq, event.asked) = cc in
        let asked : event.asked ≡ asks.Join found.0 = sym (ap (λ (n : Next). n.1) pair) ∙ found.1 in
        let none : responders_handed wire event.told event.asked ≡ [] =
        ap (responders_handed wire event.told) asked ∙ no_responder wire event.told found.0 in
        rw none refl

module _ (schema : Schema) (script : Script) (core : Play) (rests : List (Rest Plain)) (rooms : List Rooms)
    (joins : HasJoined schema script (length (joins_of script)) core rests rooms) where
  pub running_joined : IsRunning schema script core rests rooms
  running_joined = record {
    core = joins.core;
    rests = joins.rests;
    count = joins.rooms.count;
    names = joins.rooms.names;
    none = none_joined (wire_of schema) script (past_in core) joins.asks;
  }

  pub all_joined : IsPart (next_join script) [] (past_in core)
  all_joined =
      let size : length (past_in core) ≡ length (joins_of script) = length-reverse core.events ∙ joins.count in
      record {
        own = past_in core;
        whole = sym (append-nil (past_in core));
        asks = joins.asks;
        over = ap (option_map joins_by) (slice_get_past (joins_of script) (length (past_in core)) (omega (arith, size)));
      }

  -- before the first line
  pub done_none : (order : ℕ) (lines : List Line) → HasDone schema script order (past_in core) lines 0 core rests rooms
  done_none order lines = record {
    core = joins.core;
    rests = joins.rests;
    middle = [];
    whole = refl;
    each = λ s w. record { asks = tt; none = refl; done = refl };
    none = refl;
    done = refl;
    turns = tt;
    rooms = joins.rooms;
  }

-- ## Behind the lines

pub all_done : (schema : Schema) (script : Script) (order : ℕ) (after_joins : List Event) (lines : List Line) → AreInOrder script order lines
    → IsPart (next_join script) [] after_joins → (core : Play) (rests : List (Rest Plain)) (rooms : List Rooms)
    → HasDone schema script order after_joins lines (length lines) core rests rooms → AreDone schema script order core
all_done schema script order after_joins lines are joins core rests rooms done =
    let counted : AreCounted (wire_of schema) script lines (length lines) done.middle = record {
      none = done.none;
      done = done.done;
      quiet = λ s w. (done.each s w).none;
      each = λ s w. (done.each s w).done;
    } in
    record {
      after_joins = after_joins;
      middle = done.middle;
      whole = done.whole;
      joins = joins;
      lines = λ s w. record {
        asks = (done.each s w).asks;
        over = over_left (wire_of schema) script order lines are done.middle counted after_joins s w;
      };
      turns = done.turns;
    }

-- before the first take
pub drained_none : (schema : Schema) (script : Script) (core : Play) (rests : List (Rest Plain)) (rooms : List Rooms)
    → IsRunning schema script core rests rooms → HasDrained schema script (past_in core) core rests
drained_none schema script core rests rooms running = record {
  core = running.core;
  rests = running.rests;
  own = [];
  whole = refl;
  asks = tt;
  none = running.none;
}

-- ## The whole

-- what a core is, by the same core
pub drained_all : (schema other : Schema) (script : Script) (before : List Event) (core : Play) (drained : Drained) → other ≡ schema
    → IsCoreOf schema script core → IsPart (next_take (wire_of schema) script.autos before) before (past_in core) → drained.core ≡ core
    → IfOk drained.notes (λ notes. notes ≡ callbacks script.seqs core.events) → DrainedAll other script before drained
drained_all schema other script before core drained is of part same notes =
    subst (λ (s : Schema). DrainedAll s script before drained) (sym is) (record {
      core = subst (IsCoreOf schema script) (sym same) of;
      part = subst (λ (p : Play). IsPart (next_take (wire_of schema) script.autos before) before (past_in p)) (sym same) part;
      notes = subst (λ (p : Play). IfOk drained.notes (λ notes. notes ≡ callbacks script.seqs p.events)) (sym same) notes;
    })

-- where there is none, this holds and so does that
pub none_weaker : {A : Type 0} (o : Option A) (P Q : Type 0) → (P → Q) → IfNone o P → IfNone o Q
none_weaker None P Q f p = f p
none_weaker (Some x) P Q f p = tt

pub whole_run : (schema : Schema) (script : Script) (order : ℕ) (core : Play) (drained : Drained) → AreDone schema script order core
    → DrainedAll schema script (past_in core) drained → PlayedAll schema script order drained
whole_run schema script order core drained done all = record {
  core = all.core;
  whole = record {
    after_joins = done.after_joins;
    middle = done.middle;
    joins = done.joins;
    lines = done.lines;
    turns = done.turns;
    drain =
        subst (λ (before : List Event). IsPart (next_take (wire_of schema) script.autos before) before (past_in drained.core)) done.whole all.part;
  };
  notes = all.notes;
}

-- what a run leaves that wasn't cut off
pub ended : {E : Type 0} (schema : Schema) (script : Script) (order : ℕ) (drained : Drained) (r : Result Ran E) (Q P : Ran → Type 0)
    → Played schema script order drained → OnOk r (drained.cut ≡ None) → IfOk r (λ ran. ran.history.events ≡ drained.core.events) → IfOk r Q
    → ((ran : Ran) → PlayedAll schema script order drained → ran.history.events ≡ drained.core.events → Q ran → P ran) → IfOk r P
ended schema script order drained (Err e) Q P played cut history q f = tt
ended schema script order drained (Ok ran) Q P played cut history q f = f ran (all drained.cut played cut) history q
  where
    all : (o : Option Cut) → IfNone o (PlayedAll schema script order drained) → o ≡ None → PlayedAll schema script order drained
    all None p e = p
    all (Some x) p e = absurd cc

-- nothing is said
pub if_any : {A E : Type 0} (r : Result A E) → IfOk r (λ a. Unit {0})
if_any (Ok a) = tt
if_any (Err e) = tt

module _ (schema : Schema) (script : Script) (order : ℕ) (drained : Drained) (ran : Ran) (all : PlayedAll schema script order drained)
    (history : ran.history.events ≡ drained.core.events) where
  pub ran_legal : Legal (wire_of schema) script.seqs ran.history.events
  ran_legal =
      subst (λ (events : List Event). Legal (wire_of schema) script.seqs events) (sym history)
      (subst (λ (s : Schema). Legal (wire_of s) script.seqs drained.core.events) all.core.schema
      (subst (λ (n : ℕ). Legal (wire_of drained.core.schema) n drained.core.events) all.core.seqs all.core.legal))

  pub ran_script : OfScript schema script (Some order) ran.history.events
  ran_script = subst (OfScript schema script (Some order)) (sym history) all.whole

  pub ran_left : (things : List Thing) → things ≡ left drained.core.seqs (reverse drained.core.events)
      → things ≡ left script.seqs (reverse ran.history.events)
  ran_left things e =
      e ∙ (ap (λ (n : ℕ). left n (reverse drained.core.events)) all.core.seqs ∙ ap (λ (events : List Event). left script.seqs (reverse events)) (sym history))

  pub ran_notes : drained.notes ≡ Ok ran.notes → ran.notes ≡ callbacks script.seqs ran.history.events
  ran_notes e =
      subst (λ r. IfOk r (λ notes. notes ≡ callbacks script.seqs drained.core.events)) e all.notes ∙ ap (callbacks script.seqs) (sym history)

-- a line behind a reference
pub said_at : (lines : List (Bor Line)) (k : ℕ) (line : Bor Line) → k < length lines → line ≡ get_or lines k line
    → slice_get (map (λ (l : Bor Line). l.now) lines) k ≡ Some line.now
said_at lines k line within is =
    slice_get-map (λ (l : Bor Line). l.now) lines k
    ∙ ap (option_map (λ (l : Bor Line). l.now)) (slice_get_read lines (length lines) k line refl within is)

pub said_length : (lines : List (Bor Line)) → length (map (λ (l : Bor Line). l.now) lines) ≡ length lines
said_length [] = refl
said_length (line ∷ lines) = ap (λ (n : ℕ). suc n) (said_length lines)

-- the lines in the order are lines of the script
pub are_lines : (schema : Schema) (script : Script) (order : ℕ) (lines : List Line) → AreInOrder script order lines
    → AllByRecursion (IsLine schema script.seqs script.names) script.lines → AreLines schema script lines
are_lines schema script order lines are all =
    each_one lines (λ k line e. line_holds script order lines are k line e (IsLine schema script.seqs script.names) all)
  where
    each_one : (xs : List Line) → ((k : ℕ) (x : Line) → slice_get xs k ≡ Some x → IsLine schema script.seqs script.names x)
        → AllByRecursion (IsLine schema script.seqs script.names) xs
    each_one [] f = tt
    each_one (x ∷ xs) f = (f 0 x refl, each_one xs (λ k y e. f (suc k) y e))

-- and each of them is one
pub line_in : (schema : Schema) (script : Script) (lines : List Line) (k : ℕ) (line : Line) → AreLines schema script lines → slice_get lines k ≡ Some line
    → IsLine schema script.seqs script.names line
line_in schema script [] k line are e = absurd cc
line_in schema script (x ∷ lines) zero line are e =
    let same : x ≡ line = cc in subst (IsLine schema script.seqs script.names) same are.0
line_in schema script (x ∷ lines) (suc k) line are e = line_in schema script lines k line are.1 e
