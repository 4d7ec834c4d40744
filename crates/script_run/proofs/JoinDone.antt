-- The names of the sequences after one join more, and the joins that are done.
use Rattle.std.proofs.Common.{◌≡◌, ◌<◌, ◌≤◌, ◌+◌, ℕ, zero, suc, Bool, true, false, List, [], ◌∷◌, length, take, refl, sym, ap, ◌∙◌}
use Rattle.std.proofs.Common.{subst, arith, length-set}
use Rattle.std.specs.Prelude.{◌==◌, Option, Some, None, cond, filter, reverse, slice_get}
use Rattle.std.specs.List.{AllByRecursion}
use Rattle.std.specs.Option.{option_map}
use Rattle.std.proofs.Math.Path.{fun_ext}
use Rattle.std.proofs.lemmas.List.{length-append, length-reverse, reverse-append, take_all}
use Rattle.mj_base.specs.declared.ids.SeqId.{SeqId}
use Rattle.mj_schema.specs.declared.schema.Schema.{Schema}
use Rattle.handle_table.specs.declared.thing.Thing.{Thing}
use Rattle.bind_core.specs.Play.{Play}
use Rattle.bind_model.specs.Replies.{Legal}
use Rattle.bind_model.specs.WireOf.{wire_of}
use Rattle.bind_model.specs.declared.endpoint.PendingId.{PendingId}
use Rattle.bind_model.specs.declared.endpoint.ResponderId.{ResponderId}
use Rattle.bind_model.specs.declared.event.Event.{Event}
use Rattle.call_script.specs.Sound.{IsLine, IsScript, sets}
use Rattle.call_script.specs.declared.script.Command.{Command}
use Rattle.call_script.specs.declared.script.Command.TheVariants.{Join}
use Rattle.call_script.specs.declared.script.Line.{Line}
use Rattle.call_script.specs.declared.script.NameId.{NameId}
use Rattle.call_script.specs.declared.script.Script.{Script}
use Rattle.remote_receiver.specs.declared.rest.Rest.{Rest}
use Rattle.script_names.specs.Names.{Named, came_to, joined, joined_after, or_before}
use Rattle.script_run.specs.OfScript.{GoesOn, joins_by, next_join}
use Rattle.script_run.specs.Order.{is_join, joins_of}
use Rattle.script_run.specs.declared.joins.Joint.{Joint}
use Rattle.script_run.specs.declared.plain.Plain.{Plain}
use Rattle.script_names.specs.declared.rooms.Rooms.{Rooms}
use Rattle.script_run.specs.Draining.{IsCoreOf, past_in}
use Rattle.script_run.specs.steps.Going.{HasJoined, HaveRooms}
use Rattle.script_run.specs.steps.Joints.{HasMade, joint_event}
use Rattle.script_run.specs.Rooms.{GaveBoth, filled_if}
use Rattle.script_names.specs.Held.{HaveNames, name_of, names_in}
use Rattle.script_names.specs.Held.{held_at}
use Rattle.script_names.specs.Tables.{filled}
use Rattle.script_names.proofs.NameLemmas.{held_given}
use Rattle.script_names.proofs.TableLemmas.{eqb-turned}

-- ## Names

-- names by what they stand for and what is held under them
abbrev named_by : (NameId → Option Thing) → (NameId → Option Thing) → (NameId → Option PendingId) → (NameId → Option ResponderId) → Named
named_by stands handle pending responder =
    record { stands = stands; handle = handle; pending = pending; responder = responder }

pub same_named : (a b : Named) → a.stands ≡ b.stands → a.handle ≡ b.handle → a.pending ≡ b.pending → a.responder ≡ b.responder → a ≡ b
same_named a b e f g h =
    ap (λ (x : NameId → Option Thing). named_by x a.handle a.pending a.responder) e
    ∙ (ap (λ (x : NameId → Option Thing). named_by b.stands x a.pending a.responder) f
    ∙ (ap (λ (x : NameId → Option PendingId). named_by b.stands b.handle x a.responder) g
    ∙ ap (λ (x : NameId → Option ResponderId). named_by b.stands b.handle b.pending x) h))

pub or_or : {X : Type 0} (a b c : Option X) → or_before a (or_before b c) ≡ or_before (or_before a b) c
or_or (Some x) b c = refl
or_or None b c = refl

-- what is held under a name after an end came for this sequence
pub held_if : (b : Bool) (table : List (Option Thing)) (m : NameId) (x : Thing) (n : NameId) → m.0 < length table
    → held_at (filled_if b table m x) n ≡ or_before (came_to b (m ∷ []) (x ∷ []) n) (held_at table n)
held_if true table m x n within = held_given (m ∷ []) (x ∷ []) table (within, tt) n
held_if false table m x n within = refl

pub length_if : (b : Bool) (table : List (Option Thing)) (m : NameId) (x : Thing) → length (filled_if b table m x) ≡ length table
length_if true table m x = length-set table m.0 (Some x)
length_if false table m x = refl

-- the line of a join
abbrev pub line_of : Joint → ℕ → Line
line_of joint number = record { number = number; seq = joint.seq; command = Join joint.other joint.first joint.second }

module _ (joint : Joint) (number names : ℕ) (x y : Thing) (t : SeqId) (before after : Rooms) (have : HaveNames names before)
    (first_within : joint.first.0 < names) (second_within : joint.second.0 < names) (gave : GaveBoth joint x y t.0 before after) where
  -- what names stand for
  stands_after : (n : NameId) → (names_in after).stands n ≡ (joined_after t (Some (line_of joint number)) (joint_event joint x y) (names_in before)).stands n
  stands_after n =
      ap (λ (table : List (Option Thing)). held_at table n) gave.stands
      ∙ held_given (joint.first ∷ joint.second ∷ []) (x ∷ y ∷ []) before.stands.things.items (
        subst (λ (k : ℕ). joint.first.0 < k) (sym have.stands) first_within,
        (subst (λ (k : ℕ). joint.second.0 < k) (sym have.stands) second_within, tt),
      ) n

  -- the handles that were held before
  abbrev table : List (Option Thing)
  table = before.handles.named.items

  -- and hold
  handle_after : (n : NameId) → (names_in after).handle n ≡ (joined_after t (Some (line_of joint number)) (joint_event joint x y) (names_in before)).handle n
  handle_after n =
      ap (λ (table : List (Option Thing)). held_at table n) gave.handles
      ∙ (held_if (joint.seq.0 == t.0) (filled_if (joint.other.0 == t.0) table joint.second y) joint.first x n
      (subst (λ (k : ℕ). joint.first.0 < k) (sym (length_if (joint.other.0 == t.0) table joint.second y ∙ have.handles)) first_within)
      ∙ (ap (or_before (came_to (joint.seq.0 == t.0) (joint.first ∷ []) (x ∷ []) n))
      (held_if (joint.other.0 == t.0) table joint.second y n (subst (λ (k : ℕ). joint.second.0 < k) (sym have.handles) second_within))
      ∙ (or_or (came_to (joint.seq.0 == t.0) (joint.first ∷ []) (x ∷ []) n) (came_to (joint.other.0 == t.0) (joint.second ∷ []) (y ∷ []) n)
      (held_at table n)
      ∙ (ap (λ (b : Bool). or_before (or_before (came_to b (joint.first ∷ []) (x ∷ []) n) (came_to (joint.other.0 == t.0) (joint.second ∷ []) (y ∷ []) n))
      (held_at table n)) (eqb-turned joint.seq.0 t.0)
      ∙ ap (λ (b : Bool). or_before (or_before (came_to (t.0 == joint.seq.0) (joint.first ∷ []) (x ∷ []) n) (came_to b (joint.second ∷ []) (y ∷ []) n))
      (held_at table n)) (eqb-turned joint.other.0 t.0)))))

  names_joined : names_in after ≡ joined_after t (Some (line_of joint number)) (joint_event joint x y) (names_in before)
  names_joined =
      same_named (names_in after) (joined_after t (Some (line_of joint number)) (joint_event joint x y) (names_in before))
      (fun_ext stands_after) (fun_ext handle_after)
      (ap (λ ps. λ (n : NameId). name_of (held_at ps.items n)) gave.pendings)
      (ap (λ rs. held_at rs.items) gave.responders)

  have_after : HaveNames names after
  have_after = record {
    stands =
        ap length gave.stands
        ∙ (length-set (filled before.stands.things.items joint.second y) joint.first.0 (Some x)
        ∙ (length-set before.stands.things.items joint.second.0 (Some y) ∙ have.stands));
    handles =
        ap length gave.handles
        ∙ (length_if (joint.seq.0 == t.0) (filled_if (joint.other.0 == t.0) before.handles.named.items joint.second y) joint.first x
        ∙ (length_if (joint.other.0 == t.0) before.handles.named.items joint.second y ∙ have.handles));
    pendings = ap (λ ps. length ps.items) gave.pendings ∙ have.pendings;
    responders = ap (λ rs. length rs.items) gave.responders ∙ have.responders;
  }

-- ## One join more

module _ (s : Schema) (script : Script) (count : ℕ) (core after : Play) (rests rests' : List (Rest Plain)) (rooms rooms' : List Rooms)
    (done : HasJoined s script count core rests rooms) (joint : Joint) (number : ℕ)
    (here : slice_get (joins_of script) count ≡ Some (line_of joint number))
    (first_within : joint.first.0 < script.names) (second_within : joint.second.0 < script.names)
    (made : HasMade joint core after rests' rooms rooms') where
  -- the event of the join
  abbrev event : Event
  event = joint_event joint made.first made.second

  past_after : past_in after ≡ event ∷ past_in core
  past_after = ap reverse made.joined.event ∙ reverse-append core.events (event ∷ [])

  length_past : length (past_in core) ≡ count
  length_past = length-reverse core.events ∙ done.count

  line_here : slice_get (joins_of script) (length (past_in core)) ≡ Some (line_of joint number)
  line_here = ap (slice_get (joins_of script)) length_past ∙ here

  core_after : IsCoreOf s script after
  core_after = record {
    schema = made.joined.schema ∙ done.core.schema;
    seqs = made.joined.seqs ∙ done.core.seqs;
    legal =
        subst (λ (n : ℕ). Legal (wire_of after.schema) n after.events) (sym made.joined.seqs)
        (subst (λ (x : Schema). Legal (wire_of x) core.seqs after.events) (sym made.joined.schema) (made.joined.legal done.core.legal));
    few = omega (arith, made.joined.few, ap length made.joined.event, length-append core.events (event ∷ []));
  }

  rooms_after : HaveRooms script.seqs script.names (λ t. joined t (joins_of script) (past_in after)) rooms'
  rooms_after = record {
    count = made.rooms.count ∙ done.rooms.count;
    names = λ t room at.
        let was = made.rooms.each t.0 room at in
        have_after joint number script.names made.first made.second t was.0 room (done.rooms.names t was.0 was.1) first_within second_within was.2;
    held = λ t room at.
        let was = made.rooms.each t.0 room at in
        names_joined joint number script.names made.first made.second t was.0 room (done.rooms.names t was.0 was.1) first_within second_within was.2
        ∙ (ap (joined_after t (Some (line_of joint number)) event) (done.rooms.held t was.0 was.1)
        ∙ (ap (λ (o : Option Line). joined_after t o event (joined t (joins_of script) (past_in core))) (sym line_here)
        ∙ ap (joined t (joins_of script)) (sym past_after)));
  }

  one_joined : HasJoined s script (count + 1) after rests' rooms'
  one_joined = record {
    core = core_after;
    rests = made.joined.rests;
    asks = subst (GoesOn (next_join script)) (sym past_after) (ap (option_map joins_by) line_here, done.asks);
    count = ap length made.joined.event ∙ (length-append core.events (event ∷ []) ∙ ap (λ (n : ℕ). n + 1) done.count);
    rooms = rooms_after;
  }

-- ## The joins among lines

-- the joins among lines
abbrev pub joins_in : List Line → List Line
joins_in lines = filter (λ (line : Line). is_join line.command) lines

-- a line by its number, its sequence and its command
abbrev pub given_line : ℕ → SeqId → Command → Line
given_line number seq command = record { number = number; seq = seq; command = command }

-- a line that joins is the next of them
pub join_here : (lines : List Line) (i : ℕ) (line : Line) → slice_get lines i ≡ Some line → is_join line.command ≡ true
    → slice_get (joins_in lines) (length (joins_in (take i lines))) ≡ Some line
join_here [] i line at is = absurd cc
join_here (l ∷ lines) zero line at is =
    let same : line ≡ l = cc in
    let joins : is_join l.command ≡ true = subst (λ (x : Line). is_join x.command ≡ true) same is in
    ap (λ (b : Bool). slice_get (cond b (l ∷ joins_in lines) (joins_in lines)) 0) joins ∙ at
join_here (l ∷ lines) (suc i) line at is = by (is_join l.command) (join_here lines i line at is)
  where
    by : (b : Bool) → slice_get (joins_in lines) (length (joins_in (take i lines))) ≡ Some line
        → slice_get (cond b (l ∷ joins_in lines) (joins_in lines)) (length (cond b (l ∷ joins_in (take i lines)) (joins_in (take i lines)))) ≡ Some line
    by true e = e
    by false e = e

-- how many there are up to a line
abbrev pub step_if : Bool → ℕ → ℕ
step_if true n = suc n
step_if false n = n

pub joins_more : (lines : List Line) (i : ℕ) (line : Line) → slice_get lines i ≡ Some line
    → length (joins_in (take (suc i) lines)) ≡ step_if (is_join line.command) (length (joins_in (take i lines)))
joins_more [] i line at = absurd cc
joins_more (l ∷ lines) zero line at =
    let same : l ≡ line = cc in
    first (is_join l.command) ∙ ap (λ (x : Line). step_if (is_join x.command) 0) same
  where
    first : (b : Bool) → length (cond b (l ∷ []) []) ≡ step_if b 0
    first true = refl
    first false = refl
joins_more (l ∷ lines) (suc i) line at = by (is_join l.command) (is_join line.command) (joins_more lines i line at)
  where
    by : (b c : Bool) → length (joins_in (take (suc i) lines)) ≡ step_if c (length (joins_in (take i lines)))
        → length (cond b (l ∷ joins_in (take (suc i) lines)) (joins_in (take (suc i) lines)))
        ≡ step_if c (length (cond b (l ∷ joins_in (take i lines)) (joins_in (take i lines))))
    by true true e = ap suc e
    by true false e = ap suc e
    by false true e = e
    by false false e = e

-- ## The lines, one after the other

-- what holds of a line of a script
pub at_line : {X : Type 0} (P : X → Type 0) (lines : List X) (i : ℕ) (line : X) → AllByRecursion P lines → slice_get lines i ≡ Some line → P line
at_line P [] i line all at = absurd cc
at_line P (l ∷ lines) zero line all at = let same : l ≡ line = cc in subst P same all.0
at_line P (l ∷ lines) (suc i) line all at = at_line P lines i line all.1 at

-- so many lines were looked at, and the joins among them are done
abbrev pub JoinedUpTo : List Line → ℕ → Play → List (Rest Plain) → List Rooms → Play → List (Rest Plain) → List Rooms → Type 0
JoinedUpTo lines i first_core first_rests first_rooms core rests rooms = (s : Schema) (script : Script) → IsScript s script → lines ≡ script.lines
    → HasJoined s script 0 first_core first_rests first_rooms → HasJoined s script (length (joins_in (take i lines))) core rests rooms

module _ (lines : List Line) (i : ℕ) (line : Line) (at : slice_get lines i ≡ Some line) (first_core : Play) (first_rests : List (Rest Plain))
    (first_rooms : List Rooms)
    (core : Play) (rests : List (Rest Plain)) (rooms : List Rooms) (upto : JoinedUpTo lines i first_core first_rests first_rooms core rests rooms) where
  one_more : length (joins_in (take (i + 1) lines)) ≡ step_if (is_join line.command) (length (joins_in (take i lines)))
  one_more =
      let next : i + 1 ≡ suc i = omega arith in
      ap (λ (k : ℕ). length (joins_in (take k lines))) next ∙ joins_more lines i line at

  -- a line that joins
  pub joined_next : (after : Play) (rests' : List (Rest Plain)) (rooms' : List Rooms) (joint : Joint)
      → line.command ≡ Join joint.other joint.first joint.second → line.seq ≡ joint.seq → HasMade joint core after rests' rooms rooms'
      → JoinedUpTo lines (i + 1) first_core first_rests first_rooms after rests' rooms'
  joined_next after rests' rooms' joint command seq made s script is same done =
      let line_is : line ≡ line_of joint line.number =
      ap (λ (c : Command). given_line line.number line.seq c) command
      ∙ ap (λ (q : SeqId). given_line line.number q (Join joint.other joint.first joint.second)) seq in
      let joins : is_join line.command ≡ true = ap is_join command in
      let there : slice_get script.lines i ≡ Some line = ap (λ (ls : List Line). slice_get ls i) (sym same) ∙ at in
      let sound : IsLine s script.seqs script.names line = at_line (IsLine s script.seqs script.names) script.lines i line is.lines there in
      let within = subst (λ (c : Command). AllByRecursion (λ (id : NameId). id.0 < script.names) (sets c)) command sound.sets in
      let here : slice_get (joins_of script) (length (joins_in (take i lines))) ≡ Some (line_of joint line.number) =
      ap (λ (ls : List Line). slice_get (joins_in ls) (length (joins_in (take i lines)))) (sym same)
      ∙ (join_here lines i line at joins ∙ ap (λ (x : Line). Some x) line_is) in
      let one : length (joins_in (take i lines)) + 1 ≡ suc (length (joins_in (take i lines))) = omega arith in
      let next : length (joins_in (take (i + 1) lines)) ≡ length (joins_in (take i lines)) + 1 =
      one_more ∙ (ap (λ (b : Bool). step_if b (length (joins_in (take i lines)))) joins ∙ sym one) in
      subst (λ (n : ℕ). HasJoined s script n after rests' rooms') (sym next)
      (one_joined s script (length (joins_in (take i lines))) core after rests rests' rooms rooms' (upto s script is same done) joint line.number here
      within.0 within.1.0 made)

  -- one that doesn't
  pub joined_same : ((other : SeqId) (first second : NameId) → line.command ≡ Join other first second → ⊥)
      → JoinedUpTo lines (i + 1) first_core first_rests first_rooms core rests rooms
  joined_same never s script is same done =
      let next : length (joins_in (take (i + 1) lines)) ≡ length (joins_in (take i lines)) =
      one_more ∙ ap (λ (b : Bool). step_if b (length (joins_in (take i lines)))) (none line.command never) in
      subst (λ (n : ℕ). HasJoined s script n core rests rooms) (sym next) (upto s script is same done)
    where
      none : (command : Command) → ((other : SeqId) (first second : NameId) → command ≡ Join other first second → ⊥) → is_join command ≡ false
      none (Join other first second) h = absurd (h other first second refl)
      none command h = refl

-- before the first
pub joined_none : (lines : List Line) (core : Play) (rests : List (Rest Plain)) (rooms : List Rooms)
    → JoinedUpTo lines 0 core rests rooms core rests rooms
joined_none lines core rests rooms s script is same done = done

-- behind the last
pub joined_all : (lines : List Line) (i : ℕ) (first_core : Play) (first_rests : List (Rest Plain)) (first_rooms : List Rooms) (core : Play)
    (rests : List (Rest Plain)) (rooms : List Rooms) → length lines ≤ i → JoinedUpTo lines i first_core first_rests first_rooms core rests rooms
    → (s : Schema) (script : Script) → IsScript s script → lines ≡ script.lines → HasJoined s script 0 first_core first_rests first_rooms
    → HasJoined s script (length (joins_of script)) core rests rooms
joined_all lines i first_core first_rests first_rooms core rests rooms past upto s script is same done =
    subst (λ (ls : List Line). HasJoined s script (length (joins_in ls)) core rests rooms) (take_all i lines past ∙ same) (upto s script is same done)
