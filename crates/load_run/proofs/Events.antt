-- One event more: what the core has then, and what the desks at rest keep.
use Rattle.std.proofs.Common.{◌≡◌, ◌<◌, ◌≤◌, ◌++◌, Bool, false, List, [], ◌∷◌, length, refl, sym, ap, ◌∙◌, subst, arith, eq-eqb, true≢false}
use Rattle.std.specs.Prelude.{◌==◌, Result, Ok, Err, OnOk, cond, is_err, map, reverse}
use Rattle.std.specs.List.{AllByRecursion}
use Rattle.std.proofs.lemmas.List.{append-nil, map-append}
use Rattle.std.proofs.lemmas.List.Elements.{filter-append}
use Rattle.mj_base.specs.declared.ids.SeqId.{SeqId}
use Rattle.mj_base.specs.declared.limits.TheConstants.{MAX_EVENTS}
use Rattle.mj_schema.specs.declared.schema.Schema.{Schema}
use Rattle.bind_core.specs.Play.{Play, told_at}
use Rattle.bind_model.specs.Plain.{HandsResponders, asked_of, told_of}
use Rattle.bind_model.specs.Seen.{own_of, told_behind}
use Rattle.bind_model.specs.WireOf.{wire_of}
use Rattle.bind_model.specs.declared.commands.Command.{Command}
use Rattle.bind_model.specs.declared.commands.Refused.{Refused}
use Rattle.bind_model.specs.declared.commands.Refused.TheVariants.{Memory, Spent}
use Rattle.bind_model.specs.declared.commands.Reply.{Reply}
use Rattle.bind_model.specs.declared.event.Event.{Event}
use Rattle.bind_model.specs.declared.told.Told.{Told}
use Rattle.remote_receiver.specs.Held.{kept_of}
use Rattle.remote_receiver.specs.Notes.{HasKept, Kept}
use Rattle.remote_receiver.specs.Stepped.{Step}
use Rattle.remote_receiver.specs.Waits.{AreDrawn}
use Rattle.remote_receiver.specs.declared.rest.Rest.{Rest}
use Rattle.remote_receiver.proofs.Drawing.{drawn_more}
use Rattle.script_names.specs.Rooms.{HasRoomBehind, HasRoomFor}
use Rattle.script_names.specs.declared.rooms.Rooms.{Rooms}
use Rattle.script_names.proofs.WhatIsTold.{room_behind}
use Rattle.script_run.specs.AtDesk.{AnswersZero, SawAt, Served, step_by, steps_of}
use Rattle.script_run.specs.Draining.{HasRested}
use Rattle.script_run.specs.declared.plain.Plain.{Plain}
use Rattle.load_run.specs.Commands.{event_of}
use Rattle.load_run.specs.declared.seat.Seat.{Seat}
use Rattle.load_run.specs.steps.Doing.{IsUnspent, OneMore, at_seat}

-- ## What a command did at a seat that nobody else has

pub served_back : (seat stepper after back : Seat) (command : Command) (k k' l l' : Kept Plain) (result : Result Reply Refused)
    → stepper ≡ seat → back ≡ after → k ≡ k' → l' ≡ l → Served (at_seat stepper) (at_seat after) command k l result
    → Served (at_seat seat) (at_seat back) command k' l' result
served_back seat stepper after back command k k' l l' result e f g h served =
    subst (λ (x : Seat). Served (at_seat x) (at_seat back) command k' l' result) e
    (subst (λ (x : Seat). Served (at_seat stepper) (at_seat x) command k' l' result) (sym f)
    (subst (λ (x : Kept Plain). Served (at_seat stepper) (at_seat after) command x l' result) g
    (subst (λ (x : Kept Plain). Served (at_seat stepper) (at_seat after) command k x result) (sym h) served)))

module _ (seat after : Seat) (command : Command) (reply : Reply) (saw : SawAt (at_seat seat) (at_seat after) command reply) where
  -- nothing came before it
  before_is : saw.before ≡ seat.core.events
  before_is =
      saw.others.all
      ∙ (ap (λ (es : List Event). seat.core.events ++ es) (saw.others.none refl) ∙ append-nil seat.core.events)

  event_is : after.core.events ≡ seat.core.events ++ event_of seat.seq (asked_of command) (told_of reply) ∷ []
  event_is =
      saw.event
      ∙ (ap (λ (t : Told). saw.before ++ event_of seat.seq (asked_of command) t ∷ []) (sym saw.told)
      ∙ ap (λ (es : List Event). es ++ event_of seat.seq (asked_of command) (told_of reply) ∷ []) before_is)

  told_is : told_of reply ≡ told_at seat.core seat.seq command
  told_is = saw.told ∙ ap (λ (es : List Event). told_behind seat.core.schema seat.core.seqs seat.seq es command) before_is

  room_is : (rooms : Rooms) → HasRoomFor command rooms → HasRoomBehind reply rooms
  room_is rooms room =
      room_behind (wire_of seat.core.schema) seat.core.seqs (reverse saw.before) seat.seq command reply rooms saw.told saw.back room

-- all of it, where the command was done
module _ (seat after : Seat) (command : Command) (old new : Kept Plain) (result : Result Reply Refused) (reply : Reply)
    (served : Served (at_seat seat) (at_seat after) command old new result) (is : result ≡ Ok reply) where
  done : Served (at_seat seat) (at_seat after) command old new (Ok reply)
  done = subst (λ (r : Result Reply Refused). Served (at_seat seat) (at_seat after) command old new r) is served

  pub one_more : OneMore seat.seq (asked_of command) (told_of reply) seat.core after.core
  one_more = record {
    schema = done.same.schema;
    seqs = done.same.seqs;
    events = event_is seat after command reply done.event;
  }

  pub told_so : told_of reply ≡ told_at seat.core seat.seq command
  told_so = told_is seat after command reply done.event

  pub hands : HandsResponders (wire_of seat.core.schema) command reply
  hands = done.event.responders

  pub room_back : (rooms : Rooms) → HasRoomFor command rooms → HasRoomBehind reply rooms
  room_back = room_is seat after command reply done.event

-- what holds where there is a value, where there is one
pub ok_there : {A E : Type 0} (result : Result A E) (P : Type 0) → OnOk result P → is_err result ≡ false → P
ok_there (Ok a) P p h = p
ok_there (Err e) P p h = absurd (true≢false h)

-- what holds whatever the result is
pub on_any : {A E P : Type 0} (result : Result A E) → P → OnOk result P
on_any (Ok a) p = p
on_any (Err e) p = tt

-- a command that comes back where there was room for its event isn't spent
pub never_spent : (seat after : Seat) (command : Command) (old new : Kept Plain) (result : Result Reply Refused) (refused : Refused)
    → Served (at_seat seat) (at_seat after) command old new result → result ≡ Err refused → length seat.core.events < MAX_EVENTS → IsUnspent refused
never_spent seat after command old new result (Memory back) served is few = tt
never_spent seat after command old new result (Spent back) served is few =
    by (subst (λ (r : Result Reply Refused). Served (at_seat seat) (at_seat after) command old new r) is served)
  where
    by : Served (at_seat seat) (at_seat after) command old new (Err (Spent back)) → ⊥
    by s =
        let full : MAX_EVENTS ≤ length after.core.events = s.refused.2 in
        let stays = s.refused.0.0 in
        let same : after.core.events ≡ seat.core.events =
        stays.all ∙ (ap (λ (es : List Event). seat.core.events ++ es) (stays.none refl) ∙ append-nil seat.core.events) in
        omega (arith, full, ap length same, few)

-- ## The events of one sequence

pub own_of_more : (t : SeqId) (events more : List Event) → own_of t (events ++ more) ≡ own_of t events ++ own_of t more
own_of_more t events more = filter-append (λ (e : Event). e.seq.0 == t.0) events more

own_of_one : (event : Event) → own_of event.seq (event ∷ []) ≡ event ∷ []
own_of_one event = ap (λ (b : Bool). cond b (event ∷ []) []) (eq-eqb event.seq.0 event.seq.0 refl)

-- these are all of other sequences
abbrev pub AreOthers : SeqId → List Event → Type 0
AreOthers t events = AllByRecursion (λ (e : Event). (e.seq.0 == t.0) ≡ false) events

own_of_none : (t : SeqId) (more : List Event) → AreOthers t more → own_of t more ≡ []
own_of_none t [] are = refl
own_of_none t (event ∷ more) are =
    ap (λ (b : Bool). cond b (event ∷ own_of t more) (own_of t more)) are.0 ∙ own_of_none t more are.1

-- ## Desks at rest

-- the desk whose command it was
pub rested_more : (seat after : Seat) (command : Command) (rest rest' : Rest Plain) (result : Result Reply Refused) (reply : Reply)
    → Served (at_seat seat) (at_seat after) command (kept_of rest.jobs) (kept_of rest'.jobs) result → result ≡ Ok reply
    → AreDrawn after.core.events rest'.jobs.waiting.callbacks → HasRested seat.core seat.seq rest → HasRested after.core seat.seq rest'
rested_more seat after command rest rest' result reply served is drawn was = record {
  kept = subst (λ (steps : List (Step Plain)). HasKept AnswersZero steps (kept_of rest'.jobs)) (sym steps)
      (s.kept (steps_of seat.core.schema seat.seq seat.core.events) was.kept);
  drawn = drawn;
}
  where
    s : Served (at_seat seat) (at_seat after) command (kept_of rest.jobs) (kept_of rest'.jobs) (Ok reply)
    s = subst (λ (r : Result Reply Refused). Served (at_seat seat) (at_seat after) command (kept_of rest.jobs) (kept_of rest'.jobs) r) is served

    event : Event
    event = event_of seat.seq (asked_of command) (told_of reply)

    own : own_of seat.seq after.core.events ≡ own_of seat.seq seat.core.events ++ event ∷ []
    own =
        ap (own_of seat.seq) (event_is seat after command reply s.event)
        ∙ (own_of_more seat.seq seat.core.events (event ∷ [])
        ∙ ap (λ (es : List Event). own_of seat.seq seat.core.events ++ es) (own_of_one event))

    steps : steps_of after.core.schema seat.seq after.core.events
        ≡ steps_of seat.core.schema seat.seq seat.core.events ++ step_by (wire_of seat.core.schema) event ∷ []
    steps =
        ap (λ (schema : Schema). steps_of schema seat.seq after.core.events) s.same.schema
        ∙ (ap (map (step_by (wire_of seat.core.schema))) own
        ∙ map-append (step_by (wire_of seat.core.schema)) (own_of seat.seq seat.core.events) (event ∷ []))

-- that of another sequence
pub rested_still : (t : SeqId) (before after : Play) (more : List Event) (rest : Rest Plain) → after.schema ≡ before.schema
    → after.events ≡ before.events ++ more → AreOthers t more → HasRested before t rest → HasRested after t rest
rested_still t before after more rest schema events are was = record {
  kept = subst (λ (ss : List (Step Plain)). HasKept AnswersZero ss (kept_of rest.jobs)) (sym steps) was.kept;
  drawn = subst (λ (es : List Event). AreDrawn es rest.jobs.waiting.callbacks) (sym events)
      (drawn_more before.events more rest.jobs.waiting.callbacks was.drawn);
}
  where
    own : own_of t after.events ≡ own_of t before.events
    own =
        ap (own_of t) events
        ∙ (own_of_more t before.events more
        ∙ (ap (λ (es : List Event). own_of t before.events ++ es) (own_of_none t more are) ∙ append-nil (own_of t before.events)))

    steps : steps_of after.schema t after.events ≡ steps_of before.schema t before.events
    steps = ap (λ (s : Schema). steps_of s t after.events) schema ∙ ap (map (step_by (wire_of before.schema))) own
