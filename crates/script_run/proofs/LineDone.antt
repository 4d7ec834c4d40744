-- What a sequence did once a reply is settled: one event more, what is due then, and what it holds.
use Rattle.std.proofs.Common.{◌≡◌, ◌≤◌, ℕ, Bool, true, false, List, [], ◌∷◌, ◌++◌, length, refl, sym, ap, ◌∙◌, subst, eq-eqb, true≢false, arith, length-append}
use Rattle.std.proofs.Common.{Bor, inl, inr}
use Rattle.std.specs.Prelude.{◌==◌, Option, Some, None, Result, Ok, Err, IfOk, IfErr, IsOkUnless, OnErr, OnOk, cond, is_err, find, is_some, reverse}
use Rattle.std.specs.List.{AllByRecursion}
use Rattle.std.specs.Option.{option_copied, option_map}
use Rattle.std.proofs.lemmas.List.{append-nil}
use Rattle.std.proofs.lemmas.List.Elements.{filter-append}
use Rattle.mj_base.specs.declared.ids.EndId.{EndId}
use Rattle.mj_base.specs.declared.ids.SeqId.{SeqId}
use Rattle.mj_base.specs.declared.limits.TheConstants.{MAX_EVENTS}
use Rattle.mj_schema.specs.declared.schema.Schema.{Schema}
use Rattle.bind_model.specs.Plain.{asked_of, told_of, responders_in}
use Rattle.bind_model.specs.Replies.{answer, responders_handed}
use Rattle.bind_model.specs.Seen.{own_of}
use Rattle.bind_model.specs.WireOf.{wire_of}
use Rattle.bind_model.specs.declared.asked.Asked.{Asked}
use Rattle.bind_model.specs.declared.asked.Asked.TheVariants as asks
use Rattle.bind_model.specs.declared.commands.Command.{Command}
use Rattle.bind_model.specs.declared.commands.Command.TheVariants as commands
use Rattle.bind_model.specs.declared.commands.Refused.{Refused}
use Rattle.bind_model.specs.declared.commands.Reply.{Reply}
use Rattle.bind_model.specs.declared.commands.Reply.TheVariants.{Got}
use Rattle.bind_model.specs.declared.endpoint.ResponderId.{ResponderId}
use Rattle.bind_model.specs.declared.event.Event.{Event}
use Rattle.bind_model.specs.declared.told.Told.{Told}
use Rattle.call_script.specs.Sound.{AreWithin, IsLine, IsReply, sets}
use Rattle.call_script.specs.declared.script.AutoReply.{AutoReply}
use Rattle.call_script.specs.declared.script.Line.{Line}
use Rattle.call_script.specs.declared.script.NameId.{NameId}
use Rattle.remote_receiver.specs.Notes.{Kept}
use Rattle.script_names.specs.Autos.{Due, due_for, replies_to}
use Rattle.script_names.specs.Names.{Named, named_after}
use Rattle.script_run.specs.OfScript.{replied}
use Rattle.script_names.specs.Asking.{asked_by}
use Rattle.script_run.specs.declared.cut.Cut.{Cut}
use Rattle.script_run.specs.declared.cut.Cut.TheVariants as cuts
use Rattle.script_names.specs.declared.names.Names.{Names}
use Rattle.script_run.specs.declared.plain.Plain.{Plain}
use Rattle.script_names.specs.declared.rooms.Rooms.{Rooms}
use Rattle.script_names.specs.declared.stands.Stands.{Stands}
use Rattle.script_run.specs.AtDesk.{Adds, SameDesk, SawAt, Seen, Served}
use Rattle.script_run.specs.steps.Desks.{AtMost, CameTo, CutIn, DidCommand, DidLine, DidTake, IfSpent, IsFull, IsFullBehind, Replied}
use Rattle.script_run.specs.steps.Desks.{answered_it, asked_it}
use Rattle.script_run.specs.steps.Desks.{TookAt, Went, due_by, reply_of}
use Rattle.script_names.specs.Needs.{AreNames}
use Rattle.script_names.specs.Held.{HaveNames, names_in}
use Rattle.script_names.specs.Rooms.{HasRoomBehind, HasRoomFor, SameHeld}
use Rattle.script_names.specs.Settling.{EndsWith, LeavesLast, Settles, SpendsAs, TookFor}
use Rattle.script_names.specs.Held.{held_at}
use Rattle.script_run.proofs.Later.{adds_then, err_weaker, went_adds, went_most}
use Rattle.script_names.proofs.LineNames.{names_after}
use Rattle.script_names.proofs.RoomsSettled.{have_same, names_same, settled_since}
use Rattle.script_names.proofs.WhatIsTold.{room_behind}

-- ## One event

-- whether an event is of this sequence
abbrev is_mine : SeqId → Event → Bool
is_mine me e = e.seq.0 == me.0

module _ (before after : Seen) (command : Command) (reply : Reply) (saw : SawAt before after command reply) where
  -- the event of the command
  abbrev its_event : Event
  its_event = record { seq = before.me; asked = asked_of command; told = told_of reply }

  event_is : after.events ≡ saw.before ++ its_event ∷ []
  event_is =
      saw.event
      ∙ ap (λ (told : Told). saw.before ++ record { seq = before.me; asked = asked_of command; told = told } ∷ []) (sym saw.told)

  own_event : own_of before.me (its_event ∷ []) ≡ its_event ∷ []
  own_event =
      let same : (before.me.0 == before.me.0) ≡ true = eq-eqb before.me.0 before.me.0 refl in
      ap (λ (b : Bool). cond b (its_event ∷ []) []) same

  own_before : own_of before.me saw.before ≡ own_of before.me before.events
  own_before =
      ap (own_of before.me) saw.others.all
      ∙ (filter-append (is_mine before.me) before.events saw.others.between
      ∙ (ap (λ (es : List Event). own_of before.me before.events ++ es) saw.others.none_own ∙ append-nil (own_of before.me before.events)))

  own_is : own_of before.me after.events ≡ own_of before.me before.events ++ its_event ∷ []
  own_is =
      ap (own_of before.me) event_is
      ∙ (filter-append (is_mine before.me) saw.before (its_event ∷ [])
      ∙ (ap (λ (es : List Event). es ++ own_of before.me (its_event ∷ [])) own_before
      ∙ ap (λ (es : List Event). own_of before.me before.events ++ es) own_event))

  sole_is : before.alone ≡ true → after.events ≡ before.events ++ its_event ∷ []
  sole_is alone =
      event_is
      ∙ ap (λ (es : List Event). es ++ its_event ∷ [])
      (saw.others.all ∙ (ap (λ (es : List Event). before.events ++ es) (saw.others.none alone) ∙ append-nil before.events))

  few_are : length after.events ≤ MAX_EVENTS
  few_are = let room = saw.room in omega (arith, room, ap length event_is, length-append saw.before (its_event ∷ []))

module _ (before after : Seen) (old new : Kept Plain) (command : Command) where
  went_is : (reply : Reply) → Served before after command old new (Ok reply) → Went before after old new (asked_of command) (told_of reply)
  went_is reply served = record {
    same = served.same;
    own = own_is before after command reply served.event;
    sole = sole_is before after command reply served.event;
    few = few_are before after command reply served.event;
    kept = served.kept;
  }

  -- a command that was done is one event more
  pub served_went : (result : Result Reply Refused) (reply : Reply) → Served before after command old new result → result ≡ Ok reply
      → Went before after old new (asked_of command) (told_of reply)
  served_went result reply served is = went_is reply (subst (λ (r : Result Reply Refused). Served before after command old new r) is served)

  -- there is room for what came back
  pub room_left : (result : Result Reply Refused) (reply : Reply) (rooms : Rooms) → Served before after command old new result → result ≡ Ok reply
      → HasRoomFor command rooms → HasRoomBehind reply rooms
  room_left result reply rooms served is room =
      let saw : SawAt before after command reply = subst (λ (r : Result Reply Refused). IfOk r (SawAt before after command)) is served.event in
      room_behind (wire_of before.schema) before.seqs (reverse saw.before) before.me command reply rooms saw.told saw.back room

-- ## Results

-- what holds where there is a value, where there is one
pub ok_there : {A E : Type 0} (result : Result A E) (P : Type 0) → OnOk result P → is_err result ≡ false → P
ok_there (Ok a) P p h = p
ok_there (Err e) P p h = absurd (true≢false h)

-- want of memory isn't a full history
pub memory_cut : {A : Type 0} (result : Result A Cut) (full : Type 0) → IsOkUnless result cuts.Memory → IfErr result (λ cut. IfSpent cut full)
memory_cut (Ok a) full h = tt
memory_cut (Err cut) full h = subst (λ (c : Cut). IfSpent c full) (sym h) tt

-- ## What is due

found_in : {A : Type 0} (P : A → Type 0) (p : A → Bool) (xs : List A) (x : A) → AllByRecursion P xs → find p xs ≡ Some x → P x
found_in P p [] x all e = absurd cc
found_in {A} P p (y ∷ xs) x all e = go (p y) e (λ f. found_in P p xs x all.1 f)
  where
    go : (b : Bool) → cond b (Some y) (find p xs) ≡ Some x → (find p xs ≡ Some x → P x) → P x
    go true f rest = let same : y ≡ x = cc in subst P same all.0
    go false f rest = rest f

-- what is due is one of the replies
pub due_from : (P : AutoReply → Type 0) (autos : List AutoReply) (me : SeqId) (rs : List ResponderId) (d : Due) → AllByRecursion P autos
    → due_for autos me rs ≡ Some d → P d.1
due_from P autos me [] d all e = absurd cc
due_from P autos me (r ∷ rs) d all e = go (find (replies_to me r) autos) refl e
  where
    go : (o : Option AutoReply) → find (replies_to me r) autos ≡ o → option_map {U = Due} (λ (reply : AutoReply). (r, reply)) o ≡ Some d → P d.1
    go None f h = absurd cc
    go (Some reply) f h =
        let same : (r, reply) ≡ d = cc in
        subst (λ (x : Due). P x.1) same (found_in P (replies_to me r) autos reply all f)

-- its responder is the one that came
due_last : (autos : List AutoReply) (me : SeqId) (reply : Reply) (new : Rooms) (d : Due) → due_for autos me (responders_in reply) ≡ Some d
    → LeavesLast true reply new → EndsWith d.0 new.responders.others.items
due_last autos me (Got g) new d e last = last d.0 (go g.responder e)
  where
    found : (r : ResponderId) (o : Option AutoReply) → option_map {U = Due} (λ (reply : AutoReply). (r, reply)) o ≡ Some d → Some r ≡ Some d.0
    found r None f = absurd cc
    found r (Some reply) f = ap (λ (x : ResponderId). Some x) (let same : (r, reply) ≡ d = cc in ap (λ (p : Due). p.0) same)

    go : (o : Option ResponderId) → due_for autos me (elim o [ Some r ↦ r ∷ [] | None ↦ [] ]) ≡ Some d → o ≡ Some d.0
    go None f = absurd cc
    go (Some r) f = found r (find (replies_to me r) autos) f
due_last autos me reply new d e last = absurd cc

copied_some : (o : Option (Bor AutoReply)) → is_some o ≡ is_some (option_copied o)
copied_some None = refl
copied_some (Some x) = refl

some_due : (o : Option Due) → is_some (reply_of o) ≡ is_some o
some_due None = refl
some_due (Some d) = refl

pub due_none : (o : Option Due) → None ≡ reply_of o → o ≡ None
due_none None e = refl
due_none (Some d) e = absurd cc

-- a reply that is due to a responder
abbrev due_with : ResponderId → AutoReply → Option Due
due_with r reply = Some (r, reply)

pub due_some : (o : Option Due) (reply : AutoReply) → Some reply ≡ reply_of o → (r : ResponderId) × (o ≡ Some (r, reply))
due_some None reply e = absurd cc
due_some (Some (r, other)) reply e = let same : other ≡ reply = cc in (r, ap (due_with r) same)

-- ## A line

module _ (autos : List AutoReply) (before after : Seen) (old new : Kept Plain) (command : Command) (reply : Reply) (saw : SawAt before after command reply)
    (went : Went before after old new (asked_of command) (told_of reply)) (found : Option (Bor AutoReply))
    (is_found : option_copied found ≡ reply_of (due_for autos after.me (responders_in reply))) where
  -- by the responders that came
  abbrev due_now : Option Due
  due_now = due_for autos before.me (responders_in reply)

  due_now_is : due_by before.schema autos before.me (asked_of command) (told_of reply) ≡ due_now
  due_now_is = ap (due_for autos before.me) (sym saw.responders)

  found_is : option_copied found ≡ reply_of due_now
  found_is = is_found ∙ ap (λ (s : SeqId). reply_of (due_for autos s (responders_in reply))) went.same.me

  some_is : is_some found ≡ is_some due_now
  some_is = copied_some found ∙ (ap is_some found_is ∙ some_due due_now)

  last_is : (rooms : Rooms) → LeavesLast (is_some found) reply rooms → (d : Due) → due_now ≡ Some d → EndsWith d.0 rooms.responders.others.items
  last_is rooms last d e =
      due_last autos before.me reply rooms d e (subst (λ (b : Bool). LeavesLast b reply rooms) (some_is ∙ ap is_some e) last)

  -- a line's command is done
  pub command_done : (line : Line) (names : Names) (start first mid since rooms : Rooms)
      → IsLine before.schema before.seqs (length start.stands.things.items) line → HaveNames (length start.stands.things.items) start
      → SameHeld start first → AreNames (λ (n : NameId). is_some (held_at start.stands.things.items n)) line.command names
      → asked_of command ≡ asked_by (names_in first) line → TookFor names command first mid
      → SpendsAs (held_at first.stands.things.items) line.command names command
      → SameHeld mid since → Settles names reply (is_some found) since rooms → LeavesLast (is_some found) reply rooms
      → DidCommand autos line (option_copied found) before after old new (names_in start) (names_in rooms) rooms.responders.others.items
  command_done line names start first mid since rooms fits have held are asked took spends kept settles last =
      let count : length first.stands.things.items ≡ length start.stands.things.items = ap (λ (s : Stands). length s.things.items) held.stands in
      let same : names_in first ≡ names_in start = names_same start first held in
      let asked_is : asked_of command ≡ asked_by (names_in start) line = asked ∙ ap (λ (n : Named). asked_by n line) same in
      let due_is : due_by before.schema autos before.me (asked_by (names_in start) line) (told_of reply) ≡ due_now =
      ap (λ (a : Asked). due_by before.schema autos before.me a (told_of reply)) (sym asked_is) ∙ due_now_is in
      let named : names_in rooms ≡ named_after (wire_of before.schema) (Some line) due_now
      (record { seq = before.me; asked = asked_of command; told = told_of reply }) (names_in first) =
      names_after (wire_of before.schema) before.seqs (reverse saw.before) before.me line names command due_now first mid
      (subst (λ (s : Stands). AreNames (λ (n : NameId). is_some (held_at s.things.items n)) line.command names) (sym held.stands) are)
      took spends
      (subst (λ (k : ℕ). HaveNames k first) (sym count) (have_same (length start.stands.things.items) start first held have))
      (subst (λ (k : ℕ). AreWithin k (sets line.command)) (sym count) fits.sets)
      reply rooms saw.told saw.back saw.responders
      (subst (λ (b : Bool). Settles names reply b mid rooms) some_is (settled_since names reply (is_some found) mid since rooms kept settles)) in
      record {
        told = told_of reply;
        went = subst (λ (a : Asked). Went before after old new a (told_of reply)) asked_is went;
        named =
            named
            ∙ (ap (λ (a : Asked). named_after (wire_of before.schema) (Some line) due_now (record { seq = before.me; asked = a; told = told_of reply })
            (names_in first)) asked_is
            ∙ (ap (λ (o : Option Due). named_after (wire_of before.schema) (Some line) o
            (record { seq = before.me; asked = asked_by (names_in start) line; told = told_of reply }) (names_in first)) (sym due_is)
            ∙ ap (named_after (wire_of before.schema) (Some line) (due_by before.schema autos before.me (asked_by (names_in start) line) (told_of reply))
            (record { seq = before.me; asked = asked_by (names_in start) line; told = told_of reply })) same));
        found = found_is ∙ ap reply_of (sym due_is);
        last = λ d e. last_is rooms last d (sym due_is ∙ e);
      }

-- a take is
pub take_done : (autos : List AutoReply) (end : EndId) (before after : Seen) (old new : Kept Plain) (reply : Reply)
    → SawAt before after (commands.Take end) reply → Went before after old new (asks.Take end) (told_of reply) → (found : Option (Bor AutoReply))
    → option_copied found ≡ reply_of (due_for autos after.me (responders_in reply)) → (rooms : Rooms) → LeavesLast (is_some found) reply rooms
    → DidTake autos end (option_copied found) before after old new rooms.responders.others.items
take_done autos end before after old new reply saw went found is rooms last = record {
  told = told_of reply;
  went = went;
  found =
      found_is autos before after old new (commands.Take end) reply saw went found is
      ∙ ap reply_of (sym (due_now_is autos before after old new (commands.Take end) reply saw went found is));
  last = λ d e.
      last_is autos before after old new (commands.Take end) reply saw went found is rooms last d
      (sym (due_now_is autos before after old new (commands.Take end) reply saw went found is) ∙ e);
}

-- by what the call answered
pub commands_done : (autos : List AutoReply) (before after : Seen) (old new : Kept Plain) (command : Command) (reply : Reply)
    → SawAt before after command reply → Went before after old new (asked_of command) (told_of reply)
    → (line : Line) (names : Names) (start first mid since rooms : Rooms)
    → IsLine before.schema before.seqs (length start.stands.things.items) line → HaveNames (length start.stands.things.items) start
    → SameHeld start first → AreNames (λ (n : NameId). is_some (held_at start.stands.things.items n)) line.command names
    → asked_of command ≡ asked_by (names_in first) line → TookFor names command first mid
    → SpendsAs (held_at first.stands.things.items) line.command names command → SameHeld mid since
    → (result : Result (Option (Bor AutoReply)) Cut)
    → IfOk result (λ found. option_copied found ≡ reply_of (due_for autos after.me (responders_in reply)))
    → IfOk result (λ found. Settles names reply (is_some found) since rooms) → IfOk result (λ found. LeavesLast (is_some found) reply rooms)
    → IfOk result (λ found. DidCommand autos line (option_copied found) before after old new (names_in start) (names_in rooms) rooms.responders.others.items)
commands_done autos before after old new command reply saw went line names start first mid since rooms fits have held are asked took spends kept
    (Ok found) is settles last =
    command_done autos before after old new command reply saw went found is line names start first mid since rooms fits have held are asked took spends kept
    settles last
commands_done autos before after old new command reply saw went line names start first mid since rooms fits have held are asked took spends kept
    (Err cut) is settles last = tt

pub takes_done : (autos : List AutoReply) (end : EndId) (before after : Seen) (old new : Kept Plain) (reply : Reply)
    → SawAt before after (commands.Take end) reply → Went before after old new (asks.Take end) (told_of reply) → (rooms : Rooms)
    → (result : Result (Option (Bor AutoReply)) Cut)
    → IfOk result (λ found. option_copied found ≡ reply_of (due_for autos after.me (responders_in reply)))
    → IfOk result (λ found. LeavesLast (is_some found) reply rooms)
    → IfOk result (λ found. DidTake autos end (option_copied found) before after old new rooms.responders.others.items)
takes_done autos end before after old new reply saw went rooms (Ok found) is last = take_done autos end before after old new reply saw went found is rooms last
takes_done autos end before after old new reply saw went rooms (Err cut) is last = tt

-- ## Automatic replies

-- what a line's command asked came
pub command_came : {A : Type 0} (result : Result A Cut) (before after : Seen) (old new : Kept Plain) (command : Command) (told : Told)
    → Went before after old new (asked_of command) told → (line : Line) (start first : Rooms) → SameHeld start first
    → asked_of command ≡ asked_by (names_in first) line → OnErr result (AtMost (asked_by (names_in start) line) before after)
command_came result before after old new command told went line start first held asked =
    let is : asked_of command ≡ asked_by (names_in start) line = asked ∙ ap (λ (n : Named). asked_by n line) (names_same start first held) in
    subst (λ (a : Asked). OnErr result (AtMost a before after)) is (went_most result before after old new (asked_of command) told went)

-- behind what was asked
module _ (autos : List AutoReply) (before mid : Seen) (asked : Asked) (told : Told) (reply : AutoReply) (others : List ResponderId) (same : SameDesk before mid)
    (found : Some reply ≡ reply_of (due_by before.schema autos before.me asked told))
    (last : (d : Due) → due_by before.schema autos before.me asked told ≡ Some d → EndsWith d.0 others) where
  due_is_it : (r : ResponderId) × (due_by before.schema autos before.me asked told ≡ Some (r, reply))
  due_is_it = due_some (due_by before.schema autos before.me asked told) reply found

  pub reply_read : AllByRecursion (IsReply before.schema before.seqs) autos → IsReply mid.schema mid.seqs reply
  reply_read all =
      subst (λ (s : Schema). IsReply s mid.seqs reply) (sym same.schema)
      (subst (λ (k : ℕ). IsReply before.schema k reply) (sym same.seqs)
      (due_from (IsReply before.schema before.seqs) autos before.me (responders_handed (wire_of before.schema) told asked) (due_is_it.0, reply) all
      due_is_it.1))

  pub reply_last : (r : ResponderId) × EndsWith r others
  reply_last = (due_is_it.0, last (due_is_it.0, reply) due_is_it.1)

  pub replied_is : (after : Seen) (kept new : Kept Plain) → ((r : ResponderId) → EndsWith r others → Replied (Some (r, reply)) mid after kept new)
      → Replied (due_by before.schema autos before.me asked told) mid after kept new
  replied_is after kept new answered =
      subst (λ (o : Option Due). Replied o mid after kept new) (sym due_is_it.1) (answered due_is_it.0 (last (due_is_it.0, reply) due_is_it.1))

  -- how far it came that was to answer
  pub came_behind : {A : Type 0} (result : Result A Cut) (after : Seen) (old kept : Kept Plain) → Went before mid old kept asked told
      → OnErr result ((r : ResponderId) → EndsWith r others → AtMost (replied (r, reply)) mid after) → OnErr result (CameTo autos asked before after)
  came_behind result after old kept went = err_weaker result (λ came. go (came due_is_it.0 (last (due_is_it.0, reply) due_is_it.1)))
    where
      event : Event
      event = record { seq = before.me; asked = asked; told = told }

      then : (ys : List Event) → Adds mid after ys → Adds before after (event ∷ ys)
      then ys adds = adds_then before mid after (event ∷ []) ys same.me same.alone (went_adds before mid old kept asked told went) adds

      go : AtMost (replied (due_is_it.0, reply)) mid after → CameTo autos asked before after
      go (inl none) = asked_it told (then [] none)
      go (inr came) = answered_it told (due_is_it.0, reply) came.0 due_is_it.1
          (subst (λ (s : SeqId). Adds before after (event ∷ record { seq = s; asked = replied (due_is_it.0, reply); told = came.0 } ∷ [])) same.me
          (then (record { seq = mid.me; asked = replied (due_is_it.0, reply); told = came.0 } ∷ []) came.1))

  pub full_behind : (after : Seen) (old kept : Kept Plain) → Went before mid old kept asked told → IsFull mid after → IsFullBehind autos asked before after old
  full_behind after old kept went full = record {
    between = mid;
    kept = kept;
    told = told;
    went = went;
    reply = (due_is_it.0, reply);
    due = due_is_it.1;
    full = full;
  }

-- without one
pub no_reply : (autos : List AutoReply) (before mid : Seen) (kept : Kept Plain) (asked : Asked) (told : Told)
    → None ≡ reply_of (due_by before.schema autos before.me asked told) → Replied (due_by before.schema autos before.me asked told) mid mid kept kept
no_reply autos before mid kept asked told found =
    subst (λ (o : Option Due). Replied o mid mid kept kept) (sym (due_none (due_by before.schema autos before.me asked told) found)) (refl, refl)

-- ## A line and a take with the automatic reply that is due

module _ (autos : List AutoReply) (before mid : Seen) (old kept : Kept Plain) (reply : AutoReply) (others : List ResponderId) where
  module _ (asked : Asked) (told : Told) (went : Went before mid old kept asked told)
      (found : Some reply ≡ reply_of (due_by before.schema autos before.me asked told))
      (last : (d : Due) → due_by before.schema autos before.me asked told ≡ Some d → EndsWith d.0 others) where
    pub cut_behind : {A : Type 0} (after : Seen) (result : Result A Cut) → IfErr result (λ cut. IfSpent cut (IsFull mid after))
        → IfErr result (λ cut. IfSpent cut (CutIn autos asked before after old))
    cut_behind after (Ok a) full = tt
    cut_behind after (Err cuts.Memory) full = tt
    cut_behind after (Err cuts.Spent) full = inr (full_behind autos before mid asked told reply others went.same found last after old kept went full)

  pub line_replied : {A : Type 0} (line : Line) (names between behind : Named) (answer : Option AutoReply) → answer ≡ Some reply
      → DidCommand autos line answer before mid old kept names between others → (after : Seen) (new : Kept Plain) (result : Result A Cut)
      → OnOk result ((r : ResponderId) → EndsWith r others → Replied (Some (r, reply)) mid after kept new) → OnOk result (behind ≡ between)
      → OnOk result (DidLine autos line before after old new names behind)
  line_replied line names between behind answer is did after new (Ok a) answered same = record {
    between = mid;
    kept = kept;
    told = did.told;
    went = did.went;
    named = same ∙ did.named;
    replied = replied_is autos before mid (asked_by names line) did.told reply others did.went.same (sym is ∙ did.found) did.last after kept new answered;
  }
  line_replied line names between behind answer is did after new (Err cut) answered same = tt

  pub take_replied : {A : Type 0} (end : EndId) (answer : Option AutoReply) → answer ≡ Some reply
      → DidTake autos end answer before mid old kept others → (after : Seen) (new : Kept Plain) (result : Result A Cut)
      → OnOk result ((r : ResponderId) → EndsWith r others → Replied (Some (r, reply)) mid after kept new)
      → OnOk result (TookAt autos end before after old new)
  take_replied end answer is did after new (Ok a) answered = record {
    between = mid;
    kept = kept;
    told = did.told;
    went = did.went;
    replied = replied_is autos before mid (asks.Take end) did.told reply others did.went.same (sym is ∙ did.found) did.last after kept new answered;
  }
  take_replied end answer is did after new (Err cut) answered = tt

module _ (autos : List AutoReply) (before mid : Seen) (old kept : Kept Plain) (others : List ResponderId) (answer : Option AutoReply) (is : answer ≡ None) where
  pub line_alone : (line : Line) (names between : Named) → DidCommand autos line answer before mid old kept names between others
      → DidLine autos line before mid old kept names between
  line_alone line names between did = record {
    between = mid;
    kept = kept;
    told = did.told;
    went = did.went;
    named = did.named;
    replied = no_reply autos before mid kept (asked_by names line) did.told (sym is ∙ did.found);
  }

  pub take_alone : (end : EndId) → DidTake autos end answer before mid old kept others → TookAt autos end before mid old kept
  take_alone end did = record {
    between = mid;
    kept = kept;
    told = did.told;
    went = did.went;
    replied = no_reply autos before mid kept (asks.Take end) did.told (sym is ∙ did.found);
  }
