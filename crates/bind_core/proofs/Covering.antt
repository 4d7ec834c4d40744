-- A set that covers what is ready covers it after each command, once the end that the command is about and its peer are added, but for
-- ends that waited and wait no more: these are known by the event.
use Rattle.std.proofs.Common.{◌≡◌, ℕ, Bool, true, false, List, [], ◌∷◌, refl, sym, ap, ◌∙◌, subst, inl, inr}
use Rattle.std.specs.Prelude.{◌&&◌, ◌||◌, not, nat_lt, reverse, Option, Some, None, is_some, Result, Ok, Err, IfOk, IfErr}
use Rattle.std.proofs.lemmas.List.{reverse-append}
use Rattle.mj_base.specs.declared.ids.EndId.{EndId}
use Rattle.mj_base.specs.declared.ids.SeqId.{SeqId}
use Rattle.mj_schema.specs.declared.schema.Schema.{Schema}
use Rattle.handle_table.specs.Things.{has, same_end}
use Rattle.handle_table.specs.declared.thing.Thing.{Thing}
use Rattle.handle_table.specs.declared.thing.Thing.TheVariants.{End, Token}
use Rattle.handle_table.proofs.ThingsLemmas.{has-append, or_cases, or_left, or_right}
use Rattle.message_pipe.specs.Ends.{end_of, peer_of}
use Rattle.wire_encoder.specs.declared.endpoint.EndpointSide.{EndpointSide}
use Rattle.bind_model.specs.declared.asked.Asked.TheVariants as asks
use Rattle.bind_model.specs.declared.event.Event.{Event}
use Rattle.bind_model.specs.declared.told.Told.{Told}
use Rattle.bind_model.specs.declared.told.Told.TheVariants.{Associated, Made}
use Rattle.bind_model.specs.declared.told.Why.TheVariants.{Disconnected, NoName}
use Rattle.bind_model.specs.Machine.{endpoint_at, is_gone, made, made_by, out, peer, peer_by, peer_in, unread}
use Rattle.bind_model.specs.Notices.{first_unmet, waits, waits_by}
use Rattle.bind_model.specs.Ready.{is_ready, is_takeable, ready}
use Rattle.bind_model.specs.Replies.{answer, bound_as, first_of, next_id, unless}
use Rattle.bind_model.specs.Wire.{Wire}
use Rattle.bind_model.specs.WireOf.{wire_of}
use Rattle.bind_model.proofs.Outcomes.{left_false, right_false}
use Rattle.bind_model.proofs.CoreFacts.{ready_takeable, takeable_ready}
use Rattle.bind_model.proofs.Fresh.{kept}
use Rattle.bind_core.specs.Covers.{AllListed, Covers, Stands}
use Rattle.bind_core.specs.steps.Watching.{HasNear, IsWithin, KeepsTaken, end_named, is_near}
use Rattle.bind_core.specs.EndSets.{has_end}
use Rattle.bind_core.specs.steps.FirstTaken.{Ascends, first_taken, least_among}
use Rattle.bind_core.specs.Causes.{Grows, IsNoted, Lists, Spares, causes_in, newest, woken}
use Rattle.bind_core.specs.steps.Watched.{CoversReady, IsWatched}
use Rattle.bind_model.specs.Plain.{asked_of}
use Rattle.core_state.specs.Agreement.{Holds, end_with, past_of, schema_of, wire_in, with_notices}
use Rattle.core_state.specs.Doing.{Done, Undone, told_in}
use Rattle.core_state.specs.Forgets.{StaysTrue}
use Rattle.core_state.proofs.Pausing.{still_holds}
use Rattle.end_notices.specs.Table.{Lines}
use Rattle.bind_core.specs.Takers.{ready_taker}
use Rattle.bind_model.specs.declared.commands.Command.{Command}
use Rattle.bind_model.specs.declared.commands.Command.TheVariants.{Pipe, Join, Mint, Bind, Associate, Attach, Call, Answer, Raw, Take, Close, Notify}
use Rattle.bind_model.specs.declared.commands.Command.TheVariants.{Pause, Data, Flow, Skip}
use Rattle.bind_model.specs.declared.commands.Refused.{Refused}
use Rattle.bind_model.specs.declared.commands.Reply.{Reply}
use Rattle.core_state.specs.declared.state.State.{State}
use Rattle.bind_core.proofs.Untouched.{about, associated_end, bound_end, takeable_far}
use Rattle.bind_core.proofs.FirstReady.{least_ready, ready_taken}
use Rattle.bind_core.proofs.Leastness.{all_more, first_least}
use Rattle.bind_core.proofs.NearAsked.{near_asked}
use Rattle.bind_core.proofs.WhoTakes.{ready_free, ready_taker_is}
use Rattle.bind_core.proofs.Waking.{listed_after, listed_more, listed_spared, woken_by, woken_more}

-- ## The peer of an end that was not made is itself

peer_else : (things : List Thing) (x before : EndId) → has things (End x) ≡ false → peer_in things x before ≡ before
peer_else (End a ∷ End b ∷ []) x before h =
    let r : (same_end b x || false) ≡ false = right_false (same_end a x) (same_end b x || false) h in
    rw (left_false (same_end a x) (same_end b x || false) h, left_false (same_end b x) false r) refl
peer_else things x before h = refl

peer_told : (told : Told) (x before : EndId) → has (made_by told) (End x) ≡ false → peer_by told x before ≡ before
peer_told (Made things) x before h = peer_else things x before h
peer_told told x before h = refl

unmade_peer : (past : List Event) (x : EndId) → has (made past) (End x) ≡ false → peer past x ≡ x
unmade_peer [] x h = refl
unmade_peer (event ∷ past) x h =
    let both : (has (made past) (End x) || has (made_by event.told) (End x)) ≡ false = sym (has-append (made past) (made_by event.told) (End x)) ∙ h in
    peer_told event.told x (peer past x) (right_false (has (made past) (End x)) (has (made_by event.told) (End x)) both)
    ∙ unmade_peer past x (left_false (has (made past) (End x)) (has (made_by event.told) (End x)) both)

module _ (s : State) (h : Holds s) (x : EndId) where
  -- the peer that the pipes have, and that of an end that they don't have
  pub peer_found : (y : EndId) → peer_of (end_of s.pipes.ends x) ≡ Some y → y ≡ peer (past_of s) x
  peer_found y e = go (has (made (past_of s)) (End x)) (sym e ∙ ap (λ o. peer_of o) (h.agrees.ends x))
    where
      go : (b : Bool) → Some y ≡ peer_of (end_with b (peer (past_of s) x) (is_gone (past_of s) x) (unread (wire_in s) (past_of s) x)) → y ≡ peer (past_of s) x
      go true f = cc
      go false f = absurd cc

  pub peer_none : peer_of (end_of s.pipes.ends x) ≡ None → x ≡ peer (past_of s) x
  peer_none e = go (has (made (past_of s)) (End x)) refl (sym e ∙ ap (λ o. peer_of o) (h.agrees.ends x))
    where
      go : (b : Bool) → has (made (past_of s)) (End x) ≡ b
          → None ≡ peer_of (end_with b (peer (past_of s) x) (is_gone (past_of s) x) (unread (wire_in s) (past_of s) x)) → x ≡ peer (past_of s) x
      go true m f = absurd cc
      go false m f = sym (unmade_peer (past_of s) x m)

-- ## What an event is about is what its command is about

module _ (wire : Wire) (seqs : ℕ) (past : List Event) (seq : SeqId) (y : EndId) where
  bind_near : (z : Thing) (b : Bool) → is_near past (bound_end (first_of (unless b NoName ∷ []) (bound_as z))) y ≡ true → (side : EndpointSide) (interface : ℕ)
      → is_near past (end_named (Bind z side interface)) y ≡ true
  bind_near (End x) true h side interface = h
  bind_near (End x) false h side interface = absurd cc
  bind_near (Token t) true h side interface = h
  bind_near (Token t) false h side interface = h

  made_near : (x : EndId) (n : ℕ) (b c : Bool)
      → is_near past (associated_end (first_of (unless b NoName ∷ unless c Disconnected ∷ []) (Associated (record { end = x; id = n })))) y ≡ true
      → is_near past (Some x) y ≡ true
  made_near x n true true h = h
  made_near x n true false h = absurd cc
  made_near x n false c h = absurd cc

  near_named : (command : Command) (told : Told) → told ≡ answer wire seqs past seq (asked_of command) → is_near past (about (asked_of command) told) y ≡ true
      → is_near past (end_named command) y ≡ true
  near_named (Bind z side interface) told e h =
      bind_near z (has (out past) z && nat_lt interface wire.interfaces) (subst (λ (t : Told). is_near past (bound_end t) y ≡ true) e h) side interface
  near_named Pipe told e h = h
  near_named (Join other) told e h = h
  near_named (Mint sort) told e h = h
  near_named (Associate x side interface) told e h =
      made_near x (next_id wire past x) (is_some (endpoint_at wire past x 0) && nat_lt interface wire.interfaces) (not (is_gone past x))
      (subst (λ (t : Told). is_near past (associated_end t) y ≡ true) e h)
  near_named (Attach pending t) told e h = h
  near_named (Call x id prepared handles pendings moment) told e h = h
  near_named (Answer r prepared handles pendings moment) told e h = h
  near_named (Raw (End x) bytes handles) told e h = near_asked wire seqs past seq y (asks.Raw (End x) bytes handles) told e h
  near_named (Raw (Token t) bytes handles) told e h = absurd (let n = near_asked wire seqs past seq y (asks.Raw (Token t) bytes handles) told e h in cc)
  near_named (Take x) told e h = h
  near_named (Close (Rattle.bind_model.specs.declared.commands.ToClose.TheVariants.Handle x)) told e h = h
  near_named (Close (Rattle.bind_model.specs.declared.commands.ToClose.TheVariants.Pending p)) told e h = h
  near_named (Close (Rattle.bind_model.specs.declared.commands.ToClose.TheVariants.Responder r)) told e h = h
  near_named (Close (Rattle.bind_model.specs.declared.commands.ToClose.TheVariants.Endpoint x id)) told e h = h
  near_named (Notify x notice) told e h = h
  near_named (Pause b a k) told e h = absurd cc
  near_named (Data size) told e h = h
  near_named (Flow x f) told e h = h
  near_named (Skip line) told e h = h

-- ## Sets that cover

module _ (s : State) (h : Holds s) where
  -- where a take is ready somebody takes
  some_ready : (x : EndId) → is_ready (wire_in s) (past_of s) x ≡ true → is_some (ready_taker s x) ≡ true
  some_ready x r =
      ready_taken (wire_in s) (past_of s) (kept (wire_in s) s.seqs (past_of s) h.legal) (ready_taker s) (ready_taker_is s h) x r

  -- the least of those that are watched and those of the last event
  pub ready_is : (ends : List EndId) (lists : Lists) → Covers s ends lists → Ascends ends
      → least_among (ready_taker s) (first_taken (ready_taker s) ends) (woken lists (newest (past_of s))) ≡ ready (wire_in s) (past_of s)
  ready_is ends lists covers a =
      least_ready (wire_in s) (past_of s) (kept (wire_in s) s.seqs (past_of s) h.legal) (ready_taker s) (ready_taker_is s h)
      (λ x. has_end ends x || has_end (woken lists (newest (past_of s))) x)
      (least_among (ready_taker s) (first_taken (ready_taker s) ends) (woken lists (newest (past_of s))))
      (all_more (ready_taker s) (woken lists (newest (past_of s))) (λ x. has_end ends x) (first_taken (ready_taker s) ends)
      (first_least (ready_taker s) ends a)) covers

  -- once those of the last event were looked at, the set alone covers
  pub woken_watched : (old new : List EndId) (lists : Lists) (looked : List EndId) → Covers s old lists → IsWithin old new
      → looked ≡ woken lists (newest (past_of s))
      → ((x : EndId) → has_end looked x ≡ true → is_some (ready_taker s x) ≡ true → has_end new x ≡ true) → CoversReady s new
  woken_watched old new lists looked covers more is all x r =
      elim (or_cases (has_end old x) (has_end (woken lists (newest (past_of s))) x) (covers x r)) [
        | inl o ↦ more x o
        | inr w ↦ all x (subst (λ (ends : List EndId). has_end ends x ≡ true) (sym is) w) (some_ready x r)
      ]

  -- what is watched and known grows
  pub stands_more : (old new : List EndId) (before after : Lists) → Stands s old before → IsWithin old new → Grows before after → Stands s new after
  stands_more old new before after stands more grows = record {
    holds = h;
    covers = λ x r. elim (or_cases (has_end old x) (has_end (woken before (newest (past_of s))) x) (stands.covers x r)) [
      | inl o ↦ or_left (has_end new x) (has_end (woken after (newest (past_of s))) x) (more x o)
      | inr w ↦ or_right (has_end new x) (has_end (woken after (newest (past_of s))) x) (woken_more before after (newest (past_of s)) x grows w)
    ];
    listed = λ x. listed_more before after (past_of s) x (waits (past_of s) x) grows (stands.listed x);
  }

  -- and the lists of the last event may go where the set alone covers
  pub stands_spared : (ends : List EndId) (before after : Lists) → AllListed before (past_of s) → CoversReady s ends
      → Spares (causes_in (newest (past_of s))) before after → Stands s ends after
  stands_spared ends before after listed covers spared = record {
    holds = h;
    covers = λ x r. or_left (has_end ends x) (has_end (woken after (newest (past_of s))) x) (covers x r);
    listed = listed_spared before after (past_of s) spared listed;
  }

-- what ends keep of their waits is no matter
pub same_stands : (s : State) (ends : List EndId) (lists : Lists) (notices : Lines) → Stands s ends lists → StaysTrue s.pipes s.tables.notices notices
    → Stands (with_notices s notices) ends lists
same_stands s ends lists notices stands stays = record { holds = still_holds s notices stands.holds stays; covers = stands.covers; listed = stands.listed }

-- nor is it for what is watched before a command
pub same_watched : (s : State) (command : Command) (ends : List EndId) (lists : Lists) (notices : Lines) → IsWatched s command ends lists
    → IsWatched (with_notices s notices) command ends lists
same_watched s command ends lists notices w = record { ready = w.ready; near = w.near; noted = w.noted }

covers_still : (s : State) (old new : List EndId) (lists : Lists) → Holds s → Covers s old lists → KeepsTaken s old new → Covers s new lists
covers_still s old new lists h covers keeps x r = elim (or_cases (has_end old x) (has_end (woken lists (newest (past_of s))) x) (covers x r)) [
  | inl o ↦ or_left (has_end new x) (has_end (woken lists (newest (past_of s))) x) (keeps x (some_ready s h x r) o)
  | inr w ↦ or_right (has_end new x) (has_end (woken lists (newest (past_of s))) x) w
]

module _ (old new : State) (ends : List EndId) (lists : Lists) (ready : CoversReady old ends) (listed : AllListed lists (past_of old)) where
  same_ready : (past : List Event) → schema_of new ≡ schema_of old → past_of new ≡ past → (x : EndId)
      → is_ready (wire_in new) (past_of new) x ≡ true → is_ready (wire_in old) past x ≡ true
  same_ready past schema p x r =
      subst (λ (es : List Event). is_ready (wire_in old) es x ≡ true) p
      (subst (λ (w : Schema). is_ready (wire_of w) (past_of new) x ≡ true) schema r)

  covers_undone : (command : Command) (refused : Refused) → Undone old new command refused → Covers new ends lists
  covers_undone command refused u x r =
      or_left (has_end ends x) (has_end (woken lists (newest (past_of new))) x) (ready x (same_ready (past_of old) u.schema (ap reverse u.events) x r))

  listed_undone : (command : Command) (refused : Refused) → Undone old new command refused → AllListed lists (past_of new)
  listed_undone command refused u = subst (λ (past : List Event). AllListed lists past) (sym (ap reverse u.events)) listed

  module _ (seq : SeqId) (command : Command) (reply : Reply) (d : Done old new seq command reply) where
    abbrev event : Event
    event = record { seq = seq; asked = asked_of command; told = told_in old seq command }

    now : past_of new ≡ event ∷ past_of old
    now = ap reverse d.events ∙ reverse-append old.log.events (event ∷ [])

    -- far from what the command is about an end that is ready was so before, or waited and waits no more
    far_ready : (x : EndId) → is_near (past_of old) (about event.asked event.told) x ≡ false → is_ready (wire_in old) (event ∷ past_of old) x ≡ true
        → (has_end ends x || has_end (woken lists (Some event)) x) ≡ true
    far_ready x far r = go (first_unmet (past_of old) (waits (past_of old) x)) refl
      where
        before : is_takeable (wire_in old) (past_of old) x ≡ true
        before = takeable_far (wire_in old) (past_of old) x event far (ready_takeable (wire_in old) (event ∷ past_of old) x r)

        go : (o : Option EndId) → first_unmet (past_of old) (waits (past_of old) x) ≡ o → (has_end ends x || has_end (woken lists (Some event)) x) ≡ true
        go None e =
            or_left (has_end ends x) (has_end (woken lists (Some event)) x) (ready x (takeable_ready (wire_in old) (past_of old) x e before))
        go (Some z) e = or_right (has_end ends x) (has_end (woken lists (Some event)) x)
            (woken_by lists event (past_of old) x (waits (past_of old) x) (waits_by event.told event.asked x) z (listed x) e
            (ready_free (wire_in old) (event ∷ past_of old) x r))

    covers_done : HasNear old (end_named command) ends → Covers new ends lists
    covers_done near x r =
        subst (λ (past : List Event). (has_end ends x || has_end (woken lists (newest past)) x) ≡ true) (sym now)
        (go (is_near (past_of old) (about event.asked event.told) x) refl (same_ready (event ∷ past_of old) d.schema now x r))
      where
        go : (b : Bool) → is_near (past_of old) (about event.asked event.told) x ≡ b → is_ready (wire_in old) (event ∷ past_of old) x ≡ true
            → (has_end ends x || has_end (woken lists (Some event)) x) ≡ true
        go true e h =
            or_left (has_end ends x) (has_end (woken lists (Some event)) x)
            (near x (near_named (wire_in old) old.seqs (past_of old) seq x command (told_in old seq command) refl e))
        go false e h = far_ready x e h

    listed_done : IsNoted lists command → AllListed lists (past_of new)
    listed_done noted =
        subst (λ (past : List Event). AllListed lists past) (sym now)
        (listed_after lists (past_of old) seq (told_in old seq command) command noted listed)

-- what stands still does after a command was done or came back
pub stands_after : (old new : State) (seq : SeqId) (command : Command) (r : Result Reply Refused) (before after : List EndId) (lists : Lists)
    → Stands old before lists → IsWatched old command before lists
    → IfOk r (λ reply. Done old new seq command reply) → IfErr r (λ refused. Undone old new command refused)
    → KeepsTaken new before after
    → Stands new after lists
stands_after old new seq command (Ok reply) before after lists s w d u keeps =
    record {
      holds = d.holds;
      covers =
          covers_still new before after lists d.holds (covers_done old new before lists w.ready s.listed seq command reply d w.near) keeps;
      listed = listed_done old new before lists w.ready s.listed seq command reply d w.noted;
    }
stands_after old new seq command (Err refused) before after lists s w d u keeps =
    record {
      holds = u.holds;
      covers = covers_still new before after lists u.holds (covers_undone old new before lists w.ready s.listed command refused u) keeps;
      listed = listed_undone old new before lists w.ready s.listed command refused u;
    }
