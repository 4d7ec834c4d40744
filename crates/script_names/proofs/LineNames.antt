-- The names of a sequence once the reply to a line's command is settled: what came is under them, and what was spent isn't any more.
use Rattle.std.proofs.Common.{◌≡◌, ◌<◌, ◌+◌, ℕ, Bool, true, false, List, [], ◌∷◌, length, drop, refl, sym, ap, ◌∙◌, subst, true≢false}
use Rattle.std.specs.Prelude.{◌==◌, Option, Some, None, is_some, slice_get, if◌then◌else◌}
use Rattle.std.specs.List.{AllByRecursion}
use Rattle.std.proofs.Math.Path.{fun_ext}
use Rattle.std.proofs.lemmas.List.{length-map}
use Rattle.mj_base.specs.declared.ids.SeqId.{SeqId}
use Rattle.handle_table.specs.declared.thing.Thing.{Thing}
use Rattle.bind_model.specs.Machine.{handed}
use Rattle.bind_model.specs.Pendings.{Half, names_of}
use Rattle.bind_model.specs.Plain.{asked_of, told_of, HandsBack, HandsEnd, HandsResponders, HandsToken, responders_in}
use Rattle.bind_model.specs.Replies.{answer}
use Rattle.bind_model.specs.Wire.{Wire}
use Rattle.bind_model.specs.declared.commands.Command.{Command}
use Rattle.bind_model.specs.declared.commands.Command.TheVariants.{Raw, Flow}
use Rattle.bind_model.specs.declared.commands.Reply.{Reply}
use Rattle.bind_model.specs.declared.commands.Reply.TheVariants.{Made, Associated, Wrote, Got, Flowed, No}
use Rattle.bind_model.specs.declared.endpoint.PendingId.{PendingId}
use Rattle.bind_model.specs.declared.endpoint.ResponderId.{ResponderId}
use Rattle.bind_model.specs.declared.event.Event.{Event}
use Rattle.call_script.specs.Sound.{AreWithin, sets}
use Rattle.call_script.specs.declared.script.Line.{Line}
use Rattle.call_script.specs.declared.script.NameId.{NameId}
use Rattle.script_names.specs.Autos.{Due}
use Rattle.script_names.specs.Names.{Named, came, has_name, handles_spent, is_done, named_after, or_before, pendings_handed, pendings_spent}
use Rattle.script_names.specs.Names.{responders_named, responders_spent, then_held}
use Rattle.script_names.specs.declared.names.Names.{Names}
use Rattle.script_names.specs.declared.rooms.Rooms.{Rooms}
use Rattle.script_names.specs.declared.stands.Stands.{Stands}
use Rattle.script_names.specs.Carried.{halves_with, responder_with, things_with}
use Rattle.script_names.specs.Needs.{AreNames}
use Rattle.script_names.specs.Held.{HaveNames, name_of, names_in}
use Rattle.script_names.specs.Settling.{Settles, SpendsAs, TookFor, handles_under, held_under, list_of, own_before, pendings_under, place_for}
use Rattle.script_names.specs.Settling.{responder_under, settled_handles, settled_pendings, settled_responders, settled_stands}
use Rattle.script_names.specs.Held.{held_at}
use Rattle.script_names.specs.Tables.{filled, filled_one, given, left_by, taken_from}
use Rattle.script_names.proofs.NameLemmas.{first_back, given_one, then_given, then_left, then_same, within_drop}
use Rattle.script_names.proofs.TableLemmas.{all_back}
use Rattle.script_names.proofs.WhatIsTold.{comes_back, flowed_flow, is_flow, is_raw, not_back, wrote_raw}

-- ## The names of pendings

came_names : (names : List NameId) (halves : List Half) (n : NameId) → name_of (came names halves n) ≡ came names (names_of halves) n
came_names [] halves n = refl
came_names (m ∷ names) [] n = refl
came_names (m ∷ names) (half ∷ halves) n = go (m.0 == n.0) (came_names names halves n)
  where
    go : (b : Bool) → name_of (came names halves n) ≡ came names (names_of halves) n
        → name_of (if b then Some half else came names halves n) ≡ (if b then Some half.name else came names (names_of halves) n)
    go true e = refl
    go false e = e

or_names : (later before : Option Half) → name_of (or_before later before) ≡ or_before (name_of later) (name_of before)
or_names (Some half) before = refl
or_names None before = refl

unless_names : (b : Bool) (half : Option Half) → name_of (if b then None else half) ≡ (if b then None else name_of half)
unless_names true half = refl
unless_names false half = refl

then_names : (names spent : List NameId) (halves : List Half) (holds : NameId → Option Half) (n : NameId)
    → name_of (then_held names halves spent holds n) ≡ then_held names (names_of halves) spent (λ (m : NameId). name_of (holds m)) n
then_names names spent halves holds n =
    or_names (came names halves n) (if has_name spent n then None else holds n)
    ∙ (ap (λ (o : Option PendingId). or_before o (name_of (if has_name spent n then None else holds n))) (came_names names halves n)
    ∙ ap (λ (o : Option PendingId). or_before (came names (names_of halves) n) o) (unless_names (has_name spent n) (holds n)))

-- ## The end that bytes are written from, and the token that they are moved at

plain_before : (command : Command) (one : Option NameId) (spent : List NameId) → comes_back command ≡ false → own_before command one spent ≡ spent
plain_before (Raw handle bytes handles) one spent plain = absurd (true≢false plain)
plain_before (Flow handle flow) one spent plain = absurd (true≢false plain)
plain_before command one spent plain = refl

wrote_held : (command : Command) (one : Option NameId) (hs ps spent : List NameId) (table : List (Option Thing)) (back : Thing)
    → is_raw command ≡ true → HandsEnd back command
    → taken_from table (handles_under one hs ps command) ≡ Some (things_with command)
    → handles_under one hs ps command ≡ own_before command one spent
    → filled_one one back (left_by table (handles_under one hs ps command)) ≡ left_by table spent
wrote_held (Raw handle bytes handles) None hs ps spent table back raw hands taken under = absurd cc
wrote_held (Raw handle bytes handles) (Some m) hs ps spent table back raw hands taken under =
    let same : hs ≡ spent = cc in
    ap (λ (x : Thing). filled (left_by table (m ∷ hs)) m x) hands ∙ (first_back hs table m handle handles taken ∙ ap (left_by table) same)
wrote_held command one hs ps spent table back raw hands taken under = absurd (true≢false (sym raw))

moved_held : (command : Command) (one : Option NameId) (hs ps spent : List NameId) (table : List (Option Thing)) (back : Thing)
    → is_flow command ≡ true → HandsToken back command
    → taken_from table (handles_under one hs ps command) ≡ Some (things_with command)
    → handles_under one hs ps command ≡ own_before command one spent
    → filled_one one back (left_by table (handles_under one hs ps command)) ≡ left_by table spent
moved_held (Flow handle flow) None hs ps spent table back moves hands taken under = absurd cc
moved_held (Flow handle flow) (Some m) hs ps spent table back moves hands taken under =
    let same : ◌≡◌ {A = List NameId} [] spent = cc in
    ap (λ (x : Thing). filled (left_by table (m ∷ [])) m x) hands ∙ (first_back [] table m handle [] taken ∙ ap (left_by table) same)
moved_held command one hs ps spent table back moves hands taken under = absurd (true≢false (sym moves))

-- ## Responders

none_named : (found : Option Due) → responders_named found [] ≡ []
none_named None = refl
none_named (Some d) = refl

responder_came : (names : Names) (ns spent : List NameId) (found : Option Due) (o : Option ResponderId) (k : ℕ) (table : List (Option ResponderId))
    → names.sets.items ≡ ns → AllByRecursion (λ (m : NameId). m.0 < length table) ns → (n : NameId)
    → held_at (held_under names (place_for names (is_some found) k) o (left_by table spent)) n
    ≡ then_held (drop k ns) (responders_named found (elim o [ Some r ↦ r ∷ [] | None ↦ [] ])) spent (held_at table) n
responder_came names ns spent None None k table e within n = then_left (drop k ns) spent table n
responder_came names ns spent (Some d) None k table e within n = then_left (drop k ns) spent table n
responder_came names ns spent (Some d) (Some r) k table e within n = then_left (drop k ns) spent table n
responder_came names ns spent None (Some r) k table e within n =
    ap (λ (ms : List NameId). held_at (filled_one (slice_get ms k) r (left_by table spent)) n) e
    ∙ (ap (λ (t : List (Option ResponderId)). held_at t n) (sym (given_one ns k r (left_by table spent)))
    ∙ then_given (drop k ns) spent (r ∷ []) table (within_drop (λ (m : NameId). m.0 < length table) k ns within) n)

-- names that stand for and hold the same
pub same_named : {a e : NameId → Option Thing} {b f : NameId → Option Thing} {c g : NameId → Option PendingId} {d h : NameId → Option ResponderId}
    → a ≡ e → b ≡ f → c ≡ g → d ≡ h
    → ◌≡◌ {A = Named} (record { stands = a; handle = b; pending = c; responder = d }) (record { stands = e; handle = f; pending = g; responder = h })
same_named stands handles pendings responders = cc

module _ (wire : Wire) (seqs : ℕ) (past : List Event) (me : SeqId) (line : Line) (names : Names) (command : Command) (found : Option Due)
    (old mid : Rooms)
    (are : AreNames (λ (n : NameId). is_some (held_at old.stands.things.items n)) line.command names) (took : TookFor names command old mid)
    (spends : SpendsAs (held_at old.stands.things.items) line.command names command)
    (have : HaveNames (length old.stands.things.items) old) (within : AreWithin (length old.stands.things.items) (sets line.command)) where
  -- the names that the line sets
  abbrev ns : List NameId
  ns = sets line.command

  -- what names stood for before
  abbrev stands : NameId → Option Thing
  stands = held_at old.stands.things.items

  -- the handles that were held before
  abbrev these : NameId → Option Thing
  these = held_at old.handles.named.items

  -- the pending endpoints that were
  abbrev halves : NameId → Option Half
  halves = held_at old.pendings.named.items

  -- the responders that were
  abbrev rights : NameId → Option ResponderId
  rights = held_at old.responders.named.items

  -- the names from which the command takes handles
  abbrev gone_handles : List NameId
  gone_handles = handles_spent stands line.command (asked_of command)

  -- those from which it takes pending endpoints
  abbrev gone_pendings : List NameId
  gone_pendings = pendings_spent stands line.command (asked_of command)

  -- those from which it takes responders
  abbrev gone_responders : List NameId
  gone_responders = responders_spent stands line.command (asked_of command)

  -- a table has a place for each name
  within_as : {X : Type 0} (table : List (Option X)) → length table ≡ length old.stands.things.items → AllByRecursion (λ (m : NameId). m.0 < length table) ns
  within_as table e = subst (λ (k : ℕ). AllByRecursion (λ (m : NameId). m.0 < k) ns) (sym e) within

  -- ## What names stand for

  stands_after : (reply : Reply) (n : NameId) → held_at (settled_stands names reply old.stands.things.items) n
      ≡ then_held ns (handed (told_of reply)) [] stands n
  stands_after (Made things) n =
      ap (λ (ms : List NameId). held_at (given ms things old.stands.things.items) n) are.sets ∙ then_given ns [] things old.stands.things.items within n
  stands_after (Got g) n =
      ap (λ (ms : List NameId). held_at (given ms g.handles old.stands.things.items) n) are.sets ∙ then_given ns [] g.handles old.stands.things.items within n
  stands_after reply n = then_same ns stands n

  -- ## Handles

  plain_left : comes_back command ≡ false → mid.handles.named.items ≡ left_by old.handles.named.items gone_handles
  plain_left plain =
      took.no_handles ∙ ap (left_by old.handles.named.items) (spends.handles ∙ plain_before command names.one gone_handles plain)

  handles_came : (things : List Thing) → comes_back command ≡ false → (n : NameId)
      → held_at (given names.sets.items things mid.handles.named.items) n ≡ then_held ns things gone_handles these n
  handles_came things plain n =
      ap (λ (ms : List NameId). held_at (given ms things mid.handles.named.items) n) are.sets
      ∙ (ap (λ (t : List (Option Thing)). held_at (given ns things t) n) (plain_left plain)
      ∙ then_given ns gone_handles things old.handles.named.items (within_as old.handles.named.items have.handles) n)

  handles_left : comes_back command ≡ false → (n : NameId) → held_at mid.handles.named.items n ≡ then_held ns [] gone_handles these n
  handles_left plain n =
      ap (λ (t : List (Option Thing)). held_at t n) (plain_left plain) ∙ then_left ns gone_handles old.handles.named.items n

  -- all that went with a refused command is where it was
  handles_back : (back : Command) → back ≡ command
      → given (handles_under names.one names.handles.items names.pendings.items back) (things_with back) mid.handles.named.items ≡ old.handles.named.items
  handles_back back e =
      ap (λ (c : Command). given (handles_under names.one names.handles.items names.pendings.items c) (things_with c) mid.handles.named.items) e
      ∙ (ap (given (handles_under names.one names.handles.items names.pendings.items command) (things_with command)) took.no_handles
      ∙ all_back (handles_under names.one names.handles.items names.pendings.items command) (things_with command) old.handles.named.items took.handles)

  handles_after : (reply : Reply) → told_of reply ≡ answer wire seqs past me (asked_of command) → HandsBack command reply → (n : NameId)
      → held_at (settled_handles names reply mid.handles.named.items) n
      ≡ then_held ns (handed (told_of reply)) (if is_done (told_of reply) then gone_handles else []) these n
  handles_after (Made things) told hands n = handles_came things (not_back wire seqs past me command (told_of (Made things)) told refl) n
  handles_after (Got g) told hands n = handles_came g.handles (not_back wire seqs past me command (told_of (Got g)) told refl) n
  handles_after (Wrote back) told hands n =
      ap (λ (t : List (Option Thing)). held_at (filled_one names.one back t) n) took.no_handles
      ∙ (ap (λ (t : List (Option Thing)). held_at t n)
      (wrote_held command names.one names.handles.items names.pendings.items gone_handles old.handles.named.items back
      (wrote_raw wire seqs past me command _ told) hands took.handles spends.handles)
      ∙ then_left ns gone_handles old.handles.named.items n)
  handles_after (Flowed back w) told hands n =
      ap (λ (t : List (Option Thing)). held_at (filled_one names.one back t) n) took.no_handles
      ∙ (ap (λ (t : List (Option Thing)). held_at t n)
      (moved_held command names.one names.handles.items names.pendings.items gone_handles old.handles.named.items back
      (flowed_flow wire seqs past me command _ _ told) hands took.handles spends.handles)
      ∙ then_left ns gone_handles old.handles.named.items n)
  handles_after (No why back) told hands n = ap (λ (t : List (Option Thing)). held_at t n) (handles_back back hands) ∙ then_same ns these n
  handles_after reply told hands n = handles_left (not_back wire seqs past me command (told_of reply) told refl) n

  -- ## Pendings

  half_left : mid.pendings.named.items ≡ left_by old.pendings.named.items gone_pendings
  half_left = took.no_pendings ∙ ap (left_by old.pendings.named.items) spends.pendings

  halves_came : (ms : List NameId) (came_now : List Half) → AllByRecursion (λ (m : NameId). m.0 < length old.pendings.named.items) ms → (n : NameId)
      → name_of (held_at (given ms came_now mid.pendings.named.items) n)
      ≡ then_held ms (names_of came_now) gone_pendings (λ (m : NameId). name_of (halves m)) n
  halves_came ms came_now inside n =
      ap (λ (t : List (Option Half)). name_of (held_at (given ms came_now t) n)) half_left
      ∙ (ap (λ (o : Option Half). name_of o) (then_given ms gone_pendings came_now old.pendings.named.items inside n)
      ∙ then_names ms gone_pendings came_now halves n)

  halves_back : (back : Command) → back ≡ command
      → given (pendings_under names.one names.handles.items names.pendings.items back) (halves_with back) mid.pendings.named.items ≡ old.pendings.named.items
  halves_back back e =
      ap (λ (c : Command). given (pendings_under names.one names.handles.items names.pendings.items c) (halves_with c) mid.pendings.named.items) e
      ∙ (ap (given (pendings_under names.one names.handles.items names.pendings.items command) (halves_with command)) took.no_pendings
      ∙ all_back (pendings_under names.one names.handles.items names.pendings.items command) (halves_with command) old.pendings.named.items took.pendings)

  halves_left : (ms : List NameId) (n : NameId)
      → name_of (held_at mid.pendings.named.items n) ≡ then_held ms [] gone_pendings (λ (m : NameId). name_of (halves m)) n
  halves_left ms n =
      ap (λ (t : List (Option Half)). name_of (held_at t n)) half_left
      ∙ (ap (λ (o : Option Half). name_of o) (then_left ms gone_pendings old.pendings.named.items n) ∙ then_names ms gone_pendings [] halves n)

  pendings_after : (reply : Reply) → HandsBack command reply → (n : NameId)
      → name_of (held_at (settled_pendings names reply mid.pendings.named.items) n)
      ≡ then_held (drop (length (handed (told_of reply))) ns) (pendings_handed (told_of reply))
      (if is_done (told_of reply) then gone_pendings else []) (λ (m : NameId). name_of (halves m)) n
  pendings_after (Associated half) hands n =
      ap (λ (ms : List NameId). name_of (held_at (filled_one (slice_get ms 0) half mid.pendings.named.items) n)) are.sets
      ∙ (ap (λ (t : List (Option Half)). name_of (held_at t n)) (sym (given_one ns 0 half mid.pendings.named.items))
      ∙ halves_came ns (half ∷ []) (within_as old.pendings.named.items have.pendings) n)
  pendings_after (Got g) hands n =
      ap (λ (ms : List NameId). name_of (held_at (given (drop (length g.handles) ms) g.pendings mid.pendings.named.items) n)) are.sets
      ∙ halves_came (drop (length g.handles) ns) g.pendings
      (within_drop (λ (m : NameId). m.0 < length old.pendings.named.items) (length g.handles) ns (within_as old.pendings.named.items have.pendings)) n
  pendings_after (No why back) hands n =
      ap (λ (t : List (Option Half)). name_of (held_at t n)) (halves_back back hands) ∙ then_same ns (λ (m : NameId). name_of (halves m)) n
  pendings_after reply hands n = halves_left (drop (length (handed (told_of reply))) ns) n

  -- ## Responders

  right_left : mid.responders.named.items ≡ left_by old.responders.named.items gone_responders
  right_left = took.no_responder ∙ ap (left_by old.responders.named.items) spends.responder

  rights_back : (back : Command) → back ≡ command
      → given (responder_under names.one names.handles.items names.pendings.items back) (list_of (responder_with back)) mid.responders.named.items
      ≡ old.responders.named.items
  rights_back back e =
      ap (λ (c : Command).
      given (responder_under names.one names.handles.items names.pendings.items c) (list_of (responder_with c)) mid.responders.named.items) e
      ∙ (ap (given (responder_under names.one names.handles.items names.pendings.items command) (list_of (responder_with command))) took.no_responder
      ∙ all_back (responder_under names.one names.handles.items names.pendings.items command) (list_of (responder_with command))
      old.responders.named.items took.responder)

  -- behind so many names
  abbrev behind : Reply → List NameId
  behind reply = drop (length (handed (told_of reply)) + length (pendings_handed (told_of reply))) ns

  rights_left : (ms : List NameId) (n : NameId)
      → held_at mid.responders.named.items n ≡ then_held ms (responders_named found []) gone_responders rights n
  rights_left ms n =
      ap (λ (t : List (Option ResponderId)). held_at t n) right_left
      ∙ (then_left ms gone_responders old.responders.named.items n
      ∙ ap (λ (rs : List ResponderId). then_held ms rs gone_responders rights n) (sym (none_named found)))

  rights_after : (reply : Reply) → HandsBack command reply → (n : NameId)
      → held_at (settled_responders names (is_some found) reply mid.responders.named.items) n
      ≡ then_held (behind reply) (responders_named found (responders_in reply)) (if is_done (told_of reply) then gone_responders else []) rights n
  rights_after (Got g) hands n =
      ap (λ (t : List (Option ResponderId)).
      held_at (held_under names (place_for names (is_some found) (length g.handles + length g.pendings)) g.responder t) n) right_left
      ∙ (responder_came names ns gone_responders found g.responder (length g.handles + length g.pendings) old.responders.named.items are.sets
      (within_as old.responders.named.items have.responders) n
      ∙ ap (λ (k : ℕ).
      then_held (drop (length g.handles + k) ns) (responders_named found (responders_in (Got g))) gone_responders rights n)
      (sym (length-map g.pendings (λ (half : Half). half.name))))
  rights_after (No why back) hands n =
      ap (λ (t : List (Option ResponderId)). held_at t n) (rights_back back hands)
      ∙ (then_same (behind (No why back)) rights n
      ∙ ap (λ (rs : List ResponderId). then_held (behind (No why back)) rs [] rights n) (sym (none_named found)))
  rights_after reply hands n = rights_left (behind reply) n

  -- ## All of them

  pub names_after : (reply : Reply) (new : Rooms) → told_of reply ≡ answer wire seqs past me (asked_of command) → HandsBack command reply
      → HandsResponders wire command reply → Settles names reply (is_some found) mid new
      → names_in new ≡ named_after wire (Some line) found (record { seq = me; asked = asked_of command; told = told_of reply }) (names_in old)
  names_after reply new told hands rights_are settles = same_named
      (fun_ext (λ n. ap (λ (t : List (Option Thing)). held_at t n) (settles.stands ∙ still_stands) ∙ stands_after reply n))
      (fun_ext (λ n. ap (λ (t : List (Option Thing)). held_at t n) settles.handles ∙ handles_after reply told hands n))
      (fun_ext (λ n. ap (λ (t : List (Option Half)). name_of (held_at t n)) settles.pendings ∙ pendings_after reply hands n))
      (fun_ext (λ n. ap (λ (t : List (Option ResponderId)). held_at t n) settles.responders
      ∙ (rights_after reply hands n
      ∙ ap (λ (rs : List ResponderId).
      then_held (behind reply) (responders_named found rs) (if is_done (told_of reply) then gone_responders else []) rights n) rights_are)))
    where
      still_stands : settled_stands names reply mid.stands.things.items ≡ settled_stands names reply old.stands.things.items
      still_stands = ap (λ (s : Stands). settled_stands names reply s.things.items) took.stands
