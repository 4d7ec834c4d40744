-- What a join does to the core, and to the rooms of the sequences.
use Rattle.std.proofs.Common.{◌≡◌, ◌<◌, ◌≤◌, ◌+◌, ◌++◌, ℕ, Bool, true, false, List, [], ◌∷◌, get_or, length, refl, sym, ap, ◌∙◌, subst, arith, ltb, length-set}
use Rattle.std.specs.Prelude.{◌==◌, Option, Some, None, reverse, set, slice_get, if◌then◌else◌, vec_len, vec_capacity}
use Rattle.std.specs.Option.{option_map}
use Rattle.std.proofs.lemmas.Bool.{eqb-false, eqb-true, le-ltb, lt-ltb, ltb-false, ltb-true}
use Rattle.std.proofs.lemmas.List.{append-nil, same_from_push}
use Rattle.std.proofs.lemmas.Option.{slice_get-get_or, slice_get_within}
use Rattle.mj_base.specs.declared.ids.SeqId.{SeqId}
use Rattle.mj_base.specs.declared.limits.TheConstants.{MAX_EVENTS}
use Rattle.mj_schema.specs.declared.schema.Schema.{Schema}
use Rattle.handle_table.specs.declared.thing.Thing.{Thing}
use Rattle.handle_table.specs.declared.thing.Thing.TheVariants.{End}
use Rattle.handle_table.proofs.NumberedLemmas.{get-set}
use Rattle.bind_core.specs.Play.{Play}
use Rattle.bind_model.specs.Plain.{told_of}
use Rattle.bind_model.specs.Replies.{first_of, joined as joins, serials, unless}
use Rattle.bind_model.specs.Seen.{told_behind}
use Rattle.bind_model.specs.declared.asked.Asked.TheVariants as asks
use Rattle.bind_model.specs.declared.commands.Command.TheVariants as commands
use Rattle.bind_model.specs.declared.commands.Reply.{Reply}
use Rattle.bind_model.specs.declared.event.Event.{Event}
use Rattle.bind_model.specs.declared.told.Told.{Told}
use Rattle.bind_model.specs.declared.told.Told.TheVariants as tells
use Rattle.bind_model.specs.declared.told.Why.TheVariants.{NoName}
use Rattle.call_script.specs.declared.script.NameId.{NameId}
use Rattle.remote_receiver.specs.Notes.{Kept}
use Rattle.remote_receiver.specs.declared.rest.Rest.{Rest}
use Rattle.script_run.specs.declared.joins.Joint.{Joint}
use Rattle.script_run.specs.declared.plain.Plain.{Plain}
use Rattle.script_names.specs.declared.rooms.Rooms.{Rooms}
use Rattle.script_run.specs.AtDesk.{SawAt, Seen}
use Rattle.script_run.specs.steps.Desks.{Went}
use Rattle.script_run.specs.Draining.{HaveRested}
use Rattle.script_run.specs.steps.Going.{IsPutBack, IsWoken}
use Rattle.script_run.specs.steps.Joints.{Gave, Joined, Knows, KnowsIf, Spared}
use Rattle.script_run.specs.Rooms.{Come, GaveBoth, filled_if}
use Rattle.script_names.specs.Rooms.{SameHeld}
use Rattle.script_names.specs.Tables.{filled}
use Rattle.script_run.proofs.Waking.{grew_went, play_of, rested_again}

-- ## What a join is told

module _ (schema : Schema) (seqs : ℕ) (me other : SeqId) (before : List Event) where
  -- the end that the sequence gets
  abbrev pub first_end : Thing
  first_end = End (record { seq = me.0; serial = serials (reverse before) me.0 })

  -- the end that the other one gets
  abbrev pub second_end : Thing
  second_end = End (record { seq = other.0; serial = serials (reverse before) other.0 + (if other.0 == me.0 then 1 else 0) })

  -- both ends, where the other sequence is there
  pub joins_made : other.0 < seqs → told_behind schema seqs me before (commands.Join other) ≡ tells.Made (first_end ∷ second_end ∷ [])
  joins_made within =
      ap (λ (b : Bool). first_of (unless b NoName ∷ []) (joins (reverse before) me.0 other.0)) (lt-ltb other.0 seqs within)

module _ (joint : Joint) (core : Play) (rests woken new : List (Rest Plain)) (b a : Seen) (kept kept' : Kept Plain)
    (within : joint.seq.0 < core.seqs) (is_there : joint.other.0 < core.seqs) (rested : HaveRested core rests)
    (is : IsWoken joint.seq core rests woken (play_of b) b.me kept) (alone : b.alone ≡ true) (put : IsPutBack a.me woken new kept' (play_of a)) where
  -- the ends that it made, and that it was told them
  made : (reply : Reply) → SawAt b a (commands.Join joint.other) reply → Went b a kept kept' (asks.Join joint.other) (told_of reply)
      → (x : Thing) × (y : Thing) × (told_of reply ≡ tells.Made (x ∷ y ∷ [])) × Joined joint x y core (play_of a) new
  made reply saw went = (
    first_end b.schema b.seqs b.me joint.other saw.before,
    second_end b.schema b.seqs b.me joint.other saw.before,
    told,
    subst (λ (c : Play). Joined joint (first_end b.schema b.seqs b.me joint.other saw.before)
        (second_end b.schema b.seqs b.me joint.other saw.before) c (play_of a) new) is.core
        (record {
          schema = went.same.schema;
          seqs = went.same.seqs;
          event =
              went.sole alone
              ∙ ap (λ (t : Told). b.events ++ record { seq = b.me; asked = asks.Join joint.other; told = t } ∷ []) told
              ∙ ap (λ (s : SeqId). b.events
              ++ record {
                seq = s;
                asked = asks.Join joint.other;
                told = tells.Made (first_end b.schema b.seqs b.me joint.other saw.before
                    ∷ second_end b.schema b.seqs b.me joint.other saw.before ∷ []);
              } ∷ []) is.seq;
          legal = saw.legal;
          few = subst (λ (es : List Event). length es < MAX_EVENTS) before_is saw.room;
          rests = again;
        }),
  )
    where
      seqs_there : joint.other.0 < b.seqs
      seqs_there = subst (λ (c : Play). joint.other.0 < c.seqs) (sym is.core) is_there

      told : told_of reply
          ≡ tells.Made (first_end b.schema b.seqs b.me joint.other saw.before ∷ second_end b.schema b.seqs b.me joint.other saw.before ∷ [])
      told = saw.told ∙ joins_made b.schema b.seqs b.me joint.other saw.before seqs_there

      before_is : saw.before ≡ b.events
      before_is = saw.others.all ∙ (ap (λ (es : List Event). b.events ++ es) (saw.others.none alone) ∙ append-nil b.events)

      again : HaveRested (play_of a) new
      again =
          rested_again joint.seq b.me core (play_of b) (play_of a) rests woken new kept kept' within rested is
          (grew_went b a kept kept' (asks.Join joint.other) (told_of reply) alone went)
          (subst (λ (s : SeqId). IsPutBack s woken new kept' (play_of a)) went.same.me put)

  pub asked_joint : (back : Play) → back ≡ play_of a → (reply : Reply) → SawAt b a (commands.Join joint.other) reply
      → Went b a kept kept' (asks.Join joint.other) (told_of reply)
      → (x : Thing) × (y : Thing) × (told_of reply ≡ tells.Made (x ∷ y ∷ [])) × Joined joint x y core back new
  asked_joint back same reply saw went =
      let m = made reply saw went in
      (m.0, m.1, m.2, subst (λ (c : Play). Joined joint m.0 m.1 core c new) (sym same) m.3)

-- ## Rooms by their numbers

-- one of the rooms changed
pub come_set : (how : ℕ → Rooms → Rooms → Type 0) → ((k : ℕ) (room : Rooms) → how k room room) → (rooms : List Rooms) (i : ℕ) (room after : Rooms)
    → slice_get rooms i ≡ Some room → how i room after → Come how rooms (set rooms i after)
come_set how same rooms i room after here held = record {
  count = length-set rooms i after;
  each = λ k new at. by k new (i == k) refl (sym (get-set after rooms i k) ∙ at);
}
  where
    by : (k : ℕ) (new : Rooms) (b : Bool) → (i == k) ≡ b
        → (if b then option_map (λ (before : Rooms). after) (slice_get rooms k) else slice_get rooms k) ≡ Some new
        → (before : Rooms) × (slice_get rooms k ≡ Some before) × how k before new
    by k new true e at =
        let there : slice_get rooms k ≡ Some room = ap (slice_get rooms) (sym (eqb-true i k e)) ∙ here in
        let is : ◌≡◌ {A = Option Rooms} (Some after) (Some new) = sym (ap (option_map (λ (before : Rooms). after)) there) ∙ at in
        let new_is : after ≡ new = cc in
        (room, there, subst (λ (r : Rooms). how k room r) new_is (subst (λ (n : ℕ). how n room after) (eqb-true i k e) held))
    by k new false e at = (new, at, same k new)

-- one change after the other
pub come_then : (P Q R : ℕ → Rooms → Rooms → Type 0) (a b c : List Rooms) → ((k : ℕ) (x y z : Rooms) → P k x y → Q k y z → R k x z)
    → Come P a b → Come Q b c → Come R a c
come_then P Q R a b c both first second = record {
  count = second.count ∙ first.count;
  each = λ k z at.
      let mid = second.each k z at in
      let old = first.each k mid.0 mid.1 in
      (old.0, old.1, both k old.0 mid.0 z old.2 mid.2);
}

-- what stands at a number of a list in which another room changed
pub in_set : (rooms : List Rooms) (i k : ℕ) (after d : Rooms) → k < length rooms → slice_get (set rooms i after) k ≡ Some (get_or (set rooms i after) k d)
in_set rooms i k after d within =
    slice_get-get_or (set rooms i after) k d (subst (λ (n : ℕ). k < n) (sym (length-set rooms i after)) within)

-- what is known of a room, where it stands in a list after one of them changed
pub of_set : (P : Rooms → Type 0) (rooms : List Rooms) (i k : ℕ) (after : Rooms) → P after → ((room : Rooms) → slice_get rooms k ≡ Some room → P room)
    → (room : Rooms) → slice_get (set rooms i after) k ≡ Some room → P room
of_set P rooms i k after here there room at = by (i == k) refl (sym (get-set after rooms i k) ∙ at) (slice_get rooms k) refl
  where
    by : (b : Bool) → (i == k) ≡ b
        → (if b then option_map (λ (before : Rooms). after) (slice_get rooms k) else slice_get rooms k) ≡ Some room
        → (o : Option Rooms) → slice_get rooms k ≡ o → P room
    by true e at (Some old) f =
        let is : ◌≡◌ {A = Option Rooms} (Some after) (Some room) = sym (ap (option_map (λ (before : Rooms). after)) f) ∙ at in
        let same : after ≡ room = cc in
        subst P same here
    by true e at None f =
        let none : ◌≡◌ {A = Option Rooms} None (Some room) = sym (ap (option_map (λ (before : Rooms). after)) f) ∙ at in
        absurd cc
    by false e at o f = there room at

-- the room at the number that changed
pub at_set : (P : Rooms → Type 0) (rooms : List Rooms) (i : ℕ) (after : Rooms) → P after → (room : Rooms) → slice_get (set rooms i after) i ≡ Some room
    → P room
at_set P rooms i after here room h = by (slice_get rooms i) refl (sym (get-set after rooms i i) ∙ h) (i == i) refl
  where
    by : (o : Option Rooms) → slice_get rooms i ≡ o
        → (if i == i then option_map (λ (before : Rooms). after) (slice_get rooms i) else slice_get rooms i) ≡ Some room
        → (b : Bool) → (i == i) ≡ b → P room
    by (Some old) f there true e =
        let is : ◌≡◌ {A = Option Rooms} (Some after) (Some room) =
        sym (ap (option_map (λ (before : Rooms). after)) f) ∙ (rw e at there) in
        let same : after ≡ room = cc in
        subst P same here
    by None f there true e =
        let none : ◌≡◌ {A = Option Rooms} None (Some room) = sym (ap (option_map (λ (before : Rooms). after)) f) ∙ (rw e at there) in
        absurd cc
    by o f there false e = absurd (eqb-false i i e refl)

-- ## All know what a name stands for

-- the first so many do
abbrev pub KnowBelow : NameId → Thing → ℕ → List Rooms → List Rooms → Type 0
KnowBelow n x i old new = Come (λ k. KnowsIf n x (ltb k i) k) old new

module _ (n : NameId) (x : Thing) where
  pub know_none : (rooms : List Rooms) → KnowBelow n x 0 rooms rooms
  know_none rooms = record {
    count = refl;
    each = λ k room at. (room, at, subst (λ (b : Bool). KnowsIf n x b k room room) (sym (le-ltb k 0 (omega arith))) refl);
  }

  pub know_all : (i : ℕ) (old new : List Rooms) → length new ≤ i → KnowBelow n x i old new → Come (Knows n x) old new
  know_all i old new past know = record {
    count = know.count;
    each = λ k room at.
        let was = know.each k room at in
        let below : ltb k i ≡ true = lt-ltb k i (omega (arith, slice_get_within new k room at, past)) in
        (was.0, was.1, subst (λ (b : Bool). KnowsIf n x b k was.0 room) below was.2);
  }

  same_below : (i k : ℕ) → (i == k) ≡ false → ltb k (i + 1) ≡ ltb k i
  same_below i k other = by (ltb k i) refl
    where
      by : (b : Bool) → ltb k i ≡ b → ltb k (i + 1) ≡ b
      by true e = lt-ltb k (i + 1) (omega (arith, ltb-true k i e))
      by false e =
          let above : i ≤ k = ltb-false k i e in
          let not_same : i ≡ k → ⊥ = eqb-false i k other in
          le-ltb k (i + 1) (omega (arith, above, not_same))

  pub know_more : (i : ℕ) (old now : List Rooms) (room after : Rooms) → slice_get now i ≡ Some room → Knows n x i room after → KnowBelow n x i old now
      → KnowBelow n x (i + 1) old (set now i after)
  know_more i old now room after here knows know = record {
    count = length-set now i after ∙ know.count;
    each = λ k new at. by k new (i == k) refl (sym (get-set after now i k) ∙ at);
  }
    where
      by : (k : ℕ) (new : Rooms) (b : Bool) → (i == k) ≡ b
          → (if b then option_map (λ (before : Rooms). after) (slice_get now k) else slice_get now k) ≡ Some new
          → (before : Rooms) × (slice_get old k ≡ Some before) × KnowsIf n x (ltb k (i + 1)) k before new
      by k new true e at =
          let number : i ≡ k = eqb-true i k e in
          let there : slice_get now k ≡ Some room = ap (slice_get now) (sym number) ∙ here in
          let is : ◌≡◌ {A = Option Rooms} (Some after) (Some new) = sym (ap (option_map (λ (before : Rooms). after)) there) ∙ at in
          let new_is : after ≡ new = cc in
          let was = know.each k room there in
          let above : ltb k i ≡ false = le-ltb k i (omega (arith, number)) in
          let below : ltb k (i + 1) ≡ true = lt-ltb k (i + 1) (omega (arith, number)) in
          let unchanged : room ≡ was.0 = subst (λ (b : Bool). KnowsIf n x b k was.0 room) above was.2 in (
            was.0,
            was.1,
            subst (λ (b : Bool). KnowsIf n x b k was.0 new) (sym below)
                (subst (λ (r : Rooms). Knows n x k was.0 r) new_is
                (subst (λ (r : Rooms). Knows n x k r after) unchanged
                (subst (λ (m : ℕ). Knows n x m room after) number knows))),
          )
      by k new false e at =
          let was = know.each k new at in
          (was.0, was.1, subst (λ (b : Bool). KnowsIf n x b k was.0 new) (sym (same_below i k e)) was.2)

-- ## An end comes under a name

module _ (s : SeqId) (n : NameId) (x : Thing) (old mid : List Rooms) (know : Come (Knows n x) old mid) (room after : Rooms)
    (here : slice_get mid s.0 ≡ Some room) (stands : after.stands ≡ room.stands) (pendings : after.pendings ≡ room.pendings)
    (responders : after.responders ≡ room.responders) (named : after.handles.named.items ≡ filled room.handles.named.items n x)
    (used : vec_len after.handles.others ≤ vec_len room.handles.others + 1)
    (space : vec_capacity after.handles.others ≡ vec_capacity room.handles.others) where
  gave_here : (before : Rooms) → Knows n x s.0 before room → (b : Bool) → b ≡ true → (k : ℕ) → (s.0 == k) ≡ b → Gave s n x k before after
  gave_here before knows b is k e = record {
    stands = ap (λ st. st.things.items) stands ∙ knows.stands;
    handles = rw (e, is) (named ∙ ap (λ hs. filled hs.named.items n x) knows.handles);
    pendings = ap (λ ps. ps.named) pendings ∙ ap (λ ps. ps.named) knows.pendings;
    responders = ap (λ rs. rs.named) responders ∙ ap (λ rs. rs.named) knows.responders;
    used = subst (λ hs. vec_len after.handles.others ≤ vec_len hs.others + 1) knows.handles used;
    space = space ∙ ap (λ hs. vec_capacity hs.others) knows.handles;
  }

  gave_there : (k : ℕ) (before new : Rooms) → (s.0 == k) ≡ false → Knows n x k before new → Gave s n x k before new
  gave_there k before new e knows = record {
    stands = knows.stands;
    handles = rw e (ap (λ hs. hs.named.items) knows.handles);
    pendings = ap (λ ps. ps.named) knows.pendings;
    responders = ap (λ rs. rs.named) knows.responders;
    used = rw knows.handles (omega arith);
    space = ap (λ hs. vec_capacity hs.others) knows.handles;
  }

  pub come_gave : Come (Gave s n x) old (set mid s.0 after)
  come_gave = record {
    count = length-set mid s.0 after ∙ know.count;
    each = λ k new at. by k new (s.0 == k) refl (sym (get-set after mid s.0 k) ∙ at);
  }
    where
      by : (k : ℕ) (new : Rooms) (b : Bool) → (s.0 == k) ≡ b
          → (if b then option_map (λ (before : Rooms). after) (slice_get mid k) else slice_get mid k) ≡ Some new
          → (before : Rooms) × (slice_get old k ≡ Some before) × Gave s n x k before new
      by k new true e at =
          let number : s.0 ≡ k = eqb-true s.0 k e in
          let there : slice_get mid k ≡ Some room = ap (slice_get mid) (sym number) ∙ here in
          let is : ◌≡◌ {A = Option Rooms} (Some after) (Some new) = sym (ap (option_map (λ (before : Rooms). after)) there) ∙ at in
          let new_is : after ≡ new = cc in
          let was = know.each k room there in (
            was.0,
            was.1,
            subst (λ (r : Rooms). Gave s n x k was.0 r) new_is
                (gave_here was.0 (subst (λ (m : ℕ). Knows n x m was.0 room) (sym number) was.2) true refl k e),
          )
      by k new false e at = let was = know.each k new at in (was.0, was.1, gave_there k was.0 new e was.2)

-- ## Both ends

gave_both : (joint : Joint) (x y : Thing) (k : ℕ) (a b c : Rooms) → Gave joint.other joint.second y k a b → Gave joint.seq joint.first x k b c
    → GaveBoth joint x y k a c
gave_both joint x y k a b c first second = record {
  stands = second.stands ∙ ap (λ table. filled table joint.first x) first.stands;
  handles = second.handles ∙ ap (λ table. filled_if (joint.seq.0 == k) table joint.first x) first.handles;
  pendings = second.pendings ∙ first.pendings;
  responders = second.responders ∙ first.responders;
}

pub come_both : (joint : Joint) (x y : Thing) (a b c : List Rooms) → Come (Gave joint.other joint.second y) a b
    → Come (Gave joint.seq joint.first x) b c → Come (GaveBoth joint x y) a c
come_both joint x y a b c =
    come_then (Gave joint.other joint.second y) (Gave joint.seq joint.first x) (GaveBoth joint x y) a b c (gave_both joint x y)

-- after there was made space for them
spared_both : (joint : Joint) (x y : Thing) (k : ℕ) (a b c : Rooms) → Spared k a b → GaveBoth joint x y k b c → GaveBoth joint x y k a c
spared_both joint x y k a b c spared gave = record {
  stands = gave.stands ∙ ap (λ st. filled (filled st.things.items joint.second y) joint.first x) spared.stands;
  handles = gave.handles
      ∙ ap (λ named. filled_if (joint.seq.0 == k) (filled_if (joint.other.0 == k) named.items joint.second y) joint.first x) spared.handles;
  pendings = gave.pendings ∙ ap (λ ps. ps.named) spared.pendings;
  responders = gave.responders ∙ ap (λ rs. rs.named) spared.responders;
}

pub come_spared : (joint : Joint) (x y : Thing) (a b c : List Rooms) → Come Spared a b → Come (GaveBoth joint x y) b c → Come (GaveBoth joint x y) a c
come_spared joint x y a b c = come_then Spared (GaveBoth joint x y) (GaveBoth joint x y) a b c (spared_both joint x y)

-- after one was asked
held_both : (joint : Joint) (x y : Thing) (k : ℕ) (a b c : Rooms) → SameHeld a b → GaveBoth joint x y k b c → GaveBoth joint x y k a c
held_both joint x y k a b c held gave = record {
  stands = gave.stands ∙ ap (λ st. filled (filled st.things.items joint.second y) joint.first x) held.stands;
  handles = gave.handles
      ∙ ap (λ named. filled_if (joint.seq.0 == k) (filled_if (joint.other.0 == k) named.items joint.second y) joint.first x) held.handles;
  pendings = gave.pendings ∙ held.pendings;
  responders = gave.responders ∙ held.responders;
}

pub come_held : (joint : Joint) (x y : Thing) (a b c : List Rooms) → Come (λ k. SameHeld) a b → Come (GaveBoth joint x y) b c
    → Come (GaveBoth joint x y) a c
come_held joint x y a b c = come_then (λ k. SameHeld) (GaveBoth joint x y) (GaveBoth joint x y) a b c (held_both joint x y)

pub spared_none : (k : ℕ) (room : Rooms) → Spared k room room
spared_none k room = record { stands = refl; handles = refl; pendings = refl; responders = refl; kept = refl }

pub held_none : (k : ℕ) (room : Rooms) → SameHeld room room
held_none k room = record { stands = refl; handles = refl; pendings = refl; responders = refl }

pub spared_then : (a b c : List Rooms) → Come Spared a b → Come Spared b c → Come Spared a c
spared_then a b c = come_then Spared Spared Spared a b c
    (λ k x y z first second. record {
      stands = second.stands ∙ first.stands;
      handles = second.handles ∙ first.handles;
      pendings = second.pendings ∙ first.pendings;
      responders = second.responders ∙ first.responders;
      kept = second.kept ∙ first.kept;
    })

pub held_then : (a b c : Rooms) → SameHeld a b → SameHeld b c → SameHeld a c
held_then a b c first second = record {
  stands = second.stands ∙ first.stands;
  handles = second.handles ∙ first.handles;
  pendings = second.pendings ∙ first.pendings;
  responders = second.responders ∙ first.responders;
}

-- ## Two ends in a list

-- of two that were taken from the end of a list the last came first
pub two_popped : (rest one : List Thing) (first second x y : Thing) → x ∷ y ∷ [] ≡ one ++ second ∷ [] → one ≡ rest ++ first ∷ []
    → (first ≡ x) × (second ≡ y)
two_popped rest one first second x y e f =
    let last = same_from_push (x ∷ []) one y second e in
    let before = same_from_push [] rest x first (last.0 ∙ f) in
    (sym before.1, sym last.1)
