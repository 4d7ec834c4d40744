-- Passes that sit down at the hub, and rise again.
use Rattle.std.proofs.Common.{◌≡◌, ◌<◌, ◌+◌, ℕ, zero, suc, List, length, get_or, refl, sym, ap, ◌∙◌, subst, arith, Option, Some}
use Rattle.std.specs.Prelude.{slice_get}
use Rattle.std.proofs.lemmas.Option.{get_or_from_slice_get, slice_get-get_or, slice_get_within}
use Rattle.mj_base.specs.declared.ids.SeqId.{SeqId}
use Rattle.mj_schema.specs.declared.schema.Schema.{Schema}
use Rattle.bind_hub.specs.Hubs.{schema_in, seqs_in}
use Rattle.bind_hub.specs.Passes.{IsPassOf}
use Rattle.bind_hub.specs.declared.shared.Hub.{Hub}
use Rattle.call_script.specs.declared.script.Script.{Script}
use Rattle.remote_receiver.specs.Held.{kept_of}
use Rattle.remote_receiver.specs.Notes.{Kept}
use Rattle.remote_receiver.specs.Waits.{AreDrawn}
use Rattle.remote_receiver.specs.declared.rest.Rest.{Rest}
use Rattle.script_names.specs.Held.{HaveNames}
use Rattle.script_names.specs.declared.rooms.Rooms.{Rooms}
use Rattle.script_run.specs.AtDesk.{Seen}
use Rattle.script_run.specs.declared.cut.Cut.{Cut}
use Rattle.script_run.specs.declared.plain.Plain.{Plain}
use Rattle.threaded_run.specs.steps.Passes.{ArePasses, HubPass}
use Rattle.threaded_run.specs.steps.Workers.{HasReturned, IsReady, IsSeated, WorkerDid, seen_at}

-- a worker with the pass, the desk and the room of this number is seated
pub seated : (passes : List HubPass) (rests : List (Rest Plain)) (rooms : List Rooms) (at j : ℕ) (p : HubPass) (rest : Rest Plain) (room : Rooms)
    → at + (j + 1) ≡ length passes → slice_get passes at ≡ Some p → slice_get rests at ≡ Some rest → slice_get rooms at ≡ Some room
    → (pass : HubPass) (kept : Kept Plain) (own : Rooms) → pass ≡ p → kept ≡ kept_of rest.jobs → own ≡ room
    → IsSeated passes rests rooms j pass kept own
seated passes rests rooms at j p rest room number at_pass at_rest at_room pass kept own is_pass is_kept is_room = record {
  at = at;
  rest = rest;
  number = number;
  pass_is = at_pass ∙ ap (λ (q : HubPass). Some q) (sym is_pass);
  rest_is = at_rest;
  kept_is = is_kept;
  room_is = at_room ∙ ap (λ (r : Rooms). Some r) (sym is_room);
}

-- each number counted from the end is one from the beginning
pub other_end : (j n : ℕ) → j < n → (k : ℕ) × (k + (j + 1) ≡ n)
other_end j zero below = absurd (omega arith)
other_end zero (suc n) below = (n, omega arith)
other_end (suc j) (suc n) below = let h = other_end j n (omega arith) in (h.0, omega (arith, h.1))

-- ## Workers, whatever they are made of: each has a pass at a hub, a desk, a room and perhaps a cause why it was cut off

module _ {W : Type 0} (old new : List W) (pass_of : W → HubPass) (hub_of : W → Hub) (kept_by : W → Kept Plain) (room_of : W → Rooms)
    (cut_of : W → Option Cut)
    (is_pass : (w : W) → IsPassOf (hub_of w).turn.board.shared.table_id (schema_in (hub_of w)) (seqs_in (hub_of w)) (pass_of w).number
    (pass_of w).place.table_id (pass_of w).place.me.0)
    (script : Script) (schema : Schema) (hub : Hub) (passes : List HubPass) (rests : List (Rest Plain)) (rooms : List Rooms)
    (same : schema_in hub ≡ schema) (their : seqs_in hub ≡ script.seqs)
    (are : ArePasses hub.turn.board.shared.table_id (schema_in hub) (seqs_in hub) passes) (count : length old ≡ length passes)
    (sits : (j : ℕ) (w : W) → slice_get old j ≡ Some w → IsSeated passes rests rooms j (pass_of w) (kept_by w) (room_of w))
    (hub_was : (j : ℕ) (w : W) → slice_get old j ≡ Some w → hub_of w ≡ hub) where
  -- what the seat of a worker sees
  abbrev pub seat_of : W → Seen
  seat_of w = seen_at (schema_in (hub_of w)) (seqs_in (hub_of w)) (pass_of w)

  -- one that sits can do its lines
  pub is_ready : ((k : ℕ) (room : Rooms) → slice_get rooms k ≡ Some room → HaveNames script.names room) → (j : ℕ) (d : W) → j < length old
      → IsReady script schema (seat_of (get_or old j d)) (room_of (get_or old j d))
  is_ready names j d below =
      let w = get_or old j d in
      let got : slice_get old j ≡ Some w = slice_get-get_or old j d below in
      let s = sits j w got in
      let ready : IsReady script schema (seen_at (schema_in hub) (seqs_in hub) (pass_of w)) (room_of w) = record {
        within = (are s.at (pass_of w) s.pass_is).1.within;
        schema_is = same;
        seqs = their;
        names = names s.at (room_of w) s.room_is;
      } in
      subst (λ (h : Hub). IsReady script schema (seen_at (schema_in h) (seqs_in h) (pass_of w)) (room_of w)) (sym (hub_was j w got)) ready

  module _ (len : length new ≡ length old) (home : (j : ℕ) (d : W) → j < length old → hub_of (get_or new j d) ≡ hub_of (get_or old j d))
      (did : (j : ℕ) (d : W) → j < length old → WorkerDid script (seat_of (get_or old j d)) (seat_of (get_or new j d)) (kept_by (get_or old j d))
      (kept_by (get_or new j d)) (room_of (get_or old j d)) (room_of (get_or new j d)) (cut_of (get_or new j d)))
      (k : ℕ) (q : HubPass) (rest : Rest Plain) (j : ℕ) (w : W) (got : slice_get new j ≡ Some w) (number : k + (j + 1) ≡ length new)
      (pass_is : pass_of w ≡ q) (kept_is : kept_of rest.jobs ≡ kept_by w) (drawn : AreDrawn q.place.me.0.seen rest.jobs.waiting.callbacks) where
    below : j < length old
    below = let h = slice_get_within new j w got in omega (arith, h, len)

    -- as it sat down
    abbrev first : W
    first = get_or old j w

    got_first : slice_get old j ≡ Some first
    got_first = slice_get-get_or old j w below

    now_is : get_or new j w ≡ w
    now_is = get_or_from_slice_get new j w w got

    sat : IsSeated passes rests rooms j (pass_of first) (kept_by first) (room_of first)
    sat = sits j first got_first

    at_is : sat.at ≡ k
    at_is = omega (arith, sat.number, number, len, count)

    was_there : hub_of first ≡ hub
    was_there = hub_was j first got_first

    is_there : hub_of w ≡ hub
    is_there = ap hub_of (sym now_is) ∙ (home j w below ∙ was_there)

    -- what it did, by the hub that it was at
    did_there : WorkerDid script (seen_at (schema_in hub) (seqs_in hub) (pass_of first)) (seen_at (schema_in hub) (seqs_in hub) (pass_of w))
        (kept_by first) (kept_by w) (room_of first) (room_of w) (cut_of w)
    did_there =
        let now : WorkerDid script (seat_of first) (seat_of w) (kept_by first) (kept_by w) (room_of first) (room_of w) (cut_of w) =
        subst (λ (v : W). WorkerDid script (seat_of first) (seat_of v) (kept_by first) (kept_by v) (room_of first) (room_of v) (cut_of v)) now_is
        (did j w below) in
        let before : WorkerDid script (seen_at (schema_in hub) (seqs_in hub) (pass_of first)) (seat_of w) (kept_by first) (kept_by w) (room_of first)
        (room_of w) (cut_of w) =
        subst (λ (h : Hub). WorkerDid script (seen_at (schema_in h) (seqs_in h) (pass_of first)) (seat_of w) (kept_by first) (kept_by w) (room_of first)
        (room_of w) (cut_of w)) was_there now in
        subst (λ (h : Hub). WorkerDid script (seen_at (schema_in hub) (seqs_in hub) (pass_of first)) (seen_at (schema_in h) (seqs_in h) (pass_of w))
        (kept_by first) (kept_by w) (room_of first) (room_of w) (cut_of w)) is_there before

    -- and by the schema of the run, and as its desk and pass are back
    did_back : WorkerDid script (seen_at schema (seqs_in hub) (pass_of first)) (seen_at schema (seqs_in hub) q) (kept_of sat.rest.jobs) (kept_of rest.jobs)
        (room_of first) (room_of w) (cut_of w)
    did_back =
        let s : WorkerDid script (seen_at schema (seqs_in hub) (pass_of first)) (seen_at schema (seqs_in hub) (pass_of w)) (kept_by first) (kept_by w)
        (room_of first) (room_of w) (cut_of w) =
        subst (λ (s : Schema). WorkerDid script (seen_at s (seqs_in hub) (pass_of first)) (seen_at s (seqs_in hub) (pass_of w)) (kept_by first) (kept_by w)
        (room_of first) (room_of w) (cut_of w)) same did_there in
        let p : WorkerDid script (seen_at schema (seqs_in hub) (pass_of first)) (seen_at schema (seqs_in hub) q) (kept_by first) (kept_by w) (room_of first)
        (room_of w) (cut_of w) =
        subst (λ (p : HubPass). WorkerDid script (seen_at schema (seqs_in hub) (pass_of first)) (seen_at schema (seqs_in hub) p) (kept_by first) (kept_by w)
        (room_of first) (room_of w) (cut_of w)) pass_is s in
        let o : WorkerDid script (seen_at schema (seqs_in hub) (pass_of first)) (seen_at schema (seqs_in hub) q) (kept_of sat.rest.jobs) (kept_by w)
        (room_of first) (room_of w) (cut_of w) =
        subst (λ (o : Kept Plain). WorkerDid script (seen_at schema (seqs_in hub) (pass_of first)) (seen_at schema (seqs_in hub) q) o (kept_by w)
        (room_of first) (room_of w) (cut_of w)) sat.kept_is p in
        subst (λ (n : Kept Plain). WorkerDid script (seen_at schema (seqs_in hub) (pass_of first)) (seen_at schema (seqs_in hub) q) (kept_of sat.rest.jobs) n
        (room_of first) (room_of w) (cut_of w)) (sym kept_is) o

    number_is : q.number ≡ (pass_of first).number
    number_is = ap (λ (s : SeqId). s.0) did_back.0.same.me

    -- it is back as the sequence of this number
    pub has_returned : (r : HasReturned script schema (seqs_in hub) passes rests rooms k q rest) × (r.cut ≡ cut_of w)
    has_returned = (
      record {
        pass = pass_of first;
        was = sat.rest;
        room = room_of first;
        room' = room_of w;
        cut = cut_of w;
        pass_is = subst (λ (n : ℕ). slice_get passes n ≡ Some (pass_of first)) at_is sat.pass_is;
        rest_is = subst (λ (n : ℕ). slice_get rests n ≡ Some sat.rest) at_is sat.rest_is;
        room_is = subst (λ (n : ℕ). slice_get rooms n ≡ Some (room_of first)) at_is sat.room_is;
        number = number_is;
        did = did_back;
        drawn = drawn;
      },
      refl,
    )

    -- and a pass of the hub still
    pub is_pass_still : (q.number ≡ k) × IsPassOf hub.turn.board.shared.table_id (schema_in hub) (seqs_in hub) q.number q.place.table_id q.place.me.0
    is_pass_still = (
      number_is ∙ ((are sat.at (pass_of first) sat.pass_is).0 ∙ at_is),
      subst (λ (p : HubPass). IsPassOf hub.turn.board.shared.table_id (schema_in hub) (seqs_in hub) p.number p.place.table_id p.place.me.0) pass_is
          (subst (λ (h : Hub). IsPassOf h.turn.board.shared.table_id (schema_in h) (seqs_in h) (pass_of w).number (pass_of w).place.table_id
          (pass_of w).place.me.0) is_there (is_pass w)),
    )
