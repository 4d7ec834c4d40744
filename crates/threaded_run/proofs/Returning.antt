-- Sequences that come back from their threads: what they did behind the joins.
use Rattle.std.proofs.Common.{◌≡◌, ◌++◌, ℕ, List, [], length, reverse, sym, ap, ◌∙◌, subst, arith, Option, Some, None}
use Rattle.std.specs.Prelude.{IfNone, slice_get}
use Rattle.std.proofs.lemmas.List.{append-nil}
use Rattle.std.proofs.lemmas.Option.{slice_get_within}
use Rattle.atomic_table.specs.Seated.{TableId}
use Rattle.mj_base.specs.declared.ids.SeqId.{SeqId}
use Rattle.mj_schema.specs.declared.schema.Schema.{Schema}
use Rattle.bind_model.specs.Seen.{own_of}
use Rattle.bind_model.specs.WireOf.{wire_of}
use Rattle.bind_model.specs.declared.event.Event.{Event}
use Rattle.turn_lock.specs.Lists.{Begins}
use Rattle.turn_lock.specs.Passing.{mine_of}
use Rattle.turn_lock.proofs.Lists.{begins_then}
use Rattle.bind_hub.specs.Passes.{seq_at}
use Rattle.call_script.specs.declared.script.Script.{Script}
use Rattle.remote_receiver.specs.Held.{kept_of}
use Rattle.remote_receiver.specs.Notes.{Kept}
use Rattle.remote_receiver.specs.Waits.{AreDrawn}
use Rattle.remote_receiver.specs.declared.rest.Rest.{Rest}
use Rattle.remote_receiver.proofs.Drawing.{drawn_more}
use Rattle.script_names.specs.Held.{HaveNames, names_in}
use Rattle.script_names.specs.Names.{joined}
use Rattle.script_names.specs.declared.rooms.Rooms.{Rooms}
use Rattle.script_run.specs.AtDesk.{steps_of}
use Rattle.script_run.specs.OfScript.{AsksNext, next_of}
use Rattle.script_run.specs.Order.{joins_of}
use Rattle.script_run.specs.Working.{DidAll, Works}
use Rattle.script_run.specs.declared.cut.Cut.{Cut}
use Rattle.script_run.specs.declared.plain.Plain.{Plain}
use Rattle.script_run.specs.steps.Going.{HasJoined}
use Rattle.script_run.proofs.RunParts.{all_joined}
use Rattle.threaded_run.specs.steps.Crews.{AllDone, HasCome, HasDone, HaveSpent, ReturnedAll, ReturnedSpent}
use Rattle.threaded_run.specs.steps.Joins.{HavePart, IsFull, core_of}
use Rattle.threaded_run.specs.steps.Passes.{ArePasses, HasAll, HaveAll, HubPass}
use Rattle.threaded_run.specs.steps.Workers.{HasReturned, WorkerDid, seen_at}
use Rattle.threaded_run.proofs.Places.{there_at}

-- what holds where there is none
none_of : {A : Type 0} (o : Option A) (P : Type 0) → IfNone o P → o ≡ None → P
none_of None P p e = p
none_of (Some x) P p e = absurd cc

-- what a sequence did behind its joins, cut off or not
pub record Did (script : Script) (schema : Schema) (joins : List Event) (me : SeqId) (first now : List Event) : Type 0 where
  pub own : List Event
  pub whole : own_of me now ≡ own_of me first ++ reverse own
  pub asks : AsksNext (next_of (wire_of schema) script (reverse joins) me) own

did_some : (script : Script) (schema : Schema) (seqs : ℕ) (joins : List Event) (p q : HubPass) (old new : Kept Plain) (held rooms : Rooms) (cut : Option Cut)
    → names_in held ≡ joined (seq_at p.number) (joins_of script) (reverse joins)
    → WorkerDid script (seen_at schema seqs p) (seen_at schema seqs q) old new held rooms cut
    → Did script schema joins (seq_at p.number) p.place.me.0.seen q.place.me.0.seen
did_some script schema seqs joins p q old new held rooms None named did =
    let all = did.2.did (reverse joins) named in
    record { own = all.own; whole = all.whole; asks = all.asks.asks }
did_some script schema seqs joins p q old new held rooms (Some c) named did =
    let some = did.1 (reverse joins) named in
    record { own = some.own; whole = some.whole; asks = some.asks }

module _ (table : TableId) (schema : Schema) (seqs : ℕ) (script : Script) (joins : List Event) (passes : List HubPass) (rests : List (Rest Plain))
    (rooms : List Rooms) (new : List HubPass) (desks : List (Rest Plain)) (n : ℕ) (have : HaveAll table schema seqs joins passes)
    (done : HasJoined schema script n (core_of schema seqs joins) rests rooms) (are : ArePasses table schema seqs new) where
  module _ (k : ℕ) (q : HubPass) (rest : Rest Plain) (at : slice_get new k ≡ Some q) (r : HasReturned script schema seqs passes rests rooms k q rest) where
    was : HasAll table schema seqs joins k r.pass.number r.pass.place.table_id r.pass.place.me.0
    was = have k r.pass r.pass_is

    me_is : seq_at r.pass.number ≡ seq_at k
    me_is = ap seq_at was.numbered

    -- the names that the joins gave it
    named : names_in r.room ≡ joined (seq_at r.pass.number) (joins_of script) (reverse joins)
    named = subst (λ (s : SeqId). names_in r.room ≡ joined s (joins_of script) (reverse joins)) (sym me_is) (done.rooms.held (seq_at k) r.room r.room_is)

    -- of its own it had seen just the joins'
    began : own_of (seq_at k) r.pass.place.me.0.seen ≡ own_of (seq_at k) joins
    began = subst (λ (s : SeqId). own_of s r.pass.place.me.0.seen ≡ mine_of r.pass.place.me.0.parts) me_is was.pass.own ∙ sym was.mine

    begins : Begins joins q.place.me.0.seen
    begins = begins_then joins r.pass.place.me.0.seen q.place.me.0.seen was.begins r.did.0.begins

    come_by : Did script schema joins (seq_at k) r.pass.place.me.0.seen q.place.me.0.seen
        → HasCome table schema seqs script joins k q.number q.place.table_id q.place.me.0
    come_by d = record {
      numbered = (are k q at).0;
      pass = (are k q at).1;
      begins = begins;
      own = d.own;
      whole = d.whole ∙ ap (λ (es : List Event). es ++ reverse d.own) began;
      asks = d.asks;
    }

    has_come : HasCome table schema seqs script joins k q.number q.place.table_id q.place.me.0
    has_come =
        come_by (subst (λ (s : SeqId). Did script schema joins s r.pass.place.me.0.seen q.place.me.0.seen) me_is
        (did_some script schema seqs joins r.pass q (kept_of r.was.jobs) (kept_of rest.jobs) r.room r.room' r.cut named r.did))

    -- it wasn't cut off
    works_all : r.cut ≡ None → DidAll script (reverse joins) schema (seq_at k) r.pass.place.me.0.seen q.place.me.0.seen (kept_of r.was.jobs)
        (kept_of rest.jobs) (names_in r.room')
    works_all none =
        let works = none_of r.cut (Works script (seen_at schema seqs r.pass) (seen_at schema seqs q) (kept_of r.was.jobs) (kept_of rest.jobs) r.room r.room')
        r.did.2 none in
        subst (λ (s : SeqId). DidAll script (reverse joins) schema s r.pass.place.me.0.seen q.place.me.0.seen (kept_of r.was.jobs) (kept_of rest.jobs)
        (names_in r.room')) me_is (works.did (reverse joins) named)

    has_done : r.cut ≡ None → HasDone table schema seqs script joins k q rest
    unfolding come_by works_all
    has_done none =
        let all = works_all none in
        record {
          come = come_by (record { own = all.own; whole = all.whole; asks = all.asks.asks });
          over = all.asks.over;
          kept = all.kept (steps_of schema (seq_at k) joins) (done.rests.each (seq_at k) r.was r.rest_is).kept;
          drawn = r.drawn;
        }

  -- all did all
  pub all_returned : n ≡ length (joins_of script) → length desks ≡ seqs → ReturnedAll script schema seqs passes rests rooms new desks
      → AllDone table schema seqs script new desks
  all_returned whole count back = record {
    joins = joins;
    part = all_joined schema script (core_of schema seqs joins) rests rooms
        (subst (λ (m : ℕ). HasJoined schema script m (core_of schema seqs joins) rests rooms) whole done);
    count = count;
    each = λ k q rest at here. let r = back k q rest at here in has_done k q rest at r.0 r.1;
  }

  -- one was cut off as spent
  pub spent_returned : length new ≡ length desks → ReturnedSpent script schema seqs passes rests rooms new desks → HaveSpent table schema seqs script new
  spent_returned same back = record {
    joins = joins;
    goes = done.asks;
    each = λ k q at.
        let d = there_at desks k (let w = slice_get_within new k q at in omega (arith, w, same)) in
        has_come k q d.0 at (back.0 k q d.0 at d.1);
    full =
        let b = back.1 in
        (b.0, b.1, b.3, b.5.did.3 b.6);
  }

-- before they go to their threads
module _ (table : TableId) (schema : Schema) (seqs : ℕ) (script : Script) (joins : List Event) (passes : List HubPass) (rests : List (Rest Plain))
    (rooms : List Rooms) (n : ℕ) (have : HaveAll table schema seqs joins passes)
    (done : HasJoined schema script n (core_of schema seqs joins) rests rooms) where
  -- all calls that wait were drawn in what the pass has seen
  pub drawn_at : (k : ℕ) (p : HubPass) (rest : Rest Plain) → slice_get passes k ≡ Some p → slice_get rests k ≡ Some rest
      → AreDrawn p.place.me.0.seen rest.jobs.waiting.callbacks
  drawn_at k p rest at there =
      let begins = (have k p at).begins in
      subst (λ (es : List Event). AreDrawn es rest.jobs.waiting.callbacks) (sym begins.1)
      (drawn_more joins begins.0 rest.jobs.waiting.callbacks (done.rests.each (seq_at k) rest there).drawn)

  -- and there are the script's names
  pub names_at : (k : ℕ) (room : Rooms) → slice_get rooms k ≡ Some room → HaveNames script.names room
  names_at k room at = done.rooms.names (seq_at k) room at

-- one was cut off as spent while they joined
pub spent_joining : (table : TableId) (schema : Schema) (seqs : ℕ) (script : Script) (passes : List HubPass)
    → HavePart table schema seqs script passes → IsFull passes → HaveSpent table schema seqs script passes
spent_joining table schema seqs script passes part full = record {
  joins = part.joins;
  goes = part.goes;
  each = λ k q at.
      let h = part.have k q at in
      record {
        numbered = h.numbered;
        pass = h.pass;
        begins = h.begins;
        own = [];
        whole =
            subst (λ (s : SeqId). own_of s q.place.me.0.seen ≡ mine_of q.place.me.0.parts) (ap seq_at h.numbered) h.pass.own
            ∙ (sym h.mine ∙ sym (append-nil (own_of (seq_at k) part.joins)));
        asks = tt;
      };
  full = full;
}
