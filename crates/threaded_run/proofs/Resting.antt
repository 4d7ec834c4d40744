-- Desks at rest while sequences join, and the joins of a script one after the other.
use Rattle.std.proofs.Common.{◌≡◌, ◌+◌, ◌++◌, ℕ, Bool, true, false, List, [], ◌∷◌, map, refl, sym, subst}
use Rattle.std.specs.Prelude.{◌==◌, Result, Ok, Err, IsOkUnless, Some, slice_get, if◌then◌else◌}
use Rattle.std.proofs.lemmas.List.{append-nil, map-append}
use Rattle.atomic_table.specs.Seated.{TableId}
use Rattle.mj_base.specs.declared.ids.SeqId.{SeqId}
use Rattle.mj_schema.specs.declared.schema.Schema.{Schema}
use Rattle.handle_table.specs.declared.thing.Thing.{Thing}
use Rattle.bind_model.specs.Seen.{own_of}
use Rattle.bind_model.specs.WireOf.{wire_of}
use Rattle.bind_model.specs.declared.event.Event.{Event}
use Rattle.call_script.specs.declared.script.Command.TheVariants.{Join}
use Rattle.call_script.specs.declared.script.Line.{Line}
use Rattle.call_script.specs.declared.script.NameId.{NameId}
use Rattle.remote_receiver.specs.Held.{kept_of}
use Rattle.remote_receiver.specs.Notes.{HasKept}
use Rattle.remote_receiver.specs.Stepped.{Step}
use Rattle.remote_receiver.specs.declared.rest.Rest.{Rest}
use Rattle.remote_receiver.proofs.Drawing.{drawn_more}
use Rattle.remote_receiver.proofs.Following.{follows_same}
use Rattle.script_names.specs.declared.rooms.Rooms.{Rooms}
use Rattle.script_run.specs.AtDesk.{AnswersZero, step_by}
use Rattle.script_run.specs.Draining.{HaveRested}
use Rattle.script_run.specs.Rooms.{Come, GaveBoth}
use Rattle.script_run.specs.declared.cut.Cut.{Cut}
use Rattle.script_run.specs.declared.cut.Cut.TheVariants as cuts
use Rattle.script_run.specs.declared.joins.Joint.{Joint}
use Rattle.script_run.specs.declared.plain.Plain.{Plain}
use Rattle.script_run.specs.steps.Joints.{HasMade, joint_event}
use Rattle.script_run.proofs.JoinDone.{JoinedUpTo, joined_next, joined_none, joined_same}
use Rattle.script_run.proofs.Waking.{own_of_more}
use Rattle.threaded_run.specs.steps.Joins.{HaveJoined, MayCome, core_of}
use Rattle.threaded_run.specs.steps.Passes.{HaveAll, HubPass}

-- ## Desks at rest

module _ (schema : Schema) (seqs : ℕ) (events : List Event) (joint : Joint) (x y : Thing) (rests : List (Rest Plain)) where
  -- the step that the join is
  abbrev its_step : Step Plain
  its_step = step_by (wire_of schema) (joint_event joint x y)

  -- a join comes with no callback, is no response and shows no end
  kept_by : (steps : List Event) (rest : Rest Plain) → HasKept AnswersZero (map (step_by (wire_of schema)) steps) (kept_of rest.jobs) → (b : Bool)
      → HasKept AnswersZero (map (step_by (wire_of schema)) (steps ++ (if b then joint_event joint x y ∷ [] else []))) (kept_of rest.jobs)
  kept_by steps rest has true =
      subst (λ (ss : List (Step Plain)). HasKept AnswersZero ss (kept_of rest.jobs))
      (sym (map-append (step_by (wire_of schema)) steps (joint_event joint x y ∷ [])))
      (follows_same AnswersZero its_step (kept_of rest.jobs) refl (λ key. refl) (λ key. refl) (map (step_by (wire_of schema)) steps) has)
  kept_by steps rest has false =
      subst (λ (es : List Event). HasKept AnswersZero (map (step_by (wire_of schema)) es) (kept_of rest.jobs)) (sym (append-nil steps)) has

  -- the desks have rested behind it as they had before it
  pub rested_more : HaveRested (core_of schema seqs events) rests → HaveRested (core_of schema seqs (events ++ joint_event joint x y ∷ [])) rests
  rested_more rested = record {
    count = rested.count;
    each = λ s rest at.
        let was = rested.each s rest at in
        record {
          kept = subst (λ (es : List Event). HasKept AnswersZero (map (step_by (wire_of schema)) es) (kept_of rest.jobs))
              (sym (own_of_more s events (joint_event joint x y ∷ []))) (kept_by (own_of s events) rest was.kept (joint.seq.0 == s.0));
          drawn = drawn_more events (joint_event joint x y ∷ []) rest.jobs.waiting.callbacks was.drawn;
        };
  }

  pub made_of : MayCome joint schema seqs events x y → HaveRested (core_of schema seqs events) rests → (rooms rooms' : List Rooms)
      → Come (GaveBoth joint x y) rooms rooms'
      → HasMade joint (core_of schema seqs events) (core_of schema seqs (events ++ joint_event joint x y ∷ [])) rests rooms rooms'
  made_of may rested rooms rooms' come = record {
    first = x;
    second = y;
    joined = record { schema = refl; seqs = refl; event = refl; legal = λ h. may.legal; few = may.few; rests = rested_more rested };
    rooms = come;
  }

-- ## The lines, one after the other

-- so many lines were looked at, and the joins among them are done: all passes have seen just these, and the rooms have their ends
abbrev pub JoinedSo : TableId → Schema → ℕ → List Line → ℕ → List Rooms → List HubPass → List Rooms → Type 0
JoinedSo table schema seqs lines i first passes rooms = (joins : List Event) × HaveAll table schema seqs joins passes
    × ((rests : List (Rest Plain)) → JoinedUpTo lines i (core_of schema seqs []) rests first (core_of schema seqs joins) rests rooms)

pub so_none : (table : TableId) (schema : Schema) (seqs : ℕ) (lines : List Line) (rooms : List Rooms) (passes : List HubPass)
    → HaveAll table schema seqs [] passes → JoinedSo table schema seqs lines 0 rooms passes rooms
so_none table schema seqs lines rooms passes have = ([], have, λ rests. joined_none lines (core_of schema seqs []) rests rooms)

module _ (table : TableId) (schema : Schema) (seqs : ℕ) (lines : List Line) (i : ℕ) (line : Line) (at : slice_get lines i ≡ Some line)
    (first : List Rooms) (passes : List HubPass) (rooms : List Rooms) (so : JoinedSo table schema seqs lines i first passes rooms) where
  -- a line that joins
  pub so_next : (passes' : List HubPass) (rooms' : List Rooms) (joint : Joint) (x y : Thing) → line.command ≡ Join joint.other joint.first joint.second
      → line.seq ≡ joint.seq → HaveJoined table schema seqs joint so.0 passes' x y → Come (GaveBoth joint x y) rooms rooms'
      → JoinedSo table schema seqs lines (i + 1) first passes' rooms'
  so_next passes' rooms' joint x y command seq have come = (
    so.0 ++ joint_event joint x y ∷ [],
    have.have,
    λ rests s script is same done.
        joined_next lines i line at (core_of schema seqs []) rests first (core_of schema seqs so.0) rests rooms (so.2 rests)
        (core_of schema seqs (so.0 ++ joint_event joint x y ∷ [])) rests rooms' joint command seq
        (made_of schema seqs so.0 joint x y rests have.may (so.2 rests s script is same done).rests rooms rooms' come) s script is same done,
  )

  -- one that doesn't
  pub so_same : ((other : SeqId) (a b : NameId) → line.command ≡ Join other a b → ⊥) → JoinedSo table schema seqs lines (i + 1) first passes rooms
  so_same never = (
    so.0,
    so.1,
    λ rests. joined_same lines i line at (core_of schema seqs []) rests first (core_of schema seqs so.0) rests rooms (so.2 rests) never,
  )

-- want of memory isn't a full history
pub not_full : (r : Result (Unit {0}) Cut) → IsOkUnless r cuts.Memory → r ≡ Err cuts.Spent → ⊥
not_full (Ok u) only e = absurd cc
not_full (Err cuts.Memory) only e = absurd cc
not_full (Err cuts.Spent) only e = absurd (let none : cuts.Spent ≡ cuts.Memory = only in cc)
