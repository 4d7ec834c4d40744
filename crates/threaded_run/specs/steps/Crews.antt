-- What all sequences come to: behind the joins each did its lines, or as many as it could.
use Rattle.std.specs.Prelude.{ℕ, ◌≡◌, ◌++◌, List, [], length, map, reverse, Some, None, slice_get}
use Rattle.atomic_table.specs.Seated.{TableId}
use Rattle.mj_schema.specs.declared.schema.Schema.{Schema}
use Rattle.bind_model.specs.Seen.{own_of}
use Rattle.bind_model.specs.WireOf.{wire_of}
use Rattle.bind_model.specs.declared.event.Event.{Event}
use Rattle.turn_lock.specs.Lists.{Begins}
use Rattle.turn_lock.specs.declared.view.View.{View}
use Rattle.bind_hub.specs.Kept.{Basis}
use Rattle.bind_hub.specs.Passes.{seq_at, IsPassOf}
use Rattle.call_script.specs.declared.script.Script.{Script}
use Rattle.remote_receiver.specs.Held.{kept_of}
use Rattle.remote_receiver.specs.Notes.{HasKept}
use Rattle.remote_receiver.specs.Waits.{AreDrawn}
use Rattle.remote_receiver.specs.declared.rest.Rest.{Rest}
use Rattle.script_names.specs.declared.rooms.Rooms.{Rooms}
use Rattle.script_run.specs.AtDesk.{AnswersZero, step_by, steps_of}
use Rattle.script_run.specs.OfScript.{AsksNext, GoesOn, IsPart, next_join, next_of}
use Rattle.script_run.specs.declared.cut.Cut.TheVariants as cuts
use Rattle.script_run.specs.declared.plain.Plain.{Plain}
use Rattle.threaded_run.specs.steps.Joins.{IsFull}
use Rattle.threaded_run.specs.steps.Passes.{HubPass}
use Rattle.threaded_run.specs.steps.Workers.{HasReturned}

-- ## One sequence

-- it has seen the joins first, and has behind them of its own what is next there
pub record HasCome (table : TableId) (schema : Schema) (seqs : ℕ) (script : Script) (joins : List Event) (k number : ℕ) (at : TableId)
    (v : View Event Basis) : Type 0 where
  pub numbered : number ≡ k
  pub pass : IsPassOf table schema seqs number at v
  pub begins : Begins joins v.seen
  pub own : List Event
  pub whole : own_of (seq_at k) v.seen ≡ own_of (seq_at k) joins ++ reverse own
  pub asks : AsksNext (next_of (wire_of schema) script (reverse joins) (seq_at k)) own

-- and nothing is next any more; its desk has rested
pub record HasDone (table : TableId) (schema : Schema) (seqs : ℕ) (script : Script) (joins : List Event) (k : ℕ) (q : HubPass) (rest : Rest Plain)
    : Type 0 where
  pub come : HasCome table schema seqs script joins k q.number q.place.table_id q.place.me.0
  pub over : next_of (wire_of schema) script (reverse joins) (seq_at k) come.own ≡ None
  pub kept : HasKept AnswersZero (steps_of schema (seq_at k) joins ++ map (step_by (wire_of schema)) (reverse come.own)) (kept_of rest.jobs)
  pub drawn : AreDrawn q.place.me.0.seen rest.jobs.waiting.callbacks

-- ## All sequences

-- each did all of its lines
pub record AllDone (table : TableId) (schema : Schema) (seqs : ℕ) (script : Script) (passes : List HubPass) (rests : List (Rest Plain)) : Type 0 where
  pub joins : List Event
  pub part : IsPart (next_join script) [] (reverse joins)
  pub count : length rests ≡ seqs
  pub each : (k : ℕ) (q : HubPass) (rest : Rest Plain) → slice_get passes k ≡ Some q → slice_get rests k ≡ Some rest
      → HasDone table schema seqs script joins k q rest

-- each did some, and one of them has seen all events that there may be
pub record HaveSpent (table : TableId) (schema : Schema) (seqs : ℕ) (script : Script) (passes : List HubPass) : Type 0 where
  pub joins : List Event
  pub goes : GoesOn (next_join script) (reverse joins)
  pub each : (k : ℕ) (q : HubPass) → slice_get passes k ≡ Some q → HasCome table schema seqs script joins k q.number q.place.table_id q.place.me.0
  pub full : IsFull passes

-- ## Back from their threads

module _ (script : Script) (schema : Schema) (seqs : ℕ) (passes : List HubPass) (rests : List (Rest Plain)) (rooms : List Rooms) (new : List HubPass)
    (desks : List (Rest Plain)) where
  -- all are back
  abbrev pub HaveReturned : Type 0
  HaveReturned = (k : ℕ) (q : HubPass) (rest : Rest Plain) → slice_get new k ≡ Some q → slice_get desks k ≡ Some rest
      → HasReturned script schema seqs passes rests rooms k q rest

  -- and none was cut off
  abbrev pub ReturnedAll : Type 0
  ReturnedAll = (k : ℕ) (q : HubPass) (rest : Rest Plain) → slice_get new k ≡ Some q → slice_get desks k ≡ Some rest
      → (r : HasReturned script schema seqs passes rests rooms k q rest) × (r.cut ≡ None)

  -- and one was cut off as spent
  abbrev pub ReturnedSpent : Type 0
  ReturnedSpent = HaveReturned × ((k : ℕ) × (q : HubPass) × (rest : Rest Plain) × (slice_get new k ≡ Some q) × (slice_get desks k ≡ Some rest)
      × (r : HasReturned script schema seqs passes rests rooms k q rest) × (r.cut ≡ Some cuts.Spent))
