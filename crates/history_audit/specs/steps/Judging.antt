-- Where a run of a script is behind events, and how a run that follows printed events stands to them. A past is a list of events, the newest first.
use Rattle.std.specs.Prelude.{ℕ, Bool, true, false, ◌≡◌, ◌<◌, ◌⊎◌, List, [], ◌∷◌, length, Option, Some, None, slice_get}
use Rattle.mj_base.specs.declared.ids.SeqId.{SeqId}
use Rattle.mj_schema.specs.declared.schema.Schema.{Schema}
use Rattle.bind_model.specs.Replies.{legal}
use Rattle.bind_model.specs.WireOf.{wire_of}
use Rattle.bind_model.specs.declared.asked.Asked.{Asked}
use Rattle.bind_model.specs.declared.event.Event.{Event}
use Rattle.call_script.specs.declared.script.Script.{Script}
use Rattle.script_run.specs.OfScript.{next_join, next_of, next_take}
use Rattle.history_audit.specs.steps.Begun.{AsksNoMore, AsksOn, Parts, next_in, parts}

module _ (schema : Schema) (script : Script) where
  -- where a run is behind these events
  abbrev pub at : List Event → Parts
  at past = parts script.seqs (λ own. next_join script own) (λ aj s own. next_of (wire_of schema) script aj s own)
      (λ before own. next_take (wire_of schema) script.autos before own) past

  -- what a sequence may ask behind them
  abbrev pub may_ask : List Event → SeqId → Option Asked
  may_ask past s = next_in script.seqs (λ own. next_join script own) (λ aj t own. next_of (wire_of schema) script aj t own)
      (λ before own. next_take (wire_of schema) script.autos before own) (at past) s

  -- they begin a run of the script
  pub record Begins (past : List Event) : Type 0 where
    pub legal_so : legal (wire_of schema) script.seqs past
    pub asks : AsksOn script.seqs (λ own. next_join script own) (λ aj s own. next_of (wire_of schema) script aj s own)
        (λ before own. next_take (wire_of schema) script.autos before own) past

  -- nothing is asked any more
  abbrev pub IsOver : List Event → Type 0
  IsOver past = AsksNoMore script.seqs (λ own. next_join script own) (λ aj s own. next_of (wire_of schema) script aj s own)
      (λ before own. next_take (wire_of schema) script.autos before own) (at past)

  -- whether nothing is
  abbrev pub TellsOver : List Event → Bool → Type 0
  TellsOver past true = IsOver past
  TellsOver past false = IsOver past → ⊥

  -- ## Along printed events

  -- the event that comes behind a past is of the sequence of the printed event of its number, unless that may ask nothing
  abbrev pub LeadsBy : List Event → List Event → Event → Type 0
  LeadsBy events past mine = (event : Event) → slice_get events (length past) ≡ Some event → event.seq.0 < script.seqs
      → (may_ask past event.seq ≡ None) ⊎ (mine.seq ≡ event.seq)

  -- so is each of these events, the newest first
  abbrev pub LeadsOn : List Event → List Event → Type 0
  LeadsOn events [] = Unit {0}
  LeadsOn events (mine ∷ past) = LeadsBy events past mine × LeadsOn events past

  -- the sequence of the printed event that comes behind a past, if there is one, may ask nothing
  abbrev pub LeadsTo : List Event → List Event → Type 0
  LeadsTo events past = (event : Event) → slice_get events (length past) ≡ Some event → event.seq.0 < script.seqs → may_ask past event.seq ≡ None

  -- a past that begins a run, and goes along printed events as far as their sequences may ask
  pub record Trails (events past : List Event) (whole : Bool) : Type 0 where
    pub begins : Begins past
    pub leads : LeadsOn events past
    pub ends : LeadsTo events past
    pub tells : TellsOver past whole
