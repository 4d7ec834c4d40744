-- What is left of a run whose sequences do their lines in the order of given events: all of it, or as far as they come.
use Rattle.std.specs.Prelude.{Bool, true, false, ◌≡◌, ◌<◌, ◌++◌, List, [], drop, length, map, reverse, take, Some, None, slice_get}
use Rattle.mj_base.specs.declared.ids.SeqId.{SeqId}
use Rattle.mj_schema.specs.declared.schema.Schema.{Schema}
use Rattle.bind_model.specs.declared.event.Event.{Event}
use Rattle.bind_model.specs.Replies.{Legal}
use Rattle.bind_model.specs.Seen.{own_of}
use Rattle.bind_model.specs.WireOf.{wire_of}
use Rattle.call_script.specs.declared.script.Script.{Script}
use Rattle.script_run.specs.OfScript.{AsksNext, GoesOn, IsPart, next_join, next_of, next_take}

-- whose event it is
abbrev pub asker : Event → SeqId
asker event = event.seq

-- of a script's events behind the joins, the newest first
module _ (schema : Schema) (script : Script) (after_joins middle : List Event) where
  -- nothing is next for any sequence, and these takes come behind, until no message is ready
  pub record EndsWhole (taken : List Event) : Type 0 where
    pub lines : (s : SeqId) → s.0 < script.seqs → next_of (wire_of schema) script after_joins s (own_of s middle) ≡ None
    pub takes : GoesOn (next_take (wire_of schema) script.autos (middle ++ after_joins)) taken
    pub over : next_take (wire_of schema) script.autos (middle ++ after_joins) taken ≡ None

  -- for a sequence something is next, but not for the one of the event that would come next, if there is one
  pub record EndsEarly (events : List Event) (taken : List Event) : Type 0 where
    pub none : taken ≡ []
    pub seq : SeqId
    pub there : seq.0 < script.seqs
    pub left : next_of (wire_of schema) script after_joins seq (own_of seq middle) ≡ None → ⊥
    pub stops : (event : Event) → slice_get events (length middle) ≡ Some event → event.seq.0 < script.seqs
        → next_of (wire_of schema) script after_joins event.seq (own_of event.seq middle) ≡ None

  -- how it ends: wholly where this is true, and else early
  abbrev pub EndsAs : List Event → List Event → Bool → Type 0
  EndsAs events taken true = EndsWhole taken
  EndsAs events taken false = EndsEarly events taken

-- a history, the oldest event first: the joins, and then, one for each of these events behind as many as there are joins, what is next for the
-- sequence of the event, as far as anything is; and where nothing is next for any, the drain
pub record Follows (schema : Schema) (script : Script) (events history : List Event) (whole : Bool) : Type 0 where
  pub legal : Legal (wire_of schema) script.seqs history
  pub after_joins : List Event
  pub middle : List Event
  pub taken : List Event
  pub past : reverse history ≡ taken ++ (middle ++ after_joins)
  pub joins : IsPart (next_join script) [] after_joins
  pub asks : (s : SeqId) → s.0 < script.seqs → AsksNext (next_of (wire_of schema) script after_joins s) (own_of s middle)
  pub along : map asker (reverse middle) ≡ map asker (take (length middle) (drop (length after_joins) events))
  pub ends : EndsAs schema script after_joins middle (drop (length after_joins) events) taken whole
