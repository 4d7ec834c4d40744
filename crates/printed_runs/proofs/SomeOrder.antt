-- Runs whose sequences do their lines in whatever order: the events of a legal history are of sequences that are there.
use Rattle.std.proofs.Common.{ℕ, List, [], ◌∷◌, ◌++◌, Option}
use Rattle.std.specs.List.{AllByRecursion}
use Rattle.mj_schema.specs.declared.schema.Schema.{Schema}
use Rattle.bind_model.specs.Replies.{legal}
use Rattle.bind_model.specs.Wire.{Wire}
use Rattle.bind_model.specs.declared.event.Event.{Event}
use Rattle.call_script.specs.declared.script.Script.{Script}
use Rattle.script_run.specs.OfScript.{PastInSomeOrder, PastOfScript}
use Rattle.printed_runs.proofs.ValueTurns.{IsOneOf}

-- a run in turns, or side by side, is one in some order
abbrev pub in_some_order : (schema : Schema) (script : Script) (order : Option ℕ) (past : List Event) → PastOfScript schema script order past
    → PastInSomeOrder schema script past
in_some_order schema script order past of = record {
  after_joins = of.after_joins;
  middle = of.middle;
  joins = of.joins;
  lines = of.lines;
  drain = of.drain;
}

module _ (wire : Wire) (seqs : ℕ) where
  -- the events before others are legal
  pub legal_behind : (more past : List Event) → legal wire seqs (more ++ past) → legal wire seqs past
  legal_behind [] past h = h
  legal_behind (event ∷ more) past h = legal_behind more past h.2

  -- each is of a sequence that is there
  pub legal_there : (more past : List Event) → legal wire seqs (more ++ past) → AllByRecursion (λ (event : Event). IsOneOf seqs event.seq) more
  legal_there [] past h = tt
  legal_there (event ∷ more) past h = (h.0, legal_there more past h.2)
