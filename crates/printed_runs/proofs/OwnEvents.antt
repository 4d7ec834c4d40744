-- What sequences ask by their own events alone, in the events of all.
use Rattle.std.proofs.Common.{◌≡◌, ◌<◌, ℕ, Bool, true, false, List, ◌∷◌, refl}
use Rattle.std.specs.Prelude.{Option, Some, ◌==◌, if◌then◌else◌}
use Rattle.std.proofs.lemmas.Bool.{eq-eqb}
use Rattle.mj_base.specs.declared.ids.SeqId.{SeqId}
use Rattle.bind_model.specs.declared.asked.Asked.{Asked}
use Rattle.bind_model.specs.declared.event.Event.{Event}
use Rattle.bind_model.specs.Seen.{own_of}
use Rattle.script_run.specs.OfScript.{AsksNext}

-- each of so many sequences asks what is next behind its own events
abbrev pub MiddleAsks : ℕ → (SeqId → List Event → Option Asked) → List Event → Type 0
MiddleAsks seqs next middle = (s : SeqId) → s.0 < seqs → AsksNext (next s) (own_of s middle)

module _ (seqs : ℕ) (next : SeqId → List Event → Option Asked) (event : Event) (middle : List Event) (asks : MiddleAsks seqs next (event ∷ middle)) where
  -- so it is before the newest event
  pub rest_asks : MiddleAsks seqs next middle
  rest_asks s w = go (event.seq.0 == s.0) (asks s w)
    where
      go : (b : Bool) → AsksNext (next s) (if b then event ∷ own_of s middle else own_of s middle) → AsksNext (next s) (own_of s middle)
      go true a = a.1
      go false a = a

  -- and that one asks what was next for its sequence
  pub newest : event.seq.0 < seqs → next event.seq (own_of event.seq middle) ≡ Some event.asked
  newest w = go (event.seq.0 == event.seq.0) (eq-eqb event.seq.0 event.seq.0 refl) (asks event.seq w)
    where
      go : (b : Bool) → b ≡ true → AsksNext (next event.seq) (if b then event ∷ own_of event.seq middle else own_of event.seq middle)
          → next event.seq (own_of event.seq middle) ≡ Some event.asked
      go true e a = a.0
      go false e a = absurd cc
