-- The numbers of bytes, and of callbacks of all sequences.
use Rattle.std.proofs.Common.{◌≡◌, ◌≤◌, ◌+◌, ℕ, Bool, List, length, refl, sym, subst}
use Rattle.mj_base.specs.declared.ids.SeqId.{SeqId}
use Rattle.mj_base.specs.declared.limits.TheConstants.{MAX_EVENTS}
use Rattle.bind_core.specs.Play.{Play}
use Rattle.bind_model.specs.Replies.{Legal}
use Rattle.bind_model.specs.Seen.{own_of}
use Rattle.bind_model.specs.WireOf.{wire_of}
use Rattle.bind_model.specs.declared.event.Event.{Event}
use Rattle.callback_laws.specs.Callbacks.{callbacks_in}
use Rattle.remote_receiver.specs.declared.rest.Rest.{Rest}
use Rattle.script_run.specs.Draining.{HasRested}
use Rattle.script_run.specs.declared.plain.Plain.{Plain}
use Rattle.load_run.specs.Commands.{SEQUENCES, numbered}
use Rattle.load_run.specs.Counts.{ran_below, ran_of}
use Rattle.load_run.specs.declared.pairs.Pair.{Pair}
use Rattle.load_run.specs.steps.Doing.{HasBoth}

-- how many callbacks of a sequence ran
abbrev pub ran_at : SeqId → List Event → ℕ
ran_at s history = ran_of (callbacks_in (own_of s history))

pub ran_all : (history : List Event) → ran_below SEQUENCES history
    ≡ 0 + ran_at (numbered 0) history + ran_at (numbered 1) history + ran_at (numbered 2) history + ran_at (numbered 3) history
ran_all history = refl

-- the same core
module _ (core now : Play) (same : now ≡ core) where
  pub still_rested : (s t : SeqId) (rest : Rest Plain) → s ≡ t → HasRested core t rest → HasRested now s rest
  still_rested s t rest is rested =
      subst (λ (p : Play). HasRested p s rest) (sym same) (subst (λ (q : SeqId). HasRested core q rest) (sym is) rested)

  pub still_both : (b : Bool) (pair : Pair) → HasBoth core b pair → HasBoth now b pair
  still_both b pair both = subst (λ (p : Play). HasBoth p b pair) (sym same) both

  pub still_legal : Legal (wire_of core.schema) core.seqs core.events → Legal (wire_of now.schema) now.seqs now.events
  still_legal legal = subst (λ (p : Play). Legal (wire_of p.schema) p.seqs p.events) (sym same) legal

  pub still_few : length core.events ≤ MAX_EVENTS → length now.events ≤ MAX_EVENTS
  still_few few = subst (λ (p : Play). length p.events ≤ MAX_EVENTS) (sym same) few

  -- what ran of a sequence
  pub ran_here : (s t : SeqId) (n : ℕ) → s ≡ t → n ≡ ran_at s now.events → n ≡ ran_at t core.events
  ran_here s t n is ran =
      subst (λ (p : Play). n ≡ ran_at t p.events) same (subst (λ (q : SeqId). n ≡ ran_at q now.events) is ran)

  -- of two of them
  pub ran_two : (s t : SeqId) (n : ℕ) → n ≡ ran_at s now.events + ran_at t now.events → n ≡ ran_at s core.events + ran_at t core.events
  ran_two s t n ran = subst (λ (p : Play). n ≡ ran_at s p.events + ran_at t p.events) same ran
