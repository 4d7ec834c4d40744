-- The sequences of a pair, and what its two desks keep where one of them did a command.
use Rattle.std.proofs.Common.{◌≡◌, ◌<◌, ◌+◌, ℕ, Bool, true, false, List, [], ◌∷◌, length, refl, sym, ap, ◌∙◌, subst, arith, length-append, lt-ltb, ne_eqb}
use Rattle.std.specs.Prelude.{◌==◌, Result, Ok, Err, IfOk, OnOk, reverse, if◌then◌else◌}
use Rattle.mj_base.specs.declared.ids.SeqId.{SeqId}
use Rattle.handle_table.specs.declared.thing.Thing.{Thing}
use Rattle.handle_table.specs.declared.thing.Thing.TheVariants.{End}
use Rattle.bind_core.specs.Play.{Play, told_at}
use Rattle.bind_model.specs.Replies.{first_of, joined, serials, unless}
use Rattle.bind_model.specs.declared.asked.Asked.{Asked}
use Rattle.bind_model.specs.declared.commands.Command.TheVariants as commands
use Rattle.bind_model.specs.declared.told.Told.{Told}
use Rattle.bind_model.specs.declared.told.Told.TheVariants.{Made}
use Rattle.bind_model.specs.declared.told.Why.TheVariants.{NoName}
use Rattle.remote_receiver.specs.declared.rest.Rest.{Rest}
use Rattle.script_run.specs.Draining.{HasRested}
use Rattle.script_run.specs.declared.plain.Plain.{Plain}
use Rattle.load_run.specs.Commands.{SEQUENCES, caller, end_of, event_of, taker}
use Rattle.load_run.specs.declared.pairs.Pair.{Pair}
use Rattle.load_run.specs.steps.Doing.{AskedOne, HasBoth, OneMore}
use Rattle.load_run.proofs.Events.{rested_still}

-- ## Sequences

pub caller_below : (b : Bool) → (caller b).0 < SEQUENCES
caller_below true = omega arith
caller_below false = omega arith

pub taker_below : (b : Bool) → (taker b).0 < SEQUENCES
taker_below true = omega arith
taker_below false = omega arith

-- the caller has the lower number
pub in_order : (b : Bool) → (caller b).0 < (taker b).0
in_order true = omega arith
in_order false = omega arith

caller_apart : (b : Bool) → ((caller b).0 == (taker b).0) ≡ false
caller_apart true = refl
caller_apart false = refl

taker_apart : (b : Bool) → ((taker b).0 == (caller b).0) ≡ false
taker_apart true = refl
taker_apart false = refl

-- a sequence is there, where it is one that is
pub below : (s t : SeqId) (n : ℕ) → s ≡ t → n ≡ SEQUENCES → t.0 < SEQUENCES → s.0 < n
below s t n same all h = subst (λ (q : SeqId). q.0 < n) (sym same) (subst (λ (m : ℕ). t.0 < m) (sym all) h)

-- ## Results

-- what follows of two facts, where there is a value
pub on_ok_both : {A E P Q R : Type 0} (result : Result A E) → (P → Q → R) → OnOk result P → OnOk result Q → OnOk result R
on_ok_both (Ok a) f p q = f p q
on_ok_both (Err e) f p q = tt

-- of which one is of the value
pub if_ok_both : {A E Q R : Type 0} (P : A → Type 0) (result : Result A E) → ((a : A) → P a → Q → R) → IfOk result P → OnOk result Q
    → OnOk result R
if_ok_both P (Ok a) f p q = f a p q
if_ok_both P (Err e) f p q = tt

-- ## One event more

pub one_longer : (s : SeqId) (asked : Asked) (told : Told) (before after : Play) → OneMore s asked told before after
    → length after.events ≡ length before.events + 1
one_longer s asked told before after one =
    omega (arith, ap length one.events, length-append before.events (event_of s asked told ∷ []))

module _ (b : Bool) (asked : Asked) (before after : Play) (pair : Pair) (rest : Rest Plain) (had : HasBoth before b pair) where
  -- of the caller
  pub both_caller : AskedOne (caller b) asked before after → HasRested after (caller b) rest
      → HasBoth after b (record { caller = rest; taker = pair.taker })
  both_caller one rested = record {
    caller = rested;
    taker =
        rested_still (taker b) before after (event_of (caller b) asked one.0 ∷ []) pair.taker one.1.schema one.1.events
        (caller_apart b, tt) had.taker;
  }

  -- of the other one
  pub both_taker : AskedOne (taker b) asked before after → HasRested after (taker b) rest
      → HasBoth after b (record { caller = pair.caller; taker = rest })
  both_taker one rested = record {
    caller =
        rested_still (caller b) before after (event_of (taker b) asked one.0 ∷ []) pair.caller one.1.schema one.1.events
        (taker_apart b, tt) had.caller;
    taker = rested;
  }

-- ## Joins

pub made_same : (xs ys : List Thing) → Made xs ≡ Made ys → xs ≡ ys
made_same xs ys e = cc

-- the ends of a pipe, by their numbers
abbrev ends_at : SeqId → SeqId → ℕ → ℕ → Told
ends_at s t a b = Made (End (record { seq = s.0; serial = a }) ∷ End (record { seq = t.0; serial = b }) ∷ [])

-- what a join is told, where neither sequence made an end before
pub joins_made : (core : Play) (s t : SeqId) → t.0 < core.seqs → s.0 < t.0 → serials (reverse core.events) s.0 ≡ 0
    → serials (reverse core.events) t.0 ≡ 0 → told_at core s (commands.Join t) ≡ Made (End (end_of s) ∷ End (end_of t) ∷ [])
joins_made core s t there apart first second =
    ap (λ (b : Bool). first_of (unless b NoName ∷ []) (joined (reverse core.events) s.0 t.0)) (lt-ltb t.0 core.seqs there)
    ∙ (ap (λ (b : Bool). ends_at s t (serials (reverse core.events) s.0) (serials (reverse core.events) t.0 + (if b then 1 else 0)))
    (ne_eqb t.0 s.0 (λ e. omega (arith, e, apart)))
    ∙ (ap (λ (n : ℕ). ends_at s t n (serials (reverse core.events) t.0 + 0)) first
    ∙ ap (λ (n : ℕ). ends_at s t 0 (n + 0)) second))
