-- The machine of a script's sequences as a play, and one event more.
use Rattle.std.proofs.Common.{◌≡◌, ◌<◌, ◌≤◌, ℕ, Bor, List, [], ◌∷◌, ◌++◌, length, ap, ◌∙◌, subst, sym, arith}
use Rattle.std.specs.Prelude.{Result, Ok, Err, IfOk, OnOk, Option, Some, None, reverse}
use Rattle.std.specs.Option.{option_copied}
use Rattle.std.proofs.lemmas.List.{length-reverse, reverse-append}
use Rattle.mj_base.specs.declared.ids.SeqId.{SeqId}
use Rattle.mj_base.specs.declared.limits.TheConstants.{MAX_EVENTS, MAX_FILE_BYTES}
use Rattle.mj_schema.specs.declared.schema.Schema.{Schema}
use Rattle.bind_core.specs.Causes.{newest}
use Rattle.bind_core.specs.Play.{Play}
use Rattle.bind_model.specs.Replies.{legal}
use Rattle.bind_model.specs.Seen.{own_of}
use Rattle.bind_model.specs.WireOf.{wire_of}
use Rattle.bind_model.specs.declared.asked.Asked.{Asked}
use Rattle.bind_model.specs.declared.event.Event.{Event}
use Rattle.call_script.specs.Sound.{IsScript}
use Rattle.call_script.specs.declared.script.Script.{Script}
use Rattle.core_state.specs.Agreement.{schema_of}
use Rattle.core_state.specs.Doing.{told_to}
use Rattle.event_tables.specs.AsCore.{Steps, past_by, state_of}
use Rattle.event_steps.specs.declared.machine.Machine.{Machine}
use Rattle.script_run.specs.Draining.{IsCoreOf}
use Rattle.script_run.specs.OfScript.{AsksNext, GoesOn, next_join, next_of, next_take}
use Rattle.script_run.proofs.FewEvents.{few_events}
use Rattle.event_follow.specs.steps.Places.{IsOf}
use Rattle.event_follow.specs.steps.Turning.{Did, Stepped}

-- two that hold of what came of a call give a third
pub ok_both : {A E : Type 0} (r : Result A E) (P Q R : Type 0) → OnOk r P → OnOk r Q → (P → Q → R) → OnOk r R
ok_both (Ok a) P Q R p q f = f p q
ok_both (Err e) P Q R p q f = tt

-- so do two that hold of what is there
pub if_both : {A E : Type 0} (r : Result A E) (P Q R : A → Type 0) → IfOk r P → IfOk r Q → ((a : A) → P a → Q a → R a) → IfOk r R
if_both (Ok a) P Q R p q f = f a p q
if_both (Err e) P Q R p q f = tt

-- what a core that did the same would show
abbrev pub play_of : Machine → Play
play_of machine = record { schema = schema_of (state_of machine.tables); seqs = machine.tables.seqs; events = machine.tables.log.events }

-- a step is one event more
pub steps_past : (before after : Machine) (s : SeqId) (asked : Asked) → Steps before.tables after.tables s asked
    → past_by after.tables ≡ record { seq = s; asked = asked; told = told_to (state_of before.tables) s asked } ∷ past_by before.tables
steps_past before after s asked steps =
    ap reverse steps.events
    ∙ reverse-append before.tables.log.events (record { seq = s; asked = asked; told = told_to (state_of before.tables) s asked } ∷ [])

module _ (schema : Schema) (script : Script) (machine : Machine) (is : IsOf schema script machine) where
  pub core_of : IsCoreOf schema script (play_of machine)
  core_of = record { schema = is.schema; seqs = is.seqs; legal = is.stands.holds.legal; few = is.stands.holds.few }

  -- the events are legal for the script
  pub legal_of : legal (wire_of schema) script.seqs (past_by machine.tables)
  legal_of =
      subst (λ (n : ℕ). legal (wire_of schema) n (past_by machine.tables)) is.seqs
      (subst (λ (x : Schema). legal (wire_of x) machine.tables.seqs (past_by machine.tables)) is.schema is.stands.holds.legal)

  -- there are fewer than 16,777,216
  pub few_of : IsScript schema script → script.bytes ≤ MAX_FILE_BYTES → (after_joins middle taken : List Event)
      → past_by machine.tables ≡ taken ++ (middle ++ after_joins) → GoesOn (next_join script) after_joins
      → ((s : SeqId) → s.0 < script.seqs → AsksNext (next_of (wire_of schema) script after_joins s) (own_of s middle))
      → GoesOn (next_take (wire_of schema) script.autos (middle ++ after_joins)) taken → length machine.tables.log.events < MAX_EVENTS
  few_of sound short after_joins middle taken whole joins asks takes =
      let past : legal (wire_of schema) script.seqs (taken ++ (middle ++ after_joins)) =
      subst (λ (es : List Event). legal (wire_of schema) script.seqs es) whole legal_of in
      let few : length (taken ++ (middle ++ after_joins)) < MAX_EVENTS =
      few_events schema script sound after_joins middle short taken past joins asks takes in
      let turned : length (past_by machine.tables) ≡ length machine.tables.log.events = length-reverse machine.tables.log.events in
      let size : length (past_by machine.tables) ≡ length (taken ++ (middle ++ after_joins)) = ap length whole in
      omega (arith, few, turned, size)

  pub did_of : (s : SeqId) (asked : Asked) (after : Machine) → Stepped s asked machine after → Did schema script s asked machine after
  did_of s asked after stepped = record {
    is = record { stands = stepped.stands; schema = stepped.steps.schema ∙ is.schema; seqs = stepped.steps.seqs ∙ is.seqs };
    told = told_to (state_of machine.tables) s asked;
    past = steps_past machine after s asked stepped.steps;
  }

-- the last event is that which came
module _ (came : Event) (past now : List Event) (is : now ≡ came ∷ past) (last : Option (Bor Event)) (found : option_copied last ≡ newest now) where
  last_is : option_copied last ≡ Some came
  last_is = found ∙ ap newest is

  pub never_none : last ≡ None → ⊥
  never_none none = let never : ◌≡◌ {A = Option Event} None (Some came) = sym (ap option_copied none) ∙ last_is in cc

  pub last_came : (event : Bor Event) → last ≡ Some event → event.now ≡ came
  last_came event some =
      let both : ◌≡◌ {A = Option Event} (Some event.now) (Some came) = sym (ap option_copied some) ∙ last_is in
      cc
