-- The views of all sequences in the history of the core that the hub leaves: it is the script's, in whatever turns, and is never full.
use Rattle.std.proofs.Common.{◌≡◌, ◌<◌, ◌≤◌, ◌++◌, ℕ, Bool, true, false, List, [], ◌∷◌, map, length, reverse, refl, sym, ap, ◌∙◌, subst, arith, Option, Some, None, length-append}
use Rattle.std.specs.Prelude.{◌==◌, Result, Ok, Err, IfNone, IfOk, OnOk, cond, option_map, slice_get}
use Rattle.std.specs.List.{AllByRecursion}
use Rattle.std.proofs.lemmas.Bool.{eq-eqb}
use Rattle.std.proofs.lemmas.Option.{slice_get_within}
use Rattle.std.proofs.lemmas.List.{length-reverse, map-append, reverse-append, reverse-reverse}
use Rattle.atomic_table.specs.Seated.{TableId}
use Rattle.mj_base.specs.declared.ids.SeqId.{SeqId}
use Rattle.mj_base.specs.declared.limits.TheConstants.{MAX_EVENTS, MAX_FILE_BYTES}
use Rattle.mj_schema.specs.declared.schema.Schema.{Schema}
use Rattle.bind_core.specs.Play.{Play}
use Rattle.handle_table.specs.declared.thing.Thing.{Thing}
use Rattle.bind_model.specs.Left.{left}
use Rattle.bind_model.specs.Replies.{Legal, legal}
use Rattle.bind_model.specs.Seen.{own_of}
use Rattle.bind_model.specs.Wire.{Wire}
use Rattle.bind_model.specs.WireOf.{wire_of}
use Rattle.bind_model.specs.declared.asked.Asked.{Asked}
use Rattle.bind_model.specs.declared.event.Event.{Event}
use Rattle.turn_lock.specs.Lists.{Begins}
use Rattle.turn_lock.proofs.Lists.{begins_then}
use Rattle.bind_hub.specs.Passes.{IsIn, seq_at}
use Rattle.callback_laws.specs.Callbacks.{callbacks}
use Rattle.call_script.specs.Sound.{IsScript}
use Rattle.call_script.specs.declared.script.Script.{Script}
use Rattle.remote_receiver.specs.Held.{kept_of}
use Rattle.remote_receiver.specs.Notes.{HasKept}
use Rattle.remote_receiver.specs.Stepped.{Step}
use Rattle.remote_receiver.specs.Waits.{AreDrawn}
use Rattle.remote_receiver.specs.declared.rest.Rest.{Rest}
use Rattle.remote_receiver.proofs.Drawing.{drawn_more}
use Rattle.script_names.specs.Asking.{asked_by}
use Rattle.script_names.specs.Autos.{Due, due, line_at}
use Rattle.script_run.specs.AtDesk.{AnswersZero, step_by, steps_of}
use Rattle.script_run.specs.Draining.{DrainedAll, HasDrained, HaveRested, IsCoreOf, IsUnspent, past_in}
use Rattle.script_run.specs.OfScript.{AsksAll, AsksNext, DoesLines, GoesOn, IsPart, OfScript, names_of, next_join, next_of, next_take, reply_first, replied}
use Rattle.script_run.specs.Order.{lines_of}
use Rattle.script_run.specs.declared.cut.Cut.{Cut}
use Rattle.script_run.specs.declared.cut.Cut.TheVariants as cuts
use Rattle.script_run.specs.declared.draining.Drained.{Drained}
use Rattle.script_run.specs.declared.plain.Plain.{Plain}
use Rattle.script_run.specs.declared.runner.Ran.{Ran}
use Rattle.script_run.proofs.FewEvents.{few_events, part_goes}
use Rattle.script_run.proofs.RunParts.{none_joined}
use Rattle.threaded_run.specs.steps.Crews.{AllDone, HasCome, HasDone, HaveSpent}
use Rattle.threaded_run.specs.steps.Passes.{HubPass}
use Rattle.threaded_run.specs.steps.Plays.{MayDrain, PlayedAtOnce}
use Rattle.threaded_run.proofs.Merging.{middle, own_middle, whole_is}
use Rattle.threaded_run.proofs.Places.{there_at}

-- ## One history

module _ (table : TableId) (schema : Schema) (seqs : ℕ) (script : Script) (joins : List Event) (passes : List HubPass) (events : List Event)
    (count : length passes ≡ seqs) (some : 0 < seqs)
    (come : (k : ℕ) (q : HubPass) → slice_get passes k ≡ Some q → HasCome table schema seqs script joins k q.number q.place.table_id q.place.me.0)
    (inside : (k : ℕ) (q : HubPass) → slice_get passes k ≡ Some q → IsIn q.number q.place.me.0 events) where
  -- the pass of a sequence
  pub pass_at : (k : ℕ) → k < seqs → (q : HubPass) × (slice_get passes k ≡ Some q)
  pass_at k lt = there_at passes k (omega (arith, lt, count))

  pub begins : Begins joins events
  begins =
      let q = pass_at 0 some in
      begins_then joins q.0.place.me.0.seen events (come 0 q.0 q.1).begins (inside 0 q.0 q.1).seen

  -- the events behind the joins, the newest first
  abbrev pub rest_of : List Event
  rest_of = middle joins events begins

  -- what a sequence did there
  abbrev pub own_at : (k : ℕ) → k < seqs → List Event
  own_at k lt = (come k (pass_at k lt).0 (pass_at k lt).1).own

  -- is all that the history has of it there
  pub own_is : (s : SeqId) (lt : s.0 < seqs) → own_of s rest_of ≡ own_at s.0 lt
  own_is s lt =
      let q = pass_at s.0 lt in
      let c = come s.0 q.0 q.1 in
      let i = inside s.0 q.0 q.1 in
      let seen : own_of (seq_at q.0.number) events ≡ own_of (seq_at q.0.number) q.0.place.me.0.seen = i.own ∙ sym c.pass.own in
      let here : own_of s events ≡ own_of s q.0.place.me.0.seen =
      subst (λ (n : ℕ). own_of (seq_at n) events ≡ own_of (seq_at n) q.0.place.me.0.seen) c.numbered seen in
      own_middle joins events begins s c.own (here ∙ c.whole)

  pub past_is : reverse events ≡ rest_of ++ reverse joins
  past_is =
      ap reverse (whole_is joins events begins)
      ∙ (reverse-append joins (reverse rest_of) ∙ ap (λ (es : List Event). es ++ reverse joins) (reverse-reverse rest_of))

  -- each asked what is next
  pub asks_next : (s : SeqId) → s.0 < script.seqs → seqs ≡ script.seqs → AsksNext (next_of (wire_of schema) script (reverse joins) s) (own_of s rest_of)
  asks_next s w same =
      let lt : s.0 < seqs = subst (λ (n : ℕ). s.0 < n) (sym same) w in
      let q = pass_at s.0 lt in
      subst (AsksNext (next_of (wire_of schema) script (reverse joins) s)) (sym (own_is s lt)) (come s.0 q.0 q.1).asks

  -- so there are few events
  pub few_come : IsScript schema script → script.bytes ≤ MAX_FILE_BYTES → seqs ≡ script.seqs → GoesOn (next_join script) (reverse joins)
      → Legal (wire_of schema) seqs events → length events < MAX_EVENTS
  few_come is short same goes lawful =
      let past : legal (wire_of schema) script.seqs ([] ++ (rest_of ++ reverse joins)) =
      subst (λ (n : ℕ). legal (wire_of schema) n (rest_of ++ reverse joins)) same (subst (legal (wire_of schema) seqs) past_is lawful) in
      let few = few_events schema script is (reverse joins) rest_of short [] past goes (λ s w. asks_next s w same) tt in
      omega (arith, few, length-reverse events, ap length past_is)

-- a run that was cut off as spent would be full
pub never_spent : (table : TableId) (schema : Schema) (seqs : ℕ) (script : Script) (passes : List HubPass) (events : List Event) → length passes ≡ seqs
    → 0 < seqs → IsScript schema script → script.bytes ≤ MAX_FILE_BYTES → seqs ≡ script.seqs → Legal (wire_of schema) seqs events
    → HaveSpent table schema seqs script passes
    → ((k : ℕ) (q : HubPass) → slice_get passes k ≡ Some q → IsIn q.number q.place.me.0 events) → ⊥
never_spent table schema seqs script passes events count some is short same lawful spent inside =
    let few = few_come table schema seqs script spent.joins passes events count some spent.each inside is short same spent.goes lawful in
    let f = spent.full in
    let i = inside f.0 f.1 f.2 in
    let all : length events ≡ length (f.1.place.me.0.seen ++ i.seen.0) = ap length i.seen.1 in
    let full = f.3 in
    let both = length-append f.1.place.me.0.seen i.seen.0 in
    absurd (omega (arith, few, all, full, both))

-- ## Nothing is due behind the lines

no_reply : (d : Option Due) (other : Option Asked) → reply_first d other ≡ None → d ≡ None
no_reply None other e = refl
no_reply (Some d) other e = let never : ◌≡◌ {A = Option Asked} (Some (replied d)) None = e in absurd cc

-- where nothing is next, no automatic reply is due
none_due : (wire : Wire) (script : Script) (first : List Event) (s : SeqId) (own : List Event) → next_of wire script first s own ≡ None
    → due wire script.autos own ≡ None
none_due wire script first s own over =
    no_reply (due wire script.autos own)
    (option_map (asked_by (names_of wire script first s own)) (line_at wire script.autos (lines_of script s) own)) over

-- what is due behind all events is due behind those of the newest one's sequence
due_by_own : (wire : Wire) (script : Script) (event : Event) (events first : List Event)
    → due wire script.autos ((event ∷ events) ++ first) ≡ due wire script.autos (own_of event.seq (event ∷ events))
due_by_own wire script event events first = go (event.seq.0 == event.seq.0) (eq-eqb event.seq.0 event.seq.0 refl)
  where
    go : (b : Bool) → b ≡ true → due wire script.autos ((event ∷ events) ++ first) ≡ due wire script.autos
        (cond b (event ∷ own_of event.seq events) (own_of event.seq events))
    go true e = refl
    go false e = absurd cc

-- events that are legal are of the script's sequences
within : (wire : Wire) (seqs : ℕ) (behind events first : List Event) → legal wire seqs (behind ++ (events ++ first))
    → AllByRecursion (λ (event : Event). event.seq.0 < seqs) events
within wire seqs [] [] first h = tt
within wire seqs [] (event ∷ events) first h = (h.0, within wire seqs [] events first h.2)
within wire seqs (event ∷ behind) events first h = within wire seqs behind events first h.2

-- ## The whole

module _ (table : TableId) (schema : Schema) (seqs : ℕ) (script : Script) (passes : List HubPass) (rests : List (Rest Plain)) (core : Play)
    (count : length passes ≡ seqs) (some : 0 < seqs) (same : seqs ≡ script.seqs) (schema_is : core.schema ≡ schema) (seqs_is : core.seqs ≡ seqs)
    (lawful : Legal (wire_of core.schema) core.seqs core.events) (few : length core.events ≤ MAX_EVENTS)
    (done : AllDone table schema seqs script passes rests)
    (inside : (k : ℕ) (q : HubPass) → slice_get passes k ≡ Some q → IsIn q.number q.place.me.0 core.events) where
  -- the desk of a sequence
  pub rest_at : (k : ℕ) → k < seqs → (rest : Rest Plain) × (slice_get rests k ≡ Some rest)
  rest_at k lt = there_at rests k (omega (arith, lt, done.count))

  -- and what it did
  pub done_at : (k : ℕ) (q : HubPass) → slice_get passes k ≡ Some q → (rest : Rest Plain) × HasDone table schema seqs script done.joins k q rest
  done_at k q at =
      let lt : k < seqs = let w = slice_get_within passes k q at in omega (arith, w, count) in
      ((rest_at k lt).0, done.each k q (rest_at k lt).0 at (rest_at k lt).1)

  abbrev pub come_at : (k : ℕ) (q : HubPass) → slice_get passes k ≡ Some q
      → HasCome table schema seqs script done.joins k q.number q.place.table_id q.place.me.0
  come_at k q at = (done_at k q at).1.come

  abbrev pub behind : List Event
  behind = rest_of table schema seqs script done.joins passes core.events count some come_at inside

  past_whole : past_in core ≡ behind ++ reverse done.joins
  past_whole = past_is table schema seqs script done.joins passes core.events count some come_at inside

  -- each sequence did all of its lines
  does_lines : DoesLines (wire_of schema) script (reverse done.joins) behind
  does_lines s w =
      let lt : s.0 < seqs = subst (λ (n : ℕ). s.0 < n) (sym same) w in
      let q = pass_at table schema seqs script done.joins passes core.events count some come_at inside s.0 lt in
      let d = (done_at s.0 q.0 q.1).1 in
      subst (AsksAll (next_of (wire_of schema) script (reverse done.joins) s))
      (sym (own_is table schema seqs script done.joins passes core.events count some come_at inside s lt))
      (record { asks = d.come.asks; over = d.over })

  lawful_past : legal (wire_of schema) script.seqs (behind ++ reverse done.joins)
  lawful_past =
      subst (legal (wire_of schema) script.seqs) past_whole
      (subst (λ (n : ℕ). legal (wire_of schema) n (past_in core)) (seqs_is ∙ same)
      (subst (λ (x : Schema). legal (wire_of x) core.seqs (past_in core)) schema_is lawful))

  -- no automatic reply is due
  none_left : due (wire_of schema) script.autos (past_in core) ≡ None
  none_left = ap (due (wire_of schema) script.autos) past_whole
      ∙ go behind (within (wire_of schema) script.seqs [] behind (reverse done.joins) lawful_past) does_lines
    where
      go : (events : List Event) → AllByRecursion (λ (event : Event). event.seq.0 < script.seqs) events
          → DoesLines (wire_of schema) script (reverse done.joins) events
          → due (wire_of schema) script.autos (events ++ reverse done.joins) ≡ None
      go [] are lines = none_joined (wire_of schema) script (reverse done.joins) (part_goes script (reverse done.joins) done.part)
      go (event ∷ events) are lines =
          due_by_own (wire_of schema) script event events (reverse done.joins)
          ∙ none_due (wire_of schema) script (reverse done.joins) event.seq (own_of event.seq (event ∷ events)) (lines event.seq are.0).over

  -- all desks have rested
  rested : HaveRested core rests
  rested = record {
    count = done.count ∙ sym seqs_is;
    each = λ s rest at.
        let lt : s.0 < seqs = let w = slice_get_within rests s.0 rest at in omega (arith, w, done.count) in
        let q = there_at passes s.0 (omega (arith, lt, count)) in
        let d = done.each s.0 q.0 rest q.1 at in
        let i = inside s.0 q.0 q.1 in
        let seen : own_of (seq_at q.0.number) core.events ≡ own_of (seq_at q.0.number) q.0.place.me.0.seen = i.own ∙ sym d.come.pass.own in
        let own : own_of s core.events ≡ own_of s done.joins ++ reverse d.come.own =
        subst (λ (n : ℕ). own_of (seq_at n) core.events ≡ own_of (seq_at n) q.0.place.me.0.seen) d.come.numbered seen ∙ d.come.whole in
        let steps : steps_of core.schema s core.events ≡ steps_of schema s done.joins ++ map (step_by (wire_of schema)) (reverse d.come.own) =
        ap (λ (x : Schema). steps_of x s core.events) schema_is
        ∙ (ap (map (step_by (wire_of schema))) own ∙ map-append (step_by (wire_of schema)) (own_of s done.joins) (reverse d.come.own)) in
        record {
          kept = subst (λ (ss : List (Step Plain)). HasKept AnswersZero ss (kept_of rest.jobs)) (sym steps) d.kept;
          drawn = subst (λ (es : List Event). AreDrawn es rest.jobs.waiting.callbacks) (sym i.seen.1)
              (drawn_more q.0.place.me.0.seen i.seen.0 rest.jobs.waiting.callbacks d.drawn);
        };
  }

  core_of_script : IsCoreOf schema script core
  core_of_script = record { schema = schema_is; seqs = seqs_is ∙ same; legal = lawful; few = few }

  -- the takes may begin
  pub may_drain : MayDrain schema script core rests
  may_drain = record {
    after_joins = reverse done.joins;
    middle = behind;
    whole = past_whole;
    joins = done.part;
    lines = does_lines;
    turns = within (wire_of schema) script.seqs [] behind (reverse done.joins) lawful_past;
    drain = subst (λ (x : Schema). HasDrained x script (past_in core) core rests) (sym schema_is) (record {
      core = core_of_script;
      rests = rested;
      own = [];
      whole = refl;
      asks = tt;
      none = none_left;
    });
  }

-- and behind them the history is the script's
pub played_of : (schema : Schema) (script : Script) (core : Play) (rests : List (Rest Plain)) (drained : Drained) → core.schema ≡ schema
    → MayDrain schema script core rests → DrainedAll core.schema script (past_in core) drained → PlayedAtOnce schema script drained
played_of schema script core rests drained is may drawn =
    let all : DrainedAll schema script (past_in core) drained = subst (λ (x : Schema). DrainedAll x script (past_in core) drained) is drawn in
    record {
      core = all.core;
      whole = record {
        after_joins = may.after_joins;
        middle = may.middle;
        joins = may.joins;
        lines = may.lines;
        turns = may.turns;
        drain = subst (λ (before : List Event). IsPart (next_take (wire_of schema) script.autos before) before (past_in drained.core)) may.whole all.part;
      };
      notes = all.notes;
    }

-- a cut that isn't for the number of events
pub unspent_by : (cut : Cut) → (◌≡◌ {A = Result (Unit {0}) Cut} (Err cut) (Err cuts.Spent) → ⊥) → IsUnspent cut
unspent_by cuts.Memory never = tt
unspent_by cuts.Spent never = absurd (never refl)

-- what a run leaves that wasn't cut off
pub ended_at_once : {E : Type 0} (schema : Schema) (script : Script) (drained : Drained) (r : Result Ran E) (Q P : Ran → Type 0)
    → IfNone drained.cut (PlayedAtOnce schema script drained) → OnOk r (drained.cut ≡ None)
    → IfOk r (λ ran. ran.history.events ≡ drained.core.events) → IfOk r Q
    → ((ran : Ran) → PlayedAtOnce schema script drained → ran.history.events ≡ drained.core.events → Q ran → P ran) → IfOk r P
ended_at_once schema script drained (Err e) Q P played cut history q f = tt
ended_at_once schema script drained (Ok ran) Q P played cut history q f = f ran (all drained.cut played cut) history q
  where
    all : (o : Option Cut) → IfNone o (PlayedAtOnce schema script drained) → o ≡ None → PlayedAtOnce schema script drained
    all None p e = p
    all (Some x) p e = absurd cc

module _ (schema : Schema) (script : Script) (drained : Drained) (ran : Ran) (all : PlayedAtOnce schema script drained)
    (history : ran.history.events ≡ drained.core.events) where
  pub ran_legal : Legal (wire_of schema) script.seqs ran.history.events
  ran_legal =
      subst (λ (events : List Event). Legal (wire_of schema) script.seqs events) (sym history)
      (subst (λ (s : Schema). Legal (wire_of s) script.seqs drained.core.events) all.core.schema
      (subst (λ (n : ℕ). Legal (wire_of drained.core.schema) n drained.core.events) all.core.seqs all.core.legal))

  pub ran_script : OfScript schema script None ran.history.events
  ran_script = subst (OfScript schema script None) (sym history) all.whole

  pub ran_left : (things : List Thing) → things ≡ left drained.core.seqs (reverse drained.core.events)
      → things ≡ left script.seqs (reverse ran.history.events)
  ran_left things e =
      e ∙ (ap (λ (n : ℕ). left n (reverse drained.core.events)) all.core.seqs ∙ ap (λ (events : List Event). left script.seqs (reverse events)) (sym history))

  pub ran_notes : drained.notes ≡ Ok ran.notes → ran.notes ≡ callbacks script.seqs ran.history.events
  ran_notes e =
      subst (λ r. IfOk r (λ notes. notes ≡ callbacks script.seqs drained.core.events)) e all.notes ∙ ap (callbacks script.seqs) (sym history)
