-- Events of sequences that come one by one, and what a run is that follows them.
use Rattle.std.proofs.Common.{◌≡◌, ◌≤◌, ◌<◌, ◌+◌, ℕ, zero, suc, Bool, Bor, true, false, List, [], ◌∷◌, ◌++◌, length, map, take, refl, sym, ap, ◌∙◌, subst, arith, add-one, length-set, true≢false}
use Rattle.std.specs.Prelude.{◌==◌, ◌||◌, count_by, filter, is_some, nat_lt, Option, Some, None, Result, Ok, Err, IfNone, IfOk, reverse, set, slice_get, if◌then◌else◌}
use Rattle.std.specs.Option.{option_copied, option_map}
use Rattle.std.proofs.lemmas.Bool.{eq-eqb, eqb-true, false≢true, ltb-false, ltb-true}
use Rattle.std.proofs.lemmas.List.{length-map, length-reverse, length-take-le, map-append, reverse-append}
use Rattle.std.proofs.lemmas.List.Sums.{length-filter}
use Rattle.std.proofs.lemmas.Option.{slice_get_past, slice_get_within}
use Rattle.mj_base.specs.declared.ids.SeqId.{SeqId}
use Rattle.mj_base.specs.declared.limits.TheConstants.{MAX_EVENTS, MAX_FILE_BYTES}
use Rattle.mj_schema.specs.declared.schema.Schema.{Schema}
use Rattle.handle_table.proofs.NumberedLemmas.{get-push, get-set}
use Rattle.bind_core.specs.Play.{Play}
use Rattle.bind_model.specs.Replies.{Legal, legal}
use Rattle.bind_model.specs.Seen.{own_of}
use Rattle.bind_model.specs.Wire.{Wire}
use Rattle.bind_model.specs.WireOf.{wire_of}
use Rattle.bind_model.specs.declared.event.Event.{Event}
use Rattle.call_script.specs.Sound.{IsScript}
use Rattle.call_script.specs.declared.script.AutoReply.{AutoReply}
use Rattle.call_script.specs.declared.script.Line.{Line}
use Rattle.call_script.specs.declared.script.Script.{Script}
use Rattle.remote_receiver.specs.declared.rest.Rest.{Rest}
use Rattle.script_names.specs.Asking.{asked_by}
use Rattle.script_names.specs.Autos.{Due, due, line_at}
use Rattle.script_names.specs.declared.rooms.Rooms.{Rooms}
use Rattle.script_names.proofs.TableLemmas.{there}
use Rattle.script_run.specs.Draining.{DrainedAll, HasDrained, IsCoreOf, past_in}
use Rattle.script_run.specs.Followed.{asker}
use Rattle.script_run.specs.OfScript.{AsksNext, GoesOn, names_of, next_join, next_of, next_take, replied, reply_first}
use Rattle.script_run.specs.Order.{joins_of, lines_of}
use Rattle.script_run.specs.declared.agenda.Agenda.{Agenda}
use Rattle.script_run.specs.declared.draining.Drained.{Drained}
use Rattle.script_run.specs.declared.plain.Plain.{Plain}
use Rattle.script_run.specs.steps.Following.{AnyMore, AreAlong, AreFresh, DidAny, DidNext, DidNothing, HasCome, HaveFollowed, HaveStopped, IsAmid}
use Rattle.script_run.specs.steps.Following.{IsFresh, NoneMore, OneMore, TellsDone, has_next, planned}
use Rattle.script_run.specs.steps.Going.{HasJoined}
use Rattle.script_run.specs.steps.Traced.{Traced, TracedAll}
use Rattle.script_run.proofs.FewEvents.{few_events}
use Rattle.script_run.proofs.OneEvent.{due_now, no_line, some_line}
use Rattle.script_run.proofs.RunParts.{none_joined}
use Rattle.script_run.proofs.Sequences.{same_seq}
use Rattle.script_run.proofs.TurnLemmas.{other_event, own_event}

-- ## Lists

-- one more, of a list of which each is known by its number
pub each_added : {A : Type 0} (P : ℕ → A → Type 0) (xs new : List A) (count : ℕ) (last : A) → length xs ≡ count → new ≡ xs ++ last ∷ [] → P count last
    → ((k : ℕ) (x : A) → slice_get xs k ≡ Some x → P k x) → (k : ℕ) (x : A) → slice_get new k ≡ Some x → P k x
each_added {A} P xs new count last long is own others k x e =
    go (length xs == k) refl (sym (get-push last xs k) ∙ (ap (λ (ys : List A). slice_get ys k) (sym is) ∙ e))
  where
    go : (b : Bool) → (length xs == k) ≡ b → (if b then Some last else slice_get xs k) ≡ Some x → P k x
    go true at h =
        let same : last ≡ x = cc in
        subst (λ (n : ℕ). P n x) (sym long ∙ eqb-true (length xs) k at) (subst (P count) same own)
    go false at h = others k x h

-- what was set at a number stands there
pub set_here : {A : Type 0} (x : A) (xs : List A) (n : ℕ) (y : A) → slice_get (set xs n x) n ≡ Some y → x ≡ y
set_here {A} x xs n y e =
    found (slice_get xs n)
    (subst (λ (b : Bool). (if b then option_map (λ (before : A). x) (slice_get xs n) else slice_get xs n) ≡ Some y) (eq-eqb n n refl)
    (sym (get-set x xs n n) ∙ e))
  where
    found : (o : Option A) → option_map (λ (before : A). x) o ≡ Some y → x ≡ y
    found (Some before) h = cc
    found None h = absurd cc

-- and the others stand where they stood
pub set_other : {A : Type 0} (x : A) (xs : List A) (n k : ℕ) → (n == k) ≡ false → slice_get (set xs n x) k ≡ slice_get xs k
set_other {A} x xs n k other =
    get-set x xs n k ∙ ap (λ (b : Bool). if b then option_map (λ (before : A). x) (slice_get xs k) else slice_get xs k) other

take_one : (events : List Event) (k : ℕ) (event : Event) → slice_get events k ≡ Some event → take (suc k) events ≡ take k events ++ event ∷ []
take_one [] k event e = absurd cc
take_one (x ∷ events) zero event e = let same : x ≡ event = cc in ap (λ (y : Event). y ∷ []) same
take_one (x ∷ events) (suc k) event e = ap (λ (es : List Event). x ∷ es) (take_one events k event e)

pub take_more : (events : List Event) (k : ℕ) (event : Event) → slice_get events k ≡ Some event → take (k + 1) events ≡ take k events ++ event ∷ []
take_more events k event e = ap (λ (n : ℕ). take n events) (add-one k) ∙ take_one events k event e

-- where none of a list passes, and where one does
pub none_passes : {A : Type 0} (p : A → Bool) (xs : List A) (k : ℕ) (x : A) → length (filter p xs) ≡ 0 → slice_get xs k ≡ Some x → p x ≡ false
none_passes p [] k x e h = absurd cc
none_passes {A} p (y ∷ ys) k x e h = go (p y) refl e k h (λ i f g. none_passes p ys i x f g)
  where
    go : (b : Bool) → p y ≡ b → length (if b then y ∷ filter p ys else filter p ys) ≡ 0 → (i : ℕ) → slice_get (y ∷ ys) i ≡ Some x
        → ((j : ℕ) → length (filter p ys) ≡ 0 → slice_get ys j ≡ Some x → p x ≡ false) → p x ≡ false
    go true f long i g others = absurd (omega (arith, long))
    go false f long zero g others = let same : y ≡ x = cc in subst (λ (z : A). p z ≡ false) same f
    go false f long (suc i) g others = others i long g

-- one that passes
pub record Passes {A : Type 0} (p : A → Bool) (xs : List A) : Type 0 where
  pub at : ℕ
  pub it : A
  pub here : slice_get xs at ≡ Some it
  pub passes : p it ≡ true

pub some_passes : {A : Type 0} (p : A → Bool) (xs : List A) → (length (filter p xs) ≡ 0 → ⊥) → Passes p xs
some_passes p [] some = absurd (some refl)
some_passes {A} p (y ∷ ys) some = go (p y) refl some (some_passes p ys)
  where
    go : (b : Bool) → p y ≡ b → (length (if b then y ∷ filter p ys else filter p ys) ≡ 0 → ⊥)
        → ((length (filter p ys) ≡ 0 → ⊥) → Passes p ys) → Passes p (y ∷ ys)
    go true f more rest = record { at = 0; it = y; here = refl; passes = f }
    go false f more rest =
        let one = rest more in
        record { at = suc one.at; it = one.it; here = one.here; passes = one.passes }

pub none_some : {A : Type 0} (o : Option A) (x : A) → o ≡ None → o ≡ Some x → ⊥
none_some None x e f = absurd cc
none_some (Some y) x e f = absurd cc

-- ## Results

pub ok_weaker : {A E : Type 0} (result : Result A E) (P Q : A → Type 0) → ((a : A) → P a → Q a) → IfOk result P → IfOk result Q
ok_weaker (Ok a) P Q f p = f a p
ok_weaker (Err e) P Q f p = tt

pub if_none : {A : Type 0} (o : Option A) (P : Type 0) → P → IfNone o P
if_none None P p = p
if_none (Some x) P p = tt

-- ## One event more

module _ (schema : Schema) (script : Script) (after_joins middle : List Event) (core after : Play) (rests new : List (Rest Plain)) (rooms : List Rooms)
    (agendas : List Agenda) (amid : IsAmid schema script after_joins middle core rests rooms agendas) (s : SeqId) (within : s.0 < script.seqs)
    (later : Rooms) (plan : Agenda) where
  -- the wire of the schema
  abbrev wire : Wire
  wire = wire_of schema

  -- what a sequence has done and has to do, where one's room and agenda changed
  each_then : (own : SeqId → List Event) → HasCome schema script after_joins s (own s) later plan
      → ((t : SeqId) → (s.0 == t.0) ≡ false → own t ≡ own_of t middle) → (t : SeqId) (room : Rooms) (agenda : Agenda)
      → slice_get (set rooms s.0 later) t.0 ≡ Some room → slice_get (set agendas s.0 plan) t.0 ≡ Some agenda
      → HasCome schema script after_joins t (own t) room agenda
  each_then own come others t room agenda hr ha = go (s.0 == t.0) refl
    where
      go : (b : Bool) → (s.0 == t.0) ≡ b → HasCome schema script after_joins t (own t) room agenda
      go true e =
          let who : s ≡ t = same_seq s t e in
          let same_room : later ≡ room =
          set_here later rooms s.0 room (subst (λ (q : SeqId). slice_get (set rooms s.0 later) q.0 ≡ Some room) (sym who) hr) in
          let same_plan : plan ≡ agenda =
          set_here plan agendas s.0 agenda (subst (λ (q : SeqId). slice_get (set agendas s.0 plan) q.0 ≡ Some agenda) (sym who) ha) in
          subst (λ (q : SeqId). HasCome schema script after_joins q (own q) room agenda) who
          (subst (λ (r : Rooms). HasCome schema script after_joins s (own s) r agenda) same_room
          (subst (λ (a : Agenda). HasCome schema script after_joins s (own s) later a) same_plan come))
      go false e =
          subst (λ (es : List Event). HasCome schema script after_joins t es room agenda) (sym (others t e))
          (amid.each t room agenda (sym (set_other later rooms s.0 t.0 e) ∙ hr) (sym (set_other plan agendas s.0 t.0 e) ∙ ha))

  -- each sequence asks what is next
  asks_then : (event : Event) → event.seq ≡ s → next_of wire script after_joins s (own_of s middle) ≡ Some event.asked → (t : SeqId) → t.0 < script.seqs
      → AsksNext (next_of wire script after_joins t) (own_of t (event ∷ middle))
  asks_then event mine asks t w = go (s.0 == t.0) refl
    where
      go : (b : Bool) → (s.0 == t.0) ≡ b → AsksNext (next_of wire script after_joins t) (own_of t (event ∷ middle))
      go true e =
          subst (λ (q : SeqId). AsksNext (next_of wire script after_joins q) (own_of q (event ∷ middle))) (same_seq s t e)
          (subst (AsksNext (next_of wire script after_joins s)) (sym (own_event s event middle mine)) (asks, amid.asks s within))
      go false e =
          subst (AsksNext (next_of wire script after_joins t)) (sym (other_event t event middle (ap (λ (q : SeqId). q.0 == t.0) mine ∙ e)))
          (amid.asks t w)

  amid_more : DidNext schema script after_joins s (own_of s middle) core after new later plan
      → OneMore schema script after_joins middle after new (set rooms s.0 later) (set agendas s.0 plan) s
  amid_more next =
      let event : Event = record { seq = s; asked = next.asked; told = next.did.told } in
      record {
        event = event;
        mine = refl;
        amid = record {
          core = record {
            schema = next.did.schema ∙ amid.core.schema;
            seqs = next.did.seqs ∙ amid.core.seqs;
            legal = next.did.legal;
            few = next.did.few;
          };
          rests = next.did.rests;
          joins = amid.joins;
          whole =
              ap reverse next.did.event ∙ (reverse-append core.events (event ∷ []) ∙ ap (λ (es : List Event). event ∷ es) amid.whole);
          asks = asks_then event refl next.asks;
          rooms = length-set rooms s.0 later ∙ amid.rooms;
          plans = length-set agendas s.0 plan ∙ amid.plans;
          each =
              each_then (λ (t : SeqId). own_of t (event ∷ middle))
              (subst (λ (es : List Event). HasCome schema script after_joins s es later plan) (sym (own_event s event middle refl)) next.come)
              (λ t e. other_event t event middle e);
        };
      }

  amid_same : DidNothing schema script after_joins s (own_of s middle) core after new later plan
      → NoneMore schema script after_joins middle after new (set rooms s.0 later) (set agendas s.0 plan) s
  amid_same nothing = record {
    none = λ w. nothing.none;
    amid = record {
      core = subst (λ (p : Play). IsCoreOf schema script p) (sym nothing.core) amid.core;
      rests = nothing.rests;
      joins = amid.joins;
      whole = ap past_in nothing.core ∙ amid.whole;
      asks = amid.asks;
      rooms = length-set rooms s.0 later ∙ amid.rooms;
      plans = length-set agendas s.0 plan ∙ amid.plans;
      each = each_then (λ (t : SeqId). own_of t middle) nothing.come (λ t e. refl);
    };
  }

  -- whichever came
  pub any_more : (goes : Bool) → DidAny schema script after_joins s (own_of s middle) core after new later plan goes
      → AnyMore schema script after_joins middle after new (set rooms s.0 later) (set agendas s.0 plan) s goes
  any_more true next = amid_more next
  any_more false nothing = amid_same nothing

-- there are fewer events than 16,777,216
pub amid_few : (schema : Schema) (script : Script) → IsScript schema script → script.bytes ≤ MAX_FILE_BYTES → (after_joins middle : List Event)
    (core : Play) (rests : List (Rest Plain)) (rooms : List Rooms) (agendas : List Agenda)
    → IsAmid schema script after_joins middle core rests rooms agendas → length core.events < MAX_EVENTS
amid_few schema script is short after_joins middle core rests rooms agendas amid =
    let past : legal (wire_of schema) script.seqs (middle ++ after_joins) =
    subst (λ (es : List Event). legal (wire_of schema) script.seqs es) amid.whole
    (subst (λ (n : ℕ). legal (wire_of schema) n (past_in core)) amid.core.seqs
    (subst (λ (x : Schema). legal (wire_of x) core.seqs (past_in core)) amid.core.schema amid.core.legal)) in
    let few = few_events schema script is after_joins middle short [] past amid.joins amid.asks tt in
    omega (arith, few, length-reverse core.events, ap length amid.whole)

-- ## All events

-- before the first
pub amid_first : (schema : Schema) (script : Script) (core : Play) (rests : List (Rest Plain)) (rooms : List Rooms) (agendas : List Agenda)
    → HasJoined schema script (length (joins_of script)) core rests rooms → AreFresh script agendas
    → IsAmid schema script (past_in core) [] core rests rooms agendas
amid_first schema script core rests rooms agendas joined fresh = record {
  core = joined.core;
  rests = joined.rests;
  joins = joined.asks;
  whole = refl;
  asks = λ s w. tt;
  rooms = joined.rooms.count;
  plans = fresh.count;
  each = λ s room agenda hr ha.
      let first : IsFresh script s.0 agenda = fresh.each s.0 agenda ha in
      record {
        names = joined.rooms.names s room hr;
        named = joined.rooms.held s room hr;
        lines = first.lines;
        done = first.done;
        due = ap option_copied first.due;
        last = λ d e. absurd cc;
      };
}

module _ (schema : Schema) (script : Script) (after_joins events : List Event) (core : Play) (rests : List (Rest Plain)) (rooms : List Rooms)
    (agendas : List Agenda) where
  -- none was followed yet
  pub along_none : IsAmid schema script after_joins [] core rests rooms agendas
      → AreAlong schema script after_joins (take 0 events) core rests rooms agendas
  along_none amid = record { middle = []; amid = amid; along = refl }

  -- one more was
  pub along_more : (k : ℕ) (event : Event) → slice_get events k ≡ Some event → (middle : List Event)
      → map asker (reverse middle) ≡ map asker (take k events) → OneMore schema script after_joins middle core rests rooms agendas event.seq
      → AreAlong schema script after_joins (take (k + 1) events) core rests rooms agendas
  along_more k event here middle along one = record {
    middle = one.event ∷ middle;
    amid = one.amid;
    along =
        ap (map asker) (reverse-append (one.event ∷ []) middle)
        ∙ (map-append asker (reverse middle) (one.event ∷ [])
        ∙ (ap (λ (ss : List SeqId). ss ++ one.event.seq ∷ []) along
        ∙ (ap (λ (s : SeqId). map asker (take k events) ++ s ∷ []) one.mine
        ∙ sym (ap (map asker) (take_more events k event here) ∙ map-append asker (take k events) (event ∷ [])))));
  }

  -- how many were
  along_length : (k : ℕ) → k ≤ length events → (middle : List Event) → map asker (reverse middle) ≡ map asker (take k events) → length middle ≡ k
  along_length k within middle along =
      omega (
        arith,
        within,
        length-reverse middle,
        length-map (reverse middle) asker,
        ap length along,
        length-map (take k events) asker,
        length-take-le k events within,
      )

  -- nothing is next for the sequence of the next event
  pub stopped_at : (k : ℕ) → k < length events → (event : Event) → slice_get events k ≡ Some event → (middle : List Event)
      → map asker (reverse middle) ≡ map asker (take k events) → NoneMore schema script after_joins middle core rests rooms agendas event.seq
      → HaveStopped schema script after_joins events core rests rooms agendas
  stopped_at k within event here middle along none =
      let size : length middle ≡ k = along_length k (omega (arith, within)) middle along in
      record {
        middle = middle;
        amid = none.amid;
        along = along ∙ ap (λ (n : ℕ). map asker (take n events)) (sym size);
        stops = λ other at.
            let both : ◌≡◌ {A = Option Event} (Some event) (Some other) = sym here ∙ (ap (slice_get events) (sym size) ∙ at) in
            let same : event ≡ other = cc in
            subst (λ (e : Event). e.seq.0 < script.seqs → next_of (wire_of schema) script after_joins e.seq (own_of e.seq middle) ≡ None) same none.none;
      }

  -- all were followed
  pub stopped_all : (k : ℕ) → length events ≤ k → k ≤ length events → AreAlong schema script after_joins (take k events) core rests rooms agendas
      → HaveStopped schema script after_joins events core rests rooms agendas
  stopped_all k all within a =
      let size : length a.middle ≡ k = along_length k within a.middle a.along in
      record {
        middle = a.middle;
        amid = a.amid;
        along = a.along ∙ ap (λ (n : ℕ). map asker (take n events)) (sym size);
        stops = λ other at.
            let past : slice_get events (length a.middle) ≡ None = slice_get_past events (length a.middle) (omega (arith, all, size)) in
            absurd (let both : ◌≡◌ {A = Option Event} None (Some other) = sym past ∙ at in cc);
      }

-- ## Whether nothing is next

-- of one sequence, by its agenda
module _ (schema : Schema) (script : Script) (after_joins : List Event) (s : SeqId) (own : List Event) (room : Rooms) (agenda : Agenda)
    (come : HasCome schema script after_joins s own room agenda) where
  -- the lines that are left
  size : length (planned agenda) ≡ length agenda.lines.items
  size = length-map agenda.lines.items (λ (l : Bor Line). l.now)

  come_over : has_next agenda ≡ false → next_of (wire_of schema) script after_joins s own ≡ None
  come_over h = go agenda.due refl h
    where
      go : (o : Option (Bor AutoReply)) → agenda.due ≡ o → (is_some o || nat_lt agenda.done (length agenda.lines.items)) ≡ false
          → next_of (wire_of schema) script after_joins s own ≡ None
      go (Some reply) e f = absurd (true≢false f)
      go None e f =
          let most : length agenda.lines.items ≤ agenda.done = ltb-false agenda.done (length agenda.lines.items) f in
          let past : slice_get (planned agenda) agenda.done ≡ None = slice_get_past (planned agenda) agenda.done (omega (arith, most, size)) in
          no_line schema script after_joins s own room agenda come e (sym past)

  come_more : has_next agenda ≡ true → next_of (wire_of schema) script after_joins s own ≡ None → ⊥
  come_more h none = go agenda.due refl h
    where
      go : (o : Option (Bor AutoReply)) → agenda.due ≡ o → (is_some o || nat_lt agenda.done (length agenda.lines.items)) ≡ true → ⊥
      go (Some reply) e f =
          let to = due_now schema script after_joins s own room agenda come reply.now (ap option_copied e) in
          let some : next_of (wire_of schema) script after_joins s own ≡ Some (replied (to.0, reply.now)) = ap
          (λ (o : Option Due). reply_first o (option_map (asked_by (names_of (wire_of schema) script after_joins s own))
          (line_at (wire_of schema) script.autos (lines_of script s) own))) to.1 in
          none_some (next_of (wire_of schema) script after_joins s own) (replied (to.0, reply.now)) none some
      go None e f =
          let less : agenda.done < length agenda.lines.items = ltb-true agenda.done (length agenda.lines.items) f in
          let line = there (planned agenda) agenda.done (omega (arith, less, size)) in
          none_some (next_of (wire_of schema) script after_joins s own) (asked_by (names_of (wire_of schema) script after_joins s own) line.0) none
          (some_line schema script after_joins s own room agenda come e line.0 (sym line.1))

module _ (schema : Schema) (script : Script) (after_joins middle : List Event) (core : Play) (rests : List (Rest Plain)) (rooms : List Rooms)
    (agendas : List Agenda) (amid : IsAmid schema script after_joins middle core rests rooms agendas) where
  pub tells_left : (n : ℕ) → n ≡ count_by has_next agendas → TellsDone schema script after_joins middle (n == 0)
  tells_left n is = go (n == 0) refl
    where
      kept : length (filter has_next agendas) ≡ n
      kept = length-filter has_next agendas ∙ sym is

      go : (b : Bool) → (n == 0) ≡ b → TellsDone schema script after_joins middle b
      go true e = λ s w.
          let room = there rooms s.0 (subst (λ (k : ℕ). s.0 < k) (sym amid.rooms) w) in
          let plan = there agendas s.0 (subst (λ (k : ℕ). s.0 < k) (sym amid.plans) w) in
          come_over schema script after_joins s (own_of s middle) room.0 plan.0 (amid.each s room.0 plan.0 room.1 plan.1)
          (none_passes has_next agendas s.0 plan.0 (kept ∙ eqb-true n 0 e) plan.1)
      go false e =
          let one = some_passes has_next agendas (λ over. false≢true (sym e ∙ eq-eqb n 0 (sym kept ∙ over))) in
          let short : one.at < length agendas = slice_get_within agendas one.at one.it one.here in
          let within : one.at < script.seqs = subst (λ (k : ℕ). one.at < k) amid.plans short in
          let room = there rooms one.at (subst (λ (k : ℕ). one.at < k) (sym amid.rooms) within) in
          let s : SeqId = record { 0 = one.at } in
          record {
            seq = s;
            there = within;
            left =
                come_more schema script after_joins s (own_of s middle) room.0 one.it (amid.each s room.0 one.it room.1 one.here) one.passes;
          }

-- the events were followed
pub followed_as : (schema : Schema) (script : Script) (after_joins events : List Event) (core : Play) (rests : List (Rest Plain)) (rooms : List Rooms)
    (agendas : List Agenda) (stopped : HaveStopped schema script after_joins events core rests rooms agendas) (n : ℕ)
    → n ≡ count_by has_next agendas → HaveFollowed schema script after_joins events core rests (n == 0)
followed_as schema script after_joins events core rests rooms agendas stopped n is = record {
  core = stopped.amid.core;
  rests = stopped.amid.rests;
  joins = stopped.amid.joins;
  middle = stopped.middle;
  whole_is = stopped.amid.whole;
  asks = stopped.amid.asks;
  along = stopped.along;
  stops = stopped.stops;
  tells = tells_left schema script after_joins stopped.middle core rests rooms agendas stopped.amid n is;
}

-- ## The drain

module _ (schema : Schema) (script : Script) (after_joins : List Event) where
  -- where nothing is next, no automatic reply is due
  quiet : (s : SeqId) (own : List Event) → next_of (wire_of schema) script after_joins s own ≡ None → due (wire_of schema) script.autos own ≡ None
  quiet s own none = go (due (wire_of schema) script.autos own) refl none
    where
      go : (o : Option Due) → due (wire_of schema) script.autos own ≡ o
          → reply_first o (option_map (asked_by (names_of (wire_of schema) script after_joins s own))
          (line_at (wire_of schema) script.autos (lines_of script s) own)) ≡ None → due (wire_of schema) script.autos own ≡ None
      go None e f = e
      go (Some d) e f = absurd (none_some (Some (replied d)) (replied d) f refl)

  pub none_last : (middle : List Event) → legal (wire_of schema) script.seqs (middle ++ after_joins) → GoesOn (next_join script) after_joins
      → ((s : SeqId) → s.0 < script.seqs → next_of (wire_of schema) script after_joins s (own_of s middle) ≡ None)
      → due (wire_of schema) script.autos (middle ++ after_joins) ≡ None
  none_last [] h joins over = none_joined (wire_of schema) script after_joins joins
  none_last (event ∷ middle) h joins over =
      ap (due (wire_of schema) script.autos) (sym (own_event event.seq event middle refl))
      ∙ quiet event.seq (own_of event.seq (event ∷ middle)) (over event.seq h.0)

module _ (schema : Schema) (script : Script) (events : List Event) (core : Play) (rests : List (Rest Plain)) where
  -- the past of the core is legal
  legal_past : IsCoreOf schema script core → legal (wire_of schema) script.seqs (past_in core)
  legal_past is =
      subst (λ (n : ℕ). legal (wire_of schema) n (past_in core)) is.seqs
      (subst (λ (x : Schema). legal (wire_of x) core.seqs (past_in core)) is.schema is.legal)

  -- before the first take
  pub drained_first : Traced schema script events core rests true → HasDrained schema script (past_in core) core rests
  drained_first t =
      let f = t.followed in
      record {
        core = f.core;
        rests = f.rests;
        own = [];
        whole = refl;
        asks = tt;
        none =
            subst (λ (es : List Event). due (wire_of schema) script.autos es ≡ None) (sym f.whole_is)
            (none_last schema script t.after_joins f.middle
            (subst (λ (es : List Event). legal (wire_of schema) script.seqs es) f.whole_is (legal_past f.core)) f.joins f.tells);
      }

  -- behind the last
  pub traced_whole : Traced schema script events core rests true → (drained : Drained) → DrainedAll schema script (past_in core) drained
      → TracedAll schema script events drained true
  traced_whole t drained all =
      let f = t.followed in
      record {
        core = all.core;
        follows = record {
          legal =
              subst (λ (n : ℕ). Legal (wire_of schema) n drained.core.events) all.core.seqs
              (subst (λ (x : Schema). Legal (wire_of x) drained.core.seqs drained.core.events) all.core.schema all.core.legal);
          after_joins = t.after_joins;
          middle = f.middle;
          taken = all.part.own;
          past = all.part.whole ∙ ap (λ (es : List Event). all.part.own ++ es) f.whole_is;
          joins = t.joined;
          asks = f.asks;
          along = f.along;
          ends = record {
            lines = f.tells;
            takes = subst (λ (es : List Event). GoesOn (next_take (wire_of schema) script.autos es) all.part.own) f.whole_is all.part.asks;
            over = subst (λ (es : List Event). next_take (wire_of schema) script.autos es all.part.own ≡ None) f.whole_is all.part.over;
          };
        };
        notes = λ e. all.notes;
      }

  -- a run that stopped before its end
  pub traced_part : Traced schema script events core rests false → (drained : Drained) → drained.core ≡ core
      → TracedAll schema script events drained false
  traced_part t drained same =
      let f = t.followed in
      let of : IsCoreOf schema script drained.core = subst (λ (p : Play). IsCoreOf schema script p) (sym same) f.core in
      record {
        core = of;
        follows = record {
          legal =
              subst (λ (n : ℕ). Legal (wire_of schema) n drained.core.events) of.seqs
              (subst (λ (x : Schema). Legal (wire_of x) drained.core.seqs drained.core.events) of.schema of.legal);
          after_joins = t.after_joins;
          middle = f.middle;
          taken = [];
          past = ap past_in same ∙ f.whole_is;
          joins = t.joined;
          asks = f.asks;
          along = f.along;
          ends = record { none = refl; seq = f.tells.seq; there = f.tells.there; left = f.tells.left; stops = f.stops };
        };
        notes = λ e. absurd (false≢true e);
      }
