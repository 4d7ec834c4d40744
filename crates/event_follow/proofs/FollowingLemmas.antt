-- Events of sequences that come one by one, and what a run is that follows them.
use Rattle.std.proofs.Common.{◌≡◌, ◌≤◌, ◌<◌, ◌+◌, ℕ, Bool, Bor, true, false, List, [], ◌∷◌, ◌++◌, length, map, take, refl, sym, ap, ◌∙◌}
use Rattle.std.proofs.Common.{subst, arith, length-set, true≢false}
use Rattle.std.specs.Prelude.{◌==◌, ◌||◌, count_by, filter, is_some, nat_lt, Option, Some, None, reverse, set, slice_get}
use Rattle.std.proofs.lemmas.Bool.{eq-eqb, eqb-true, false≢true, ltb-false, ltb-true}
use Rattle.std.proofs.lemmas.List.{length-map, length-reverse, length-take-le, map-append, reverse-append}
use Rattle.std.proofs.lemmas.List.Sums.{length-filter}
use Rattle.std.proofs.lemmas.Option.{slice_get_past, slice_get_within}
use Rattle.mj_base.specs.declared.ids.SeqId.{SeqId}
use Rattle.mj_base.specs.declared.limits.TheConstants.{MAX_EVENTS, MAX_FILE_BYTES}
use Rattle.mj_schema.specs.declared.schema.Schema.{Schema}
use Rattle.bind_model.specs.Replies.{legal}
use Rattle.bind_model.specs.Seen.{own_of}
use Rattle.bind_model.specs.Wire.{Wire}
use Rattle.bind_model.specs.WireOf.{wire_of}
use Rattle.bind_model.specs.declared.event.Event.{Event}
use Rattle.call_script.specs.Sound.{IsScript}
use Rattle.call_script.specs.declared.script.Line.{Line}
use Rattle.call_script.specs.declared.script.Script.{Script}
use Rattle.event_tables.specs.AsCore.{past_by}
use Rattle.event_steps.specs.declared.machine.Machine.{Machine}
use Rattle.script_names.specs.Asking.{asked_by}
use Rattle.script_names.specs.Autos.{due}
use Rattle.script_names.proofs.TableLemmas.{there}
use Rattle.script_run.specs.Followed.{Follows, asker}
use Rattle.script_run.specs.OfScript.{AsksNext, GoesOn, names_of, next_of, next_take, replied}
use Rattle.script_run.specs.Order.{joins_of}
use Rattle.script_run.specs.steps.Following.{TellsDone}
use Rattle.script_run.proofs.Traces.{none_last, none_passes, none_some, set_here, set_other, some_passes, take_more}
use Rattle.script_run.proofs.Sequences.{same_seq}
use Rattle.script_run.proofs.TurnLemmas.{other_event, own_event}
use Rattle.event_follow.specs.declared.places.DueReply.{DueReply}
use Rattle.event_follow.specs.declared.places.Place.{Place}
use Rattle.event_follow.specs.steps.Draining.{DrainedAll, HasDrained}
use Rattle.event_follow.specs.steps.Following.{AnyMore, AreAlong, HaveFollowed, HaveStopped, IsAmid, NoneMore, OneMore, Traced}
use Rattle.event_follow.specs.steps.Joining.{HasJoined}
use Rattle.event_follow.specs.steps.Places.{HasCome, IsOf, due_in, has_next, planned}
use Rattle.event_follow.specs.steps.Turning.{DidAny, DidNext, DidNothing}
use Rattle.event_follow.proofs.Running.{few_of, legal_of}
use Rattle.event_follow.proofs.Turning.{no_line, reply_asks, some_line}

-- ## One event more

module _ (schema : Schema) (script : Script) (after_joins middle : List Event) (before after : Machine) (places : List Place)
    (amid : IsAmid schema script after_joins middle before places) (s : SeqId) (within : s.0 < script.seqs) (later : Place) where
  -- the wire of the schema
  abbrev wire : Wire
  wire = wire_of schema

  -- what a sequence has done and has to do, where one's place changed
  each_then : (own : SeqId → List Event) → HasCome schema script after_joins s (own s) later
      → ((t : SeqId) → (s.0 == t.0) ≡ false → own t ≡ own_of t middle) → (t : SeqId) (place : Place)
      → slice_get (set places s.0 later) t.0 ≡ Some place → HasCome schema script after_joins t (own t) place
  each_then own come others t place at = go (s.0 == t.0) refl
    where
      go : (b : Bool) → (s.0 == t.0) ≡ b → HasCome schema script after_joins t (own t) place
      go true e =
          let who : s ≡ t = same_seq s t e in
          let same : later ≡ place =
          set_here later places s.0 place (subst (λ (q : SeqId). slice_get (set places s.0 later) q.0 ≡ Some place) (sym who) at) in
          subst (λ (q : SeqId). HasCome schema script after_joins q (own q) place) who
          (subst (λ (p : Place). HasCome schema script after_joins s (own s) p) same come)
      go false e =
          subst (λ (es : List Event). HasCome schema script after_joins t es place) (sym (others t e))
          (amid.each t place (sym (set_other later places s.0 t.0 e) ∙ at))

  -- each sequence asks what is next
  asks_then : (event : Event) → event.seq ≡ s → next_of wire script after_joins s (own_of s middle) ≡ Some event.asked → (t : SeqId) → t.0 < script.seqs
      → AsksNext (next_of wire script after_joins t) (own_of t (event ∷ middle))
  asks_then event mine asks t w = go (s.0 == t.0) refl
    where
      go : (b : Bool) → (s.0 == t.0) ≡ b → AsksNext (next_of wire script after_joins t) (own_of t (event ∷ middle))
      go true e =
          subst (λ (q : SeqId). AsksNext (next_of wire script after_joins q) (own_of q (event ∷ middle))) (same_seq s t e)
          (subst (AsksNext (next_of wire script after_joins s)) (sym (own_event s event middle mine)) (asks, amid.asks s within))
      go false e =
          subst (AsksNext (next_of wire script after_joins t)) (sym (other_event t event middle (ap (λ (q : SeqId). q.0 == t.0) mine ∙ e)))
          (amid.asks t w)

  amid_more : DidNext schema script after_joins s (own_of s middle) before after later
      → OneMore schema script after_joins middle after (set places s.0 later) s
  amid_more next =
      let event : Event = record { seq = s; asked = next.asked; told = next.did.told } in
      record {
        event = event;
        mine = refl;
        amid = record {
          is = next.did.is;
          joins = amid.joins;
          whole = next.did.past ∙ ap (λ (es : List Event). event ∷ es) amid.whole;
          asks = asks_then event refl next.asks;
          count = length-set places s.0 later ∙ amid.count;
          each =
              each_then (λ (t : SeqId). own_of t (event ∷ middle))
              (subst (λ (es : List Event). HasCome schema script after_joins s es later) (sym (own_event s event middle refl)) next.come)
              (λ t e. other_event t event middle e);
        };
      }

  amid_same : DidNothing schema script after_joins s (own_of s middle) before after later
      → NoneMore schema script after_joins middle after (set places s.0 later) s
  amid_same nothing = record {
    none = λ w. nothing.none;
    amid = record {
      is = subst (λ (m : Machine). IsOf schema script m) (sym nothing.same) amid.is;
      joins = amid.joins;
      whole = ap (λ (m : Machine). past_by m.tables) nothing.same ∙ amid.whole;
      asks = amid.asks;
      count = length-set places s.0 later ∙ amid.count;
      each = each_then (λ (t : SeqId). own_of t middle) nothing.come (λ t e. refl);
    };
  }

  -- whichever came
  pub any_more : (goes : Bool) → DidAny schema script after_joins s (own_of s middle) before after later goes
      → AnyMore schema script after_joins middle after (set places s.0 later) s goes
  any_more true next = amid_more next
  any_more false nothing = amid_same nothing

-- there are fewer events than 16,777,216
pub amid_few : (schema : Schema) (script : Script) → IsScript schema script → script.bytes ≤ MAX_FILE_BYTES → (after_joins middle : List Event)
    (machine : Machine) (places : List Place) → IsAmid schema script after_joins middle machine places
    → length machine.tables.log.events < MAX_EVENTS
amid_few schema script sound short after_joins middle machine places amid =
    few_of schema script machine amid.is sound short after_joins middle [] amid.whole amid.joins amid.asks tt

-- and so few behind joins
pub joined_few : (schema : Schema) (script : Script) → IsScript schema script → script.bytes ≤ MAX_FILE_BYTES → (n : ℕ) (machine : Machine)
    (places : List Place) → HasJoined schema script n machine places → length machine.tables.log.events < MAX_EVENTS
joined_few schema script sound short n machine places done =
    few_of schema script machine done.is sound short (past_by machine.tables) [] [] refl done.asks (λ s w. tt) tt

-- ## All events

-- before the first
pub amid_first : (schema : Schema) (script : Script) (machine : Machine) (places : List Place)
    → HasJoined schema script (length (joins_of script)) machine places → IsAmid schema script (past_by machine.tables) [] machine places
amid_first schema script machine places done = record {
  is = done.is;
  joins = done.asks;
  whole = refl;
  asks = λ s w. tt;
  count = done.size;
  each = λ s place at.
      let stood = done.each s place at in
      record {
        names = stood.names;
        named = stood.named;
        lines = stood.lines;
        done = stood.done;
        due = ap due_in stood.due;
      };
}

module _ (schema : Schema) (script : Script) (after_joins events : List Event) (machine : Machine) (places : List Place) where
  -- none was followed yet
  pub along_none : IsAmid schema script after_joins [] machine places → AreAlong schema script after_joins (take 0 events) machine places
  along_none amid = record { middle = []; amid = amid; along = refl }

  -- one more was
  pub along_more : (k : ℕ) (event : Event) → slice_get events k ≡ Some event → (middle : List Event)
      → map asker (reverse middle) ≡ map asker (take k events) → OneMore schema script after_joins middle machine places event.seq
      → AreAlong schema script after_joins (take (k + 1) events) machine places
  along_more k event here middle along one = record {
    middle = one.event ∷ middle;
    amid = one.amid;
    along =
        ap (map asker) (reverse-append (one.event ∷ []) middle)
        ∙ (map-append asker (reverse middle) (one.event ∷ [])
        ∙ (ap (λ (ss : List SeqId). ss ++ one.event.seq ∷ []) along
        ∙ (ap (λ (s : SeqId). map asker (take k events) ++ s ∷ []) one.mine
        ∙ sym (ap (map asker) (take_more events k event here) ∙ map-append asker (take k events) (event ∷ [])))));
  }

  -- how many were
  along_length : (k : ℕ) → k ≤ length events → (middle : List Event) → map asker (reverse middle) ≡ map asker (take k events) → length middle ≡ k
  along_length k within middle along =
      omega (
        arith,
        within,
        length-reverse middle,
        length-map (reverse middle) asker,
        ap length along,
        length-map (take k events) asker,
        length-take-le k events within,
      )

  -- nothing is next for the sequence of the next event
  pub stopped_at : (k : ℕ) → k < length events → (event : Event) → slice_get events k ≡ Some event → (middle : List Event)
      → map asker (reverse middle) ≡ map asker (take k events) → NoneMore schema script after_joins middle machine places event.seq
      → HaveStopped schema script after_joins events machine places
  stopped_at k within event here middle along none =
      let size : length middle ≡ k = along_length k (omega (arith, within)) middle along in
      record {
        middle = middle;
        amid = none.amid;
        along = along ∙ ap (λ (n : ℕ). map asker (take n events)) (sym size);
        stops = λ other at.
            let both : ◌≡◌ {A = Option Event} (Some event) (Some other) = sym here ∙ (ap (slice_get events) (sym size) ∙ at) in
            let same : event ≡ other = cc in
            subst (λ (e : Event). e.seq.0 < script.seqs → next_of (wire_of schema) script after_joins e.seq (own_of e.seq middle) ≡ None) same none.none;
      }

  -- all were followed
  pub stopped_all : (k : ℕ) → length events ≤ k → k ≤ length events → AreAlong schema script after_joins (take k events) machine places
      → HaveStopped schema script after_joins events machine places
  stopped_all k all within a =
      let size : length a.middle ≡ k = along_length k within a.middle a.along in
      record {
        middle = a.middle;
        amid = a.amid;
        along = a.along ∙ ap (λ (n : ℕ). map asker (take n events)) (sym size);
        stops = λ other at.
            let past : slice_get events (length a.middle) ≡ None = slice_get_past events (length a.middle) (omega (arith, all, size)) in
            absurd (let both : ◌≡◌ {A = Option Event} None (Some other) = sym past ∙ at in cc);
      }

-- ## Whether nothing is next

-- of one sequence, by its place
module _ (schema : Schema) (script : Script) (after_joins : List Event) (s : SeqId) (own : List Event) (place : Place)
    (come : HasCome schema script after_joins s own place) where
  -- the lines that are left
  size : length (planned place) ≡ length place.lines.items
  size = length-map place.lines.items (λ (l : Bor Line). l.now)

  come_over : has_next place ≡ false → next_of (wire_of schema) script after_joins s own ≡ None
  come_over h = go place.due refl h
    where
      go : (o : Option DueReply) → place.due ≡ o → (is_some o || nat_lt place.done (length place.lines.items)) ≡ false
          → next_of (wire_of schema) script after_joins s own ≡ None
      go (Some found) e f = absurd (true≢false f)
      go None e f =
          let most : length place.lines.items ≤ place.done = ltb-false place.done (length place.lines.items) f in
          let past : slice_get (planned place) place.done ≡ None = slice_get_past (planned place) place.done (omega (arith, most, size)) in
          no_line schema script after_joins s own place come e (sym past)

  come_more : has_next place ≡ true → next_of (wire_of schema) script after_joins s own ≡ None → ⊥
  come_more h none = go place.due refl h
    where
      go : (o : Option DueReply) → place.due ≡ o → (is_some o || nat_lt place.done (length place.lines.items)) ≡ true → ⊥
      go (Some found) e f =
          none_some (next_of (wire_of schema) script after_joins s own) (replied (found.responder, found.reply.now)) none
          (reply_asks schema script after_joins s own place come found e)
      go None e f =
          let less : place.done < length place.lines.items = ltb-true place.done (length place.lines.items) f in
          let line = there (planned place) place.done (omega (arith, less, size)) in
          none_some (next_of (wire_of schema) script after_joins s own) (asked_by (names_of (wire_of schema) script after_joins s own) line.0) none
          (some_line schema script after_joins s own place come e line.0 (sym line.1))

module _ (schema : Schema) (script : Script) (after_joins middle : List Event) (machine : Machine) (places : List Place)
    (amid : IsAmid schema script after_joins middle machine places) where
  tells_left : (n : ℕ) → n ≡ count_by has_next places → TellsDone schema script after_joins middle (n == 0)
  tells_left n is = go (n == 0) refl
    where
      kept : length (filter has_next places) ≡ n
      kept = length-filter has_next places ∙ sym is

      go : (b : Bool) → (n == 0) ≡ b → TellsDone schema script after_joins middle b
      go true e = λ s w.
          let place = there places s.0 (subst (λ (k : ℕ). s.0 < k) (sym amid.count) w) in
          come_over schema script after_joins s (own_of s middle) place.0 (amid.each s place.0 place.1)
          (none_passes has_next places s.0 place.0 (kept ∙ eqb-true n 0 e) place.1)
      go false e =
          let one = some_passes has_next places (λ over. false≢true (sym e ∙ eq-eqb n 0 (sym kept ∙ over))) in
          let short : one.at < length places = slice_get_within places one.at one.it one.here in
          let within : one.at < script.seqs = subst (λ (k : ℕ). one.at < k) amid.count short in
          let s : SeqId = record { 0 = one.at } in
          record {
            seq = s;
            there = within;
            left = come_more schema script after_joins s (own_of s middle) one.it (amid.each s one.it one.here) one.passes;
          }

-- the events were followed
pub followed_as : (schema : Schema) (script : Script) (after_joins events : List Event) (machine : Machine) (places : List Place)
    (stopped : HaveStopped schema script after_joins events machine places) (n : ℕ) → n ≡ count_by has_next places
    → HaveFollowed schema script after_joins events machine (n == 0)
followed_as schema script after_joins events machine places stopped n is = record {
  is = stopped.amid.is;
  joins = stopped.amid.joins;
  middle = stopped.middle;
  whole_is = stopped.amid.whole;
  asks = stopped.amid.asks;
  along = stopped.along;
  stops = stopped.stops;
  tells = tells_left schema script after_joins stopped.middle machine places stopped.amid n is;
}

-- ## The whole

module _ (schema : Schema) (script : Script) (events : List Event) (machine : Machine) where
  -- before the first take
  pub drained_first : Traced schema script events machine true → HasDrained schema script (past_by machine.tables) machine
  drained_first t =
      let f = t.followed in
      record {
        is = f.is;
        own = [];
        whole = refl;
        asks = tt;
        none =
            subst (λ (es : List Event). due (wire_of schema) script.autos es ≡ None) (sym f.whole_is)
            (none_last schema script t.after_joins f.middle
            (subst (λ (es : List Event). legal (wire_of schema) script.seqs es) f.whole_is (legal_of schema script machine f.is)) f.joins f.tells);
      }

  -- behind the last
  pub traced_whole : Traced schema script events machine true → (after : Machine) → DrainedAll schema script (past_by machine.tables) after
      → Follows schema script events after.tables.log.events true
  traced_whole t after all =
      let f = t.followed in
      record {
        legal = legal_of schema script after all.is;
        after_joins = t.after_joins;
        middle = f.middle;
        taken = all.part.own;
        past = all.part.whole ∙ ap (λ (es : List Event). all.part.own ++ es) f.whole_is;
        joins = t.joined;
        asks = f.asks;
        along = f.along;
        ends = record {
          lines = f.tells;
          takes = subst (λ (es : List Event). GoesOn (next_take (wire_of schema) script.autos es) all.part.own) f.whole_is all.part.asks;
          over = subst (λ (es : List Event). next_take (wire_of schema) script.autos es all.part.own ≡ None) f.whole_is all.part.over;
        };
      }

  -- a run that stopped before its end
  pub traced_part : Traced schema script events machine false → Follows schema script events machine.tables.log.events false
  traced_part t =
      let f = t.followed in
      record {
        legal = legal_of schema script machine f.is;
        after_joins = t.after_joins;
        middle = f.middle;
        taken = [];
        past = f.whole_is;
        joins = t.joined;
        asks = f.asks;
        along = f.along;
        ends = record { none = refl; seq = f.tells.seq; there = f.tells.there; left = f.tells.left; stops = f.stops };
      }
