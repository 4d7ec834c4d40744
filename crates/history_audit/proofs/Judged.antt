-- Events that begin a run, and those that don't.
use Rattle.std.proofs.Common.{◌≡◌, ◌≤◌, ◌<◌, ℕ, zero, suc, ◌+◌, List, [], ◌∷◌, ◌++◌, map, take, refl, sym, ap, ◌∙◌, subst, add-one}
use Rattle.std.proofs.lemmas.List.{reverse-append, reverse-reverse}
use Rattle.std.specs.Prelude.{Option, Some, None, reverse, slice_get}
use Rattle.mj_base.specs.declared.ids.SeqId.{SeqId}
use Rattle.mj_base.specs.declared.limits.TheConstants.{MAX_FILE_BYTES}
use Rattle.mj_schema.specs.declared.schema.Schema.{Schema}
use Rattle.bind_model.specs.declared.asked.Asked.{Asked}
use Rattle.bind_model.specs.declared.event.Event.{Event}
use Rattle.bind_model.specs.Replies.{answer, legal}
use Rattle.bind_model.specs.declared.told.Told.{Told}
use Rattle.bind_model.specs.WireOf.{wire_of}
use Rattle.call_script.specs.declared.script.Script.{Script}
use Rattle.call_script.specs.Sound.{IsScript}
use Rattle.history_reader.specs.Said.{said_event}
use Rattle.script_run.specs.OfScript.{PastInSomeOrder}
use Rattle.history_audit.specs.Audited.{BeginRun, SayRun}
use Rattle.history_audit.specs.steps.Judging.{Begins, IsOver, may_ask}
use Rattle.history_audit.proofs.Runs.{begins_run, begun_goes_on, front_begins, run_begins}
use Rattle.history_audit.proofs.One.{map_reverse, same_past}

module _ (schema : Schema) (script : Script) where
  -- a past that begins a run says these events
  pub record HasBegun (past events : List Event) : Type 0 where
    pub begins : Begins schema script past
    pub said : map said_event past ≡ reverse events

  pub none_begun : HasBegun [] []
  none_begun = record { begins = record { legal_so = tt; asks = tt }; said = refl }

  module _ (is : IsScript schema script) where
    one_past : (xs ys events : List Event) → HasBegun xs events → HasBegun ys events → xs ≡ ys
    one_past xs ys events one other =
        same_past schema script is xs ys one.begins.legal_so one.begins.asks other.begins.legal_so other.begins.asks (one.said ∙ sym other.said)

    -- a whole run, the newest event first
    whole_begun : (events history : List Event) → SayRun schema script events history → HasBegun (reverse history) events
    whole_begun events history whole = record {
      begins = record {
        legal_so = whole.0.legal;
        asks = (run_begins schema script is (reverse history) whole.0.legal whole.0.events).0;
      };
      said = map_reverse said_event history ∙ ap reverse whole.1;
    }

    pub is_whole : (past events : List Event) → HasBegun past events → IsOver schema script past → SayRun schema script events (reverse past)
    is_whole past events begun over =
        let back : past ≡ reverse (reverse past) = sym (reverse-reverse past) in (
          record {
            legal = subst (λ (es : List Event). legal (wire_of schema) script.seqs es) back begun.begins.legal_so;
            events = subst (λ (es : List Event). PastInSomeOrder schema script es) back (begins_run schema script past begun.begins.asks over);
          },
          map_reverse said_event past ∙ (ap reverse begun.said ∙ reverse-reverse events),
        )

    pub not_whole : (past events : List Event) → HasBegun past events → (IsOver schema script past → ⊥) → (history : List Event)
        → SayRun schema script events history → ⊥
    not_whole past events begun unended history whole =
        unended (subst (λ (es : List Event). IsOver schema script es) (one_past (reverse history) past events (whole_begun events history whole) begun)
        (run_begins schema script is (reverse history) whole.0.legal whole.0.events).1)

    pub begun_begins : script.bytes ≤ MAX_FILE_BYTES → (past events : List Event) → HasBegun past events → BeginRun schema script events
    begun_begins short past events begun =
        let goes = begun_goes_on schema script is short past begun.begins.legal_so begun.begins.asks in
        let back : goes.more ++ past ≡ reverse (reverse past ++ reverse goes.more) =
        ap (λ (es : List Event). es ++ past) (sym (reverse-reverse goes.more))
        ∙ (ap (λ (es : List Event). reverse (reverse goes.more) ++ es) (sym (reverse-reverse past))
        ∙ sym (reverse-append (reverse past) (reverse goes.more))) in
        record {
          history = reverse past;
          more = reverse goes.more;
          run = record {
            legal = subst (λ (es : List Event). legal (wire_of schema) script.seqs es) back goes.legal_on;
            events = subst (λ (es : List Event). PastInSomeOrder schema script es) back goes.run;
          };
          said = map_reverse said_event past ∙ (ap reverse begun.said ∙ reverse-reverse events);
        }

    legal_behind : (more past : List Event) → legal (wire_of schema) script.seqs (more ++ past) → legal (wire_of schema) script.seqs past
    legal_behind [] past h = h
    legal_behind (event ∷ more) past h = legal_behind more past h.2

    pub begins_begun : (events : List Event) (begin : BeginRun schema script events) → HasBegun (reverse begin.history) events
    begins_begun events begin =
        let turned : reverse (begin.history ++ begin.more) ≡ reverse begin.more ++ reverse begin.history = reverse-append begin.history begin.more in
        let h : legal (wire_of schema) script.seqs (reverse begin.more ++ reverse begin.history) =
        subst (λ (es : List Event). legal (wire_of schema) script.seqs es) turned begin.run.legal in
        record {
          begins = record {
            legal_so = legal_behind (reverse begin.more) (reverse begin.history) h;
            asks = front_begins schema script is (reverse begin.history) (record {
              more = reverse begin.more;
              legal_on = h;
              run = subst (λ (es : List Event). PastInSomeOrder schema script es) turned begin.run.events;
            });
          };
          said = map_reverse said_event begin.history ∙ ap reverse begin.said;
        }

    -- of a past that says one event more, the newest says that event, and the others the events before
    pub record Newest (past events : List Event) (event : Event) : Type 0 where
      pub newest : Event
      pub before : List Event
      pub whole : past ≡ newest ∷ before
      pub begun : HasBegun before events
      pub says : said_event newest ≡ event
      pub there : newest.seq.0 < script.seqs
      pub asks : may_ask schema script before newest.seq ≡ Some newest.asked
      pub told : newest.told ≡ answer (wire_of schema) script.seqs before newest.seq newest.asked

    newest_of : (past events : List Event) (event : Event) → HasBegun past (events ++ event ∷ []) → Newest past events event
    newest_of past events event begun = go past begun.begins (begun.said ∙ reverse-append events (event ∷ []))
      where
        go : (past : List Event) → Begins schema script past → map said_event past ≡ event ∷ reverse events → Newest past events event
        go [] begins e = absurd cc
        go (newest ∷ before) begins e =
            let head : said_event newest ≡ event = cc in
            let rest : map said_event before ≡ reverse events = cc in
            record {
              newest = newest;
              before = before;
              whole = refl;
              begun = record { begins = record { legal_so = begins.legal_so.2; asks = begins.asks.1 }; said = rest };
              says = head;
              there = begins.legal_so.0;
              asks = begins.asks.0;
              told = begins.legal_so.1;
            }

    -- where the sequence of an event that was read may ask nothing, or is told or asks something else, one more don't begin a run
    pub none_asked : (past events : List Event) (event : Event) → HasBegun past events
        → (event.seq.0 < script.seqs → may_ask schema script past event.seq ≡ None) → BeginRun schema script (events ++ event ∷ []) → ⊥
    none_asked past events event begun none begin =
        let new = newest_of (reverse begin.history) events event (begins_begun (events ++ event ∷ []) begin) in
        let same : new.before ≡ past = one_past new.before past events new.begun begun in
        let who : new.newest.seq ≡ event.seq = ap (λ (e : Event). e.seq) new.says in
        let nothing : may_ask schema script past event.seq ≡ None = none (subst (λ (s : SeqId). s.0 < script.seqs) who new.there) in
        let something : may_ask schema script past event.seq ≡ Some new.newest.asked =
        sym (ap (λ (es : List Event). may_ask schema script es new.newest.seq) same ∙ ap (λ (s : SeqId). may_ask schema script past s) who) ∙ new.asks in
        absurd (none_some (may_ask schema script past event.seq) new.newest.asked nothing something)
      where
        none_some : (o : Option Asked) (a : Asked) → o ≡ None → o ≡ Some a → ⊥
        none_some None a e f = absurd cc
        none_some (Some b) a e f = absurd cc

    -- so it doesn't where the event that comes says something else
    pub disagrees : (past events : List Event) (mine event : Event) → HasBegun past events → mine.seq ≡ event.seq
        → may_ask schema script past mine.seq ≡ Some mine.asked → mine.told ≡ answer (wire_of schema) script.seqs past mine.seq mine.asked
        → (said_event mine ≡ event → ⊥) → BeginRun schema script (events ++ event ∷ []) → ⊥
    disagrees past events mine event begun who asks told differs begin =
        let last = newest_of (reverse begin.history) events event (begins_begun (events ++ event ∷ []) begin) in
        let same : last.before ≡ past = one_past last.before past events last.begun begun in
        let seq : last.newest.seq ≡ mine.seq = ap (λ (e : Event). e.seq) last.says ∙ sym who in
        let both : ◌≡◌ {A = Option Asked} (Some last.newest.asked) (Some mine.asked) =
        sym last.asks ∙ (ap (λ (es : List Event). may_ask schema script es last.newest.seq) same
        ∙ (ap (λ (s : SeqId). may_ask schema script past s) seq ∙ asks)) in
        let asked : last.newest.asked ≡ mine.asked = cc in
        let answered : last.newest.told ≡ mine.told =
        last.told ∙ (ap (λ (es : List Event). answer (wire_of schema) script.seqs es last.newest.seq last.newest.asked) same
        ∙ (ap (λ (s : SeqId). answer (wire_of schema) script.seqs past s last.newest.asked) seq
        ∙ (ap (λ (a : Asked). answer (wire_of schema) script.seqs past mine.seq a) asked ∙ sym told))) in
        let is_mine : last.newest ≡ mine =
        ap {A = SeqId} {B = Event} (λ s. record { seq = s; asked = last.newest.asked; told = last.newest.told }) seq
        ∙ (ap {A = Asked} {B = Event} (λ a. record { seq = mine.seq; asked = a; told = last.newest.told }) asked
        ∙ ap {A = Told} {B = Event} (λ t. record { seq = mine.seq; asked = mine.asked; told = t }) answered) in
        differs (sym (ap said_event is_mine) ∙ last.says)

-- ## Lists

pub take_one : (events : List Event) (k : ℕ) (event : Event) → slice_get events k ≡ Some event → take (suc k) events ≡ take k events ++ event ∷ []
take_one [] k event e = absurd cc
take_one (x ∷ events) zero event e = let same : x ≡ event = cc in ap (λ (y : Event). y ∷ []) same
take_one (x ∷ events) (suc k) event e = ap (λ (es : List Event). x ∷ es) (take_one events k event e)

pub take_more : (events : List Event) (k : ℕ) (event : Event) → slice_get events k ≡ Some event → take (k + 1) events ≡ take k events ++ event ∷ []
take_more events k event e = ap (λ (n : ℕ). take n events) (add-one k) ∙ take_one events k event e
