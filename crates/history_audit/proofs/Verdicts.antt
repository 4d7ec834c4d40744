-- What is said of a text, by the run that follows it.
use Rattle.std.proofs.Common.{◌≡◌, ◌≤◌, ◌<◌, ℕ, zero, suc, ◌+◌, Bool, true, false, List, [], ◌∷◌, ◌++◌, ◌⊎◌, inl, inr, length, map, take, drop, refl, sym, ap, ◌∙◌, subst, arith, append_assoc, add-one}
use Rattle.std.proofs.lemmas.Bool.{ltb-false, ltb-true}
use Rattle.std.proofs.lemmas.List.{length-reverse, length-take-le, map-append, reverse-append, reverse-reverse, take-append-drop, take-take, take_all}
use Rattle.std.specs.Prelude.{Option, Some, None, Ok, nat_lt, reverse, slice_get}
use Rattle.std.specs.List.{flat_map}
use Rattle.mj_schema.specs.declared.schema.Schema.{Schema}
use Rattle.bind_model.specs.Replies.{legal}
use Rattle.bind_model.specs.WireOf.{wire_of}
use Rattle.bind_model.specs.declared.event.Event.{Event}
use Rattle.call_script.specs.declared.script.Script.{Script}
use Rattle.callback_laws.specs.Callbacks.{callbacks}
use Rattle.bind_model.specs.Left.{left}
use Rattle.history_reader.specs.Printable.{AreEvents}
use Rattle.history_reader.specs.Said.{said_event}
use Rattle.history_reader.specs.declared.printed.Printed.{Printed}
use Rattle.history_reader.proofs.RoundTrip.{own_text}
use Rattle.history_text.specs.History.{done_line, event_line, event_lines, left_line, note_line}
use Rattle.script_names.proofs.TableLemmas.{there}
use Rattle.script_run.specs.declared.tracing.Followed.{Followed}
use Rattle.history_audit.specs.Audited.{Audits, BeginRun, SayRun}
use Rattle.history_audit.specs.declared.auditing.AuditFinding.{AuditFinding}
use Rattle.history_audit.specs.declared.auditing.AuditFinding.TheVariants.{Short, Sound, Tail, Wrong}
use Rattle.history_audit.specs.steps.Judging.{Begins, IsOver, LeadsBy, LeadsOn, TellsOver, Trails, may_ask}
use Rattle.history_audit.specs.steps.Said.{Compares, IsAudited, SaysFirst}
use Rattle.history_audit.proofs.Judged.{HasBegun, begun_begins, disagrees, is_whole, none_asked, not_whole, take_more}
use Rattle.history_audit.proofs.Lines.{line_says, says_line}
use Rattle.history_audit.proofs.One.{map_reverse}
use Rattle.history_audit.proofs.Trails.{over_asks, trails}

-- ## Lines

append_same : (w p q : List ℕ) → w ++ p ≡ w ++ q → p ≡ q
append_same [] p q e = e
append_same (b ∷ w) p q e = let rest : w ++ p ≡ w ++ q = cc in append_same w p q rest

module _ (schema : Schema) where
  -- events of which each can be printed, numbered from k on, stay so where some of the last are left out
  front_can : (k : ℕ) (events more : List Event) → AreEvents schema k (events ++ more) → AreEvents schema k events
  front_can k [] more are = tt
  front_can k (event ∷ events) more are = (are.0, are.1, front_can (k + 1) events more are.2)

  lines_from : (k : ℕ) (events : List Event) → event_lines schema (suc k) events ≡ event_lines schema (k + 1) events
  lines_from k events = ap (λ (n : ℕ). event_lines schema n events) (sym (add-one k))

  -- two lists of lines of which each begins the same bytes say the same, as far as both go
  lines_agree : (k : ℕ) (mine events : List Event) → AreEvents schema k (map said_event mine) → AreEvents schema k events → (rest more : List ℕ)
      → event_lines schema k mine ++ rest ≡ event_lines schema k events ++ more → (m : ℕ) → m ≤ length mine → m ≤ length events
      → map said_event (take m mine) ≡ take m events
  lines_agree k mine events can others rest more e zero a b = refl
  lines_agree k [] events can others rest more e (suc m) a b = absurd (omega (arith, a))
  lines_agree k (x ∷ mine) [] can others rest more e (suc m) a b = absurd (omega (arith, b))
  lines_agree k (x ∷ mine) (y ∷ events) can others rest more e (suc m) a b =
      let whole : event_line schema k x ++ (event_lines schema (suc k) mine ++ rest) ≡ event_line schema k y ++ (event_lines schema (suc k) events ++ more) =
      sym (append_assoc (event_line schema k x) (event_lines schema (suc k) mine) rest)
      ∙ (e ∙ append_assoc (event_line schema k y) (event_lines schema (suc k) events) more) in
      let same : said_event x ≡ y =
      line_says schema k x y (can.0, can.1) (others.0, others.1) (event_lines schema (suc k) mine ++ rest) (event_lines schema (suc k) events ++ more)
      whole in
      let behind : event_lines schema (suc k) mine ++ rest ≡ event_lines schema (suc k) events ++ more =
      append_same (event_line schema k x) (event_lines schema (suc k) mine ++ rest) (event_lines schema (suc k) events ++ more)
      (whole ∙ ap (λ (l : List ℕ). l ++ (event_lines schema (suc k) events ++ more)) (sym (says_line schema k x y same))) in
      ap (λ (z : Event). z ∷ map said_event (take m mine)) same
      ∙ ap (λ (es : List Event). y ∷ es)
      (lines_agree (k + 1) mine events can.2 others.2 rest more
      (ap (λ (l : List ℕ). l ++ rest) (sym (lines_from k mine)) ∙ (behind ∙ ap (λ (l : List ℕ). l ++ more) (lines_from k events))) m
      (omega (arith, a)) (omega (arith, b)))

  -- what is behind the lines of events that say the same begins with the line of the next
  next_line : (k : ℕ) (mine events : List Event) (event : Event) (rest more : List ℕ) → map said_event mine ≡ take (length mine) events
      → slice_get events (length mine) ≡ Some event → event_lines schema k mine ++ rest ≡ event_lines schema k events ++ more
      → (behind : List ℕ) × (rest ≡ event_line schema (k + length mine) event ++ behind)
  next_line k [] [] event rest more said here e = absurd cc
  next_line k [] (y ∷ events) event rest more said here e =
      let same : y ≡ event = cc in
      let none : k ≡ k + 0 = omega arith in (
        event_lines schema (suc k) events ++ more,
        e ∙ (append_assoc (event_line schema k y) (event_lines schema (suc k) events) more
            ∙ (ap (λ (z : Event). event_line schema k z ++ (event_lines schema (suc k) events ++ more)) same
            ∙ ap (λ (n : ℕ). event_line schema n event ++ (event_lines schema (suc k) events ++ more)) none)),
      )
  next_line k (x ∷ mine) [] event rest more said here e = absurd cc
  next_line k (x ∷ mine) (y ∷ events) event rest more said here e =
      let same : said_event x ≡ y = cc in
      let others : map said_event mine ≡ take (length mine) events = cc in
      let whole : event_line schema k x ++ (event_lines schema (suc k) mine ++ rest) ≡ event_line schema k x ++ (event_lines schema (suc k) events ++ more) =
      sym (append_assoc (event_line schema k x) (event_lines schema (suc k) mine) rest)
      ∙ (e ∙ (append_assoc (event_line schema k y) (event_lines schema (suc k) events) more
      ∙ ap (λ (l : List ℕ). l ++ (event_lines schema (suc k) events ++ more)) (sym (says_line schema k x y same)))) in
      let behind : event_lines schema (suc k) mine ++ rest ≡ event_lines schema (suc k) events ++ more =
      append_same (event_line schema k x) (event_lines schema (suc k) mine ++ rest) (event_lines schema (suc k) events ++ more) whole in
      let found = next_line (suc k) mine events event rest more others here behind in
      let size : suc k + length mine ≡ k + suc (length mine) = omega arith in
      (found.0, found.1 ∙ ap (λ (n : ℕ). event_line schema n event ++ found.0) size)

-- ## Fronts of a run

-- what stands at a number, and what stands before it and behind it
record Around (history : List Event) (n : ℕ) : Type 0 where
  mine : Event
  here : slice_get history n ≡ Some mine
  whole : history ≡ take n history ++ (mine ∷ drop (suc n) history)

around : (history : List Event) (n : ℕ) → n < length history → Around history n
around [] n w = absurd (omega (arith, w))
around (x ∷ history) zero w = record { mine = x; here = refl; whole = refl }
around (x ∷ history) (suc n) w =
    let a = around history n (omega (arith, w)) in
    record { mine = a.mine; here = a.here; whole = ap (λ (es : List Event). x ∷ es) a.whole }

module _ (schema : Schema) (script : Script) where
  legal_behind : (more past : List Event) → legal (wire_of schema) script.seqs (more ++ past) → legal (wire_of schema) script.seqs past
  legal_behind [] past h = h
  legal_behind (event ∷ more) past h = legal_behind more past h.2

  begins_behind : (more past : List Event) → Begins schema script (more ++ past) → Begins schema script past
  begins_behind [] past begins = begins
  begins_behind (event ∷ more) past begins =
      begins_behind more past (record { legal_so = begins.legal_so.2; asks = begins.asks.1 })

  leads_behind : (events more past : List Event) → LeadsOn schema script events (more ++ past) → LeadsOn schema script events past
  leads_behind events [] past leads = leads
  leads_behind events (event ∷ more) past leads = leads_behind events more past leads.1

  -- the events of a run up to a number, the newest first, with those behind them
  turned : (history : List Event) (n : ℕ) → reverse history ≡ reverse (drop n history) ++ reverse (take n history)
  turned history n =
      ap reverse (sym (take-append-drop n history)) ∙ reverse-append (take n history) (drop n history)

  turned_around : (history : List Event) (n : ℕ) (a : Around history n)
      → reverse history ≡ reverse (drop (suc n) history) ++ (a.mine ∷ reverse (take n history))
  turned_around history n a =
      ap reverse a.whole
      ∙ (reverse-append (take n history) (a.mine ∷ drop (suc n) history)
      ∙ (ap (λ (es : List Event). es ++ reverse (take n history)) (reverse-append (a.mine ∷ []) (drop (suc n) history))
      ∙ append_assoc (reverse (drop (suc n) history)) (a.mine ∷ []) (reverse (take n history))))

none_some : {A : Type 0} (o : Option A) (x : A) → o ≡ None → o ≡ Some x → ⊥
none_some None x e f = absurd cc
none_some (Some y) x e f = absurd cc

-- a number that is at least another, and not the same, is above it
above : (a b : ℕ) → a ≤ b → (b ≡ a → ⊥) → a < b
above a b le other = go (nat_lt a b) refl
  where
    go : (t : Bool) → nat_lt a b ≡ t → a < b
    go true e = ltb-true a b e
    go false e = let most : b ≤ a = ltb-false a b e in absurd (other (omega (arith, le, most)))

-- ## The verdict

module _ (schema : Schema) (script : Script) (printed : Printed) (bytes : List ℕ) (count : ℕ) (followed : Followed)
    (audited : IsAudited schema script printed bytes count followed) (n : ℕ)
    (says : SaysFirst schema followed.ran.history.events bytes n) where
  -- the printed events, and those of the run
  abbrev events : List Event
  events = printed.events

  abbrev history : List Event
  history = followed.ran.history.events

  -- the run's events up to a number, the newest first
  abbrev past : ℕ → List Event
  past m = reverse (take m history)

  trail : Trails schema script events (reverse history) followed.whole
  trail = trails schema script events history followed.whole audited.follows

  begins_at : (m : ℕ) → Begins schema script (past m)
  begins_at m =
      begins_behind schema script (reverse (drop m history)) (past m)
      (subst (λ (es : List Event). Begins schema script es) (turned schema script history m) trail.begins)

  -- the events of both can be printed
  all_can : AreEvents schema 0 (map said_event history)
  all_can =
      let whole : HasBegun schema script (reverse history) (map said_event history) =
      record { begins = trail.begins; said = map_reverse said_event history } in
      let begin = begun_begins schema script audited.is audited.short (reverse history) (map said_event history) whole in
      let can : AreEvents schema 0 (map said_event (begin.history ++ begin.more)) = (audited.printable (begin.history ++ begin.more) begin.run).0 in
      subst (λ (es : List Event). AreEvents schema 0 es) begin.said
      (front_can schema 0 (map said_event begin.history) (map said_event begin.more)
      (subst (λ (es : List Event). AreEvents schema 0 es) (map-append said_event begin.history begin.more) can))

  mine_can : AreEvents schema 0 (map said_event (take n history))
  mine_can =
      front_can schema 0 (map said_event (take n history)) (map said_event (drop n history))
      (subst (λ (es : List Event). AreEvents schema 0 es)
      (ap (map said_event) (sym (take-append-drop n history)) ∙ map-append said_event (take n history) (drop n history)) all_can)

  -- what stands behind the printed events
  abbrev tail : List ℕ
  tail = flat_map note_line printed.notes ++ (flat_map left_line printed.left ++ done_line printed.count)

  -- the bytes begin with the lines of both
  lines : event_lines schema 0 (take n history) ++ says.rest ≡ event_lines schema 0 events ++ tail
  lines = sym says.front ∙ (own_text schema printed bytes audited.says).1

  agree : (m : ℕ) → m ≤ n → m ≤ length events → map said_event (take m history) ≡ take m events
  agree m a b =
      let long : m ≤ length (take n history) = omega (arith, a, length-take-le n history says.within) in
      ap (map said_event) (sym (take-take m n history a))
      ∙ lines_agree schema 0 (take n history) events mine_can (own_text schema printed bytes audited.says).0.0 says.rest tail lines m long b

  begun_at : (m : ℕ) → m ≤ n → m ≤ length events → HasBegun schema script (past m) (take m events)
  begun_at m a b = record { begins = begins_at m; said = map_reverse said_event (take m history) ∙ ap reverse (agree m a b) }

  past_all : (m : ℕ) → length history ≤ m → past m ≡ reverse history
  past_all m all = ap reverse (take_all m history all)

  past_size : (m : ℕ) → m ≤ length history → length (past m) ≡ m
  past_size m within = length-reverse (take m history) ∙ length-take-le m history within

  -- the event of a number, behind those before it
  begins_with : (m : ℕ) (a : Around history m) → Begins schema script (a.mine ∷ past m)
  begins_with m a =
      begins_behind schema script (reverse (drop (suc m) history)) (a.mine ∷ past m)
      (subst (λ (es : List Event). Begins schema script es) (turned_around schema script history m a) trail.begins)

  leads_with : (m : ℕ) (a : Around history m) → LeadsBy schema script events (past m) a.mine
  leads_with m a =
      (leads_behind schema script events (reverse (drop (suc m) history)) (a.mine ∷ past m)
      (subst (λ (es : List Event). LeadsOn schema script events es) (turned_around schema script history m a) trail.leads)).0

  -- ## An event with which no run begins

  module _ (less : n < length events) (event : Event) (here : slice_get events n ≡ Some event) where
    begun : HasBegun schema script (past n) (take n events)
    begun = begun_at n (omega arith) (omega (arith, less))

    -- the event that comes in the run says something else
    differs : (a : Around history n) → said_event a.mine ≡ event → ⊥
    differs a same =
        let size : length (take n history) ≡ n = length-take-le n history says.within in
        let said : map said_event (take n history) ≡ take (length (take n history)) events =
        agree n (omega arith) (omega (arith, less)) ∙ ap (λ (k : ℕ). take k events) (sym size) in
        let next = next_line schema 0 (take n history) events event says.rest tail said (ap (slice_get events) size ∙ here) lines in
        let number : 0 + length (take n history) ≡ n = omega (arith, size) in
        says.next a.mine a.here next.0
        (next.1
        ∙ (ap (λ (k : ℕ). event_line schema k event ++ next.0) number
        ∙ ap (λ (l : List ℕ). l ++ next.0) (sym (says_line schema n a.mine event same))))

    -- the run ends before it
    ended : length history ≤ n → BeginRun schema script (take n events ++ event ∷ []) → ⊥
    ended all begin =
        let size : length (reverse history) ≡ n = omega (arith, all, says.within, length-reverse history) in
        none_asked schema script audited.is (past n) (take n events) event begun
        (λ w. subst (λ (es : List Event). may_ask schema script es event.seq ≡ None) (sym (past_all n all))
        (trail.ends event (ap (slice_get events) size ∙ here) w)) begin

    -- it goes on otherwise
    otherwise : (a : Around history n) → BeginRun schema script (take n events ++ event ∷ []) → ⊥
    otherwise a begin = go (nat_lt event.seq.0 script.seqs) refl
      where
        by : (may_ask schema script (past n) event.seq ≡ None) ⊎ (a.mine.seq ≡ event.seq) → ⊥
        by (inl none) = none_asked schema script audited.is (past n) (take n events) event begun (λ w. none) begin
        by (inr same) =
            disagrees schema script audited.is (past n) (take n events) a.mine event begun same (begins_with n a).asks.0 (begins_with n a).legal_so.1
            (differs a) begin

        go : (b : Bool) → nat_lt event.seq.0 script.seqs ≡ b → ⊥
        go true e =
            by (leads_with n a event (ap (slice_get events) (past_size n says.within) ∙ here) (ltb-true event.seq.0 script.seqs e))
        go false e =
            none_asked schema script audited.is (past n) (take n events) event begun
            (λ w. absurd (omega (arith, w, ltb-false event.seq.0 script.seqs e))) begin

    no_more : BeginRun schema script (take (n + 1) events) → ⊥
    no_more begin = go (nat_lt n (length history)) refl
      where
        begin_one : BeginRun schema script (take n events ++ event ∷ [])
        begin_one = subst (λ (es : List Event). BeginRun schema script es) (take_more events n event here) begin

        go : (b : Bool) → nat_lt n (length history) ≡ b → ⊥
        go true e = otherwise (around history n (ltb-true n (length history) e)) begin_one
        go false e = ended (ltb-false n (length history) e) begin_one

  pub wrong_at : n < count → Audits schema script bytes (Ok (Wrong n))
  wrong_at few =
      let less : n < length events = omega (arith, few, audited.count_is) in
      let at = there events n less in
      record {
        printed = printed;
        says = audited.says;
        there = less;
        begin = begun_begins schema script audited.is audited.short (past n) (take n events) (begun less at.0 at.1);
        no_more = no_more less at.0 at.1;
      }

  -- ## Events that all begin a run

  module _ (most : count ≤ n) where
    all_begun : HasBegun schema script (past count) events
    all_begun =
        let all : length events ≤ count = omega (arith, audited.count_is) in
        subst (λ (es : List Event). HasBegun schema script (past count) es) (take_all count events all)
        (begun_at count most (omega (arith, audited.count_is)))

    -- where the run goes on, they aren't over
    goes_on : count < length history → IsOver schema script (past count) → ⊥
    goes_on less over =
        let a = around history count less in
        none_some (may_ask schema script (past count) a.mine.seq) a.mine.asked (over_asks schema script (past count) over a.mine.seq)
        (begins_with count a).asks.0

    short_by : (IsOver schema script (past count) → ⊥) → Audits schema script bytes (Ok (Short count))
    short_by unended = record {
      printed = printed;
      says = audited.says;
      count = audited.count_is;
      begin = begun_begins schema script audited.is audited.short (past count) events all_begun;
      not_whole = not_whole schema script audited.is (past count) events all_begun unended;
    }

    -- the run stopped before its end
    pub short_early : followed.whole ≡ false → Audits schema script bytes (Ok (Short count))
    short_early early = short_by (λ over. go (nat_lt count (length history)) refl over)
      where
        unended : IsOver schema script (reverse history) → ⊥
        unended = subst (λ (b : Bool). TellsOver schema script (reverse history) b) early trail.tells

        go : (b : Bool) → nat_lt count (length history) ≡ b → IsOver schema script (past count) → ⊥
        go true e over = goes_on (ltb-true count (length history) e) over
        go false e over =
            unended (subst (λ (es : List Event). IsOver schema script es) (past_all count (ltb-false count (length history) e)) over)

    -- it goes on behind them
    pub short_late : (length history ≡ count → ⊥) → Audits schema script bytes (Ok (Short count))
    short_late other = short_by (goes_on (above count (length history) (omega (arith, most, says.within)) other))

    -- it ends with them
    pub whole_at : followed.whole ≡ true → length history ≡ count → (audit : AuditFinding) → Compares schema script history bytes audit
        → Audits schema script bytes (Ok audit)
    whole_at whole size audit compares =
        let over : IsOver schema script (reverse history) =
        subst (λ (b : Bool). TellsOver schema script (reverse history) b) whole trail.tells in
        let all : length history ≤ count = omega (arith, size) in
        let begun : HasBegun schema script (reverse history) events =
        subst (λ (es : List Event). HasBegun schema script es events) (past_all count all) all_begun in
        let say : SayRun schema script events history =
        subst (λ (es : List Event). SayRun schema script events es) (reverse-reverse history)
        (is_whole schema script audited.is (reverse history) events begun over) in
        go audit compares say
      where
        go : (audit : AuditFinding) → Compares schema script history bytes audit → SayRun schema script events history
            → Audits schema script bytes (Ok audit)
        go (Sound k) same say = record { history = history; run = say.0; text = same.0; count = same.1 }
        go (Tail line) differs say = record {
          printed = printed;
          says = audited.says;
          history = history;
          whole = say;
          differs = differs.0;
          at = differs.1;
        }
        go (Wrong k) none say = absurd none
        go (Short k) none say = absurd none

    -- what became of the callbacks of a whole run, and what it leaves
    pub compares_at : (audit : AuditFinding) → followed.whole ≡ true → ((other : Script) → followed.ran.left ≡ left other.seqs (reverse history)
        → followed.ran.notes ≡ callbacks other.seqs history → Compares schema other history bytes audit) → Compares schema script history bytes audit
    compares_at audit whole compares = compares script audited.left_is (audited.notes_are whole)
