-- One of the five answers fits every text.
use Rattle.std.proofs.Common.{◌≡◌, ◌≤◌, ◌<◌, ℕ, suc, ◌+◌, Bool, true, false, List, [], ◌∷◌, ◌++◌, ◌⊎◌, inl, inr, length, map, take, refl, sym, ap, ◌∙◌, subst, arith}
use Rattle.std.proofs.Common.{append_assoc}
use Rattle.std.proofs.lemmas.Bool.{eq-eqb, eqb-true, ltb-false, ltb-true, true≢false}
use Rattle.std.proofs.lemmas.List.{append-nil, length-append, map-append, reverse-append}
use Rattle.std.specs.Prelude.{◌==◌, Option, Some, None, Result, Ok, Err, nat_lt, reverse, slice_get}
use Rattle.mj_base.specs.declared.limits.TheConstants.{MAX_FILE_BYTES}
use Rattle.mj_schema.specs.declared.schema.Schema.{Schema}
use Rattle.bind_model.specs.Replies.{answer}
use Rattle.bind_model.specs.WireOf.{wire_of}
use Rattle.bind_model.specs.declared.asked.Asked.{Asked}
use Rattle.bind_model.specs.declared.event.Event.{Event}
use Rattle.byte_rules.specs.Judged.{Spells}
use Rattle.byte_rules.specs.steps.Reading.{Judges}
use Rattle.byte_rules.specs.steps.Reading as reading
use Rattle.byte_rules.proofs.Judging.{judged}
use Rattle.call_script.specs.Sound.{IsScript}
use Rattle.call_script.specs.declared.script.Script.{Script}
use Rattle.history_reader.specs.Printable.{AreEvents}
use Rattle.history_reader.specs.Said.{said_event}
use Rattle.history_reader.specs.Whole.{history as history_rule}
use Rattle.history_reader.specs.declared.printed.Printed.{Printed}
use Rattle.history_reader.proofs.RoundTrip.{own_text}
use Rattle.history_reader.proofs.WholeLaws.{good_history}
use Rattle.history_reader.proofs.WholeTexts.{Numbered}
use Rattle.history_text.specs.History.{event_line}
use Rattle.printed_histories.specs.Runs.{run_text}
use Rattle.script_run.specs.OfScript.{Next, next_join, next_of, next_take}
use Rattle.history_audit.specs.Audited.{ArePrintable, Audits, BeginRun, SayRun, first_differing}
use Rattle.history_audit.specs.declared.auditing.AuditFinding.{AuditFinding}
use Rattle.history_audit.specs.declared.auditing.AuditFinding.TheVariants.{Sound, Wrong, Short, Tail}
use Rattle.history_audit.specs.declared.auditing.AuditError.TheVariants.{BadText}
use Rattle.history_audit.specs.steps.Begun.{Parts, is_left}
use Rattle.history_audit.specs.steps.Judging.{IsOver, at, may_ask}
use Rattle.history_audit.proofs.Judged.{HasBegun, begun_begins, disagrees, is_whole, none_asked, none_begun, not_whole, take_more}
use Rattle.history_audit.proofs.Lines.{line_says, says_line}

-- ## Lists

none_more : (y : ℕ) (ys : List ℕ) → [] ≡ y ∷ ys → ⊥
none_more y ys e = absurd cc

more_none : (x : ℕ) (xs : List ℕ) → x ∷ xs ≡ [] → ⊥
more_none x xs e = absurd cc

first_same : (x y : ℕ) (xs ys : List ℕ) → x ∷ xs ≡ y ∷ ys → x ≡ y
first_same x y xs ys e = cc

rest_same : (x y : ℕ) (xs ys : List ℕ) → x ∷ xs ≡ y ∷ ys → xs ≡ ys
rest_same x y xs ys e = cc

-- two lists are the same or not
same_list : (xs ys : List ℕ) → (xs ≡ ys) ⊎ (xs ≡ ys → ⊥)
same_list [] [] = inl refl
same_list [] (y ∷ ys) = inr (none_more y ys)
same_list (x ∷ xs) [] = inr (more_none x xs)
same_list (x ∷ xs) (y ∷ ys) = go (x == y) refl (same_list xs ys)
  where
    go : (b : Bool) → (x == y) ≡ b → (xs ≡ ys) ⊎ (xs ≡ ys → ⊥) → (x ∷ xs ≡ y ∷ ys) ⊎ (x ∷ xs ≡ y ∷ ys → ⊥)
    go true e (inl same) = inl (ap (λ (z : ℕ). z ∷ xs) (eqb-true x y e) ∙ ap (λ (zs : List ℕ). y ∷ zs) same)
    go true e (inr other) = inr (λ f. other (rest_same x y xs ys f))
    go false e rest = inr (λ f. true≢false (sym (eq-eqb x y (first_same x y xs ys f)) ∙ e))

some_or_none : {A : Type 0} (o : Option A) → ((x : A) × (o ≡ Some x)) ⊎ (o ≡ None)
some_or_none None = inr refl
some_or_none (Some x) = inl (x, refl)

not_both : {A : Type 0} (o : Option A) (x : A) → o ≡ Some x → o ≡ None → ⊥
not_both None x e f = absurd cc
not_both (Some y) x e f = absurd cc

-- the next of a list
next_at : (done rest : List Event) (event : Event) → slice_get (done ++ event ∷ rest) (length done) ≡ Some event
next_at [] rest event = refl
next_at (x ∷ done) rest event = next_at done rest event

front_at : (done rest : List Event) → take (length done) (done ++ rest) ≡ done
front_at [] rest = refl
front_at (x ∷ done) rest = ap (λ (es : List Event). x ∷ es) (front_at done rest)

-- of events that can be printed each can be at its number
can_at : (schema : Schema) (k : ℕ) (xs more : List Event) (event : Event) → AreEvents schema k (xs ++ event ∷ more)
    → Numbered schema (k + length xs) event
can_at schema k [] more event are = let e : k ≡ k + 0 = omega arith in subst (λ (n : ℕ). Numbered schema n event) e (are.0, are.1)
can_at schema k (x ∷ xs) more event are =
    let e : k + 1 + length xs ≡ k + suc (length xs) = omega arith in
    subst (λ (n : ℕ). Numbered schema n event) e (can_at schema (k + 1) xs more event are.2)

can_here : (schema : Schema) (xs more : List Event) (event : Event) → AreEvents schema 0 (xs ++ event ∷ more) → Numbered schema (length xs) event
can_here schema xs more event are =
    let e : 0 + length xs ≡ length xs = omega arith in
    subst (λ (n : ℕ). Numbered schema n event) e (can_at schema 0 xs more event are)

module _ (schema : Schema) (script : Script) (is : IsScript schema script) (short : script.bytes ≤ MAX_FILE_BYTES)
    (printable : ArePrintable schema script) (bytes : List ℕ) where
  -- ## Where a run is over

  abbrev parts_at : List Event → Parts
  parts_at past = at schema script past

  over_or_not : (past : List Event) → IsOver schema script past ⊎ (IsOver schema script past → ⊥)
  over_or_not past =
      by_join (some_or_none (next_join script (parts_at past).joins))
    where
      left : Bool
      left = is_left script.seqs (λ own. next_join script own) (λ aj s own. next_of (wire_of schema) script aj s own)
          (λ before own. next_take (wire_of schema) script.autos before own) (parts_at past)

      drain : Option Next
      drain = next_take (wire_of schema) script.autos ((parts_at past).middle ++ (parts_at past).joins) (parts_at past).taken

      by_drain : next_join script (parts_at past).joins ≡ None → left ≡ false → ((x : Next) × (drain ≡ Some x)) ⊎ (drain ≡ None)
          → IsOver schema script past ⊎ (IsOver schema script past → ⊥)
      by_drain none done (inl some) = inr (λ over. not_both drain some.0 some.1 over.drained)
      by_drain none done (inr over) = inl (record { joined = none; done = done; drained = over })

      by_left : next_join script (parts_at past).joins ≡ None → (b : Bool) → left ≡ b → IsOver schema script past ⊎ (IsOver schema script past → ⊥)
      by_left none true e = inr (λ over. true≢false (sym e ∙ over.done))
      by_left none false e = by_drain none e (some_or_none drain)

      by_join : ((x : Next) × (next_join script (parts_at past).joins ≡ Some x)) ⊎ (next_join script (parts_at past).joins ≡ None)
          → IsOver schema script past ⊎ (IsOver schema script past → ⊥)
      by_join (inl some) = inr (λ over. not_both (next_join script (parts_at past).joins) some.0 some.1 over.joined)
      by_join (inr none) = by_left none left refl

  -- ## What begins a run can be printed

  past_can : (past events : List Event) → HasBegun schema script past events → (more : List Event) × AreEvents schema 0 (events ++ more)
  past_can past events begun =
      let begin = begun_begins schema script is short past events begun in
      let can : AreEvents schema 0 (map said_event (begin.history ++ begin.more)) = (printable (begin.history ++ begin.more) begin.run).0 in (
        map said_event begin.more,
        subst (λ (es : List Event). AreEvents schema 0 es)
            (map-append said_event begin.history begin.more ∙ ap (λ (es : List Event). es ++ map said_event begin.more) begin.said) can,
      )

  module _ (printed : Printed) (says : Spells (history_rule schema) printed bytes) where
    -- the event that comes behind a past says what is printed, or one more don't begin a run
    abbrev mine_of : List Event → Event → Asked → Event
    mine_of past event asked = record { seq = event.seq; asked = asked; told = answer (wire_of schema) script.seqs past event.seq asked }

    mine_begins : (past done : List Event) (event : Event) (asked : Asked) → HasBegun schema script past done → event.seq.0 < script.seqs
        → may_ask schema script past event.seq ≡ Some asked
        → HasBegun schema script (mine_of past event asked ∷ past) (done ++ said_event (mine_of past event asked) ∷ [])
    mine_begins past done event asked begun there asks = record {
      begins = record { legal_so = (there, refl, begun.begins.legal_so); asks = (asks, begun.begins.asks) };
      said = ap (λ (es : List Event). said_event (mine_of past event asked) ∷ es) begun.said
          ∙ sym (reverse-append done (said_event (mine_of past event asked) ∷ []));
    }

    -- whether they say the same
    agree : (past done rest : List Event) (event : Event) (asked : Asked) → printed.events ≡ done ++ event ∷ rest → HasBegun schema script past done
        → event.seq.0 < script.seqs → may_ask schema script past event.seq ≡ Some asked
        → (said_event (mine_of past event asked) ≡ event) ⊎ (said_event (mine_of past event asked) ≡ event → ⊥)
    agree past done rest event asked whole begun there asks =
        go (same_list (event_line schema (length done) mine) (event_line schema (length done) event))
      where
        mine : Event
        mine = mine_of past event asked

        mine_can : Numbered schema (length done) (said_event mine)
        mine_can =
            let can = past_can (mine ∷ past) (done ++ said_event mine ∷ []) (mine_begins past done event asked begun there asks) in
            can_here schema done can.0 (said_event mine)
            (subst (λ (es : List Event). AreEvents schema 0 es) (append_assoc done (said_event mine ∷ []) can.0) can.1)

        its_can : Numbered schema (length done) event
        its_can = can_here schema done rest event (subst (λ (es : List Event). AreEvents schema 0 es) whole (own_text schema printed bytes says).0.0)

        go : (event_line schema (length done) mine ≡ event_line schema (length done) event)
            ⊎ (event_line schema (length done) mine ≡ event_line schema (length done) event → ⊥)
            → (said_event mine ≡ event) ⊎ (said_event mine ≡ event → ⊥)
        go (inl same) =
            inl (line_says schema (length done) mine event mine_can its_can [] []
            (append-nil (event_line schema (length done) mine) ∙ same ∙ sym (append-nil (event_line schema (length done) event))))
        go (inr other) = inr (λ e. other (says_line schema (length done) mine event e))

    -- ## The walk

    abbrev Answer : Type 0
    Answer = (audit : AuditFinding) × Audits schema script bytes (Ok audit)

    -- all events begin a run
    ended : (past : List Event) → HasBegun schema script past printed.events → Answer
    ended past begun = by_over (over_or_not past)
      where
        by_text : SayRun schema script printed.events (reverse past)
            → (bytes ≡ run_text schema script.seqs (reverse past)) ⊎ (bytes ≡ run_text schema script.seqs (reverse past) → ⊥) → Answer
        by_text whole (inl same) =
            (Sound (length (reverse past)), record { history = reverse past; run = whole.0; text = same; count = refl })
        by_text whole (inr other) = (
          Tail (first_differing 1 bytes (run_text schema script.seqs (reverse past))),
          record { printed = printed; says = says; history = reverse past; whole = whole; differs = other; at = refl },
        )

        by_over : IsOver schema script past ⊎ (IsOver schema script past → ⊥) → Answer
        by_over (inl over) =
            by_text (is_whole schema script is past printed.events begun over) (same_list bytes (run_text schema script.seqs (reverse past)))
        by_over (inr unended) = (
          Short (length printed.events),
          record {
            printed = printed;
            says = says;
            count = refl;
            begin = begun_begins schema script is short past printed.events begun;
            not_whole = λ history whole. not_whole schema script is past printed.events begun unended history whole;
          },
        )

    -- the next doesn't
    stopped : (past done rest : List Event) (event : Event) → printed.events ≡ done ++ event ∷ rest → HasBegun schema script past done
        → (BeginRun schema script (done ++ event ∷ []) → ⊥) → Answer
    stopped past done rest event whole begun no_more = (
      Wrong (length done),
      record {
        printed = printed;
        says = says;
        there = let size = ap length whole ∙ length-append done (event ∷ rest) in omega (arith, size);
        begin = subst (λ (es : List Event). BeginRun schema script es)
            (sym (ap (take (length done)) whole ∙ front_at done (event ∷ rest))) (begun_begins schema script is short past done begun);
        no_more = λ begin. no_more (subst (λ (es : List Event). BeginRun schema script es) one_more begin);
      },
    )
      where
        here : slice_get printed.events (length done) ≡ Some event
        here = ap (λ (es : List Event). slice_get es (length done)) whole ∙ next_at done rest event

        one_more : take (length done + 1) printed.events ≡ done ++ event ∷ []
        one_more =
            take_more printed.events (length done) event here
            ∙ ap (λ (es : List Event). es ++ event ∷ []) (ap (take (length done)) whole ∙ front_at done (event ∷ rest))

    walk : (past done rest : List Event) → printed.events ≡ done ++ rest → HasBegun schema script past done → Answer
    walk past done [] whole begun =
        ended past (subst (λ (es : List Event). HasBegun schema script past es) (sym (whole ∙ append-nil done)) begun)
    walk past done (event ∷ rest) whole begun =
        by_seq (nat_lt event.seq.0 script.seqs) refl
        (λ mine on. walk (mine ∷ past) (done ++ event ∷ []) rest (whole ∙ sym (append_assoc done (event ∷ []) rest)) on)
      where
        Goes : Type 0
        Goes = (mine : Event) → HasBegun schema script (mine ∷ past) (done ++ event ∷ []) → Answer

        by_saying : (asked : Asked) → event.seq.0 < script.seqs → may_ask schema script past event.seq ≡ Some asked → Goes
            → (said_event (mine_of past event asked) ≡ event) ⊎ (said_event (mine_of past event asked) ≡ event → ⊥) → Answer
        by_saying asked there asks goes (inl same) =
            goes (mine_of past event asked)
            (subst (λ (e : Event). HasBegun schema script (mine_of past event asked ∷ past) (done ++ e ∷ [])) same
            (mine_begins past done event asked begun there asks))
        by_saying asked there asks goes (inr other) =
            stopped past done rest event whole begun
            (disagrees schema script is past done (mine_of past event asked) event begun refl asks refl other)

        by_asking : event.seq.0 < script.seqs → Goes
            → ((asked : Asked) × (may_ask schema script past event.seq ≡ Some asked)) ⊎ (may_ask schema script past event.seq ≡ None) → Answer
        by_asking there goes (inl some) =
            by_saying some.0 there some.1 goes (agree past done rest event some.0 whole begun there some.1)
        by_asking there goes (inr none) =
            stopped past done rest event whole begun (none_asked schema script is past done event begun (λ there. none))

        by_seq : (b : Bool) → nat_lt event.seq.0 script.seqs ≡ b → Goes → Answer
        by_seq true e goes = by_asking (ltb-true event.seq.0 script.seqs e) goes (some_or_none (may_ask schema script past event.seq))
        by_seq false e goes =
            stopped past done rest event whole begun
            (none_asked schema script is past done event begun
            (λ there. absurd (let most = ltb-false event.seq.0 script.seqs e in omega (arith, there, most))))

  -- a text is bad, or one of the others fits
  pub some_audit : ((audit : AuditFinding) × Audits schema script bytes (Ok audit)) ⊎ ((at : ℕ) × Audits schema script bytes (Err (BadText at)))
  some_audit = go (reading.verdict (length bytes) ((history_rule schema).read bytes)) (judged (history_rule schema) (good_history schema) bytes)
    where
      go : (r : Result Printed ℕ) → Judges (history_rule schema) bytes r
          → ((audit : AuditFinding) × Audits schema script bytes (Ok audit)) ⊎ ((at : ℕ) × Audits schema script bytes (Err (BadText at)))
      go (Ok printed) says = inl (walk printed says [] [] printed.events refl (none_begun schema script))
      go (Err at) bad = inr (at, bad)
