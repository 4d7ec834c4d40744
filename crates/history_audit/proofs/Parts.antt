-- Events that begin a run fall into its parts; a run's parts begin it; and what begins a run goes on to a whole one.
use Rattle.std.proofs.Common.{◌≡◌, ◌≤◌, ◌<◌, ℕ, zero, suc, ◌+◌, Bool, true, false, List, [], ◌∷◌, ◌++◌, ◌⊎◌, inl, inr, length, refl, sym, ap, ◌∙◌, subst, arith, append_assoc}
use Rattle.std.proofs.lemmas.Bool.{eq-eqb, eqb-true}
use Rattle.std.proofs.lemmas.Bool.Decides.{nat_tests}
use Rattle.std.specs.Prelude.{◌==◌, ◌||◌, filter, Option, Some, None, is_some, if◌then◌else◌}
use Rattle.mj_base.specs.declared.ids.SeqId.{SeqId}
use Rattle.bind_model.specs.declared.asked.Asked.{Asked}
use Rattle.bind_model.specs.declared.event.Event.{Event}
use Rattle.bind_model.specs.Replies.{answer, legal}
use Rattle.bind_model.specs.Seen.{own_of}
use Rattle.bind_model.specs.Wire.{Wire}
use Rattle.script_run.specs.OfScript.{AsksNext, GoesOn, Next}
use Rattle.history_audit.specs.steps.Begun.{AsksNoMore, AsksOn, Parts, any_below, asks_by, is_left, next_at, next_in, parts, put, put_at, seq_at}

-- ## Numbers below one

pub any_here : (p : ℕ → Bool) (n k : ℕ) → k < n → p k ≡ true → any_below p n ≡ true
any_here p zero k lt e = absurd (omega (arith, lt))
any_here p (suc n) k lt e = go (k == n) refl (p n) refl (λ less. any_here p n k less e)
  where
    go : (same : Bool) → (k == n) ≡ same → (b : Bool) → p n ≡ b → (k < n → any_below p n ≡ true) → b || any_below p n ≡ true
    go same f true g rest = refl
    go true f false g rest =
        let is : k ≡ n = eqb-true k n f in
        let both : p n ≡ true = ap p (sym is) ∙ e in
        absurd cc
    go false f false g rest = let less : k < n = grind (arith, nat_tests) in rest less

any_none : (p : ℕ → Bool) (n k : ℕ) → any_below p n ≡ false → k < n → p k ≡ false
any_none p n k none lt = go (p k) refl
  where
    go : (b : Bool) → p k ≡ b → b ≡ false
    go false e = refl
    go true e = let some : any_below p n ≡ true = any_here p n k lt e in absurd cc

-- a number below that passes
pub record IsAt (p : ℕ → Bool) (n : ℕ) : Type 0 where
  pub at : ℕ
  pub below : at < n
  pub passes : p at ≡ true

any_at : (p : ℕ → Bool) (n : ℕ) → any_below p n ≡ true → IsAt p n
any_at p zero e = absurd cc
any_at p (suc n) e = go (p n) refl e (λ h. any_at p n h)
  where
    go : (b : Bool) → p n ≡ b → b || any_below p n ≡ true → (any_below p n ≡ true → IsAt p n) → IsAt p (suc n)
    go true f h rest = record { at = n; below = omega arith; passes = f }
    go false f h rest =
        let there = rest h in
        record { at = there.at; below = omega (arith, there.below); passes = there.passes }

none_of : {A : Type 0} (o : Option A) → is_some o ≡ false → o ≡ None
none_of None e = refl
none_of (Some x) e = absurd cc

-- what is there
pub record Is {A : Type 0} (o : Option A) : Type 0 where
  pub it : A
  pub is : o ≡ Some it

some_of : {A : Type 0} (o : Option A) → is_some o ≡ true → Is o
some_of None e = absurd cc
some_of (Some x) e = record { it = x; is = refl }

-- ## Whose turn it is

pub seq_is : (s t : SeqId) → (s.0 == t.0) ≡ true → s ≡ t
seq_is s t e = ap (λ (n : ℕ). record { 0 = n }) (eqb-true s.0 t.0 e)

asks_is : (next : Option Next) (s : SeqId) (a : Asked) → asks_by next s ≡ Some a → next ≡ Some (s, a)
asks_is None s a e = absurd cc
asks_is (Some (t, b)) s a e = go (t.0 == s.0) refl e
  where
    go : (same : Bool) → (t.0 == s.0) ≡ same → (if same then Some b else None) ≡ Some a → ◌≡◌ {A = Option Next} (Some (t, b)) (Some (s, a))
    go false f h = absurd cc
    go true f h =
        let who : t ≡ s = seq_is t s f in
        let what : b ≡ a = cc in
        ap (λ (u : SeqId). Some (u, b)) who ∙ ap (λ (c : Asked). Some (s, c)) what

is_asks : (next : Option Next) (s : SeqId) (a : Asked) → next ≡ Some (s, a) → asks_by next s ≡ Some a
is_asks next s a e = ap (λ (o : Option Next). asks_by o s) e ∙ ap (λ (b : Bool). if b then Some a else None) (eq-eqb s.0 s.0 refl)

module _ (wire : Wire) (seqs : ℕ) (join : List Event → Option Next) (line : List Event → SeqId → List Event → Option Asked)
    (drain : List Event → List Event → Option Next) where
  abbrev left : Parts → Bool
  left p = is_left seqs join line drain p

  abbrev next : Parts → SeqId → Option Asked
  next p s = next_in seqs join line drain p s

  abbrev of : List Event → Parts
  of past = parts seqs join line drain past

  abbrev Asking : List Event → Type 0
  Asking past = AsksOn seqs join line drain past

  abbrev Over : Parts → Type 0
  Over p = AsksNoMore seqs join line drain p

  -- ## What begins a run falls into parts

  pub record Fall (past : List Event) (p : Parts) : Type 0 where
    pub whole : past ≡ p.taken ++ (p.middle ++ p.joins)
    pub joins : GoesOn join p.joins
    pub lines : (s : SeqId) → s.0 < seqs → AsksNext (line p.joins s) (own_of s p.middle)
    pub takes : GoesOn (drain (p.middle ++ p.joins)) p.taken
    pub no_middle : is_some (join p.joins) ≡ true → (p.middle ≡ []) × (p.taken ≡ [])
    pub no_taken : left p ≡ true → p.taken ≡ []

  fall_join : (event : Event) (past : List Event) (p : Parts) → is_some (join p.joins) ≡ true → Fall past p
      → asks_by (join p.joins) event.seq ≡ Some event.asked → Fall (event ∷ past) (record { joins = event ∷ p.joins; middle = []; taken = [] })
  fall_join event past p joining fall asks = record {
    whole =
        let empty = fall.no_middle joining in
        ap (λ (es : List Event). event ∷ es) (fall.whole
        ∙ (ap (λ (es : List Event). es ++ (p.middle ++ p.joins)) empty.1 ∙ ap (λ (es : List Event). es ++ p.joins) empty.0));
    joins = (asks_is (join p.joins) event.seq event.asked asks, fall.joins);
    lines = λ s lt. tt;
    takes = tt;
    no_middle = λ e. (refl, refl);
    no_taken = λ e. refl;
  }

  fall_line : (event : Event) (past : List Event) (p : Parts) → is_some (join p.joins) ≡ false → left p ≡ true → Fall past p
      → line p.joins event.seq (own_of event.seq p.middle) ≡ Some event.asked
      → Fall (event ∷ past) (record { joins = p.joins; middle = event ∷ p.middle; taken = [] })
  fall_line event past p joined working fall asks = record {
    whole = ap (λ (es : List Event). event ∷ es) (fall.whole ∙ ap (λ (es : List Event). es ++ (p.middle ++ p.joins)) (fall.no_taken working));
    joins = fall.joins;
    lines = λ s lt. more s (event.seq.0 == s.0) refl (fall.lines s lt);
    takes = tt;
    no_middle = λ e. absurd cc;
    no_taken = λ e. refl;
  }
    where
      more : (s : SeqId) (b : Bool) → (event.seq.0 == s.0) ≡ b → AsksNext (line p.joins s) (own_of s p.middle)
          → AsksNext (line p.joins s) (if b then event ∷ own_of s p.middle else own_of s p.middle)
      more s false e before = before
      more s true e before =
          let who : event.seq ≡ s = seq_is event.seq s e in
          (subst (λ (t : SeqId). line p.joins t (own_of t p.middle) ≡ Some event.asked) who asks, before)

  fall_take : (event : Event) (past : List Event) (p : Parts) → is_some (join p.joins) ≡ false → left p ≡ false → Fall past p
      → asks_by (drain (p.middle ++ p.joins) p.taken) event.seq ≡ Some event.asked
      → Fall (event ∷ past) (record { joins = p.joins; middle = p.middle; taken = event ∷ p.taken })
  fall_take event past p joined done fall asks = record {
    whole = ap (λ (es : List Event). event ∷ es) fall.whole;
    joins = fall.joins;
    lines = fall.lines;
    takes = (asks_is (drain (p.middle ++ p.joins) p.taken) event.seq event.asked asks, fall.takes);
    no_middle = λ e. absurd cc;
    no_taken = λ e. absurd cc;
  }

  fall_more : (event : Event) (past : List Event) (p : Parts) (joining working : Bool) → is_some (join p.joins) ≡ joining → left p ≡ working → Fall past p
      → next_at seqs join line drain joining working p event.seq ≡ Some event.asked
      → Fall (event ∷ past) (put_at seqs join line drain joining working event p)
  fall_more event past p true working e f fall asks = fall_join event past p e fall asks
  fall_more event past p false true e f fall asks = fall_line event past p e f fall asks
  fall_more event past p false false e f fall asks = fall_take event past p e f fall asks

  pub falls : (past : List Event) → Asking past → Fall past (of past)
  falls [] asks = record {
    whole = refl;
    joins = tt;
    lines = λ s lt. tt;
    takes = tt;
    no_middle = λ e. (refl, refl);
    no_taken = λ e. refl;
  }
  falls (event ∷ past) asks =
      fall_more event past (of past) (is_some (join (of past).joins)) (left (of past)) refl refl (falls past asks.1) asks.0

  -- ## The parts of a run begin it

  -- events that ask on, and fall into these parts
  pub record Goes (past : List Event) (p : Parts) : Type 0 where
    pub asks : Asking past
    pub are : of past ≡ p

  goes_more : (event : Event) (past : List Event) (p : Parts) (joining working : Bool) → is_some (join p.joins) ≡ joining → left p ≡ working
      → Goes past p → next_at seqs join line drain joining working p event.seq ≡ Some event.asked
      → Goes (event ∷ past) (put_at seqs join line drain joining working event p)
  goes_more event past p joining working e f goes asks =
      let here : next p event.seq ≡ Some event.asked =
      ap (λ (j : Bool). next_at seqs join line drain j (left p) p event.seq) e
      ∙ (ap (λ (w : Bool). next_at seqs join line drain joining w p event.seq) f ∙ asks) in
      record {
        asks = (ap (λ (q : Parts). next q event.seq) goes.are ∙ here, goes.asks);
        are =
            ap (λ (q : Parts). put seqs join line drain event q) goes.are
            ∙ (ap (λ (j : Bool). put_at seqs join line drain j (left p) event p) e
            ∙ ap (λ (w : Bool). put_at seqs join line drain joining w event p) f);
      }

  some_is : {A : Type 0} (o : Option A) (x : A) → o ≡ Some x → is_some o ≡ true
  some_is {A} o x e = ap (λ (p : Option A). is_some p) e

  pub joins_go : (joins : List Event) → GoesOn join joins → Goes joins (record { joins = joins; middle = []; taken = [] })
  joins_go [] goes = record { asks = tt; are = refl }
  joins_go (event ∷ joins) goes =
      let p : Parts = record { joins = joins; middle = []; taken = [] } in
      goes_more event joins p true (left p) (some_is (join joins) (event.seq, event.asked) goes.0) refl (joins_go joins goes.1)
      (is_asks (join joins) event.seq event.asked goes.0)

  -- each of these is of a sequence that is there
  abbrev pub AreThere : List Event → Type 0
  AreThere [] = Unit {0}
  AreThere (event ∷ past) = (event.seq.0 < seqs) × AreThere past

  pub there : (past more : List Event) → legal wire seqs (more ++ past) → AreThere more
  there past [] h = tt
  there past (event ∷ more) h = (h.0, there past more h.2)

  abbrev pub AsksAlong : List Event → List Event → Type 0
  AsksAlong joins middle = (s : SeqId) → s.0 < seqs → AsksNext (line joins s) (own_of s middle)

  along_before : (joins : List Event) (event : Event) (middle : List Event) → AsksAlong joins (event ∷ middle) → AsksAlong joins middle
  along_before joins event middle along s lt = go (event.seq.0 == s.0) (along s lt)
    where
      go : (b : Bool) → AsksNext (line joins s) (if b then event ∷ own_of s middle else own_of s middle) → AsksNext (line joins s) (own_of s middle)
      go true h = h.1
      go false h = h

  along_here : (joins : List Event) (event : Event) (middle : List Event) → event.seq.0 < seqs → AsksAlong joins (event ∷ middle)
      → line joins event.seq (own_of event.seq middle) ≡ Some event.asked
  along_here joins event middle lt along = go (event.seq.0 == event.seq.0) (eq-eqb event.seq.0 event.seq.0 refl) (along event.seq lt)
    where
      go : (b : Bool) → b ≡ true → AsksNext (line joins event.seq) (if b then event ∷ own_of event.seq middle else own_of event.seq middle)
          → line joins event.seq (own_of event.seq middle) ≡ Some event.asked
      go true e h = h.0
      go false e h = absurd cc

  pub lines_go : (joins middle : List Event) → GoesOn join joins → join joins ≡ None → AreThere middle → AsksAlong joins middle
      → Goes (middle ++ joins) (record { joins = joins; middle = middle; taken = [] })
  lines_go joins [] goes over are along = joins_go joins goes
  lines_go joins (event ∷ middle) goes over are along =
      let p : Parts = record { joins = joins; middle = middle; taken = [] } in
      let asks = along_here joins event middle are.0 along in
      goes_more event (middle ++ joins) p false true (ap (λ (o : Option Next). is_some o) over)
      (any_here (λ n. is_some (line joins (seq_at n) (own_of (seq_at n) middle))) seqs event.seq.0 are.0
      (some_is (line joins event.seq (own_of event.seq middle)) event.asked asks))
      (lines_go joins middle goes over are.1 (along_before joins event middle along)) asks

  pub takes_go : (joins middle taken : List Event) → join joins ≡ None → left (record { joins = joins; middle = middle; taken = [] }) ≡ false
      → Goes (middle ++ joins) (record { joins = joins; middle = middle; taken = [] }) → GoesOn (drain (middle ++ joins)) taken
      → Goes (taken ++ (middle ++ joins)) (record { joins = joins; middle = middle; taken = taken })
  takes_go joins middle [] over done goes takes = goes
  takes_go joins middle (event ∷ taken) over done goes takes =
      goes_more event (taken ++ (middle ++ joins)) (record { joins = joins; middle = middle; taken = taken }) false false
      (ap (λ (o : Option Next). is_some o) over) done (takes_go joins middle taken over done goes takes.1)
      (is_asks (drain (middle ++ joins) taken) event.seq event.asked takes.0)

  pub none_left : (joins middle : List Event) → ((s : SeqId) → s.0 < seqs → line joins s (own_of s middle) ≡ None)
      → left (record { joins = joins; middle = middle; taken = [] }) ≡ false
  none_left joins middle over = go (left (record { joins = joins; middle = middle; taken = [] })) refl
    where
      go : (b : Bool) → left (record { joins = joins; middle = middle; taken = [] }) ≡ b → b ≡ false
      go false e = refl
      go true e =
          let at = any_at (λ n. is_some (line joins (seq_at n) (own_of (seq_at n) middle))) seqs e in
          let none : line joins (seq_at at.at) (own_of (seq_at at.at) middle) ≡ None = over (seq_at at.at) at.below in
          let passes = at.passes in
          let fails = ap (λ (o : Option Asked). is_some o) none in
          absurd (cc)

  pub no_line : (p : Parts) → left p ≡ false → (s : SeqId) → s.0 < seqs → line p.joins s (own_of s p.middle) ≡ None
  no_line p done s lt =
      none_of (line p.joins s (own_of s p.middle)) (any_none (λ n. is_some (line p.joins (seq_at n) (own_of (seq_at n) p.middle))) seqs s.0 done lt)

  -- ## And goes on to a whole one

  -- events that a run goes on with to its end
  pub record Finish (past : List Event) : Type 0 where
    pub more : List Event
    pub legal_on : legal wire seqs (more ++ past)
    pub asks : Asking (more ++ past)
    pub over : Over (of (more ++ past))

  finish_more : (event : Event) (past : List Event) → Finish (event ∷ past) → Finish past
  finish_more event past finish =
      let same : finish.more ++ (event ∷ past) ≡ (finish.more ++ event ∷ []) ++ past = sym (append_assoc finish.more (event ∷ []) past) in
      record {
        more = finish.more ++ event ∷ [];
        legal_on = subst (λ (es : List Event). legal wire seqs es) same finish.legal_on;
        asks = subst (λ (es : List Event). Asking es) same finish.asks;
        over = subst (λ (es : List Event). Over (of es)) same finish.over;
      }

  -- either somebody that is there asks next, or nobody does
  pub record Asker (p : Parts) : Type 0 where
    pub seq : SeqId
    pub there : seq.0 < seqs
    pub asked : Asked
    pub asks : next p seq ≡ Some asked

  module _ (most : ℕ)
      (few : (past : List Event) → legal wire seqs past → Asking past → length past < most)
      (join_there : (past : List Event) (s : SeqId) (a : Asked) → join past ≡ Some (s, a) → s.0 < seqs)
      (drain_there : (before taken : List Event) (s : SeqId) (a : Asked) → legal wire seqs (taken ++ before) → length (taken ++ before) < most
      → drain before taken ≡ Some (s, a) → s.0 < seqs) where
    asker : (past : List Event) (p : Parts) → legal wire seqs past → length past < most → past ≡ p.taken ++ (p.middle ++ p.joins)
        → (joining working : Bool) → is_some (join p.joins) ≡ joining → left p ≡ working → Asker p ⊎ Over p
    asker past p h short whole true working e f =
        let there = some_of (join p.joins) e in
        let at : join p.joins ≡ Some (there.it.0, there.it.1) = there.is in
        inl (record {
          seq = there.it.0;
          there = join_there p.joins there.it.0 there.it.1 at;
          asked = there.it.1;
          asks = ap (λ (j : Bool). next_at seqs join line drain j (left p) p there.it.0) e ∙ is_asks (join p.joins) there.it.0 there.it.1 at;
        })
    asker past p h short whole false true e f =
        let at = any_at (λ n. is_some (line p.joins (seq_at n) (own_of (seq_at n) p.middle))) seqs f in
        let there = some_of (line p.joins (seq_at at.at) (own_of (seq_at at.at) p.middle)) at.passes in
        inl (record {
          seq = seq_at at.at;
          there = at.below;
          asked = there.it;
          asks =
              ap (λ (j : Bool). next_at seqs join line drain j (left p) p (seq_at at.at)) e
              ∙ (ap (λ (w : Bool). next_at seqs join line drain false w p (seq_at at.at)) f ∙ there.is);
        })
    asker past p h short whole false false e f = go (drain (p.middle ++ p.joins) p.taken) refl
      where
        go : (o : Option Next) → drain (p.middle ++ p.joins) p.taken ≡ o → Asker p ⊎ Over p
        go None g = inr (record { joined = none_of (join p.joins) e; done = f; drained = g })
        go (Some (s, a)) g = inl (record {
          seq = s;
          there = drain_there (p.middle ++ p.joins) p.taken s a (subst (λ (es : List Event). legal wire seqs es) whole h)
              (subst (λ (es : List Event). length es < most) whole short) g;
          asked = a;
          asks =
              ap (λ (j : Bool). next_at seqs join line drain j (left p) p s) e
              ∙ (ap (λ (w : Bool). next_at seqs join line drain false w p s) f ∙ is_asks (drain (p.middle ++ p.joins) p.taken) s a g);
        })

    finish_by : (room : ℕ) (past : List Event) → most ≤ length past + room → legal wire seqs past → Asking past → Finish past
    finish_by zero past full h asks = absurd (omega (arith, few past h asks, full))
    finish_by (suc room) past full h asks =
        go (asker past (of past) h (few past h asks) (falls past asks).whole (is_some (join (of past).joins)) (left (of past)) refl refl)
        (λ event h' asks'. finish_by room (event ∷ past) (omega (arith, full)) h' asks')
      where
        go : Asker (of past) ⊎ Over (of past)
            → ((event : Event) → legal wire seqs (event ∷ past) → Asking (event ∷ past) → Finish (event ∷ past)) → Finish past
        go (inr over) rest = record { more = []; legal_on = h; asks = asks; over = over }
        go (inl one) rest =
            let event : Event = record { seq = one.seq; asked = one.asked; told = answer wire seqs past one.seq one.asked } in
            finish_more event past (rest event (one.there, refl, h) (one.asks, asks))

    -- whatever begins a run goes on to a whole one
    pub finishes : (past : List Event) → legal wire seqs past → Asking past → Finish past
    finishes past h asks = finish_by most past (omega arith) h asks

  -- ## A front of what begins a run begins it

  pub front : (more past : List Event) → Asking (more ++ past) → Asking past
  front [] past asks = asks
  front (event ∷ more) past asks = front more past asks.1
