-- A run that follows printed events goes along them as far as their sequences may ask.
use Rattle.std.proofs.Common.{◌≡◌, ◌≤◌, ◌<◌, ℕ, zero, suc, ◌+◌, Bool, true, false, List, [], ◌∷◌, ◌++◌, ◌⊎◌, inl, inr, length, map, take, drop, refl, sym, ap, ◌∙◌, subst, arith}
use Rattle.std.proofs.Math.Seq.{drop-nil}
use Rattle.std.proofs.lemmas.Bool.{false≢true, ltb-false, ltb-true}
use Rattle.std.proofs.lemmas.List.{append-nil, length-append, length-map, length-reverse, map-append, reverse-append, take_all}
use Rattle.std.proofs.lemmas.Option.{slice_get_past}
use Rattle.std.specs.Prelude.{◌==◌, Option, Some, None, is_some, nat_lt, reverse, slice_get, if◌then◌else◌}
use Rattle.std.specs.Option.{option_map}
use Rattle.mj_base.specs.declared.ids.SeqId.{SeqId}
use Rattle.mj_schema.specs.declared.schema.Schema.{Schema}
use Rattle.bind_model.specs.declared.asked.Asked.{Asked}
use Rattle.bind_model.specs.declared.event.Event.{Event}
use Rattle.bind_model.specs.Replies.{legal}
use Rattle.bind_model.specs.Seen.{own_of}
use Rattle.bind_model.specs.Wire.{Wire}
use Rattle.bind_model.specs.WireOf.{wire_of}
use Rattle.call_script.specs.declared.script.Script.{Script}
use Rattle.script_names.proofs.TableLemmas.{there}
use Rattle.script_run.specs.Followed.{EndsAs, Follows, asker}
use Rattle.script_run.specs.OfScript.{AsksNext, GoesOn, IsPart, Next, next_join, next_of, next_take}
use Rattle.history_audit.specs.steps.Begun.{AsksNoMore, Parts, asks_by, is_left, next_at, next_in, seq_at}
use Rattle.history_audit.specs.steps.Judging.{IsOver, LeadsBy, LeadsOn, Trails, at, may_ask}
use Rattle.history_audit.proofs.Judged.{take_one}
use Rattle.history_audit.proofs.Parts as split
use Rattle.history_audit.proofs.Parts.{any_here, seq_is}

-- ## Lists

-- what stands behind so many
pub at_drop : (xs : List Event) (j m : ℕ) → slice_get (drop j xs) m ≡ slice_get xs (j + m)
at_drop [] j m =
    ap (λ (ys : List Event). slice_get ys m) (drop-nil j)
    ∙ (slice_get_past [] m (omega arith) ∙ sym (slice_get_past [] (j + m) (omega arith)))
at_drop (x ∷ xs) zero m = let e : m ≡ 0 + m = omega arith in ap (slice_get (x ∷ xs)) e
at_drop (x ∷ xs) (suc j) m =
    let e : suc (j + m) ≡ suc j + m = omega arith in
    at_drop xs j m ∙ ap (slice_get (x ∷ xs)) e

-- lists that end with one
last_same : (xs ys : List SeqId) (s t : SeqId) → xs ++ s ∷ [] ≡ ys ++ t ∷ [] → (xs ≡ ys) × (s ≡ t)
last_same [] [] s t e = let same : s ≡ t = cc in (refl, same)
last_same [] (y ∷ ys) s t e = absurd (omega (arith, ap length e, length-append ys (t ∷ [])))
last_same (x ∷ xs) [] s t e = absurd (omega (arith, ap length e, length-append xs (s ∷ [])))
last_same (x ∷ xs) (y ∷ ys) s t e =
    let first : x ≡ y = cc in
    let rest : xs ++ s ∷ [] ≡ ys ++ t ∷ [] = cc in
    let both = last_same xs ys s t rest in
    (ap (λ (z : SeqId). z ∷ xs) first ∙ ap (λ (zs : List SeqId). y ∷ zs) both.0, both.1)

some_not : {A : Type 0} (o : Option A) → (o ≡ None → ⊥) → is_some o ≡ true
some_not None f = absurd (f refl)
some_not (Some x) f = refl

-- ## In the order of printed events

-- each of these events, the newest first, is of the sequence of the printed event of its number
abbrev AlongBack : List Event → List Event → Type 0
AlongBack events [] = Unit {0}
AlongBack events (mine ∷ middle) = (option_map asker (slice_get events (length middle)) ≡ Some mine.seq) × AlongBack events middle

-- so many are taken only where there are as many
enough : (events : List Event) (n : ℕ) → length (take (suc n) events) ≡ n + 1 → n < length events
enough events n e = go (nat_lt n (length events)) refl
  where
    go : (b : Bool) → nat_lt n (length events) ≡ b → n < length events
    go true f = ltb-true n (length events) f
    go false f =
        let most : length events ≤ n = ltb-false n (length events) f in
        let all : take (suc n) events ≡ events = take_all (suc n) events (omega (arith, most)) in
        absurd (omega (arith, e, most, ap length all))

along_back : (events middle : List Event) → map asker (reverse middle) ≡ map asker (take (length middle) events) → AlongBack events middle
along_back events [] e = tt
along_back events (mine ∷ middle) e =
    let turned : map asker (reverse (mine ∷ middle)) ≡ map asker (reverse middle) ++ mine.seq ∷ [] =
    ap (map asker) (reverse-append (mine ∷ []) middle) ∙ map-append asker (reverse middle) (mine ∷ []) in
    let size : length (take (suc (length middle)) events) ≡ length middle + 1 = omega (
      arith,
      ap length e,
      ap length turned,
      length-append (map asker (reverse middle)) (mine.seq ∷ []),
      length-map (reverse middle) asker,
      length-reverse middle,
      length-map (take (suc (length middle)) events) asker,
    ) in
    let within : length middle < length events = enough events (length middle) size in
    let one = there events (length middle) within in
    let both = last_same (map asker (reverse middle)) (map asker (take (length middle) events)) mine.seq one.0.seq
    (sym turned
    ∙ (e ∙ (ap (map asker) (take_one events (length middle) one.0 one.1) ∙ map-append asker (take (length middle) events) (one.0 ∷ [])))) in
    (ap (option_map asker) one.1 ∙ ap (λ (s : SeqId). Some s) (sym both.1), along_back events middle both.0)

module _ (schema : Schema) (script : Script) where
  -- the wire of the schema
  abbrev wire : Wire
  wire = wire_of schema

  abbrev join : List Event → Option Next
  join own = next_join script own

  abbrev line : List Event → SeqId → List Event → Option Asked
  line after_joins s own = next_of wire script after_joins s own

  abbrev drain : List Event → List Event → Option Next
  drain before own = next_take wire script.autos before own

  -- whether lines are left
  abbrev working : Parts → Bool
  working p = is_left script.seqs join line drain p

  -- what may be asked, by where a run is
  abbrev asked_at : Bool → Bool → Parts → SeqId → Option Asked
  asked_at joining left p s = next_at script.seqs join line drain joining left p s

  asks_at : (past : List Event) (p : Parts) (joining left : Bool) (s : SeqId) → at schema script past ≡ p → is_some (join p.joins) ≡ joining
      → working p ≡ left → may_ask schema script past s ≡ asked_at joining left p s
  asks_at past p joining left s are e f =
      ap (λ (q : Parts). next_in script.seqs join line drain q s) are
      ∙ (ap (λ (j : Bool). asked_at j (working p) p s) e ∙ ap (λ (w : Bool). asked_at joining w p s) f)

  -- where nothing is asked any more, no sequence asks
  pub over_asks : (past : List Event) → IsOver schema script past → (s : SeqId) → may_ask schema script past s ≡ None
  over_asks past over s =
      asks_at past (at schema script past) false false s refl (ap (λ (o : Option Next). is_some o) over.joined) over.done
      ∙ ap (λ (o : Option Next). asks_by o s) over.drained

  -- where it is one sequence's turn, it is the only one that asks
  alone : (next : Option Next) (s t : SeqId) (a : Asked) → next ≡ Some (s, a) → (asks_by next t ≡ None) ⊎ (s ≡ t)
  alone next s t a e = go (s.0 == t.0) refl
    where
      go : (b : Bool) → (s.0 == t.0) ≡ b → (asks_by next t ≡ None) ⊎ (s ≡ t)
      go true f = inr (seq_is s t f)
      go false f = inl (ap (λ (o : Option Next). asks_by o t) e ∙ ap (λ (b : Bool). if b then Some a else None) f)

  leads_alone : (events past : List Event) (mine : Event) (next : Option Next) → ((s : SeqId) → may_ask schema script past s ≡ asks_by next s)
      → next ≡ Some (mine.seq, mine.asked) → LeadsBy schema script events past mine
  leads_alone events past mine next may e event here there_is = go (alone next mine.seq event.seq mine.asked e)
    where
      go : (asks_by next event.seq ≡ None) ⊎ (mine.seq ≡ event.seq) → (may_ask schema script past event.seq ≡ None) ⊎ (mine.seq ≡ event.seq)
      go (inl none) = inl (may event.seq ∙ none)
      go (inr same) = inr same

  leads_joins : (events joins : List Event) → GoesOn join joins → LeadsOn schema script events joins
  leads_joins events [] goes = tt
  leads_joins events (mine ∷ joins) goes =
      let p : Parts = record { joins = joins; middle = []; taken = [] } in
      let go = split.joins_go wire script.seqs join line drain joins goes.1 in (
        leads_alone events joins mine (join joins)
            (λ s. asks_at joins p true (working p) s go.are (ap (λ (o : Option Next). is_some o) goes.0) refl) goes.0,
        leads_joins events joins goes.1,
      )

  -- the printed event of a number behind the joins
  behind_joins : (events joins middle : List Event)
      → slice_get (drop (length joins) events) (length middle) ≡ slice_get events (length (middle ++ joins))
  behind_joins events joins middle =
      let size : length joins + length middle ≡ length (middle ++ joins) = omega (arith, length-append middle joins) in
      at_drop events (length joins) (length middle) ∙ ap (slice_get events) size

  leads_mine : (events joins middle : List Event) (mine : Event)
      → option_map asker (slice_get (drop (length joins) events) (length middle)) ≡ Some mine.seq → LeadsBy schema script events (middle ++ joins) mine
  leads_mine events joins middle mine along event here there_is =
      let both : ◌≡◌ {A = Option SeqId} (Some event.seq) (Some mine.seq) =
      sym (ap (option_map asker) (behind_joins events joins middle ∙ here)) ∙ along in
      let same : event.seq ≡ mine.seq = cc in
      inr (sym same)

  leads_middle : (events joins middle : List Event) → AlongBack (drop (length joins) events) middle → LeadsOn schema script events joins
      → LeadsOn schema script events (middle ++ joins)
  leads_middle events joins [] along leads = leads
  leads_middle events joins (mine ∷ middle) along leads =
      (leads_mine events joins middle mine along.0, leads_middle events joins middle along.1 leads)

  leads_taken : (events joins middle taken : List Event) → join joins ≡ None
      → working (record { joins = joins; middle = middle; taken = [] }) ≡ false
      → split.Goes wire script.seqs join line drain (middle ++ joins) (record { joins = joins; middle = middle; taken = [] })
      → GoesOn (drain (middle ++ joins)) taken → LeadsOn schema script events (middle ++ joins)
      → LeadsOn schema script events (taken ++ (middle ++ joins))
  leads_taken events joins middle [] joined done goes takes leads = leads
  leads_taken events joins middle (mine ∷ taken) joined done goes takes leads =
      let p : Parts = record { joins = joins; middle = middle; taken = taken } in
      let go = split.takes_go wire script.seqs join line drain joins middle taken joined done goes takes.1 in (
        leads_alone events (taken ++ (middle ++ joins)) mine (drain (middle ++ joins) taken)
            (λ s. asks_at (taken ++ (middle ++ joins)) p false false s go.are (ap (λ (o : Option Next). is_some o) joined) done) takes.0,
        leads_taken events joins middle taken joined done goes takes.1 leads,
      )

  -- ## The trail

  module _ (events joins middle : List Event) (goes : GoesOn join joins) (joined : join joins ≡ None)
      (asks : (s : SeqId) → s.0 < script.seqs → AsksNext (line joins s) (own_of s middle)) (along : AlongBack (drop (length joins) events) middle) where
    -- where the lines end
    abbrev p : Parts
    p = record { joins = joins; middle = middle; taken = [] }

    lines_go : legal wire script.seqs (middle ++ joins) → split.Goes wire script.seqs join line drain (middle ++ joins) p
    lines_go h =
        split.lines_go wire script.seqs join line drain joins middle goes joined (split.there wire script.seqs join line drain joins middle h) asks

    leads_there : LeadsOn schema script events (middle ++ joins)
    leads_there = leads_middle events joins middle along (leads_joins events joins goes)

    -- to the end
    whole_trail : (taken : List Event) → legal wire script.seqs (middle ++ joins) → legal wire script.seqs (taken ++ (middle ++ joins))
        → EndsAs schema script joins middle (drop (length joins) events) taken true
        → Trails schema script events (taken ++ (middle ++ joins)) true
    whole_trail taken h all ends =
        let done : working p ≡ false = split.none_left wire script.seqs join line drain joins middle ends.lines in
        let go = split.takes_go wire script.seqs join line drain joins middle taken joined done (lines_go h) ends.takes in
        let over : IsOver schema script (taken ++ (middle ++ joins)) =
        subst (λ (q : Parts). AsksNoMore script.seqs join line drain q) (sym go.are)
        (record { joined = joined; done = done; drained = ends.over }) in
        record {
          begins = record { legal_so = all; asks = go.asks };
          leads = leads_taken events joins middle taken joined done (lines_go h) ends.takes leads_there;
          ends = λ event here there_is. over_asks (taken ++ (middle ++ joins)) over event.seq;
          tells = over;
        }

    -- as far as it came
    early_trail : legal wire script.seqs (middle ++ joins) → EndsAs schema script joins middle (drop (length joins) events) [] false
        → Trails schema script events (middle ++ joins) false
    early_trail h ends =
        let go = lines_go h in
        let left : working p ≡ true =
        any_here (λ n. is_some (line joins (seq_at n) (own_of (seq_at n) middle))) script.seqs ends.seq.0 ends.there
        (some_not (line joins ends.seq (own_of ends.seq middle)) ends.left) in
        record {
          begins = record { legal_so = h; asks = go.asks };
          leads = leads_there;
          ends = λ event here there_is.
              asks_at (middle ++ joins) p false true event.seq go.are (ap (λ (o : Option Next). is_some o) joined) left
              ∙ ends.stops event (behind_joins events joins middle ∙ here) there_is;
          tells = λ over. false≢true (sym over.done ∙ (ap working go.are ∙ left));
        }

    legal_before : (taken before : List Event) → legal wire script.seqs (taken ++ before) → legal wire script.seqs before
    legal_before [] before h = h
    legal_before (event ∷ taken) before h = legal_before taken before h.2

    pub trail_of : (taken : List Event) (whole : Bool) → legal wire script.seqs (taken ++ (middle ++ joins))
        → EndsAs schema script joins middle (drop (length joins) events) taken whole → Trails schema script events (taken ++ (middle ++ joins)) whole
    trail_of taken true h ends = whole_trail taken (legal_before taken (middle ++ joins) h) h ends
    trail_of taken false h ends =
        subst (λ (es : List Event). Trails schema script events (es ++ (middle ++ joins)) false) (sym ends.none)
        (early_trail (legal_before taken (middle ++ joins) h)
        (record { none = refl; seq = ends.seq; there = ends.there; left = ends.left; stops = ends.stops }))

  -- joins that are a part by themselves go on
  part_goes : (joins : List Event) (part : IsPart join [] joins) → GoesOn join joins
  part_goes joins part = subst (λ (es : List Event). GoesOn join es) (sym (append-nil part.own) ∙ sym part.whole) part.asks

  part_over : (joins : List Event) (part : IsPart join [] joins) → join joins ≡ None
  part_over joins part = subst (λ (es : List Event). join es ≡ None) (sym (append-nil part.own) ∙ sym part.whole) part.over

  -- what follows printed events
  pub trails : (events history : List Event) (whole : Bool) → Follows schema script events history whole
      → Trails schema script events (reverse history) whole
  trails events history whole f =
      subst (λ (es : List Event). Trails schema script events es whole) (sym f.past)
      (trail_of events f.after_joins f.middle (part_goes f.after_joins f.joins) (part_over f.after_joins f.joins) f.asks
      (along_back (drop (length f.after_joins) events) f.middle f.along) f.taken whole
      (subst (λ (es : List Event). legal wire script.seqs es) f.past f.legal) f.ends)
