-- The lines of a sequence, one after the other.
use Rattle.std.proofs.Common.{◌≡◌, ◌+◌, ℕ, zero, suc, Bool, true, false, List, [], ◌∷◌, ◌++◌, length, take, map, refl, sym, ap, ◌∙◌, subst, arith}
use Rattle.std.proofs.Common.{append_assoc, add-one}
use Rattle.std.specs.Prelude.{Option, Some, None, cond, filter, is_some, reverse, slice_get, if◌then◌else◌}
use Rattle.std.specs.Option.{option_map}
use Rattle.std.proofs.Math.Seq.{drop-nil}
use Rattle.std.proofs.lemmas.List.{append-nil, map-append, reverse-append}
use Rattle.std.proofs.lemmas.Option.{slice_get_past}
use Rattle.mj_base.specs.declared.ids.SeqId.{SeqId}
use Rattle.mj_schema.specs.declared.schema.Schema.{Schema}
use Rattle.bind_model.specs.Machine.{handed}
use Rattle.bind_model.specs.Replies.{responders_handed}
use Rattle.bind_model.specs.Seen.{own_of}
use Rattle.bind_model.specs.Wire.{Wire}
use Rattle.bind_model.specs.WireOf.{wire_of}
use Rattle.bind_model.specs.declared.asked.Asked.{Asked}
use Rattle.bind_model.specs.declared.event.Event.{Event}
use Rattle.bind_model.specs.declared.told.Told.{Told}
use Rattle.bind_model.specs.declared.told.Told.TheVariants as tells
use Rattle.call_script.specs.declared.script.AutoReply.{AutoReply}
use Rattle.call_script.specs.declared.script.Line.{Line}
use Rattle.call_script.specs.declared.script.NameId.{NameId}
use Rattle.call_script.specs.declared.script.Script.{Script}
use Rattle.remote_receiver.specs.Notes.{Follows, HasKept, Kept}
use Rattle.remote_receiver.specs.Stepped.{Step}
use Rattle.script_names.specs.Autos.{Due, due, due_for, line_at, lines_done}
use Rattle.script_names.specs.Names.{Named, named_after, pendings_handed, responders_named, then_held}
use Rattle.script_run.specs.OfScript.{names_of, next_of, replied, reply_first}
use Rattle.script_names.specs.Asking.{asked_by}
use Rattle.script_run.specs.Order.{is_own, lines_of}
use Rattle.script_run.specs.declared.plain.Plain.{Plain}
use Rattle.script_run.specs.AtDesk.{AnswersZero, SameDesk, Seen, step_by}
use Rattle.script_run.specs.steps.Desks.{CameTo, DidLine, Replied, answered_it, asked_it, due_by, stood}
use Rattle.script_run.specs.Working.{DidAll, DidSome}
use Rattle.script_run.specs.steps.Working.{DidOwn, HasWorked, steps_by}
use Rattle.script_names.proofs.LineNames.{same_named}

-- ## Of a list what passes

module _ {A : Type 0} (p : A → Bool) where
  -- one that passes stands behind those before it that do
  pub own_at : (xs : List A) (k : ℕ) (x : A) → slice_get xs k ≡ Some x → p x ≡ true → slice_get (filter p xs) (length (filter p (take k xs))) ≡ Some x
  own_at [] k x e passes = absurd cc
  own_at (y ∷ xs) zero x e passes =
      let same : y ≡ x = cc in
      let here : p y ≡ true = ap p same ∙ passes in
      ap (λ (b : Bool). slice_get (cond b (y ∷ filter p xs) (filter p xs)) zero) here ∙ ap (λ (z : A). Some z) same
  own_at (y ∷ xs) (suc k) x e passes = go (p y) (own_at xs k x e passes)
    where
      go : (b : Bool) → slice_get (filter p xs) (length (filter p (take k xs))) ≡ Some x
          → slice_get (cond b (y ∷ filter p xs) (filter p xs)) (length (cond b (y ∷ filter p (take k xs)) (filter p (take k xs)))) ≡ Some x
      go true h = h
      go false h = h

  count_suc : (xs : List A) (k : ℕ) (x : A) → slice_get xs k ≡ Some x
      → length (filter p (take (suc k) xs)) ≡ length (filter p (take k xs)) + steps_by (p x)
  count_suc [] k x e = absurd cc
  count_suc (y ∷ xs) zero x e = let same : y ≡ x = cc in ap (λ (z : A). length (cond (p z) (z ∷ []) [])) same ∙ go (p x)
    where
      go : (b : Bool) → length (cond b (x ∷ []) []) ≡ 0 + steps_by b
      go true = omega arith
      go false = omega arith
  count_suc (y ∷ xs) (suc k) x e = go (p y) (length (filter p (take (suc k) xs))) (length (filter p (take k xs))) refl refl (count_suc xs k x e)
    where
      go : (b : Bool) (m n : ℕ) → m ≡ length (filter p (take (suc k) xs)) → n ≡ length (filter p (take k xs))
          → length (filter p (take (suc k) xs)) ≡ length (filter p (take k xs)) + steps_by (p x)
          → length (cond b (y ∷ filter p (take (suc k) xs)) (filter p (take (suc k) xs)))
          ≡ length (cond b (y ∷ filter p (take k xs)) (filter p (take k xs))) + steps_by (p x)
      go true m n f g h = omega (arith, h)
      go false m n f g h = h

  -- how many pass with one more
  pub count_more : (xs : List A) (k : ℕ) (x : A) (b : Bool) → slice_get xs k ≡ Some x → p x ≡ b
      → length (filter p (take (k + 1) xs)) ≡ length (filter p (take k xs)) + steps_by b
  count_more xs k x b e same =
      ap (λ (n : ℕ). length (filter p (take n xs))) (add-one k)
      ∙ (count_suc xs k x e ∙ ap (λ (c : Bool). length (filter p (take k xs)) + steps_by c) same)

-- ## One event more

whole_more : (now later first own : List Event) (event : Event) → later ≡ now ++ event ∷ [] → now ≡ first ++ reverse own
    → later ≡ first ++ reverse (event ∷ own)
whole_more now later first own event e whole =
    e ∙ (ap (λ (es : List Event). es ++ event ∷ []) whole
    ∙ (append_assoc first (reverse own) (event ∷ [])
    ∙ ap (λ (es : List Event). first ++ es) (sym (reverse-append (event ∷ []) own))))

-- what was kept of steps is kept of them with those of these events behind
abbrev StillKept : Wire → Kept Plain → Kept Plain → List Event → Type 0
StillKept wire old new own = (steps : List (Step Plain)) → HasKept AnswersZero steps old → HasKept AnswersZero (steps ++ map (step_by wire) (reverse own)) new

kept_more : (wire : Wire) (old mid new : Kept Plain) (own : List Event) (event : Event) → Follows AnswersZero mid (step_by wire event) new
    → StillKept wire old mid own → StillKept wire old new (event ∷ own)
kept_more wire old mid new own event follows kept = λ steps h.
    subst (λ (ss : List (Step Plain)). HasKept AnswersZero ss new)
    (append_assoc steps (map (step_by wire) (reverse own)) (step_by wire event ∷ [])
    ∙ ap (λ (ss : List (Step Plain)). steps ++ ss)
    (sym (ap (λ (es : List Event). map (step_by wire) es) (reverse-append (event ∷ []) own) ∙ map-append (step_by wire) (reverse own) (event ∷ []))))
    (follows (steps ++ map (step_by wire) (reverse own)) (kept steps h))

-- an answer hands out no responders
none_handed : (wire : Wire) (told : Told) (d : Due) → responders_handed wire told (replied d) ≡ []
none_handed wire (tells.Taken g) d = refl
none_handed wire told d = refl

-- an event of no line leaves names as they are
names_alone : (wire : Wire) (found : Option Due) (event : Event) (before : Named) → named_after wire None found event before ≡ before
names_alone wire found event before = same_named
    refl refl
    (ap (λ (ns : List NameId). then_held ns (pendings_handed event.told) [] before.pending) (drop-nil (length (handed event.told))))
    (ap (λ (ns : List NameId). then_held ns (responders_named found (responders_handed wire event.told event.asked)) [] before.responder)
    (drop-nil (length (handed event.told) + length (pendings_handed event.told))))

-- ## One line more

module _ (script : Script) (after_joins : List Event) (k : ℕ) (line : Line) (here : slice_get script.lines k ≡ Some line) (prior after : Seen)
    (first : List Event) (old mid new : Kept Plain) (names names' : Named)
    (worked : HasWorked script after_joins prior.schema prior.me first prior.events old mid names (take k script.lines)) where
  -- the wire of the schema
  abbrev wire : Wire
  wire = wire_of prior.schema

  -- the sequence
  abbrev me : SeqId
  me = prior.me

  -- its events so far
  abbrev own : List Event
  own = worked.own

  -- what it asks next
  abbrev next : List Event → Option Asked
  next es = next_of wire script after_joins me es

  -- where the line is another's
  line_passed : is_own me line ≡ false → (after ≡ prior) × (new ≡ mid) × (names' ≡ names)
      → HasWorked script after_joins prior.schema me first after.events old new names' (take (k + 1) script.lines)
  line_passed other still = record {
    own = own;
    whole = ap (λ (s : Seen). own_of me s.events) still.0 ∙ worked.whole;
    asks = worked.asks;
    none = worked.none;
    done =
        let more = count_more (is_own me) script.lines k line false here other in
        let done = worked.done in
        omega (arith, more, done);
    named = still.2 ∙ worked.named;
    kept = subst (λ (q : Kept Plain). StillKept wire old q own) (sym still.1) worked.kept;
  }

  module _ (mine : is_own me line ≡ true) where
    line_is : line_at wire script.autos (lines_of script me) own ≡ Some line
    line_is =
        ap (λ (o : Option Due). if is_some o then None else slice_get (lines_of script me) (lines_done wire script.autos own)) worked.none
        ∙ (ap (slice_get (lines_of script me)) worked.done ∙ own_at (is_own me) script.lines k line here mine)

    asks_it : next own ≡ Some (asked_by names line)
    asks_it =
        ap (λ (o : Option Due). reply_first o
        (option_map (asked_by (names_of wire script after_joins me own)) (line_at wire script.autos (lines_of script me) own))) worked.none
        ∙ (ap (λ (l : Option Line). option_map (asked_by (names_of wire script after_joins me own)) l) line_is
        ∙ ap (λ (n : Named). Some (asked_by n line)) (sym worked.named))

    -- the automatic reply that is due behind it comes next
    reply_is : (event : Event) (d : Due) → due wire script.autos (event ∷ own) ≡ Some d → next (event ∷ own) ≡ Some (replied d)
    reply_is event d is = ap (λ (o : Option Due). reply_first o (option_map (asked_by (names_of wire script after_joins me (event ∷ own)))
        (line_at wire script.autos (lines_of script me) (event ∷ own)))) is

    -- where the line was cut off
    part : CameTo script.autos (asked_by names line) prior after → DidSome script after_joins prior.schema me first after.events
    part (stood none) = record { own = own; whole = none.own ∙ (append-nil (own_of me prior.events) ∙ worked.whole); asks = worked.asks }
    part (asked_it told came) =
        let event : Event = record { seq = me; asked = asked_by names line; told = told } in
        record {
          own = event ∷ own;
          whole = whole_more (own_of me prior.events) (own_of me after.events) (own_of me first) own event came.own worked.whole;
          asks = (asks_it, worked.asks);
        }
    part (answered_it told d answer is came) =
        let event : Event = record { seq = me; asked = asked_by names line; told = told } in
        let reply : Event = record { seq = me; asked = replied d; told = answer } in
        let before = own_of me prior.events in
        record {
          own = reply ∷ event ∷ own;
          whole =
              whole_more (before ++ event ∷ []) (own_of me after.events) (own_of me first) (event ∷ own) reply
              (came.own ∙ sym (append_assoc before (event ∷ []) (reply ∷ [])))
              (whole_more before (before ++ event ∷ []) (own_of me first) own event refl worked.whole);
          asks = (reply_is event d is, (asks_it, worked.asks));
        }

  module _ (mine : is_own me line ≡ true) (did : DidLine script.autos line prior after mid new names names') where
    -- the event of the line
    abbrev event : Event
    event = record { seq = me; asked = asked_by names line; told = did.told }

    -- the automatic reply that is due behind it
    abbrev found : Option Due
    found = due wire script.autos (event ∷ own)

    done_it : lines_done wire script.autos (event ∷ own) ≡ length (filter (is_own me) (take (k + 1) script.lines))
    done_it =
        ap (λ (o : Option Due). if is_some o then lines_done wire script.autos own else lines_done wire script.autos own + 1) worked.none
        ∙ (ap (λ (n : ℕ). n + 1) worked.done ∙ sym (count_more (is_own me) script.lines k line true here mine))

    named_it : names' ≡ names_of wire script after_joins me (event ∷ own)
    named_it =
        did.named
        ∙ (ap (named_after wire (Some line) found event) worked.named
        ∙ sym (ap (λ (l : Option Line). named_after wire l found event (names_of wire script after_joins me own)) (line_is mine)))

    kept_it : StillKept wire old did.kept (event ∷ own)
    kept_it = kept_more wire old mid did.kept own event did.went.kept worked.kept

    whole_it : own_of me did.between.events ≡ own_of me first ++ reverse (event ∷ own)
    whole_it = whole_more (own_of me prior.events) (own_of me did.between.events) (own_of me first) own event did.went.own worked.whole

    -- without an automatic reply
    alone : found ≡ None → (after ≡ did.between) × (new ≡ did.kept)
        → HasWorked script after_joins prior.schema me first after.events old new names' (take (k + 1) script.lines)
    alone none still = record {
      own = event ∷ own;
      whole = ap (λ (s : Seen). own_of me s.events) still.0 ∙ whole_it;
      asks = (asks_it mine, worked.asks);
      none = none;
      done = done_it;
      named = named_it;
      kept = subst (λ (q : Kept Plain). StillKept wire old q (event ∷ own)) (sym still.1) kept_it;
    }

    -- with one
    with_reply : (d : Due) → found ≡ Some d → Replied (Some d) did.between after did.kept new
        → HasWorked script after_joins prior.schema me first after.events old new names' (take (k + 1) script.lines)
    with_reply d is answered =
        let reply : Event = record { seq = me; asked = replied d; told = answered.0 } in
        let own_reply : own_of me after.events ≡ own_of me did.between.events ++ record { seq = me; asked = replied d; told = answered.0 } ∷ [] =
        subst (λ (m : SeqId). own_of m after.events ≡ own_of m did.between.events ++ record { seq = m; asked = replied d; told = answered.0 } ∷ [])
        did.went.same.me answered.1.own in
        let follows : Follows AnswersZero did.kept (step_by wire (record { seq = me; asked = replied d; told = answered.0 })) new =
        subst (λ (s : Schema). Follows AnswersZero did.kept (step_by (wire_of s) (record { seq = me; asked = replied d; told = answered.0 })) new)
        did.went.same.schema answered.1.kept in
        let no_line : line_at wire script.autos (lines_of script me) (event ∷ own) ≡ None =
        ap (λ (o : Option Due). if is_some o then None else slice_get (lines_of script me) (lines_done wire script.autos (event ∷ own))) is in
        record {
          own = reply ∷ event ∷ own;
          whole =
              whole_more (own_of me did.between.events) (own_of me after.events) (own_of me first) (event ∷ own) reply own_reply whole_it;
          asks = (reply_is mine event d is, (asks_it mine, worked.asks));
          none = ap (due_for script.autos me) (none_handed wire answered.0 d);
          done =
              ap (λ (o : Option Due). if is_some o then lines_done wire script.autos (event ∷ own) else lines_done wire script.autos (event ∷ own) + 1) is
              ∙ done_it;
          named =
              named_it
              ∙ sym (ap (λ (l : Option Line). named_after wire l (due wire script.autos (reply ∷ event ∷ own)) reply
              (names_of wire script after_joins me (event ∷ own))) no_line
              ∙ names_alone wire (due wire script.autos (reply ∷ event ∷ own)) reply (names_of wire script after_joins me (event ∷ own)));
          kept = kept_more wire old did.kept new (event ∷ own) reply follows kept_it;
        }

    line_worked : HasWorked script after_joins prior.schema me first after.events old new names' (take (k + 1) script.lines)
    line_worked = go found refl did.replied
      where
        go : (o : Option Due) → found ≡ o → Replied o did.between after did.kept new
            → HasWorked script after_joins prior.schema me first after.events old new names' (take (k + 1) script.lines)
        go None none still = alone none still
        go (Some d) is answered = with_reply d is answered

  -- either way
  own_worked : (b : Bool) → is_own me line ≡ b → DidOwn b script.autos line prior after mid new names names'
      → HasWorked script after_joins prior.schema me first after.events old new names' (take (k + 1) script.lines)
  own_worked true mine did = line_worked mine did
  own_worked false other still = line_passed other still

-- seen from where it began
pub worked_more : (script : Script) (after_joins : List Event) (k : ℕ) (line : Line) → slice_get script.lines k ≡ Some line
    → (before prior after : Seen) → SameDesk before prior → (old mid new : Kept Plain) (names names' : Named)
    → HasWorked script after_joins before.schema before.me before.events prior.events old mid names (take k script.lines)
    → DidOwn (is_own prior.me line) script.autos line prior after mid new names names'
    → HasWorked script after_joins before.schema before.me before.events after.events old new names' (take (k + 1) script.lines)
worked_more script after_joins k line here before prior after same old mid new names names' worked did =
    let at_prior : HasWorked script after_joins prior.schema prior.me before.events prior.events old mid names (take k script.lines) =
    subst (λ (s : Schema). HasWorked script after_joins s prior.me before.events prior.events old mid names (take k script.lines)) (sym same.schema)
    (subst (λ (m : SeqId). HasWorked script after_joins before.schema m before.events prior.events old mid names (take k script.lines)) (sym same.me) worked) in
    subst (λ (s : Schema). HasWorked script after_joins s before.me before.events after.events old new names' (take (k + 1) script.lines)) same.schema
    (subst (λ (m : SeqId). HasWorked script after_joins prior.schema m before.events after.events old new names' (take (k + 1) script.lines)) same.me
    (own_worked script after_joins k line here prior after before.events old mid new names names' at_prior (is_own prior.me line) refl did))

-- a line that was cut off, seen from where all began
pub part_more : (script : Script) (after_joins : List Event) (k : ℕ) (line : Line) → slice_get script.lines k ≡ Some line
    → (before prior after : Seen) → SameDesk before prior → (old mid : Kept Plain) (names : Named)
    → HasWorked script after_joins before.schema before.me before.events prior.events old mid names (take k script.lines)
    → is_own prior.me line ≡ true → CameTo script.autos (asked_by names line) prior after
    → DidSome script after_joins before.schema before.me before.events after.events
part_more script after_joins k line here before prior after same old mid names worked mine came =
    let at_prior : HasWorked script after_joins prior.schema prior.me before.events prior.events old mid names (take k script.lines) =
    subst (λ (s : Schema). HasWorked script after_joins s prior.me before.events prior.events old mid names (take k script.lines)) (sym same.schema)
    (subst (λ (m : SeqId). HasWorked script after_joins before.schema m before.events prior.events old mid names (take k script.lines)) (sym same.me) worked) in
    subst (λ (s : Schema). DidSome script after_joins s before.me before.events after.events) same.schema
    (subst (λ (m : SeqId). DidSome script after_joins prior.schema m before.events after.events) same.me
    (part script after_joins k line here prior after before.events old mid mid names names at_prior mine came))

-- ## All

pub worked_all : (script : Script) (after_joins : List Event) (schema : Schema) (me : SeqId) (first now : List Event) (old new : Kept Plain) (names : Named)
    → HasWorked script after_joins schema me first now old new names script.lines → DidAll script after_joins schema me first now old new names
worked_all script after_joins schema me first now old new names worked = record {
  own = worked.own;
  whole = worked.whole;
  asks = record {
    asks = worked.asks;
    over =
        ap (λ (o : Option Due). reply_first o
        (option_map (asked_by (names_of (wire_of schema) script after_joins me worked.own))
        (line_at (wire_of schema) script.autos (lines_of script me) worked.own))) worked.none
        ∙ ap (λ (l : Option Line). option_map (asked_by (names_of (wire_of schema) script after_joins me worked.own)) l) no_line;
  };
  named = worked.named;
  kept = worked.kept;
}
  where
    no_line : line_at (wire_of schema) script.autos (lines_of script me) worked.own ≡ None
    no_line =
        ap (λ (o : Option Due). if is_some o then None else slice_get (lines_of script me) (lines_done (wire_of schema) script.autos worked.own)) worked.none
        ∙ (ap (slice_get (lines_of script me)) worked.done ∙ slice_get_past (lines_of script me) (length (lines_of script me)) (omega arith))

-- ## The desk stays the same

pub line_same : (autos : List AutoReply) (line : Line) (before after : Seen) (old new : Kept Plain) (names names' : Named)
    → DidLine autos line before after old new names names' → SameDesk before after
line_same autos line before after old new names names' did =
    go (due_by before.schema autos before.me (asked_by names line) did.told) did.replied
  where
    go : (o : Option Due) → Replied o did.between after did.kept new → SameDesk before after
    go None still = subst (λ (s : Seen). SameDesk before s) (sym still.0) did.went.same
    go (Some d) answered = record {
      schema = answered.1.same.schema ∙ did.went.same.schema;
      seqs = answered.1.same.seqs ∙ did.went.same.seqs;
      alone = answered.1.same.alone ∙ did.went.same.alone;
      me = answered.1.same.me ∙ did.went.same.me;
    }
