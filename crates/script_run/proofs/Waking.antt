-- A desk that is woken, serves its sequence, and is put to rest: what the others keep stays what it is.
use Rattle.std.proofs.Common.{◌≡◌, ◌<◌, ◌++◌, ℕ, Bool, true, false, List, [], ◌∷◌, length, refl, sym, ap, ◌∙◌, subst, append_assoc, length-set}
use Rattle.std.specs.Prelude.{◌==◌, Option, Some, None, cond, map, slice_get, if◌then◌else◌}
use Rattle.std.specs.List.{AllByRecursion}
use Rattle.std.specs.Option.{option_map}
use Rattle.std.proofs.lemmas.Bool.{eqb-true}
use Rattle.std.proofs.lemmas.List.{append-nil, map-append}
use Rattle.std.proofs.lemmas.List.Elements.{filter-append}
use Rattle.mj_base.specs.declared.ids.EndId.{EndId}
use Rattle.mj_base.specs.declared.ids.SeqId.{SeqId}
use Rattle.mj_schema.specs.declared.schema.Schema.{Schema}
use Rattle.handle_table.proofs.NumberedLemmas.{get-set}
use Rattle.bind_core.specs.Play.{Play}
use Rattle.bind_model.specs.Seen.{own_of}
use Rattle.bind_model.specs.WireOf.{wire_of}
use Rattle.bind_model.specs.declared.asked.Asked.{Asked}
use Rattle.bind_model.specs.declared.asked.Asked.TheVariants.{Take}
use Rattle.bind_model.specs.declared.event.Event.{Event}
use Rattle.bind_model.specs.declared.told.Told.{Told}
use Rattle.call_script.specs.declared.script.AutoReply.{AutoReply}
use Rattle.call_script.specs.declared.script.Line.{Line}
use Rattle.remote_receiver.specs.Held.{kept_of}
use Rattle.remote_receiver.specs.Notes.{HasKept, Kept}
use Rattle.remote_receiver.specs.Waits.{AreDrawn}
use Rattle.remote_receiver.specs.Stepped.{Step}
use Rattle.remote_receiver.specs.declared.rest.Rest.{Rest}
use Rattle.remote_receiver.proofs.Drawing.{drawn_more}
use Rattle.script_names.specs.Autos.{Due}
use Rattle.script_names.specs.Names.{Named}
use Rattle.script_run.specs.OfScript.{replied}
use Rattle.script_names.specs.Asking.{asked_by}
use Rattle.script_run.specs.declared.plain.Plain.{Plain}
use Rattle.script_run.specs.declared.seat.Seat.{Seat}
use Rattle.script_run.specs.AtDesk.{AnswersZero, Seen, step_by, steps_of}
use Rattle.script_run.specs.steps.Desks.{DidLine, Replied, TookAt, Went, due_by}
use Rattle.script_run.specs.Draining.{HasRested, HaveRested}
use Rattle.script_run.specs.steps.Going.{IsPutBack, IsWoken}
use Rattle.script_names.proofs.TableLemmas.{eqb-turned, there}

-- the sequence of a number
abbrev pub numbered : ℕ → SeqId
numbered n = record { 0 = n }

-- ## The events of one sequence

-- all of these are this sequence's
abbrev pub AreOf : SeqId → List Event → Type 0
AreOf s events = AllByRecursion (λ (event : Event). event.seq ≡ s) events

are_both : (s : SeqId) (xs ys : List Event) → AreOf s xs → AreOf s ys → AreOf s (xs ++ ys)
are_both s [] ys a b = b
are_both s (x ∷ xs) ys a b = (a.0, are_both s xs ys a.1 b)

pub own_of_more : (t : SeqId) (events more : List Event) → own_of t (events ++ more) ≡ own_of t events ++ own_of t more
own_of_more t events more = filter-append (λ (e : Event). e.seq.0 == t.0) events more

pub own_of_none : (s t : SeqId) (more : List Event) → (t.0 == s.0) ≡ false → AreOf s more → own_of t more ≡ []
own_of_none s t [] other are = refl
own_of_none s t (event ∷ more) other are =
    let seq : (event.seq.0 == t.0) ≡ false = ap (λ (q : SeqId). q.0 == t.0) are.0 ∙ (eqb-turned s.0 t.0 ∙ other) in
    ap (λ (b : Bool). cond b (event ∷ own_of t more) (own_of t more)) seq ∙ own_of_none s t more other are.1

-- its events change no other sequence's steps
steps_of_other : (schema : Schema) (s t : SeqId) (events more : List Event) → (t.0 == s.0) ≡ false → AreOf s more
    → steps_of schema t (events ++ more) ≡ steps_of schema t events
steps_of_other schema s t events more other are =
    ap (map (step_by (wire_of schema)))
    (own_of_more t events more
    ∙ (ap (λ (es : List Event). own_of t events ++ es) (own_of_none s t more other are)
    ∙ append-nil (own_of t events)))

-- ## A core that has some events more

-- the core of a stepper
abbrev pub play_of : Seen → Play
play_of seen = record { schema = seen.schema; seqs = seen.seqs; events = seen.events }

-- a core that its sequence steps alone
abbrev pub at_seat : Seat → Seen
at_seat seat = record { schema = seat.core.schema; seqs = seat.core.seqs; alone = true; me = seat.seq; events = seat.core.events }

-- a core has some events of this sequence more, and what its desk keeps follows them
pub record Grew (s : SeqId) (before after : Play) (old new : Kept Plain) : Type 0 where
  pub schema : after.schema ≡ before.schema
  pub seqs : after.seqs ≡ before.seqs
  pub more : List Event
  pub own : AreOf s more
  pub events : after.events ≡ before.events ++ more
  pub kept : HasKept AnswersZero (steps_of before.schema s before.events) old → HasKept AnswersZero (steps_of after.schema s after.events) new

-- none came
pub grew_none : (s : SeqId) (core : Play) (kept : Kept Plain) → Grew s core core kept kept
grew_none s core kept = record {
  schema = refl;
  seqs = refl;
  more = [];
  own = tt;
  events = sym (append-nil core.events);
  kept = λ has. has;
}

-- some came after others
pub grew_more : (s : SeqId) (a b c : Play) (x y z : Kept Plain) → Grew s a b x y → Grew s b c y z → Grew s a c x z
grew_more s a b c x y z first second = record {
  schema = second.schema ∙ first.schema;
  seqs = second.seqs ∙ first.seqs;
  more = first.more ++ second.more;
  own = are_both s first.more second.more first.own second.own;
  events =
      second.events ∙ (ap (λ (es : List Event). es ++ second.more) first.events ∙ append_assoc a.events first.more second.more);
  kept = λ has. second.kept (first.kept has);
}

-- one came
module _ (b a : Seen) (old new : Kept Plain) (asked : Asked) (told : Told) (alone : b.alone ≡ true) (went : Went b a old new asked told) where
  -- the event that was added
  abbrev its_event : Event
  its_event = record { seq = b.me; asked = asked; told = told }

  its_steps : steps_of a.schema b.me a.events ≡ steps_of b.schema b.me b.events ++ step_by (wire_of b.schema) its_event ∷ []
  its_steps =
      ap (λ (schema : Schema). steps_of schema b.me a.events) went.same.schema
      ∙ (ap (map (step_by (wire_of b.schema))) went.own
      ∙ map-append (step_by (wire_of b.schema)) (own_of b.me b.events) (its_event ∷ []))

  pub grew_went : Grew b.me (play_of b) (play_of a) old new
  grew_went = record {
    schema = went.same.schema;
    seqs = went.same.seqs;
    more = its_event ∷ [];
    own = (refl, tt);
    events = went.sole alone;
    kept = λ has.
        subst (λ (steps : List (Step Plain)). HasKept AnswersZero steps new) (sym its_steps)
        (went.kept (steps_of b.schema b.me b.events) has);
  }

-- the automatic reply that is due
grew_replied : (found : Option Due) (b a : Seen) (old new : Kept Plain) → b.alone ≡ true → Replied found b a old new
    → Grew b.me (play_of b) (play_of a) old new
grew_replied None b a old new alone same =
    subst (λ (x : Seen). Grew b.me (play_of b) (play_of x) old new) (sym same.0)
    (subst (λ (k : Kept Plain). Grew b.me (play_of b) (play_of b) old k) (sym same.1) (grew_none b.me (play_of b) old))
grew_replied (Some d) b a old new alone replied = grew_went b a old new _ replied.0 alone replied.1

-- an event, and the automatic reply that is due then
grew_both : (found : Option Due) (b m a : Seen) (old mid new : Kept Plain) (asked : Asked) (told : Told) → b.alone ≡ true
    → Went b m old mid asked told → Replied found m a mid new → Grew b.me (play_of b) (play_of a) old new
grew_both found b m a old mid new asked told alone went replied =
    grew_more b.me (play_of b) (play_of m) (play_of a) old mid new (grew_went b m old mid asked told alone went)
    (subst (λ (s : SeqId). Grew s (play_of m) (play_of a) mid new) went.same.me
    (grew_replied found m a mid new (went.same.alone ∙ alone) replied))

-- a line, with the automatic reply that is due then
pub grew_line : (autos : List AutoReply) (line : Line) (b a : Seen) (old new : Kept Plain) (names names' : Named) → b.alone ≡ true
    → DidLine autos line b a old new names names' → Grew b.me (play_of b) (play_of a) old new
grew_line autos line b a old new names names' alone did =
    grew_both (due_by b.schema autos b.me (asked_by names line) did.told) b did.between a old did.kept new (asked_by names line) did.told alone did.went
    did.replied

-- a take likewise
pub grew_take : (autos : List AutoReply) (end : EndId) (b a : Seen) (old new : Kept Plain) → b.alone ≡ true → TookAt autos end b a old new
    → Grew b.me (play_of b) (play_of a) old new
grew_take autos end b a old new alone took =
    grew_both (due_by b.schema autos b.me (Take end) took.told) b took.between a old took.kept new (Take end) took.told alone took.went took.replied

-- ## At rest again

module _ (s : SeqId) (core after : Play) (rests woken new : List (Rest Plain)) (kept kept' : Kept Plain) (within : s.0 < core.seqs)
    (rested : HaveRested core rests) (is : IsWoken s core rests woken core s kept) (grew : Grew s core after kept kept')
    (back : IsPutBack s woken new kept' after) where
  -- what the desk of the sequence kept when it woke
  kept_before : HasKept AnswersZero (steps_of core.schema s core.events) kept
  kept_before =
      let here = there rests s.0 (subst (λ (n : ℕ). s.0 < n) (sym rested.count) within) in
      subst (HasKept AnswersZero (steps_of core.schema s core.events)) (sym (is.kept here.0 here.1)) (rested.each s here.0 here.1).kept

  -- and keeps now
  rested_same : HasRested after s back.rest
  rested_same = record {
    kept = subst (HasKept AnswersZero (steps_of after.schema s after.events)) (sym back.kept) (grew.kept kept_before);
    drawn = back.drawn;
  }

  rested_other : (t : SeqId) (rest : Rest Plain) → (t.0 == s.0) ≡ false → slice_get rests t.0 ≡ Some rest → HasRested after t rest
  rested_other t rest other at =
      let was = rested.each t rest at in
      let steps : steps_of after.schema t after.events ≡ steps_of core.schema t core.events =
      ap (λ (schema : Schema). steps_of schema t after.events) grew.schema
      ∙ (ap (steps_of core.schema t) grew.events ∙ steps_of_other core.schema s t core.events grew.more other grew.own) in
      record {
        kept = subst (λ (ss : List (Step Plain)). HasKept AnswersZero ss (kept_of rest.jobs)) (sym steps) was.kept;
        drawn = subst (λ (es : List Event). AreDrawn es rest.jobs.waiting.callbacks) (sym grew.events)
            (drawn_more core.events grew.more rest.jobs.waiting.callbacks was.drawn);
      }

  -- a list in which the desk stands again
  at_number : (n : ℕ) → slice_get new n ≡ (if s.0 == n then option_map (λ (before : Rest Plain). back.rest) (slice_get woken n) else slice_get woken n)
  at_number n = ap (λ (rs : List (Rest Plain)). slice_get rs n) back.new ∙ get-set back.rest woken s.0 n

  each_again : (t : SeqId) (rest : Rest Plain) → slice_get new t.0 ≡ Some rest → HasRested after t rest
  each_again t rest at = by (s.0 == t.0) refl (sym (at_number t.0) ∙ at)
    where
      found : (o : Option (Rest Plain)) → option_map (λ (before : Rest Plain). back.rest) o ≡ Some rest → back.rest ≡ rest
      found (Some before) e = cc
      found None e = absurd cc

      by : (b : Bool) → (s.0 == t.0) ≡ b
          → (if s.0 == t.0 then option_map (λ (before : Rest Plain). back.rest) (slice_get woken t.0) else slice_get woken t.0) ≡ Some rest
          → HasRested after t rest
      by true e here =
          let same : s ≡ t = ap numbered (eqb-true s.0 t.0 e) in
          let this : option_map (λ (before : Rest Plain). back.rest) (slice_get woken t.0) ≡ Some rest = rw e at here in
          subst (λ (q : SeqId). HasRested after q rest) same
          (subst (HasRested after s) (found (slice_get woken t.0) this) rested_same)
      by false e here =
          let other : (t.0 == s.0) ≡ false = eqb-turned t.0 s.0 ∙ e in
          let this : slice_get woken t.0 ≡ Some rest = rw e at here in
          rested_other t rest other (sym (is.others t.0 other) ∙ this)

  have_again : HaveRested after new
  have_again = record {
    count = ap length back.new ∙ (length-set woken s.0 back.rest ∙ (is.count ∙ (rested.count ∙ sym grew.seqs)));
    each = each_again;
  }

-- a desk was woken, its core has some events more, and it was put to rest: all have rested
pub rested_again : (s of : SeqId) (core at after : Play) (rests woken new : List (Rest Plain)) (kept kept' : Kept Plain) → s.0 < core.seqs
    → HaveRested core rests → IsWoken s core rests woken at of kept → Grew of at after kept kept' → IsPutBack of woken new kept' after
    → HaveRested after new
rested_again s of core at after rests woken new kept kept' within rested is grew back =
    have_again s core after rests woken new kept kept' within rested
    (subst (λ (q : SeqId). IsWoken s core rests woken core q kept) is.seq
    (subst (λ (c : Play). IsWoken s core rests woken c of kept) is.core is))
    (subst (λ (q : SeqId). Grew q core after kept kept') is.seq (subst (λ (c : Play). Grew of c after kept kept') is.core grew))
    (subst (λ (q : SeqId). IsPutBack q woken new kept' after) is.seq back)
