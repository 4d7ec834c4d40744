-- One join through a pass, which all passes then have seen.
use Rattle.std.proofs.Common.{◌≡◌, ◌≢◌, ℕ, ◌<◌, ◌++◌, eqb, true, false, List, [], ◌∷◌, length, reverse, set, sym, ap, ◌∙◌, subst, arith, Some, Result, Err, ⊎_elim}
use Rattle.std.specs.Prelude.{slice_get}
use Rattle.std.proofs.lemmas.List.{reverse-append, same_from_push}
use Rattle.std.proofs.lemmas.Option.{slice_get_within}
use Rattle.std.proofs.lemmas.Bool.Decides.{eqb_tells}
use Rattle.atomic_table.specs.Seated.{TableId}
use Rattle.mj_base.specs.declared.ids.SeqId.{SeqId}
use Rattle.mj_base.specs.declared.limits.TheConstants.{MAX_EVENTS}
use Rattle.mj_schema.specs.declared.schema.Schema.{Schema}
use Rattle.handle_table.specs.declared.thing.Thing.{Thing}
use Rattle.bind_model.specs.Plain.{told_of}
use Rattle.bind_model.specs.Replies.{Legal, legal}
use Rattle.bind_model.specs.Seen.{own_of, told_behind}
use Rattle.bind_model.specs.Wire.{Wire}
use Rattle.bind_model.specs.WireOf.{wire_of}
use Rattle.bind_model.specs.declared.asked.Asked.TheVariants as asks
use Rattle.bind_model.specs.declared.commands.Command.{Command}
use Rattle.bind_model.specs.declared.commands.Command.TheVariants as commands
use Rattle.bind_model.specs.declared.commands.Refused.{Refused}
use Rattle.bind_model.specs.declared.commands.Refused.TheVariants as refusals
use Rattle.bind_model.specs.declared.commands.Reply.{Reply}
use Rattle.bind_model.specs.declared.event.Event.{Event}
use Rattle.bind_model.specs.declared.told.Told.{Told}
use Rattle.bind_model.specs.declared.told.Told.TheVariants as tells
use Rattle.turn_lock.specs.Lists.{Begins}
use Rattle.turn_lock.specs.Passing.{mine_of}
use Rattle.turn_lock.specs.declared.view.View.{View}
use Rattle.turn_lock.proofs.Lists.{begins_more, begins_then}
use Rattle.bind_hub.specs.Kept.{Basis}
use Rattle.bind_hub.specs.Passes.{seq_at, IsPassOf, Rests, Steps}
use Rattle.script_run.specs.declared.cut.Cut.{Cut}
use Rattle.script_run.specs.declared.cut.Cut.TheVariants as cuts
use Rattle.script_run.specs.declared.joins.Joint.{Joint}
use Rattle.script_run.specs.steps.Joints.{joint_event}
use Rattle.script_run.proofs.Joining.{first_end, second_end, joins_made}
use Rattle.threaded_run.specs.steps.Joins.{HaveJoined, IsCutBy, IsFull}
use Rattle.threaded_run.specs.steps.Passes.{HasAll, HaveAll, HubPass, Shown}
use Rattle.threaded_run.proofs.Merging.{AreOf, are_behind, met_none, one_more}
use Rattle.threaded_run.proofs.Places.{got_set_else, got_set_here, some_is, there_at}

are_legal : (wire : Wire) (seqs : ℕ) (past : List Event) → legal wire seqs past → AreOf seqs past
are_legal wire seqs [] h = tt
are_legal wire seqs (e ∷ past) h = (h.0, are_legal wire seqs past h.2)

are_front : (seqs : ℕ) (xs ys : List Event) → AreOf seqs (xs ++ ys) → AreOf seqs xs
are_front seqs [] ys h = tt
are_front seqs (x ∷ xs) ys h = (h.0, are_front seqs xs ys h.1)

are_back : (seqs : ℕ) (xs : List Event) → AreOf seqs (reverse xs) → AreOf seqs xs
are_back seqs [] h = tt
are_back seqs (x ∷ xs) h =
    let h' : AreOf seqs (reverse xs ++ x ∷ []) = subst (AreOf seqs) (reverse-append (x ∷ []) xs) h in
    ((are_behind seqs (reverse xs) (x ∷ []) h').0, are_back seqs xs (are_front seqs (reverse xs) (x ∷ []) h'))

-- what a pass has seen
abbrev pub view_of : HubPass → View Event Basis
view_of p = p.place.me.0

-- the pass `first` of `passes` joined and is `one` then; `after` is what came of all when they met it
module _ (table : TableId) (schema : Schema) (seqs : ℕ) (joint : Joint) (joins : List Event) (passes after : List HubPass) (first one : HubPass) (reply : Reply)
    (count : length passes ≡ seqs) (len : length after ≡ length passes) (at_s : slice_get passes joint.seq.0 ≡ Some first) (is_there : joint.other.0 < seqs)
    (have : HaveAll table schema seqs joins passes)
    (step : Steps schema seqs first.number (view_of first) (view_of one) (commands.Join joint.other) reply) (same : one.number ≡ first.number)
    (is : IsPassOf table schema seqs one.number one.place.table_id (view_of one))
    (met : (k : ℕ) (p : HubPass) → slice_get (set passes joint.seq.0 one) k ≡ Some p
    → (q : HubPass) × (slice_get after k ≡ Some q)
    × Shown table schema seqs p.number (view_of p) (view_of one).seen q.number q.place.table_id (view_of q)) where
  abbrev s : ℕ
  s = joint.seq.0

  abbrev me : SeqId
  me = seq_at first.number

  abbrev new : List Event
  new = (view_of one).seen

  -- the events that the join came behind
  abbrev before : List Event
  before = step.saw.before

  abbrev event : Event
  event = record { seq = me; asked = asks.Join joint.other; told = told_behind schema seqs me before (commands.Join joint.other) }

  below : s < seqs
  below = let h = slice_get_within passes s first at_s in omega (arith, h, count)

  mine_s : HasAll table schema seqs joins s first.number first.place.table_id (view_of first)
  mine_s = have s first at_s

  number_s : one.number ≡ s
  number_s = same ∙ mine_s.numbered

  begins : Begins joins new
  begins =
      let b : Begins (view_of first).seen step.saw.before = (step.saw.others.between, step.saw.others.all) in
      let c : Begins (view_of first).seen new
      = subst (Begins (view_of first).seen) (sym step.saw.event) (begins_more (view_of first).seen step.saw.before (event ∷ []) b) in
      begins_then joins (view_of first).seen new mine_s.begins c

  own_s : own_of (seq_at s) new ≡ mine_of (view_of one).parts
  own_s = subst (λ n. own_of (seq_at n) new ≡ mine_of (view_of one).parts) number_s is.own

  grown_s : own_of (seq_at s) new ≡ own_of (seq_at s) joins ++ event ∷ []
  grown_s = own_s ∙ (step.mine ∙ ap (λ xs. xs ++ event ∷ []) (sym mine_s.mine))

  -- of another sequence there is nothing new
  none_t : (t : ℕ) → t < seqs → t ≢ s → own_of (seq_at t) new ≡ own_of (seq_at t) joins
  none_t t lt not =
      let p = there_at passes t (omega (arith, lt, count)) in
      let h = have t p.0 p.1 in
      let q = met t p.0 (got_set_else passes s t one not ∙ p.1) in
      let own_q : own_of (seq_at t) (view_of q.0).seen ≡ own_of (seq_at t) joins =
      subst (λ n. own_of (seq_at n) (view_of q.0).seen ≡ mine_of (view_of q.0).parts) (q.2.same ∙ h.numbered) q.2.pass.own ∙ (q.2.mine ∙ sym h.mine) in
      met_none (seq_at t) joins new (view_of q.0).seen begins q.2.also own_q

  new_is : new ≡ joins ++ event ∷ []
  new_is = one_more seqs s joins new event (are_back seqs new (are_legal (wire_of schema) seqs (reverse new) step.legal)) begins below grown_s none_t

  has_then : (k : ℕ) (p q : HubPass) → p.number ≡ k → own_of (seq_at k) new ≡ mine_of (view_of p).parts
      → Shown table schema seqs p.number (view_of p) new q.number q.place.table_id (view_of q)
      → HasAll table schema seqs new k q.number q.place.table_id (view_of q)
  has_then k p q numbered own t = record { numbered = t.same ∙ numbered; pass = t.pass; begins = t.also; mine = own ∙ sym t.mine }

  all_then : HaveAll table schema seqs new after
  all_then k q got = ⊎_elim
      (λ (e : (eqb k s ≡ true) × (k ≡ s)).
      let here : slice_get (set passes s one) k ≡ Some one
      = subst (λ n. slice_get (set passes s one) n ≡ Some one) (sym e.1) (got_set_here passes s one (slice_get_within passes s first at_s)) in
      let m = met k one here in
      subst (λ y. HasAll table schema seqs new k y.number y.place.table_id (view_of y)) (some_is m.0 q (sym m.1 ∙ got))
      (has_then k one m.0 (number_s ∙ sym e.1) (subst (λ n. own_of (seq_at n) new ≡ mine_of (view_of one).parts) (sym e.1) own_s) m.2))
      (λ (e : (eqb k s ≡ false) × (k ≢ s)).
      let within : k < length passes = let h = slice_get_within after k q got in omega (arith, len, h) in
      let p = there_at passes k within in
      let h = have k p.0 p.1 in
      let m = met k p.0 (got_set_else passes s k one e.1 ∙ p.1) in
      subst (λ y. HasAll table schema seqs new k y.number y.place.table_id (view_of y)) (some_is m.0 q (sym m.1 ∙ got))
      (has_then k p.0 m.0 h.numbered (none_t k (omega (arith, within, count)) e.1 ∙ h.mine) m.2))
      (eqb_tells k s)

  -- they are those that all had seen
  before_is : before ≡ joins
  before_is = (same_from_push before joins event event (sym step.saw.event ∙ new_is)).0

  -- the ends that it made
  abbrev first_made : Thing
  first_made = first_end schema seqs me joint.other before

  abbrev second_made : Thing
  second_made = second_end schema seqs me joint.other before

  made_is : told_behind schema seqs me before (commands.Join joint.other) ≡ tells.Made (first_made ∷ second_made ∷ [])
  made_is = joins_made schema seqs me joint.other before is_there

  event_is : event ≡ joint_event joint first_made second_made
  event_is =
      ap (λ (t : Told). record { seq = me; asked = asks.Join joint.other; told = t }) made_is
      ∙ ap (λ (q : SeqId). record { seq = q; asked = asks.Join joint.other; told = tells.Made (first_made ∷ second_made ∷ []) }) (ap seq_at mine_s.numbered)

  whole_is : new ≡ joins ++ joint_event joint first_made second_made ∷ []
  whole_is = new_is ∙ ap (λ (e : Event). joins ++ e ∷ []) event_is

  pub joined : (x : Thing) × (y : Thing) × (told_of reply ≡ tells.Made (x ∷ y ∷ [])) × HaveJoined table schema seqs joint joins after x y
  joined = (
    first_made,
    second_made,
    step.saw.told ∙ made_is,
    record {
      may = record {
        legal = subst (λ (es : List Event). Legal (wire_of schema) seqs es) whole_is step.legal;
        few = subst (λ (es : List Event). length es < MAX_EVENTS) before_is step.saw.room;
      };
      have = subst (λ (es : List Event). HaveAll table schema seqs es after) whole_is all_then;
    },
  )

-- what a join is told, whatever was seen before
pub told_made : (schema : Schema) (seqs number : ℕ) (v w : View Event Basis) (other : SeqId) (reply : Reply) → other.0 < seqs
    → Steps schema seqs number v w (commands.Join other) reply → (x : Thing) × (y : Thing) × (told_of reply ≡ tells.Made (x ∷ y ∷ []))
told_made schema seqs number v w other reply within step = (
  first_end schema seqs (seq_at number) other step.saw.before,
  second_end schema seqs (seq_at number) other step.saw.before,
  step.saw.told ∙ joins_made schema seqs (seq_at number) other step.saw.before within,
)

-- the passes with one after its step
pub set_pass : (table : TableId) (schema : Schema) (seqs s : ℕ) (passes : List HubPass) (first one : HubPass) → slice_get passes s ≡ Some first
    → ((k : ℕ) (p : HubPass) → slice_get passes k ≡ Some p → (p.number ≡ k) × IsPassOf table schema seqs p.number p.place.table_id (view_of p))
    → one.number ≡ first.number → IsPassOf table schema seqs one.number one.place.table_id (view_of one)
    → (k : ℕ) (p : HubPass) → slice_get (set passes s one) k ≡ Some p → (p.number ≡ k) × IsPassOf table schema seqs p.number p.place.table_id (view_of p)
set_pass table schema seqs s passes first one at_s all same is k p got = ⊎_elim
    (λ (e : (eqb k s ≡ true) × (k ≡ s)).
    let here : slice_get (set passes s one) k ≡ Some one
    = subst (λ n. slice_get (set passes s one) n ≡ Some one) (sym e.1) (got_set_here passes s one (slice_get_within passes s first at_s)) in
    subst (λ y. (y.number ≡ k) × IsPassOf table schema seqs y.number y.place.table_id (view_of y)) (some_is one p (sym here ∙ got))
    (same ∙ ((all s first at_s).0 ∙ sym e.1), is))
    (λ (e : (eqb k s ≡ false) × (k ≢ s)). all k p (sym (got_set_else passes s k one e.1) ∙ got))
    (eqb_tells k s)

-- and those that came of all
pub met_pass : (table : TableId) (schema : Schema) (seqs : ℕ) (from : List Event) (passes after : List HubPass) → length after ≡ length passes
    → ((k : ℕ) (p : HubPass) → slice_get passes k ≡ Some p → p.number ≡ k)
    → ((k : ℕ) (p : HubPass) → slice_get passes k ≡ Some p → (q : HubPass) × (slice_get after k ≡ Some q)
    × Shown table schema seqs p.number (view_of p) from q.number q.place.table_id (view_of q))
    → (k : ℕ) (q : HubPass) → slice_get after k ≡ Some q → (q.number ≡ k) × IsPassOf table schema seqs q.number q.place.table_id (view_of q)
met_pass table schema seqs from passes after len numbered met k q got =
    let within : k < length passes = let h = slice_get_within after k q got in omega (arith, len, h) in
    let p = there_at passes k within in
    let m = met k p.0 p.1 in
    subst (λ y. (y.number ≡ k) × IsPassOf table schema seqs y.number y.place.table_id (view_of y)) (some_is m.0 q (sym m.1 ∙ got))
    (m.2.same ∙ numbered k p.0 p.1, m.2.pass)

-- where the join came back, all have seen still what they had
pub set_all : (table : TableId) (schema : Schema) (seqs s : ℕ) (joins : List Event) (passes : List HubPass) (first one : HubPass) (command : Command)
    (refused : Refused) → slice_get passes s ≡ Some first → HaveAll table schema seqs joins passes
    → Rests schema seqs first.number (view_of first) (view_of one) command refused → one.number ≡ first.number
    → IsPassOf table schema seqs one.number one.place.table_id (view_of one) → HaveAll table schema seqs joins (set passes s one)
set_all table schema seqs s joins passes first one command refused at_s have rests same is k p got = ⊎_elim
    (λ (e : (eqb k s ≡ true) × (k ≡ s)).
    let here : slice_get (set passes s one) k ≡ Some one =
    subst (λ n. slice_get (set passes s one) n ≡ Some one) (sym e.1) (got_set_here passes s one (slice_get_within passes s first at_s)) in
    subst (λ y. HasAll table schema seqs joins k y.number y.place.table_id (view_of y)) (some_is one p (sym here ∙ got))
    (subst (λ n. HasAll table schema seqs joins n one.number one.place.table_id (view_of one)) (sym e.1) own))
    (λ (e : (eqb k s ≡ false) × (k ≢ s)). have k p (sym (got_set_else passes s k one e.1) ∙ got))
    (eqb_tells k s)
  where
    was : HasAll table schema seqs joins s first.number first.place.table_id (view_of first)
    was = have s first at_s

    own : HasAll table schema seqs joins s one.number one.place.table_id (view_of one)
    own = record {
      numbered = same ∙ was.numbered;
      pass = is;
      begins = begins_then joins (view_of first).seen (view_of one).seen was.begins (rests.waited.others.between, rests.waited.others.all);
      mine = was.mine ∙ sym rests.mine;
    }

-- and it is spent only where the pass has seen all events that there may be
pub full_at : (schema : Schema) (seqs s : ℕ) (passes : List HubPass) (first one : HubPass) (command : Command) (refused : Refused) (cut : Cut)
    → s < length passes → Rests schema seqs first.number (view_of first) (view_of one) command refused → IsCutBy refused cut → cut ≡ cuts.Spent
    → IsFull (set passes s one)
full_at schema seqs s passes first one command (refusals.Memory back) cut within rests by spent = absurd cc
full_at schema seqs s passes first one command (refusals.Spent back) cut within rests by spent = (s, one, got_set_here passes s one within, rests.waited.spent)

-- a cut in an answer is this cut
pub cut_is : {A : Type 0} (a b : Cut) → ◌≡◌ {A = Result A Cut} (Err a) (Err b) → a ≡ b
cut_is a b e = cc
