-- What a join gives to the sequences, and the joins that are done.
use Rattle.std.proofs.Common.{◌≡◌, ◌<◌, ◌≤◌, ◌+◌, ℕ, suc, Bool, Bor, true, false, List, [], ◌∷◌, length, take, refl, sym, ap, ◌∙◌}
use Rattle.std.proofs.Common.{subst, arith, length-set, ltb}
use Rattle.std.specs.Prelude.{◌==◌, Option, Some, None, IfNone, IfSome, map, reverse, set, slice_get, if◌then◌else◌}
use Rattle.std.specs.List.{AllByRecursion}
use Rattle.std.specs.Option.{option_map}
use Rattle.std.proofs.Math.Path.{fun_ext}
use Rattle.std.proofs.lemmas.Bool.{eqb-false, eqb-true, le-ltb, lt-ltb, ltb-false, ltb-true}
use Rattle.std.proofs.lemmas.List.{append-nil, length-append, length-reverse, reverse-append, take_all}
use Rattle.std.proofs.lemmas.Option.{slice_get_past, slice_get_within}
use Rattle.mj_base.specs.declared.ids.SeqId.{SeqId}
use Rattle.mj_schema.specs.declared.schema.Schema.{Schema}
use Rattle.handle_table.specs.declared.thing.Thing.{Thing}
use Rattle.handle_table.proofs.NumberedLemmas.{get-set}
use Rattle.bind_model.specs.declared.asked.Asked.TheVariants as asks
use Rattle.bind_model.specs.declared.event.Event.{Event}
use Rattle.bind_model.specs.declared.told.Told.{Told}
use Rattle.bind_model.specs.declared.told.Told.TheVariants as tells
use Rattle.call_script.specs.Sound.{IsLine, IsScript, sets}
use Rattle.call_script.specs.declared.script.Command.{Command}
use Rattle.call_script.specs.declared.script.Command.TheVariants.{Join}
use Rattle.call_script.specs.declared.script.Line.{Line}
use Rattle.call_script.specs.declared.script.NameId.{NameId}
use Rattle.call_script.specs.declared.script.Script.{Script}
use Rattle.core_state.specs.Doing.{told_to}
use Rattle.event_tables.specs.AsCore.{past_by, state_of}
use Rattle.event_steps.specs.declared.machine.Machine.{Machine}
use Rattle.plain_names.specs.Held.{HasNames, named_in}
use Rattle.plain_names.specs.declared.named.PlainNames.{PlainNames}
use Rattle.script_names.specs.Held.{held_at}
use Rattle.script_names.specs.Names.{came_to, joined, joined_after, or_before}
use Rattle.script_names.specs.Tables.{filled}
use Rattle.script_names.proofs.NameLemmas.{held_given}
use Rattle.script_names.proofs.TableLemmas.{eqb-turned}
use Rattle.script_run.specs.OfScript.{GoesOn, IsPart, joins_by, next_join}
use Rattle.script_run.specs.Order.{is_join, joins_of}
use Rattle.script_run.specs.Rooms.{filled_if}
use Rattle.script_run.specs.declared.joins.Joint.{Joint}
use Rattle.script_run.specs.steps.Joints.{joint_event}
use Rattle.script_run.proofs.JoinDone.{at_line, given_line, held_if, join_here, joins_in, joins_more, length_if, line_of, or_or, same_named, step_if}
use Rattle.event_follow.specs.declared.places.Place.{Place}
use Rattle.event_follow.specs.steps.Joining.{Come, ComesOf, GaveAt, GaveBoth, HasJoined, HasMade, IsBehind}
use Rattle.event_follow.specs.steps.Places.{AreFresh, IsOf}
use Rattle.event_follow.proofs.PlacesLemmas.{behind_none}

-- ## Two things

pub some_weaker : {A : Type 0} (o : Option A) (P Q : A → Type 0) → ((a : A) → P a → Q a) → IfSome o P → IfSome o Q
some_weaker (Some a) P Q f p = f a p
some_weaker None P Q f p = tt

pub none_weaker : {A : Type 0} (o : Option A) (P Q : Type 0) → (P → Q) → IfNone o P → IfNone o Q
none_weaker None P Q f p = f p
none_weaker (Some a) P Q f p = tt

-- two lists of two that are the same
pub same_two : (x y a b : Thing) (told : Told) → told ≡ tells.Made (x ∷ y ∷ []) → told ≡ tells.Made (a ∷ b ∷ []) → (x ≡ a) × (y ≡ b)
same_two x y a b told first second =
    let both : tells.Made (x ∷ y ∷ []) ≡ tells.Made (a ∷ b ∷ []) = sym first ∙ second in
    let x_is : x ≡ a = cc in
    let y_is : y ≡ b = cc in
    (x_is, y_is)

-- what was made is a list of two, where it is told so
pub made_two : (things : List Thing) (x y : Thing) (told : Told) → told ≡ tells.Made things → told ≡ tells.Made (x ∷ y ∷ []) → things ≡ x ∷ y ∷ []
made_two things x y told first second =
    let both : tells.Made things ≡ tells.Made (x ∷ y ∷ []) = sym first ∙ second in
    cc

-- ## All places

-- the ends came where it was told already
abbrev pub GaveIf : Joint → Thing → Thing → Bool → ℕ → Place → Place → Type 0
GaveIf joint x y true k old new = GaveAt joint x y k old new
GaveIf joint x y false k old new = new ≡ old

-- they came at so many places
abbrev pub GaveBelow : Joint → Thing → Thing → ℕ → List Place → List Place → Type 0
GaveBelow joint x y i old new = ComesOf (λ k. GaveIf joint x y (ltb k i) k) old new

module _ (joint : Joint) (x y : Thing) where
  pub gave_none : (places : List Place) → GaveBelow joint x y 0 places places
  gave_none places = record {
    count = refl;
    each = λ k place at. (place, at, subst (λ (b : Bool). GaveIf joint x y b k place place) (sym (le-ltb k 0 (omega arith))) refl);
  }

  pub gave_all : (i : ℕ) (old new : List Place) → length new ≤ i → GaveBelow joint x y i old new → Come joint x y old new
  gave_all i old new past gave = record {
    count = gave.count;
    each = λ k place at.
        let was = gave.each k place at in
        let below : ltb k i ≡ true = lt-ltb k i (omega (arith, slice_get_within new k place at, past)) in
        (was.0, was.1, subst (λ (b : Bool). GaveIf joint x y b k was.0 place) below was.2);
  }

  same_below : (i k : ℕ) → (i == k) ≡ false → ltb k (i + 1) ≡ ltb k i
  same_below i k other = by (ltb k i) refl
    where
      by : (b : Bool) → ltb k i ≡ b → ltb k (i + 1) ≡ b
      by true e = lt-ltb k (i + 1) (omega (arith, ltb-true k i e))
      by false e =
          let above : i ≤ k = ltb-false k i e in
          let not_same : i ≡ k → ⊥ = eqb-false i k other in
          le-ltb k (i + 1) (omega (arith, above, not_same))

  pub gave_more : (i : ℕ) (old now : List Place) (place after : Place) → slice_get now i ≡ Some place → GaveAt joint x y i place after
      → GaveBelow joint x y i old now → GaveBelow joint x y (i + 1) old (set now i after)
  gave_more i old now place after here gives gave = record {
    count = length-set now i after ∙ gave.count;
    each = λ k new at. by k new (i == k) refl (sym (get-set after now i k) ∙ at);
  }
    where
      by : (k : ℕ) (new : Place) (b : Bool) → (i == k) ≡ b
          → (if b then option_map (λ (before : Place). after) (slice_get now k) else slice_get now k) ≡ Some new
          → (before : Place) × (slice_get old k ≡ Some before) × GaveIf joint x y (ltb k (i + 1)) k before new
      by k new true e at =
          let number : i ≡ k = eqb-true i k e in
          let there : slice_get now k ≡ Some place = ap (slice_get now) (sym number) ∙ here in
          let is : ◌≡◌ {A = Option Place} (Some after) (Some new) = sym (ap (option_map (λ (before : Place). after)) there) ∙ at in
          let new_is : after ≡ new = cc in
          let was = gave.each k place there in
          let above : ltb k i ≡ false = le-ltb k i (omega (arith, number)) in
          let below : ltb k (i + 1) ≡ true = lt-ltb k (i + 1) (omega (arith, number)) in
          let unchanged : place ≡ was.0 = subst (λ (b : Bool). GaveIf joint x y b k was.0 place) above was.2 in (
            was.0,
            was.1,
            subst (λ (b : Bool). GaveIf joint x y b k was.0 new) (sym below)
                (subst (λ (p : Place). GaveAt joint x y k was.0 p) new_is
                (subst (λ (p : Place). GaveAt joint x y k p after) unchanged
                (subst (λ (m : ℕ). GaveAt joint x y m place after) number gives))),
          )
      by k new false e at =
          let was = gave.each k new at in
          (was.0, was.1, subst (λ (b : Bool). GaveIf joint x y b k was.0 new) (sym (same_below i k e)) was.2)

-- ## The names after a join

module _ (joint : Joint) (number size : ℕ) (x y : Thing) (t : SeqId) (before after : PlainNames) (have : HasNames size before)
    (first_within : joint.first.0 < size) (second_within : joint.second.0 < size) (gave : GaveBoth joint x y t.0 before after) where
  -- what names stand for
  stands_after : (n : NameId) → (named_in after).stands n ≡ (joined_after t (Some (line_of joint number)) (joint_event joint x y) (named_in before)).stands n
  stands_after n =
      ap (λ (table : List (Option Thing)). held_at table n) gave.stands
      ∙ held_given (joint.first ∷ joint.second ∷ []) (x ∷ y ∷ []) before.stands.things.items (
        subst (λ (k : ℕ). joint.first.0 < k) (sym have.stands) first_within,
        (subst (λ (k : ℕ). joint.second.0 < k) (sym have.stands) second_within, tt),
      ) n

  -- what was held before
  abbrev table : List (Option Thing)
  table = before.handles.items.items

  -- and hold
  handle_after : (n : NameId) → (named_in after).handle n ≡ (joined_after t (Some (line_of joint number)) (joint_event joint x y) (named_in before)).handle n
  handle_after n =
      ap (λ (table : List (Option Thing)). held_at table n) gave.handles
      ∙ (held_if (joint.seq.0 == t.0) (filled_if (joint.other.0 == t.0) table joint.second y) joint.first x n
      (subst (λ (k : ℕ). joint.first.0 < k) (sym (length_if (joint.other.0 == t.0) table joint.second y ∙ have.handles)) first_within)
      ∙ (ap (or_before (came_to (joint.seq.0 == t.0) (joint.first ∷ []) (x ∷ []) n))
      (held_if (joint.other.0 == t.0) table joint.second y n (subst (λ (k : ℕ). joint.second.0 < k) (sym have.handles) second_within))
      ∙ (or_or (came_to (joint.seq.0 == t.0) (joint.first ∷ []) (x ∷ []) n) (came_to (joint.other.0 == t.0) (joint.second ∷ []) (y ∷ []) n)
      (held_at table n)
      ∙ (ap (λ (b : Bool). or_before (or_before (came_to b (joint.first ∷ []) (x ∷ []) n) (came_to (joint.other.0 == t.0) (joint.second ∷ []) (y ∷ []) n))
      (held_at table n)) (eqb-turned joint.seq.0 t.0)
      ∙ ap (λ (b : Bool). or_before (or_before (came_to (t.0 == joint.seq.0) (joint.first ∷ []) (x ∷ []) n) (came_to b (joint.second ∷ []) (y ∷ []) n))
      (held_at table n)) (eqb-turned joint.other.0 t.0)))))

  names_joined : named_in after ≡ joined_after t (Some (line_of joint number)) (joint_event joint x y) (named_in before)
  names_joined =
      same_named (named_in after) (joined_after t (Some (line_of joint number)) (joint_event joint x y) (named_in before))
      (fun_ext stands_after) (fun_ext handle_after)
      (ap (λ ps. held_at ps.items.items) gave.pendings)
      (ap (λ rs. held_at rs.items.items) gave.responders)

  have_after : HasNames size after
  have_after = record {
    stands =
        ap length gave.stands
        ∙ (length-set (filled before.stands.things.items joint.second y) joint.first.0 (Some x)
        ∙ (length-set before.stands.things.items joint.second.0 (Some y) ∙ have.stands));
    handles =
        ap length gave.handles
        ∙ (length_if (joint.seq.0 == t.0) (filled_if (joint.other.0 == t.0) before.handles.items.items joint.second y) joint.first x
        ∙ (length_if (joint.other.0 == t.0) before.handles.items.items joint.second y ∙ have.handles));
    pendings = ap (λ ps. length ps.items.items) gave.pendings ∙ have.pendings;
    responders = ap (λ rs. length rs.items.items) gave.responders ∙ have.responders;
  }

-- ## One join more

module _ (s : Schema) (script : Script) (count : ℕ) (before after : Machine) (places places' : List Place)
    (done : HasJoined s script count before places) (joint : Joint) (number : ℕ)
    (here : slice_get (joins_of script) count ≡ Some (line_of joint number))
    (first_within : joint.first.0 < script.names) (second_within : joint.second.0 < script.names)
    (made : HasMade joint before after places places') where
  -- the event of the join
  abbrev event : Event
  event = joint_event joint made.first made.second

  -- by what it was told
  abbrev event_of : Told → Event
  event_of told = record { seq = joint.seq; asked = asks.Join joint.other; told = told }

  -- what it was told
  abbrev told : Told
  told = told_to (state_of before.tables) joint.seq (asks.Join joint.other)

  past_after : past_by after.tables ≡ event ∷ past_by before.tables
  past_after =
      ap reverse made.steps.events
      ∙ (reverse-append before.tables.log.events (event_of told ∷ []) ∙ ap (λ (t : Told). event_of t ∷ past_by before.tables) made.told)

  length_past : length (past_by before.tables) ≡ count
  length_past = length-reverse before.tables.log.events ∙ done.count

  line_here : slice_get (joins_of script) (length (past_by before.tables)) ≡ Some (line_of joint number)
  line_here = ap (slice_get (joins_of script)) length_past ∙ here

  behind_after : (t : SeqId) (place : Place) → slice_get places' t.0 ≡ Some place → IsBehind script (past_by after.tables) t place
  behind_after t place at =
      let was = made.places.each t.0 place at in
      let stood : IsBehind script (past_by before.tables) t was.0 = done.each t was.0 was.1 in
      let gave : GaveAt joint made.first made.second t.0 was.0 place = was.2 in
      record {
        names =
            have_after joint number script.names made.first made.second t was.0.names place.names stood.names first_within second_within gave.names;
        named =
            names_joined joint number script.names made.first made.second t was.0.names place.names stood.names first_within second_within gave.names
            ∙ (ap (joined_after t (Some (line_of joint number)) event) stood.named
            ∙ (ap (λ (o : Option Line). joined_after t o event (joined t (joins_of script) (past_by before.tables))) (sym line_here)
            ∙ ap (joined t (joins_of script)) (sym past_after)));
        lines = ap (λ ls. map (λ (l : Bor Line). l.now) ls.items) gave.lines ∙ stood.lines;
        done = gave.done ∙ stood.done;
        due = gave.due ∙ stood.due;
      }

  one_joined : HasJoined s script (count + 1) after places'
  one_joined = record {
    is = record { stands = made.stands; schema = made.steps.schema ∙ done.is.schema; seqs = made.steps.seqs ∙ done.is.seqs };
    asks = subst (GoesOn (next_join script)) (sym past_after) (ap (option_map joins_by) line_here, done.asks);
    count =
        ap length made.steps.events
        ∙ (length-append before.tables.log.events (event_of told ∷ []) ∙ ap (λ (n : ℕ). n + 1) done.count);
    size = made.places.count ∙ done.size;
    each = behind_after;
  }

-- ## The lines, one after the other

module _ (s : Schema) (script : Script) (sound : IsScript s script) (i : ℕ) (line : Line) (at : slice_get script.lines i ≡ Some line) (now : Machine)
    (places : List Place) (done : HasJoined s script (length (joins_in (take i script.lines))) now places) where
  -- it is sound
  pub line_sound : IsLine s script.seqs script.names line
  line_sound = at_line (IsLine s script.seqs script.names) script.lines i line sound.lines at

  one_more : length (joins_in (take (i + 1) script.lines)) ≡ step_if (is_join line.command) (length (joins_in (take i script.lines)))
  one_more =
      let next : i + 1 ≡ suc i = omega arith in
      ap (λ (k : ℕ). length (joins_in (take k script.lines))) next ∙ joins_more script.lines i line at

  -- a line that joins
  pub joined_next : (after : Machine) (places' : List Place) (joint : Joint) → line.command ≡ Join joint.other joint.first joint.second
      → line.seq ≡ joint.seq → HasMade joint now after places places'
      → HasJoined s script (length (joins_in (take (i + 1) script.lines))) after places'
  joined_next after places' joint command seq made =
      let line_is : line ≡ line_of joint line.number =
      ap (λ (c : Command). given_line line.number line.seq c) command
      ∙ ap (λ (q : SeqId). given_line line.number q (Join joint.other joint.first joint.second)) seq in
      let joins : is_join line.command ≡ true = ap is_join command in
      let within = subst (λ (c : Command). AllByRecursion (λ (id : NameId). id.0 < script.names) (sets c)) command line_sound.sets in
      let here : slice_get (joins_of script) (length (joins_in (take i script.lines))) ≡ Some (line_of joint line.number) =
      join_here script.lines i line at joins ∙ ap (λ (x : Line). Some x) line_is in
      let one : length (joins_in (take i script.lines)) + 1 ≡ suc (length (joins_in (take i script.lines))) = omega arith in
      let next : length (joins_in (take (i + 1) script.lines)) ≡ length (joins_in (take i script.lines)) + 1 =
      one_more ∙ (ap (λ (b : Bool). step_if b (length (joins_in (take i script.lines)))) joins ∙ sym one) in
      subst (λ (n : ℕ). HasJoined s script n after places') (sym next)
      (one_joined s script (length (joins_in (take i script.lines))) now after places places' done joint line.number here within.0 within.1.0 made)

  -- one that doesn't
  pub joined_same : ((other : SeqId) (first second : NameId) → line.command ≡ Join other first second → ⊥)
      → HasJoined s script (length (joins_in (take (i + 1) script.lines))) now places
  joined_same never =
      let next : length (joins_in (take (i + 1) script.lines)) ≡ length (joins_in (take i script.lines)) =
      one_more ∙ ap (λ (b : Bool). step_if b (length (joins_in (take i script.lines)))) (none line.command never) in
      subst (λ (n : ℕ). HasJoined s script n now places) (sym next) done
    where
      none : (command : Command) → ((other : SeqId) (first second : NameId) → command ≡ Join other first second → ⊥) → is_join command ≡ false
      none (Join other first second) h = absurd (h other first second refl)
      none command h = refl

-- ## Before the first, and behind the last

pub joined_first : (s : Schema) (script : Script) (machine : Machine) (places : List Place) → IsOf s script machine
    → machine.tables.log.events ≡ [] → AreFresh script places → HasJoined s script 0 machine places
joined_first s script machine places is fresh are =
    let none : past_by machine.tables ≡ [] = ap reverse fresh in
    record {
      is = is;
      asks = subst (GoesOn (next_join script)) (sym none) tt;
      count = ap length fresh;
      size = are.count;
      each = λ t place at.
          subst (λ (past : List Event). IsBehind script past t place) (sym none) (behind_none script t place (are.each t.0 place at));
    }

pub joined_all : (s : Schema) (script : Script) (i : ℕ) (machine : Machine) (places : List Place) → length script.lines ≤ i
    → HasJoined s script (length (joins_in (take i script.lines))) machine places → HasJoined s script (length (joins_of script)) machine places
joined_all s script i machine places past done =
    subst (λ (ls : List Line). HasJoined s script (length (joins_in ls)) machine places) (take_all i script.lines past) done

-- the joins are a part by themselves
pub all_joined : (s : Schema) (script : Script) (machine : Machine) (places : List Place)
    → HasJoined s script (length (joins_of script)) machine places → IsPart (next_join script) [] (past_by machine.tables)
all_joined s script machine places done =
    let size : length (past_by machine.tables) ≡ length (joins_of script) = length-reverse machine.tables.log.events ∙ done.count in
    record {
      own = past_by machine.tables;
      whole = sym (append-nil (past_by machine.tables));
      asks = done.asks;
      over = ap (option_map joins_by) (slice_get_past (joins_of script) (length (past_by machine.tables)) (omega (arith, size)));
    }
