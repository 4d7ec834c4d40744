-- Lists of where steps lead.
use Rattle.std.proofs.Common.{◌≡◌, ℕ, zero, suc, ◌+◌, ◌<◌, ◌≤◌, ◌^◌, List, [], ◌∷◌, ◌++◌}
use Rattle.std.proofs.Common.{length, get_or, map, refl, sym, ◌∙◌, ap, subst, inl, inr, arith, length-append}
use Rattle.std.proofs.lemmas.List.{length-map}
use Rattle.std.proofs.lemmas.Bool.Decides.{Decides-eqb}
use Rattle.std.specs.Prelude.{◌⊎◌, Bool, true, false, ◌||◌, ◌==◌, Option, Some, None, is_none, slice_get}
use Rattle.std.specs.List.{All}
use Rattle.std.proofs.Math.Nat.{two-pow-succ}
use Rattle.std.proofs.lemmas.Nat.{pow_below}
use Rattle.std.proofs.lemmas.Option.{slice_get-map, slice_get_within, slice_get_past, get_or_from_slice_get, none-some}
use Rattle.const_meanings.specs.declared.literal.Literal.{Literal}
use Rattle.const_meanings.specs.declared.origin.Origin.{Origin}
use Rattle.const_meanings.specs.declared.origin.Origin.TheVariants.{Written, Of, Next, Missing}
use Rattle.const_meanings.specs.declared.reach.Reach.{Reach}
use Rattle.const_meanings.specs.declared.meaning.Meaning.{Meaning}
use Rattle.const_meanings.specs.declared.meaning.Meaning.TheVariants.{Value, Circular, Nothing}
use Rattle.const_meanings.specs.Needs.{needed_by, needed, source, or_itself, ahead, added, counts_on, NeedsItself}
use Rattle.const_meanings.specs.steps.Reached.{step, reach, AreFar, and_then, beyond, is_reached, is_written}
use Rattle.const_meanings.specs.Meanings.{HasValue, IsMeaning}
use Rattle.const_meanings.proofs.Orbits.{below, outside, ahead_more, added_more, reached_loops, loops_reached, loops_on, stays, ends_in_time, ends_here, one_end}

-- of the things below n, where so many steps lead
pub record FarUpTo (things : List Origin) (steps n : ℕ) (reaches : List Reach) : Type 0 where
  pub count : length reaches ≡ n
  pub far : (thing : ℕ) → thing < n → slice_get reaches thing ≡ Some (reach things steps thing)

pub slice_get_more : {A : Type 0} (xs : List A) (x : A) (n k : ℕ) → length xs ≡ n → k < n + 1
    → ((k < n) × (slice_get (xs ++ x ∷ []) k ≡ slice_get xs k)) ⊎ ((k ≡ n) × (slice_get (xs ++ x ∷ []) k ≡ Some x))
slice_get_more [] x n zero e lt = inr (omega (arith, e), refl)
slice_get_more [] x n (suc k) e lt = absurd (let z : 0 ≡ n = e in let bad : ⊥ = omega arith in bad)
slice_get_more (y ∷ xs) x n zero e lt = inl (let s : suc (length xs) ≡ n = e in omega arith, refl)
slice_get_more (y ∷ xs) x n (suc k) e lt =
    let s : suc (length xs) ≡ n = e in
    elim (slice_get_more xs x (length xs) k refl (omega arith)) [ inl p ↦ inl (omega (arith, p.0), p.1) | inr p ↦ inr (omega (arith, p.0), p.1) ]

pub far_more : (things : List Origin) (steps n : ℕ) (reaches : List Reach) (r : Reach) → FarUpTo things steps n reaches → r ≡ reach things steps n
    → FarUpTo things steps (n + 1) (reaches ++ r ∷ [])
far_more things steps n reaches r up e =
    record {
      count = length-append reaches (r ∷ []) ∙ omega (arith, up.count);
      far = λ thing lt. elim (slice_get_more reaches r n thing up.count lt) [
        | inl p ↦ p.1 ∙ up.far thing p.0
        | inr p ↦ p.1 ∙ ap (λ (x : Reach). let o : Option Reach = Some x in o) (e ∙ ap (λ (k : ℕ). reach things steps k) (sym p.0))
      ];
    }

pub far_all : (things : List Origin) (steps n : ℕ) (reaches : List Reach) → n ≡ length things → FarUpTo things steps n reaches → AreFar things steps reaches
far_all things steps n reaches e up = record { count = up.count ∙ e; far = λ thing lt. up.far thing (omega (arith, e, lt)) }

-- as many steps again
pub far_twice : (things : List Origin) (steps : ℕ) (reaches : List Reach) → AreFar things steps reaches
    → AreFar things (steps + steps) (map (beyond reaches) reaches)
far_twice things steps reaches far = record { count = length-map reaches (beyond reaches) ∙ far.count; far = at }
  where
    there : (thing : ℕ) → (ahead things steps thing < length things) ⊎ (length things ≤ ahead things steps thing)
        → and_then (reach things steps thing) (slice_get reaches (ahead things steps thing)) ≡ reach things (steps + steps) thing
    there thing (inl lt) = rw (far.far (ahead things steps thing) lt, ahead_more things steps steps thing, added_more things steps steps thing) refl
    there thing (inr past) =
        let last = ahead things steps thing in
        let still = stays things steps last (outside things last past) in
        let z : added things steps thing ≡ added things steps thing + 0 = omega arith in
        let past_all = slice_get_past reaches last (omega (arith, past, far.count)) in
        rw (past_all, ahead_more things steps steps thing, added_more things steps steps thing, still.0, still.1)
        (ap (λ (more : ℕ). record { thing = last; added = more }) z)

    at : (thing : ℕ) → thing < length things → slice_get (map (beyond reaches) reaches) thing ≡ Some (reach things (steps + steps) thing)
    at thing lt =
        let same = there thing (below (ahead things steps thing) (length things)) in
        rw (slice_get-map (beyond reaches) reaches thing, far.far thing lt) (ap (λ (r : Reach). Some r) same)

at_most_one : (o : Option Origin) → counts_on o ≤ 1
at_most_one None = omega arith
at_most_one (Some (Written l)) = omega arith
at_most_one (Some (Of j)) = omega arith
at_most_one (Some Next) = omega arith
at_most_one (Some Missing) = omega arith

-- no more are added than there are steps
pub few_added : (things : List Origin) (steps thing : ℕ) → added things steps thing ≤ steps
unfolding added
few_added things zero thing = omega arith
few_added things (suc steps) thing = let h = few_added things steps (source things thing) in let one = at_most_one (slice_get things thing) in omega arith

pub all_few : (things : List Origin) (steps : ℕ) (reaches : List Reach) → AreFar things steps reaches → All (λ (r : Reach). r.added ≤ steps) reaches
all_few things steps reaches far = λ k d lt. let is =
    get_or_from_slice_get reaches k (reach things steps k) d (far.far k (omega (arith, lt, far.count))) in rw is (few_added things steps k)

no_end : (thing l m : ℕ) (things : List Origin) → NeedsItself things thing → HasValue things thing l m → ⊥
no_end thing l m things self has = loops_on things thing has.ends.steps self (ap (λ (x : ℕ). needed things x) has.ends.there ∙ has.ends.ends)

-- one of them leads there
any_first : (s : Reach) (reaches : List Reach) (thing : ℕ) (b : Bool) → (s.thing == thing) ≡ b → is_reached (s ∷ reaches) thing ≡ true
    → (is_reached reaches thing ≡ true → (k : ℕ) × (r : Reach) × (slice_get reaches k ≡ Some r) × (r.thing ≡ thing))
    → (k : ℕ) × (r : Reach) × (slice_get (s ∷ reaches) k ≡ Some r) × (r.thing ≡ thing)
any_first s reaches thing true h e later = (zero, s, refl, (Decides-eqb s.thing thing).0 h)
any_first s reaches thing false h e later = let rest = later (rw h at e) in (suc rest.0, rest.1, rest.2, rest.3)

any_reached : (reaches : List Reach) (thing : ℕ) → is_reached reaches thing ≡ true → (k : ℕ) × (r : Reach) × (slice_get reaches k ≡ Some r) × (r.thing ≡ thing)
any_reached [] thing e = absurd cc
any_reached (r ∷ reaches) thing e = any_first r reaches thing (r.thing == thing) refl e (any_reached reaches thing)

or_true : (a b : Bool) → b ≡ true → (a || b) ≡ true
or_true true b e = refl
or_true false b e = e

reached_there : (reaches : List Reach) (thing k : ℕ) (r : Reach) → slice_get reaches k ≡ Some r → r.thing ≡ thing → is_reached reaches thing ≡ true
reached_there [] thing k r e same = absurd cc
reached_there (s ∷ reaches) thing zero r e same = let is : s ≡ r = cc in rw ((Decides-eqb s.thing thing).1 (ap (λ (x : Reach). x.thing) is ∙ same)) refl
reached_there (s ∷ reaches) thing (suc k) r e same = or_true (s.thing == thing) (is_reached reaches thing) (reached_there reaches thing k r e same)

module _ (things : List Origin) (steps : ℕ) (enough : length things ≤ steps) where
  pub value_is : (thing : ℕ) (literal : Literal) → slice_get things (ahead things steps thing) ≡ Some (Written literal)
      → HasValue things thing (ahead things steps thing) (added things steps thing)
  value_is thing literal e = record { literal = literal; ends = ends_here things steps enough thing (rw e refl); written = e }

  module _
      (reaches : List Reach) (far : AreFar things steps reaches) (thing other : ℕ)
      (lt : thing < length things) (needs : needed things (ahead things steps thing) ≡ Some other)
    where
      pub circular_is : is_reached reaches thing ≡ true → NeedsItself things thing
      circular_is reached = own (needed things thing) refl (any_reached reaches thing reached)
        where
          own : (o : Option ℕ) → needed things thing ≡ o → (k : ℕ) × (r : Reach) × (slice_get reaches k ≡ Some r) × (r.thing ≡ thing) → NeedsItself things thing
          own None e from = absurd (none-some other (sym e ∙ (sym (ap (λ (x : ℕ). needed things x) (stays things steps thing e).0) ∙ needs)))
          own (Some next) e from =
              let there : from.0 < length things = omega (arith, slice_get_within reaches from.0 from.1 from.2, far.count) in
              let is : ◌≡◌ {A = Option Reach} (Some from.1) (Some (reach things steps from.0)) = sym from.2 ∙ far.far from.0 there in
              let same : from.1 ≡ reach things steps from.0 = cc in
              let lands : ahead things steps from.0 ≡ thing = sym (ap (λ (x : Reach). x.thing) same) ∙ from.3 in
              subst (λ (x : ℕ). NeedsItself things x) lands (reached_loops things steps enough from.0 next (ap (λ (x : ℕ). needed things x) lands ∙ e))

      pub nothing_is : is_reached reaches thing ≡ false → IsMeaning things thing Nothing
      nothing_is reached = (not_itself, no_value)
        where
          not_itself : NeedsItself things thing → ⊥
          not_itself self =
              let from = loops_reached things steps enough thing self in
              let yes : is_reached reaches thing ≡ true = reached_there reaches thing from.0 (reach things steps from.0) (far.far from.0 from.1) from.2 in
              let both : true ≡ false = sym yes ∙ reached in
              absurd cc

          no_value : (last more : ℕ) → HasValue things thing last more → ⊥
          no_value last more has =
              let end = ends_in_time things steps enough thing last more has.ends in
              none-some other (sym has.ends.ends ∙ (sym (ap (λ (x : ℕ). needed things x) end.0) ∙ needs))

  -- what ends where nothing is written has no value
  pub ends_unwritten : (thing : ℕ) → needed things (ahead things steps thing) ≡ None
      → is_written (slice_get things (ahead things steps thing)) ≡ false → IsMeaning things thing Nothing
  ends_unwritten thing none unwritten = (λ self. loops_on things thing steps self none, no_value)
    where
      no_value : (last more : ℕ) → HasValue things thing last more → ⊥
      no_value last more has =
          let end = ends_in_time things steps enough thing last more has.ends in
          let yes : is_written (slice_get things (ahead things steps thing)) ≡ true =
          ap (λ (x : ℕ). is_written (slice_get things x)) end.0 ∙ ap is_written has.written in
          let both : true ≡ false = sym yes ∙ unwritten in
          absurd cc

slice_at : {A : Type 0} (xs : List A) (k : ℕ) (d : A) → k < length xs → slice_get xs k ≡ Some (get_or xs k d)
slice_at [] k d lt = absurd (let bad : ⊥ = omega (arith, lt) in bad)
slice_at (x ∷ xs) zero d lt = refl
slice_at (x ∷ xs) (suc k) d lt = slice_at xs k d (omega (arith, lt))

written_is : (o : Option Origin) → is_written o ≡ true → (literal : Literal) × (o ≡ Some (Written literal))
written_is None e = absurd cc
written_is (Some (Written l)) e = (l, refl)
written_is (Some (Of j)) e = absurd cc
written_is (Some Next) e = absurd cc
written_is (Some Missing) e = absurd cc

-- what the code reads at a thing and where its steps lead
module _
    (things : List Origin) (steps : ℕ) (enough : length things ≤ steps)
    (reaches : List Reach) (far : AreFar things steps reaches) (thing : ℕ) (lt : thing < length things) (d : Reach)
  where
    reads : get_or reaches thing d ≡ reach things steps thing
    reads = get_or_from_slice_get reaches thing (reach things steps thing) d (far.far thing lt)

    pub value_at : is_written (slice_get things (get_or reaches thing d).thing) ≡ true
        → HasValue things thing (get_or reaches thing d).thing (get_or reaches thing d).added
    value_at e =
        let is = written_is (slice_get things (get_or reaches thing d).thing) e in
        rw reads (value_is things steps enough thing is.0 (ap (λ (r : Reach). slice_get things r.thing) (sym reads) ∙ is.1))

    circular_by : (o : Option ℕ) → needed things (ahead things steps thing) ≡ o → is_none o ≡ false → is_reached reaches thing ≡ true → NeedsItself things thing
    circular_by None e not reached = absurd cc
    circular_by (Some other) e not reached = circular_is things steps enough reaches far thing other lt e reached

    pub circular_at : is_none (needed things (get_or reaches thing d).thing) ≡ false → is_reached reaches thing ≡ true → NeedsItself things thing
    circular_at not reached =
        circular_by (needed things (ahead things steps thing)) refl (ap (λ (r : Reach). is_none (needed things r.thing)) (sym reads) ∙ not) reached

    nothing_by : (o : Option ℕ) → needed things (ahead things steps thing) ≡ o → is_written (slice_get things (ahead things steps thing)) ≡ false
        → (is_none o ≡ true) ⊎ (is_reached reaches thing ≡ false) → IsMeaning things thing Nothing
    nothing_by None e unwritten why = ends_unwritten things steps enough thing e unwritten
    nothing_by (Some other) e unwritten (inl not) = absurd cc
    nothing_by (Some other) e unwritten (inr not) = nothing_is things steps enough reaches far thing other lt e not

    pub nothing_at : is_written (slice_get things (get_or reaches thing d).thing) ≡ false
        → (is_none (needed things (get_or reaches thing d).thing) ≡ true) ⊎ (is_reached reaches thing ≡ false) → IsMeaning things thing Nothing
    nothing_at unwritten why =
        nothing_by (needed things (ahead things steps thing)) refl (ap (λ (r : Reach). is_written (slice_get things r.thing)) (sym reads)
        ∙ unwritten) (elim why [ inl e ↦ inl (ap (λ (r : Reach). is_none (needed things r.thing)) (sym reads) ∙ e) | inr e ↦ inr e ])

pub each_more : (things : List Origin) (n : ℕ) (meanings : List Meaning) (m : Meaning) → length meanings ≡ n
    → ((thing : ℕ) → thing < n → (meaning : Meaning) → slice_get meanings thing ≡ Some meaning → IsMeaning things thing meaning)
    → IsMeaning things n m → (thing : ℕ) → thing < n + 1 → (meaning : Meaning) → slice_get (meanings ++ m ∷ []) thing ≡ Some meaning
    → IsMeaning things thing meaning
each_more things n meanings m count each is thing lt meaning e =
    elim (slice_get_more meanings m n thing count lt) [
      | inl p ↦ each thing p.0 meaning (sym p.1 ∙ e)
      | inr p ↦ (let both : ◌≡◌ {A = Option Meaning} (Some m) (Some meaning) = sym p.1 ∙ e in let same : m ≡ meaning = cc in
          subst (λ (x : Meaning). IsMeaning things thing x) same (subst (λ (k : ℕ). IsMeaning things k m) (sym p.0) is))
    ]

pub first_step : (things : List Origin) (thing : ℕ) (d : Origin) (r : Reach) → thing < length things → r ≡ step thing (get_or things thing d)
    → r ≡ reach things 1 thing
unfolding ahead added
first_step things thing d r lt e = rw (slice_at things thing d lt) (e ∙ same)
  where
    same : ◌≡◌ {A =
        Reach} (step thing (get_or things thing d)) (record {
          thing = or_itself thing (needed_by thing (Some (get_or things thing d)));
          added = counts_on (Some (get_or things thing d)) + 0;
        })
    same = let z : counts_on (Some (get_or things thing d)) + 0 ≡ counts_on (Some (get_or things thing d)) = omega arith in rw z refl

pub one_meaning : (things : List Origin) (thing : ℕ) (one two : Meaning) → IsMeaning things thing one → IsMeaning things thing two → one ≡ two
one_meaning things thing (Value l m) (Value k n) a b =
    let same = one_end things thing l m k n a.ends b.ends in
    let last = same.0 in
    let more = same.1 in
    cc
one_meaning things thing (Value l m) Circular a b = absurd (no_end thing l m things b a)
one_meaning things thing (Value l m) Nothing a b = absurd (b.1 l m a)
one_meaning things thing Circular (Value k n) a b = absurd (no_end thing k n things a b)
one_meaning things thing Circular Circular a b = refl
one_meaning things thing Circular Nothing a b = absurd (b.0 a)
one_meaning things thing Nothing (Value k n) a b = absurd (a.1 k n b)
one_meaning things thing Nothing Circular a b = absurd (a.0 b)
one_meaning things thing Nothing Nothing a b = refl

le_of_lt : {a b : ℕ} → a < b → a ≤ b
le_of_lt lt = omega (arith, lt)

small_power : (n : ℕ) → n < 32 → 2 ^ n ≤ 2 ^ 62
small_power n lt = le_of_lt (pow_below n 62 (omega arith))

pub few_until : (things : List Origin) (round : ℕ) (reaches : List Reach) → round < 32 → AreFar things (2 ^ round) reaches
    → All (λ (r : Reach). r.added ≤ 2 ^ 62) reaches
few_until things round reaches lt far = let all = all_few things (2 ^ round) reaches far in let most = small_power round lt in λ k d in_list. let h =
    all k d in_list in omega (arith, h, most)

pub far_next : (things : List Origin) (round : ℕ) (reaches : List Reach) → AreFar things (2 ^ round) reaches
    → AreFar things (2 ^ (round + 1)) (map (beyond reaches) reaches)
far_next things round reaches far =
    let next : round + 1 ≡ suc round = omega arith in
    let power : 2 ^ (round + 1) ≡ 2 ^ round + 2 ^ round = ap (λ (k : ℕ). 2 ^ k) next ∙ two-pow-succ round in
    rw power (far_twice things (2 ^ round) reaches far)
