-- Each step on a word keeps the rule of one turn.
use Rattle.std.proofs.Common.{◌≡◌, ◌≢◌, ℕ, ◌+◌, ◌^◌, ◌%◌, ◌<◌, eqb, ◌++◌, true, false, List, [], ◌∷◌, length, map, set, get_or, Some, refl, sym, ap, ◌∙◌, subst, inl, inr, ⊎_elim, arith, length-append, drop, eq-eqb, ne_eqb}
use Rattle.std.proofs.Math.Nat.{mod-eq_of_lt}
use mathlib.Core.Option.{some, none, some-injective}
use mathlib.Core.Logic.{dite}
use native.Mathlib.Decide.{ℕ_discrete}
use lib.ListN.{get_elem?}
use prog.Atomic.{either}
use Rattle.atomic_table.specs.Table.{State, Step, Me, step, keeps, takes, gives, put_back, stepped, Allows}
use Rattle.atomic_table.proofs.Lists.{set_here}
use Rattle.turn_lock.specs.declared.view.View.{View}
use Rattle.turn_lock.specs.declared.view.Part.{Part}
use Rattle.turn_lock.specs.Lists.{Begins, Each, own}
use Rattle.turn_lock.specs.steps.Turning.{Owns, Fits, Free, Turning, Knows, seeing, holding, releasing, grown, took, noted, gave, looked}
use Rattle.turn_lock.proofs.Lists.{off, begins_itself, begins_more, each_map, inside, each_mapped, not_true, own_else}
use Rattle.turn_lock.proofs.Keeping.{fits_set, knows, rested, same_slot}

module _ {T E B : Type 0} (entries : T → List E) (number : E → ℕ) (basis : T → B) (lawful : B → List E → Type 0) where
  abbrev V : Type 0
  V = View E B

  abbrev Rule : ℕ → State T V → Type 0
  Rule = Turning entries number basis lawful

  abbrev Fit : B → List E → (ℕ → ℕ) → ℕ → ℕ → ℕ → V → Type 0
  Fit = Fits entries number basis lawful

  -- the turn was free, and is the seat's: its word is k then
  won : (seats id k : ℕ) → 0 < k → (me : Me T V) (p : Part E) → me.0.parts ≡ p ∷ [] → (s : State T V) (r : Rule seats s) → get_elem? s.views id ≡ some me.0
      → (f : Free entries number basis lawful r.base r.log r.turn s.homes s.views)
      → Rule seats (stepped s 1 k id me.1 (holding entries number basis lawful me.0 (entries f.value)) (takes 0 f.value))
  won seats id k above me p has s r at f =
      let fit = r.each_seat id me.0 at in
      let w : V = holding entries number basis lawful me.0 (entries f.value) in record {
        base = r.base;
        log = r.log;
        turn = k;
        owner = r.owner;
        made = r.made;
        dealer = r.dealer;
        words = ap (λ ws. set ws 1 k) r.words;
        legal = r.legal;
        slot = inr record {
          holder = id;
          view = w;
          is_taken = above;
          out = ap (λ h. set h 0 none) f.home;
          there = set_here s.views id w (inside s.views id me.0 at);
          holds = refl;
          alone = fits_set entries number basis lawful (λ j u. u.holds ≡ true → j ≡ id) s.views id w (λ _. refl)
              (λ j u _ e h. off (sym (f.nobody j u e) ∙ h));
        };
        each_seat = fits_set entries number basis lawful (Fit r.base r.log r.owner r.made r.dealer) s.views id w record {
          based = fit.based;
          seen_in = subst (λ l. Begins l r.log) (sym f.listed) (begins_itself r.log);
          old_in = fit.old_in;
          whole = λ _. f.listed;
          passes = λ _. (p, has);
          dealt = fit.dealt;
          parts_are = fit.parts_are;
        } (λ j u _ e. r.each_seat j u e);
        unmade = r.unmade;
        within = r.within;
      }

  -- what that tells the seat
  told_won : (seats id n : ℕ) (st : Step T) (me : Me T V) (s : State T V) (r : Rule seats s) → get_elem? s.views id ≡ some me.0 → n ≡ 0
      → (f : Free entries number basis lawful r.base r.log r.turn s.homes s.views)
      → took entries number basis lawful st me n (holding entries number basis lawful me.0 (entries f.value), (0, f.value) ∷ me.1)
  told_won seats id n st me s r at hit f =
      let fit = r.each_seat id me.0 at in (
        (λ _. (
          f.value,
          refl,
          subst (Knows entries number basis lawful me.0) (sym f.listed)
              (knows entries number basis lawful r.base r.log r.owner r.made r.dealer id me.0 r.legal fit),
          λ b e. fit.based b e ∙ sym f.based,
        )),
        λ not. absurd
            (not hit),
      )

  -- the turn isn't free, and its word says that a seat waits for it
  waited : (seats id : ℕ) (me : Me T V) (s : State T V) (r : Rule seats s) → get_elem? s.views id ≡ some me.0 → (get_or s.words 1 0 ≡ 0 → ⊥)
      → Rule seats (stepped s 1 2 id me.1 me.0 keeps)
  waited seats id me s r at miss =
      let turn_is : get_or s.words 1 0 ≡ r.turn = ap (λ ws. get_or ws 1 0) r.words in record {
        base = r.base;
        log = r.log;
        turn = 2;
        owner = r.owner;
        made = r.made;
        dealer = r.dealer;
        words = ap (λ ws. set ws 1 2) r.words;
        legal = r.legal;
        slot = same_slot entries number basis lawful r.base r.log 2 s.homes s.views id me.0 me.0 at refl
            (⊎_elim (λ f. absurd (miss (turn_is ∙ f.is_free)))
            (λ t. inr record {
              holder = t.holder;
              view = t.view;
              is_taken = omega arith;
              out = t.out;
              there = t.there;
              holds = t.holds;
              alone = t.alone;
            })
            r.slot);
        each_seat = fits_set entries number basis lawful (Fit r.base r.log r.owner r.made r.dealer) s.views id me.0 (r.each_seat id me.0 at)
            (λ j u _ e. r.each_seat j u e);
        unmade = r.unmade;
        within = r.within;
      }

  pub takes_turn : (seats slots id : ℕ) (me : Me T V) (p : Part E) → me.0.parts ≡ p ∷ []
      → Allows (Rule seats) slots id me 1 (λ n. either (eqb n 0) 1 n) (took entries number basis lawful (step slots 1 0 1 none) me)
  takes_turn seats slots id me p has s r deep at small =
      let n : ℕ = get_or s.words 1 0 in
      let turn_is : n ≡ r.turn = ap (λ ws. get_or ws 1 0) r.words in
      let fit = r.each_seat id me.0 at in
      let still : set s.words 1 n ≡ s.words = ap (λ ws. set ws 1 (get_or ws 1 0)) r.words ∙ sym r.words in
      dite (ℕ_discrete n 0)
      (λ hit. ⊎_elim
      (λ f. (
        holding entries number basis lawful me.0 (entries f.value),
        takes 0 f.value,
        ap (λ h. get_elem? h 0) f.home,
        subst (λ b. Rule seats (stepped s 1 (either b 1 n) id me.1 (holding entries number basis lawful me.0 (entries f.value)) (takes 0 f.value)))
            (sym (eq-eqb n 0 hit)) (won seats id 1 (omega arith) me p has s r at f),
        told_won seats id n (step slots 1 0 1 none) me s r at hit f,
      ))
      (λ t. let taken = t.is_taken in absurd (omega arith))
      r.slot)
      (λ miss. (
        me.0,
        keeps,
        tt,
        subst (λ b. Rule seats (stepped s 1 (either b 1 n) id me.1 me.0 keeps)) (sym (ne_eqb n 0 miss))
            (rested entries number basis lawful seats s r 1 id me.1 me.0 still fit (λ v e. ap (λ (x : V). x.holds) (some-injective v me.0 (sym e ∙ at))) me.0
            at),
        ((λ hit. absurd (miss hit)), λ _. refl),
      ))

  pub waits_for_turn : (seats slots id : ℕ) (me : Me T V) (p : Part E) → me.0.parts ≡ p ∷ []
      → Allows (Rule seats) slots id me 1 (λ _. 2) (took entries number basis lawful (step slots 1 2 0 none) me)
  waits_for_turn seats slots id me p has s r deep at small =
      let n : ℕ = get_or s.words 1 0 in
      let turn_is : n ≡ r.turn = ap (λ ws. get_or ws 1 0) r.words in
      dite (ℕ_discrete n 0)
      (λ hit. ⊎_elim
      (λ f. (
        holding entries number basis lawful me.0 (entries f.value),
        takes 0 f.value,
        ap (λ h. get_elem? h 0) f.home,
        won seats id 2 (omega arith) me p has s r at f,
        told_won seats id n (step slots 1 2 0 none) me s r at hit f,
      ))
      (λ t. let taken = t.is_taken in absurd (omega arith))
      r.slot)
      (λ miss. (me.0, keeps, tt, waited seats id me s r at miss, ((λ hit. absurd (miss hit)), λ _. refl)))

  pub looks : (seats slots id : ℕ) (me : Me T V) → Allows (Rule seats) slots id me 0 (λ n. n) (looked entries number basis lawful (step slots 0 0 0 none) me)
  looks seats slots id me s r deep at small =
      let fit = r.each_seat id me.0 at in
      let w : V = seeing entries number basis lawful me.0 r.log in
      let still : set s.words 0 (get_or s.words 0 0) ≡ s.words = ap (λ ws. set ws 0 (get_or ws 0 0)) r.words ∙ sym r.words in (
        w,
        keeps,
        tt,
        rested entries number basis lawful seats s r 0 id me.1 w still record {
          based = fit.based;
          seen_in = begins_itself r.log;
          old_in = fit.old_in;
          whole = λ _. refl;
          passes = fit.passes;
          dealt = fit.dealt;
          parts_are = fit.parts_are;
        } (λ v e. ap (λ (x : V). x.holds) (some-injective v me.0 (sym e ∙ at))) me.0 at,
        (r.log, refl, knows entries number basis lawful r.base r.log r.owner r.made r.dealer id me.0 r.legal fit),
      )

  pub notes_entry : (seats slots id : ℕ) (me : Me T V) (p : Part E) (y : T) (e : E) → me.0.parts ≡ p ∷ [] → me.0.holds ≡ true → me.1 ≡ (0, y) ∷ []
      → entries y ≡ me.0.seen ++ e ∷ [] → number e ≡ p.number
      → (b : B) → me.0.basis ≡ Some b → lawful b (entries y) → length (entries y) < 2 ^ 64
      → Allows (Rule seats) slots id me 0 (λ n. (n + 1) % 2 ^ 64) (noted entries number basis lawful (step slots 0 1 0 none) me)
  notes_entry seats slots id me p y e has holds carried more names base₀ is_base₀ legal small s r deep at low =
      let n : ℕ = get_or s.words 0 0 in
      let fit = r.each_seat id me.0 at in
      let seen_is : me.0.seen ≡ r.log = fit.whole holds in
      let log' : List E = entries y in
      let grows : log' ≡ r.log ++ e ∷ [] = more ∙ ap (λ l. l ++ e ∷ []) seen_is in
      let n_is : n ≡ length r.log = ap (λ ws. get_or ws 0 0) r.words in
      let count : length log' ≡ length r.log + 1 = ap length grows ∙ length-append r.log (e ∷ []) in
      let m : ℕ = length log' in
      let sum_is : n + 1 ≡ m = omega arith in
      let wraps : (n + 1) % 2 ^ 64 ≡ m = ap (λ k. k % 2 ^ 64) sum_is ∙ mod-eq_of_lt small in
      let mine : Owns entries number basis lawful r.owner r.made r.log id p
      = (subst (Each (Owns entries number basis lawful r.owner r.made r.log id)) has fit.parts_are).0 in
      let base_is : base₀ ≡ r.base = fit.based base₀ is_base₀ in
      let w : V = grown entries number basis lawful me.0 log' in
      let other_own : (k : ℕ) → k ≢ p.number → own number k log' ≡ own number k r.log = λ k ne. ap (own number k) grows
      ∙ own_else number k r.log e (λ same. ne (sym same ∙ names)) in (
        w,
        keeps,
        tt,
        record {
          base = r.base;
          log = log';
          turn = r.turn;
          owner = r.owner;
          made = r.made;
          dealer = r.dealer;
          words = ap (λ ws. set ws 0 ((n + 1) % 2 ^ 64)) r.words ∙ ap (λ k. k ∷ r.turn ∷ []) wraps;
          legal = subst (λ b. lawful b log') base_is legal;
          slot = ⊎_elim (λ f. off (sym (f.nobody id me.0 at) ∙ holds))
              (λ t. let here : id ≡ t.holder = t.alone id me.0 at holds in inr record {
                holder = id;
                view = w;
                is_taken = t.is_taken;
                out = t.out;
                there = set_here s.views id w (inside s.views id me.0 at);
                holds = holds;
                alone = fits_set entries number basis lawful (λ j u. u.holds ≡ true → j ≡ id) s.views id w (λ _. refl)
                    (λ j u _ q h. t.alone j u q h ∙ sym here);
              })
              r.slot;
          each_seat = fits_set entries number basis lawful (Fit r.base log' r.owner r.made r.dealer) s.views id w record {
            based = fit.based;
            seen_in = begins_itself log';
            old_in = subst (Begins me.0.old) (sym grows) (begins_more me.0.old r.log (e ∷ []) fit.old_in);
            whole = λ _. refl;
            passes = λ _. (
              record { number = p.number; mine = own number p.number log' },
              ap
                  (map (λ (q : Part E). record { number = q.number; mine = own number q.number log' })) has,
            );
            dealt = fit.dealt;
            parts_are = each_mapped (Owns entries number basis lawful r.owner r.made r.log id) (Owns entries number basis lawful r.owner r.made log' id)
                (λ (q : Part E). record { number = q.number; mine = own number q.number log' })
                (λ q o. (o.0, o.1, refl)) me.0.parts fit.parts_are;
          } (λ j u away q. let g = r.each_seat j u q in record {
            based = g.based;
            seen_in = subst (Begins u.seen) (sym grows) (begins_more u.seen r.log (e ∷ []) g.seen_in);
            old_in = subst (Begins u.old) (sym grows) (begins_more u.old r.log (e ∷ []) g.old_in);
            whole = λ h. ⊎_elim (λ f. off (sym (f.nobody id me.0 at) ∙ holds)) (λ t. absurd (away (t.alone j u q h ∙ sym (t.alone id me.0 at holds)))) r.slot;
            passes = g.passes;
            dealt = g.dealt;
            parts_are = each_map (Owns entries number basis lawful r.owner r.made r.log j) (Owns entries number basis lawful r.owner r.made log' j)
                (λ x o. (o.0, o.1, other_own x.number (λ same. away (sym o.1 ∙ (ap r.owner same ∙ mine.1))) ∙ o.2)) u.parts g.parts_are;
          });
          unmade = λ k high. other_own k (λ same. let below = mine.0 in omega arith) ∙ r.unmade k high;
          within = r.within;
        },
        (λ y' rest q. let same : y ≡ y'
            = ap (λ (l : List (ℕ × T)). (get_or {A = ℕ × T} l 0 (0, y)).1) (sym carried ∙ q) in λ i.
            (grown entries number basis lawful me.0 (entries (same i)), me.1)),
      )

  pub gives_turn : (seats slots id : ℕ) (me : Me T V) (y : T) → me.0.holds ≡ true → me.1 ≡ (0, y) ∷ [] → entries y ≡ me.0.seen → (b : B)
      → me.0.basis ≡ Some b → basis y ≡ b
      → Allows (Rule seats) slots id me 1 (λ _. 0) (gave entries number basis lawful (step slots 1 0 0 none) me)
  gives_turn seats slots id me y holds carried listed base₀ is_base₀ based s r deep at low =
      let fit = r.each_seat id me.0 at in
      let seen_is : me.0.seen ≡ r.log = fit.whole holds in
      let w : V = releasing entries number basis lawful me.0 in
      ⊎_elim (λ f. off (sym (f.nobody id me.0 at) ∙ holds))
      (λ t. let here : id ≡ t.holder = t.alone id me.0 at holds in (
        w,
        gives,
        tt,
        record {
          base = r.base;
          log = r.log;
          turn = 0;
          owner = r.owner;
          made = r.made;
          dealer = r.dealer;
          words = ap (λ ws. set ws 1 0) r.words;
          legal = r.legal;
          slot = inl record {
            value = y;
            is_free = refl;
            home = ap (put_back s.homes) carried ∙ ap (λ h. set h 0 (some y)) t.out;
            listed = listed ∙ seen_is;
            based = based ∙ fit.based base₀ is_base₀;
            nobody = fits_set entries number basis lawful (λ j u. u.holds ≡ false) s.views id w refl
                (λ j u away q. not_true u.holds (λ h. away (t.alone j u q h ∙ sym here)));
          };
          each_seat = fits_set entries number basis lawful (Fit r.base r.log r.owner r.made r.dealer) s.views id w record {
            based = fit.based;
            seen_in = fit.seen_in;
            old_in = fit.old_in;
            whole = λ h. off h;
            passes = λ h. off h;
            dealt = fit.dealt;
            parts_are = fit.parts_are;
          } (λ j u _ q. r.each_seat j u q);
          unmade = r.unmade;
          within = r.within;
        },
        (λ y' rest q. λ i. (w, (ap (λ l. drop 1 l) q i))),
      ))
      r.slot
