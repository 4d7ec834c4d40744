-- What stays of the rule of one turn where one seat changes, or one comes.
use Rattle.std.proofs.Common.{◌≡◌, ◌≢◌, ◌⊎◌, ℕ, ◌++◌, true, false, List, [], ◌∷◌, set, get_or, refl, sym, ap, ◌∙◌, subst, inl, inr, ⊎_elim}
use mathlib.Core.Option.{some, some-injective}
use mathlib.Core.Logic.{dite}
use native.Mathlib.Decide.{ℕ_discrete}
use lib.ListN.{get_elem?}
use Rattle.atomic_table.specs.Table.{State, keeps, stepped}
use Rattle.atomic_table.proofs.Lists.{at_set, at_snoc, set_here, set_else, at_longer}
use Rattle.turn_lock.specs.declared.view.View.{View}
use Rattle.turn_lock.specs.declared.view.Part.{Part}
use Rattle.turn_lock.specs.Lists.{own}
use Rattle.turn_lock.specs.steps.Turning.{Owns, Fits, Free, Taken, Turning, Knows}
use Rattle.turn_lock.proofs.Lists.{off, each_map, inside}

module _ {T E B : Type 0} (entries : T → List E) (number : E → ℕ) (basis : T → B) (lawful : B → List E → Type 0) where
  abbrev V : Type 0
  V = View E B

  abbrev Rule : ℕ → State T V → Type 0
  Rule = Turning entries number basis lawful

  abbrev Fit : B → List E → (ℕ → ℕ) → ℕ → ℕ → ℕ → V → Type 0
  Fit = Fits entries number basis lawful

  -- after one seat's step, each seat fits
  pub fits_set : (F : ℕ → V → Type 0) (views : List V) (me : ℕ) (w : V) → F me w → ((j : ℕ) (u : V) → j ≢ me → get_elem? views j ≡ some u → F j u)
      → (j : ℕ) (u : V) → get_elem? (set views me w) j ≡ some u → F j u
  fits_set F views me w mine others j u e =
      ⊎_elim
      (λ (x : (j ≡ me) × (w ≡ u)). subst (λ (y : ℕ × V). F y.0 y.1) (λ i. (sym x.0 i, x.1 i)) mine)
      (λ (x : (j ≢ me) × (get_elem? views j ≡ some u)). others j u x.0 x.1)
      (at_set views me j w u e)

  -- what the rule says of a seat, as that seat may know it
  pub knows : (base : B) (log : List E) (owner : ℕ → ℕ) (made dealer seat : ℕ) (v : V) → lawful base log → Fit base log owner made dealer seat v
      → Knows entries number basis lawful v log
  knows base log owner made dealer seat v legal f = record {
    later = f.seen_in;
    later_old = f.old_in;
    legal = λ b e. subst (λ (x : B). lawful x log) (sym (f.based b e)) legal;
    mine = each_map (Owns entries number basis lawful owner made log seat) (λ (p : Part E). own number p.number log ≡ p.mine) (λ p o. o.2) v.parts f.parts_are;
  }

  abbrev Slot : B → List E → ℕ → List (mathlib.Core.Option.Option T) → List V → Type 0
  Slot base log turn homes views = Free entries number basis lawful base log turn homes views ⊎ Taken entries number basis lawful turn homes views

  -- a seat's view changes, but not whether it has the turn
  pub same_slot : (base : B) (log : List E) (turn : ℕ) (homes : List (mathlib.Core.Option.Option T)) (views : List V) (id : ℕ) (v w : V)
      → get_elem? views id ≡ some v → v.holds ≡ w.holds → Slot base log turn homes views → Slot base log turn homes (set views id w)
  same_slot base log turn homes views id v w at same (inl f) = inl record {
    value = f.value;
    is_free = f.is_free;
    home = f.home;
    listed = f.listed;
    based = f.based;
    nobody = fits_set (λ j u. u.holds ≡ false) views id w (sym same ∙ f.nobody id v at) (λ j u _ e. f.nobody j u e);
  }
  same_slot base log turn homes views id v w at same (inr t) = inr (dite (ℕ_discrete t.holder id)
      (λ here. let is_v : v ≡ t.view = some-injective v t.view (sym at ∙ (ap (λ k. get_elem? views k) (sym here) ∙ t.there)) in record {
        holder = id;
        view = w;
        is_taken = t.is_taken;
        out = t.out;
        there = set_here views id w (inside views id v at);
        holds = sym same ∙ (ap (λ (x : V). x.holds) is_v ∙ t.holds);
        alone = fits_set (λ j u. u.holds ≡ true → j ≡ id) views id w (λ _. refl) (λ j u _ e h. t.alone j u e h ∙ here);
      })
      (λ away. record {
        holder = t.holder;
        view = t.view;
        is_taken = t.is_taken;
        out = t.out;
        there = set_else views id t.holder w away ∙ t.there;
        holds = t.holds;
        alone = fits_set (λ j u. u.holds ≡ true → j ≡ t.holder) views id w (λ h. t.alone id v at (same ∙ h)) (λ j u _ e h. t.alone j u e h);
      }))

  -- a step that changes only what one seat has seen, or nothing
  pub rested : (seats : ℕ) (s : State T V) (r : Rule seats s) (i id : ℕ) (c : List (ℕ × T)) (w : V) → set s.words i (get_or s.words i 0) ≡ s.words
      → Fit r.base r.log r.owner r.made r.dealer id w → ((v : V) → get_elem? s.views id ≡ some v → v.holds ≡ w.holds)
      → (v : V) → get_elem? s.views id ≡ some v → Rule seats (stepped s i (get_or s.words i 0) id c w keeps)
  rested seats s r i id c w still fit same v at = record {
    base = r.base;
    log = r.log;
    turn = r.turn;
    owner = r.owner;
    made = r.made;
    dealer = r.dealer;
    words = still ∙ r.words;
    legal = r.legal;
    slot = same_slot r.base r.log r.turn s.homes s.views id v w at (same v at) r.slot;
    each_seat = fits_set (Fit r.base r.log r.owner r.made r.dealer) s.views id w fit (λ j u _ e. r.each_seat j u e);
    unmade = r.unmade;
    within = r.within;
  }

  -- and a seat comes that doesn't have it
  pub more_slot : (base : B) (log : List E) (turn : ℕ) (homes : List (mathlib.Core.Option.Option T)) (views : List V) (new : V) → new.holds ≡ false
      → Slot base log turn homes views → Slot base log turn homes (views ++ new ∷ [])
  more_slot base log turn homes views new idle (inl f) = inl record {
    value = f.value;
    is_free = f.is_free;
    home = f.home;
    listed = f.listed;
    based = f.based;
    nobody = λ j u e. ⊎_elim (f.nobody j u) (λ (x : new ≡ u). subst (λ (z : V). z.holds ≡ false) x idle) (at_snoc views new u j e);
  }
  more_slot base log turn homes views new idle (inr t) = inr record {
    holder = t.holder;
    view = t.view;
    is_taken = t.is_taken;
    out = t.out;
    there = at_longer views (new ∷ []) t.holder t.view t.there;
    holds = t.holds;
    alone = λ j u e h. ⊎_elim (λ q. t.alone j u q h) (λ (x : new ≡ u). off (sym (subst (λ (z : V). z.holds ≡ false) x idle) ∙ h)) (at_snoc views new u j e);
  }

  pub added_slot : (base : B) (log : List E) (turn : ℕ) (homes : List (mathlib.Core.Option.Option T)) (views : List V) (id : ℕ) (v w new : V)
      → get_elem? views id ≡ some v → v.holds ≡ w.holds → new.holds ≡ false → Slot base log turn homes views
      → Slot base log turn homes (set views id w ++ new ∷ [])
  added_slot base log turn homes views id v w new at same idle k
      = more_slot base log turn homes (set views id w) new idle (same_slot base log turn homes views id v w at same k)
