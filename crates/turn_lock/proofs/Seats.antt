-- So do the making of seats and their joining, the opening of a table, and its closing gives the value.
use Rattle.std.proofs.Common.{◌≡◌, ◌≢◌, ℕ, zero, suc, ◌+◌, ◌<◌, eqb, true, false, List, [], ◌∷◌, length, set, Some, None, refl, sym, ap, ◌∙◌, subst, inl, inr, ⊎_elim, arith, eq-eqb, ne_eqb}
use mathlib.Core.Option.{some, some-injective, some-ne-none}
use lib.ListN.{get_elem?}
use prog.Atomic.{either}
use Rattle.atomic_table.specs.Table.{State, Splits, Joins, opening, Final, Seen}
use Rattle.atomic_table.proofs.Lists.{at_set}
use Rattle.turn_lock.specs.declared.view.View.{View}
use Rattle.turn_lock.specs.declared.view.Part.{Part}
use Rattle.turn_lock.specs.Lists.{Each}
use Rattle.turn_lock.specs.steps.Turning.{HasNumber, Owns, Fits, Turning, Knows, blank, dealing, newcomer, copy, joined, opened}
use Rattle.turn_lock.proofs.Lists.{off, begins_nil, each_map, each_append, at_end}
use Rattle.turn_lock.proofs.Keeping.{fits_set, knows, same_slot, added_slot}

module _ {T E B : Type 0} (entries : T → List E) (number : E → ℕ) (basis : T → B) (lawful : B → List E → Type 0) where
  abbrev V : Type 0
  V = View E B

  abbrev Rule : ℕ → State T V → Type 0
  Rule = Turning entries number basis lawful

  abbrev Fit : B → List E → (ℕ → ℕ) → ℕ → ℕ → ℕ → V → Type 0
  Fit = Fits entries number basis lawful

  none-is-not-some : (b : B) → None ≡ Some b → ⊥
  none-is-not-some b e = absurd (cc)

  pub deals : (seats id : ℕ) (v : V) → v.deals ≡ true → v.made < seats → Splits (Rule seats) id v (dealing v) (newcomer v)
  deals seats id v is_dealer room s r at =
      let fit = r.each_seat id v at in
      let w : V = dealing v in
      let new : V = newcomer v in
      let vs : List V = set s.views id w in
      let m : ℕ = length vs in
      let owner' : ℕ → ℕ = λ x. either (eqb x r.made) m (r.owner x) in
      let made_is : v.made ≡ r.made = (fit.dealt is_dealer).1 in
      let at_dealer : id ≡ r.dealer = (fit.dealt is_dealer).0 in
      let kept : (j : ℕ) (q : Part E) → Owns entries number basis lawful r.owner r.made r.log j q
      → Owns entries number basis lawful owner' (r.made + 1) r.log j q
      = λ j q o. let below = o.0 in (omega arith, ap (λ b. either b m (r.owner q.number)) (ne_eqb q.number r.made (λ same. omega arith)) ∙ o.1, o.2) in
      let all_kept : (j : ℕ) (ps : List (Part E)) → Each (Owns entries number basis lawful r.owner r.made r.log j) ps
      → Each (Owns entries number basis lawful owner' (r.made + 1) r.log j) ps
      = λ j ps. each_map (Owns entries number basis lawful r.owner r.made r.log j) (Owns entries number basis lawful owner' (r.made + 1) r.log j) (kept j) ps in
      let old : (j : ℕ) (u : V) → get_elem? vs j ≡ some u → Fit r.base r.log owner' (r.made + 1) r.dealer j u
      = fits_set entries number basis lawful (Fit r.base r.log owner' (r.made + 1) r.dealer) s.views id w record {
        based = fit.based;
        seen_in = fit.seen_in;
        old_in = fit.old_in;
        whole = fit.whole;
        passes = fit.passes;
        dealt = λ _. (at_dealer, ap (λ k. k + 1) made_is);
        parts_are = all_kept id v.parts fit.parts_are;
      } (λ j u away q. let g = r.each_seat j u q in record {
        based = g.based;
        seen_in = g.seen_in;
        old_in = g.old_in;
        whole = g.whole;
        passes = g.passes;
        dealt = λ h. absurd (away ((g.dealt h).0 ∙ sym at_dealer));
        parts_are = all_kept j u.parts g.parts_are;
      }) in
      let fresh : (j : ℕ) → j ≡ m → Fit r.base r.log owner' (r.made + 1) r.dealer j new
      = λ j here. record {
        based = fit.based;
        seen_in = fit.seen_in;
        old_in = begins_nil r.log;
        whole = λ h. off h;
        passes = λ h. off h;
        dealt = λ h. off h;
        parts_are = ((omega arith, ap (λ b. either b m (r.owner v.made)) (eq-eqb v.made r.made made_is) ∙ sym here, r.unmade v.made (omega arith)), tt);
      } in
      record {
        base = r.base;
        log = r.log;
        turn = r.turn;
        owner = owner';
        made = r.made + 1;
        dealer = r.dealer;
        words = r.words;
        legal = r.legal;
        slot = added_slot entries number basis lawful r.base r.log r.turn s.homes s.views id v w new at refl refl r.slot;
        each_seat = λ j u q. ⊎_elim (old j u) (λ (x : (new ≡ u) × (j ≡ m)). subst (Fit r.base r.log owner' (r.made + 1) r.dealer j) x.0 (fresh j x.1))
            (at_end vs new u j q);
        unmade = λ k high. r.unmade k (omega arith);
        within = omega arith;
      }

  pub copies : (seats id : ℕ) (v : V) → Splits (Rule seats) id v v (copy v)
  copies seats id v s r at =
      let fit = r.each_seat id v at in
      let new : V = copy v in
      let vs : List V = set s.views id v in
      let fresh : (j : ℕ) → Fit r.base r.log r.owner r.made r.dealer j new
      = λ j. record {
        based = λ b e. absurd (none-is-not-some b e);
        seen_in = fit.seen_in;
        old_in = begins_nil r.log;
        whole = λ h. off h;
        passes = λ h. off h;
        dealt = λ h. off h;
        parts_are = tt;
      } in
      record {
        base = r.base;
        log = r.log;
        turn = r.turn;
        owner = r.owner;
        made = r.made;
        dealer = r.dealer;
        words = r.words;
        legal = r.legal;
        slot = added_slot entries number basis lawful r.base r.log r.turn s.homes s.views id v v new at refl refl r.slot;
        each_seat = λ j u q. ⊎_elim (fits_set entries number basis lawful (Fit r.base r.log r.owner r.made r.dealer) s.views id v fit
            (λ i x _ e. r.each_seat i x e) j u) (λ (x : (new ≡ u) × (j ≡ length vs)). subst (Fit r.base r.log r.owner r.made r.dealer j) x.0 (fresh j))
            (at_end vs new u j q);
        unmade = r.unmade;
        within = r.within;
      }

  pub joins : (seats id : ℕ) (v : V) (other : ℕ) (w : V) → v.holds ≡ false → w.holds ≡ false → Joins (Rule seats) id v other w (joined v w) blank
  joins seats id v other w v_rests w_rests s r at apart there =
      let fit = r.each_seat id v at in
      let both : V = joined v w in
      let none : V = blank in
      let vs : List V = set s.views id both in
      let at_other : get_elem? s.views other ≡ some w
      = ⊎_elim (λ (x : (other ≡ id) × (both ≡ w)). absurd (apart x.0)) (λ (x : (other ≢ id) × (get_elem? s.views other ≡ some w)). x.1)
      (at_set s.views id other both w there) in
      let fit' = r.each_seat other w at_other in
      let owner' : ℕ → ℕ = λ x. either (eqb (r.owner x) other) id (r.owner x) in
      let away_kept : (j : ℕ) → j ≢ other → (q : Part E) → Owns entries number basis lawful r.owner r.made r.log j q
      → Owns entries number basis lawful owner' r.made r.log j q
      = λ j away q o. (o.0, ap (λ b. either b id (r.owner q.number)) (ne_eqb (r.owner q.number) other (λ same. away (sym o.1 ∙ same))) ∙ o.1, o.2) in
      let moved : (q : Part E) → Owns entries number basis lawful r.owner r.made r.log other q → Owns entries number basis lawful owner' r.made r.log id q
      = λ q o. (o.0, ap (λ b. either b id (r.owner q.number)) (eq-eqb (r.owner q.number) other o.1), o.2) in
      let kept : (j : ℕ) → j ≢ other → (ps : List (Part E)) → Each (Owns entries number basis lawful r.owner r.made r.log j) ps
      → Each (Owns entries number basis lawful owner' r.made r.log j) ps
      = λ j away ps. each_map (Owns entries number basis lawful r.owner r.made r.log j) (Owns entries number basis lawful owner' r.made r.log j)
      (away_kept j away) ps in
      record {
        base = r.base;
        log = r.log;
        turn = r.turn;
        owner = owner';
        made = r.made;
        dealer = r.dealer;
        words = r.words;
        legal = r.legal;
        slot = same_slot entries number basis lawful r.base r.log r.turn s.homes vs other w none there w_rests
            (same_slot entries number basis lawful r.base r.log r.turn s.homes s.views id v both at refl r.slot);
        each_seat = fits_set entries number basis lawful (Fit r.base r.log owner' r.made r.dealer) vs other none record {
          based = λ b e. absurd (none-is-not-some b e);
          seen_in = begins_nil r.log;
          old_in = begins_nil r.log;
          whole = λ h. off h;
          passes = λ h. off h;
          dealt = λ h. off h;
          parts_are = tt;
        } (λ j u away q. fits_set entries number basis lawful (λ i x. i ≢ other → Fit r.base r.log owner' r.made r.dealer i x) s.views id both (λ _. record {
          based = fit.based;
          seen_in = fit.seen_in;
          old_in = fit'.seen_in;
          whole = λ h. off (sym v_rests ∙ h);
          passes = λ h. off (sym v_rests ∙ h);
          dealt = fit.dealt;
          parts_are = each_append (Owns entries number basis lawful owner' r.made r.log id) v.parts w.parts (kept id (λ e. apart (sym e)) v.parts fit.parts_are)
              (each_map (Owns entries number basis lawful r.owner r.made r.log other) (Owns entries number basis lawful owner' r.made r.log id) moved w.parts
              fit'.parts_are);
        }) (λ i x _ e far. let g = r.each_seat i x e in record {
          based = g.based;
          seen_in = g.seen_in;
          old_in = g.old_in;
          whole = g.whole;
          passes = g.passes;
          dealt = g.dealt;
          parts_are = kept i far x.parts g.parts_are;
        }) j u q away);
        unmade = r.unmade;
        within = r.within;
      }

  some-is : (a b : B) → Some a ≡ Some b → a ≡ b
  some-is a b e = cc

  only_one : (v : V) (F : ℕ → V → Type 0) → F 0 v → (j : ℕ) (u : V) → get_elem? (v ∷ []) j ≡ some u → F j u
  only_one v F f zero u e = subst (F 0) (some-injective v u e) f
  only_one v F f (suc j) u e = absurd (some-ne-none u (sym e))

  pub opens : (seats : ℕ) (x : T) → entries x ≡ [] → lawful (basis x) (entries x) → Rule seats (opening (0 ∷ 0 ∷ []) (x ∷ []) (opened (basis x)))
  opens seats x empty legal = record {
    base = basis x;
    log = [];
    turn = 0;
    owner = λ _. 0;
    made = 0;
    dealer = 0;
    words = refl;
    legal = subst (lawful (basis x)) empty legal;
    slot = inl record {
      value = x;
      is_free = refl;
      home = refl;
      listed = empty;
      based = refl;
      nobody = only_one (opened (basis x)) (λ j u. u.holds ≡ false) refl;
    };
    each_seat = only_one (opened (basis x)) (Fit (basis x) [] (λ _. 0) 0 0) record {
      based = λ b e. sym (some-is (basis x) b e);
      seen_in = begins_nil [];
      old_in = begins_nil [];
      whole = λ h. off h;
      passes = λ h. off h;
      dealt = λ _. (refl, refl);
      parts_are = tt;
    };
    unmade = λ n _. refl;
    within = omega arith;
  }

  -- the seat that has each number that was made has that of whoever has the turn
  owner_of : (owner : ℕ → ℕ) (made : ℕ) (log : List E) (id n : ℕ) (ps : List (Part E)) → Each (Owns entries number basis lawful owner made log id) ps
      → HasNumber n ps → owner n ≡ id
  owner_of owner made log id n [] o x = absurd x
  owner_of owner made log id n (p ∷ ps) o (inl same) = ap owner (sym same) ∙ o.0.1
  owner_of owner made log id n (p ∷ ps) o (inr later) = owner_of owner made log id n ps o.1 later

  pub closes : (seats id : ℕ) (v : V) (words : List ℕ) (slots : List T) → Final (Seen (Rule seats) id v) words slots → v.holds ≡ false
      → ((n : ℕ) → n < seats → HasNumber n v.parts)
      → (b : B) → v.basis ≡ Some b → (y : T) × (get_elem? slots 0 ≡ some y) × Knows entries number basis lawful v (entries y) × (basis y ≡ b)
  closes seats id v words slots final idle all b is_b =
      let s = final.0 in
      let r : Rule seats s = final.1.0 in
      let at : get_elem? s.views id ≡ some v = final.1.1 in
      let fit = r.each_seat id v at in
      let bound = r.within in
      ⊎_elim (λ f. (
        f.value,
        final.4 0 f.value (ap (λ h. get_elem? h 0) f.home),
        subst (Knows entries number basis lawful v) (sym f.listed) (knows entries number basis lawful r.base r.log r.owner r.made r.dealer id v r.legal fit),
        f.based ∙ sym (fit.based b is_b),
      ))
      (λ t. let g = r.each_seat t.holder t.view t.there in
      let one = g.passes t.holds in
      let o = (subst (Each (Owns entries number basis lawful r.owner r.made r.log t.holder)) one.1 g.parts_are).0 in
      let below : one.0.number < r.made = o.0 in
      let mine : r.owner one.0.number ≡ id = owner_of r.owner r.made r.log id one.0.number v.parts fit.parts_are (all one.0.number (omega arith)) in
      let here : id ≡ t.holder = sym mine ∙ o.1 in
      let same : v ≡ t.view = some-injective v t.view (sym at ∙ (ap (λ k. get_elem? s.views k) here ∙ t.there)) in
      off (sym idle ∙ (ap (λ (x : V). x.holds) same ∙ t.holds)))
      r.slot
