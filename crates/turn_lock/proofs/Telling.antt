-- What the steps of a turn tell, put together.
use Rattle.std.proofs.Common.{not, ◌≡◌, ℕ, ◌+◌, ◌^◌, ◌<◌, eqb, ◌++◌, Bool, true, false, List, [], ◌∷◌, length, map, get_or, Option, Some, None, refl, sym, ap, ◌∙◌, subst, inl, inr, ⊎_elim, arith, length-append, eq-eqb, ne_eqb}
use Rattle.atomic_table.specs.Table.{Me}
use Rattle.turn_lock.specs.declared.view.View.{View}
use Rattle.turn_lock.specs.declared.view.Part.{Part}
use Rattle.turn_lock.specs.Lists.{Begins, Each, own}
use Rattle.turn_lock.specs.Passing.{Learns, Suits, Adds, Ran, Closes, is_based, mine_of}
use Rattle.turn_lock.specs.steps.Turning.{HasNumber, Knows, seeing, holding, releasing, grown, copy, joined}
use Rattle.turn_lock.specs.steps.Turns.{learned, Gained, Matches, Settles, Rejoined, HasPart, HasValue}
use Rattle.turn_lock.proofs.Lists.{off, append-nil, begins_itself, begins_then}

module _ {T E B : Type 0} (entries : T → List E) (number : E → ℕ) (basis : T → B) (lawful : B → List E → Type 0) where
  -- what a seat knows
  abbrev V : Type 0
  V = View E B

  -- what a seat learns from another's copy and a load
  pub shows : (v u c j : V) (log : List E) → c ≡ copy u → j ≡ joined v c → Knows entries number basis lawful j log
      → (seeing entries number basis lawful j log ≡ learned entries number basis lawful v u.seen log) × Learns entries number basis lawful v u.seen log
  shows v u c j log is_c is_j k =
      let both : j ≡ joined v (copy u) = is_j ∙ ap (joined v) is_c in
      let k' : Knows entries number basis lawful (joined v (copy u)) log = subst (λ (z : V). Knows entries number basis lawful z log) both k in
      let nil : v.parts ++ [] ≡ v.parts = append-nil v.parts in (
        ap (λ (z : V). seeing entries number basis lawful z log) both
            ∙ ap (λ (ps : List (Part E)). record { basis = v.basis; seen = log; old = u.seen; holds = v.holds; parts = ps; deals = v.deals; made = v.made })
            nil,
        record { later = k'.later; also = k'.later_old; legal = k'.legal; mine = subst (Each (λ (p : Part E). own number p.number log ≡ p.mine)) nil k'.mine },
      )

  -- after the note, the value is what the seat has seen
  pub grown_matches : (v : V) (y : T) → Gained entries number basis lawful v y
      → Matches entries number basis lawful (grown entries number basis lawful v (entries y)) y
  grown_matches v y g = record { base = g.base; holds = g.holds; listed = refl; based = g.based; value_based = g.value_based }

  pub one_value : (l : List (ℕ × T)) (x y : T) → l ≡ (0, x) ∷ [] → l ≡ (0, y) ∷ [] → x ≡ y
  one_value l x y e f = ap (λ (k : List (ℕ × T)). (get_or {A = ℕ × T} k 0 (0, x)).1) (sym e ∙ f)

  pub after_note : (m m' : Me T V) → HasValue m (λ y. Gained entries number basis lawful m.0 y)
      → HasValue m (λ y. m' ≡ (grown entries number basis lawful m.0 (entries y), (0, y) ∷ []))
      → HasValue m' (λ y. Matches entries number basis lawful m'.0 y)
  after_note m m' v n = let same : n.0 ≡ v.0 = one_value m.1 n.0 v.0 n.1 v.1 in (
    n.0,
    ap (λ (k : Me T V). k.1) n.2,
    subst (λ (k : V). Matches entries number basis lawful k n.0) (sym (ap (λ (k : Me T V). k.0) n.2))
        (grown_matches m.0 n.0 (subst (Gained entries number basis lawful m.0) (sym same) v.2)),
  )

  pub view_noted : (m m' : Me T V) (y : T) → m.1 ≡ (0, y) ∷ [] → HasValue m (λ y. m' ≡ (grown entries number basis lawful m.0 (entries y), (0, y) ∷ []))
      → m'.0 ≡ grown entries number basis lawful m.0 (entries y)
  view_noted m m' y e n = let same : n.0 ≡ y = one_value m.1 n.0 y n.1 e in ap (λ (k : Me T V). k.0) n.2
      ∙ ap (λ (x : T). grown entries number basis lawful m.0 (entries x)) same

  pub after_none : (m m' : Me T V) → m' ≡ m → HasValue m (λ y. Matches entries number basis lawful m.0 y)
      → HasValue m' (λ y. Matches entries number basis lawful m'.0 y)
  after_none m m' e v = subst (λ (k : Me T V). HasValue k (λ y. Matches entries number basis lawful k.0 y)) (sym e) v

  pub base_of : (o : Option B) → is_based o ≡ true → (b : B) × (o ≡ Some b)
  base_of (Some b) e = (b, refl)
  base_of None e = off e

  abbrev Took : Me T V → Me T V → T → Type 0
  Took m m' y = (m'.0 ≡ holding entries number basis lawful m.0 (entries y)) × Knows entries number basis lawful m.0 (entries y)
      × ((b : B) → m.0.basis ≡ Some b → b ≡ basis y)

  pub took_it : (m m' : Me T V) (y : T) → m'.1 ≡ (0, y) ∷ [] → HasValue m' (Took m m') → Took m m' y
  took_it m m' y e v = subst (Took m m') (one_value m'.1 v.0 y v.1 e) v.2

  pub suits_of : (v : V) (n : ℕ) (mine : List E) (y : T) → v.parts ≡ record { number = n; mine = mine } ∷ [] → is_based v.basis ≡ true
      → Knows entries number basis lawful v (entries y)
      → ((b : B) → v.basis ≡ Some b → b ≡ basis y) → Suits entries number basis lawful v.basis n v.seen mine y
  suits_of v n mine y has based k same =
      let b = base_of v.basis based in
      let b_is : b.0 ≡ basis y = same b.0 b.1 in record {
        based = b.1 ∙ ap (λ x. Some x) b_is;
        legal = subst (λ x. lawful x (entries y)) b_is (k.legal b.0 b.1);
        later = k.later;
        mine_are = (subst (Each (λ (p : Part E). own number p.number (entries y) ≡ p.mine)) has k.mine).0;
      }

  pub settles_of : (v : V) (n : ℕ) (mine : List E) (y z : T) (grew : Bool) → v.parts ≡ record { number = n; mine = mine } ∷ []
      → Suits entries number basis lawful v.basis n v.seen mine y → Adds entries number basis lawful n y z
      → grew ≡ not (eqb (length (entries y)) (length (entries z))) → length (entries z) < 2 ^ 64 → lawful (basis z) (entries z)
      → Settles entries number basis lawful (holding entries number basis lawful v (entries y)) z grew
  settles_of v n mine y z grew has s adds is few legal = ⊎_elim
      (λ (same : entries z ≡ entries y).
      let no : grew ≡ false = is ∙ ap not (eq-eqb (length (entries y)) (length (entries z)) (ap length (sym same))) in
      let f : Part E → Part E = λ p. record { number = p.number; mine = own number p.number (entries z) } in
      let parts_same : map f v.parts ≡ v.parts = ap (map f) has
      ∙ (ap (λ (xs : List E). record { number = n; mine = xs } ∷ []) (ap (own number n) same ∙ s.mine_are) ∙ sym has) in
      subst (Settles entries number basis lawful (holding entries number basis lawful v (entries y)) z) (sym no) (
        record { base = basis y; holds = refl; listed = same; based = s.based; value_based = adds.same },
        (λ i. record { basis = v.basis; seen = same i; old = v.old; holds = true; parts = parts_same i; deals = v.deals; made = v.made }),
      ))
      (λ (more : (e : E) × (entries z ≡ entries y ++ e ∷ []) × (number e ≡ n)).
      let longer : length (entries z) ≡ length (entries y) + 1 = ap length more.1 ∙ length-append (entries y) (more.0 ∷ []) in
      let yes : grew ≡ true = is ∙ ap not (ne_eqb (length (entries y)) (length (entries z)) (λ e. omega arith)) in
      subst (Settles entries number basis lawful (holding entries number basis lawful v (entries y)) z) (sym yes) record {
        pass = record { number = n; mine = mine };
        entry = more.0;
        base = basis y;
        has = has;
        holds = refl;
        grows = more.1;
        names = more.2;
        based = s.based;
        value_based = adds.same;
        legal = subst (λ b. lawful b (entries z)) adds.same legal;
        few = few;
      })
      adds.entry

  -- the view after the turn
  abbrev pub left_with : V → List E → List E → V
  left_with v log log' = releasing entries number basis lawful (grown entries number basis lawful (holding entries number basis lawful v log) log')

  pub ran_of : {R : Type 0} (op : T → R → T → Type 0) (v w : V) (n : ℕ) (mine : List E) (y z : T) (r : R) → v.parts ≡ record { number = n; mine = mine } ∷ []
      → Suits entries number basis lawful v.basis n v.seen mine y → Adds entries number basis lawful n y z
      → lawful (basis z) (entries z) → op y r z → w ≡ left_with v (entries y) (entries z)
      → Ran entries number basis lawful op v.basis n v.seen mine r w.seen (mine_of w.parts)
  ran_of op v w n mine y z r has s adds legal did is = record {
    before = y;
    after = z;
    suits = s;
    did = did;
    adds = adds;
    whole = ap (λ (x : V). x.seen) is;
    legal = subst (λ (x : B × List E). lawful x.0 x.1) (λ i. (adds.same i, sym (ap (λ (x : V). x.seen) is) i)) legal;
    mine_are = ap (own number n) (ap (λ (x : V). x.seen) is)
        ∙ (sym (ap (λ (ps : List (Part E)). mine_of (map (λ (p : Part E). record { number = p.number; mine = own number p.number (entries z) }) ps)) has)
        ∙ ap (λ (x : V). mine_of x.parts) (sym is));
  }

  pub rejoined : (v w j x : V) (n : ℕ) (mine log : List E) → w.parts ≡ record { number = n; mine = mine } ∷ [] → v.holds ≡ false → j ≡ joined v w
      → Knows entries number basis lawful j log
      → x ≡ seeing entries number basis lawful j log → Rejoined entries number basis lawful v x n w.seen mine
  rejoined v w j x n mine log has idle is_j k is_x =
      let k' : Knows entries number basis lawful (joined v w) log = subst (λ (z : V). Knows entries number basis lawful z log) is_j k in
      let x' : x ≡ seeing entries number basis lawful (joined v w) log = is_x ∙ ap (λ (z : V). seeing entries number basis lawful z log) is_j in record {
        based = ap (λ (z : V). z.basis) x';
        idle = ap (λ (z : V). z.holds) x' ∙ idle;
        later = subst (Begins v.seen) (sym (ap (λ (z : V). z.seen) x')) k'.later;
        also = subst (Begins w.seen) (sym (ap (λ (z : V). z.seen) x')) k'.later_old;
        parts = ap (λ (z : V). z.parts) x' ∙ ap (λ ps. v.parts ++ ps) has;
      }

  -- a pass that came back
  abbrev pub Back : V → ℕ → List E → List E → Type 0
  Back v n seen mine = Begins seen v.seen × HasPart n mine v.parts

  part_more : (n : ℕ) (mine : List E) (ps qs : List (Part E)) → HasPart n mine ps → HasPart n mine (ps ++ qs)
  part_more n mine [] qs h = absurd h
  part_more n mine (p ∷ ps) qs (inl h) = inl h
  part_more n mine (p ∷ ps) qs (inr h) = inr (part_more n mine ps qs h)

  part_last : (n : ℕ) (mine : List E) (ps : List (Part E)) → HasPart n mine (ps ++ record { number = n; mine = mine } ∷ [])
  part_last n mine [] = inl (refl, refl)
  part_last n mine (p ∷ ps) = inr (part_last n mine ps)

  pub back_stays : (v w : V) (n : ℕ) (seen mine : List E) → Rejoined entries number basis lawful v w n seen mine → (k : ℕ) (old its : List E)
      → Back v k old its → Back w k old its
  back_stays v w n seen mine r k old its b
      = (
        begins_then old v.seen w.seen b.0 r.later,
        subst (HasPart k its) (sym r.parts)
            (part_more k its v.parts (record { number = n; mine = mine } ∷ []) b.1),
      )

  pub back_first : (v : V) (n : ℕ) (mine : List E) → v.parts ≡ record { number = n; mine = mine } ∷ [] → Back v n v.seen mine
  back_first v n mine has = (begins_itself v.seen, subst (HasPart n mine) (sym has) (inl (refl, refl)))

  pub back_comes : (v w : V) (n : ℕ) (seen mine : List E) → Rejoined entries number basis lawful v w n seen mine → Back w n seen mine
  back_comes v w n seen mine r = (r.also, subst (HasPart n mine) (sym r.parts) (part_last n mine v.parts))

  pub number_there : (n : ℕ) (mine : List E) (ps : List (Part E)) → HasPart n mine ps → HasNumber n ps
  number_there n mine [] h = absurd h
  number_there n mine (p ∷ ps) (inl h) = inl h.0
  number_there n mine (p ∷ ps) (inr h) = inr (number_there n mine ps h)

  pub part_is : (log : List E) (n : ℕ) (mine : List E) (ps : List (Part E)) → Each (λ (p : Part E). own number p.number log ≡ p.mine) ps → HasPart n mine ps
      → own number n log ≡ mine
  part_is log n mine [] e h = absurd h
  part_is log n mine (p ∷ ps) e (inl h) = ap (λ (k : ℕ). own number k log) (sym h.0) ∙ (e.0 ∙ h.1)
  part_is log n mine (p ∷ ps) e (inr h) = part_is log n mine ps e.1 h

  pub closes_with : (v : V) (x : T) (n : ℕ) (seen mine : List E) → Knows entries number basis lawful v (entries x) → Back v n seen mine
      → Closes entries number basis lawful n seen mine x
  closes_with v x n seen mine k b
      = record { all_seen = begins_then seen v.seen (entries x) b.0 k.later; mine_are = part_is (entries x) n mine v.parts k.mine b.1 }
