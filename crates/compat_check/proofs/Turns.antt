-- Round after round of pairs that weren't seen before gives the answer.
use Rattle.std.proofs.Common.{◌≡◌, ℕ, zero, suc, ◌+◌, ◌<◌, inl, inr, List, [], ◌∷◌, length, Option, Some, None, refl, sym, ap, subst, ◌∙◌, arith}
use Rattle.std.specs.Prelude.{◌⊎◌}
use Rattle.std.specs.List.{flat_map}
use Rattle.std.specs.Option.{option_or}
use Rattle.mj_schema.specs.declared.schema.Schema.{Schema}
use Rattle.compat_model.specs.declared.pair.Pair.{Pair}
use Rattle.compat_model.specs.declared.reason.Reason.{Reason}
use Rattle.compat_model.specs.steps.Among.{IsAmong}
use Rattle.compat_model.specs.Members.{first_found}
use Rattle.compat_model.specs.Pairs.{pair_reason, follows}
use Rattle.compat_model.specs.Verdicts.{namesakes, reached, reason_at, roots, IsCompatible, IsBroken, Judges}
use Rattle.compat_model.proofs.Lists.{of_flat, into_flat, none_found}
use Rattle.compat_model.proofs.Quiet.{quiet_roots}
use Rattle.compat_check.specs.declared.pair_set.PairSet.{PairSet}
use Rattle.compat_check.specs.steps.PairSets.{IsSetOf}
use Rattle.compat_check.specs.steps.Rounds.{Round, AtRound, AtSearch, Decides, verdict_by}
use Rattle.compat_check.specs.steps.Skims.{Skims, AllIn, with_seen, AreQuiet, FollowIn}
use Rattle.compat_check.proofs.Levels.{kept_in, seen_stays, all_seen, same_first, next_skims}

below_up : (m n : ℕ) → (m < n) ⊎ (m ≡ n) → (suc m < suc n) ⊎ (suc m ≡ suc n)
below_up m n (inl a) = inl (omega (arith, a))
below_up m n (inr e) = inr (ap suc e)

pub below : (m n : ℕ) → m < suc n → (m < n) ⊎ (m ≡ n)
below m zero lt = inr (omega (arith, lt))
below zero (suc n) lt = inl (omega arith)
below (suc m) (suc n) lt = below_up m n (below m n (omega (arith, lt)))

split_up : (m n : ℕ) → (m < suc n) ⊎ ((k : ℕ) × (suc (k + n) ≡ m)) → (suc m < suc (suc n)) ⊎ ((k : ℕ) × (suc (k + suc n) ≡ suc m))
split_up m n (inl lt) = inl (omega (arith, lt))
split_up m n (inr e) = inr (e.0, let x = e.1 in let y : suc (e.0 + suc n) ≡ suc m = omega (arith, x) in y)

split_at : (m n : ℕ) → (m < suc n) ⊎ ((k : ℕ) × (suc (k + n) ≡ m))
split_at zero n = inl (omega arith)
split_at (suc m) zero = inr (m, let e : suc (m + 0) ≡ suc m = omega arith in e)
split_at (suc m) (suc n) = split_up m n (split_at m n)

-- so many steps behind the next
abbrev ahead : ℕ → ℕ → ℕ
ahead n zero = suc n
ahead n (suc k) = suc (ahead n k)

ahead_is : (n k : ℕ) → ahead n k ≡ suc (k + n)
ahead_is n zero = omega arith
ahead_is n (suc k) = let e = ahead_is n k in omega (arith, e)

none_below : (m : ℕ) → m < 1 → zero ≡ m
none_below m lt = omega (arith, lt)

module _ (old new : Schema) where
  abbrev reason : Pair → Option Reason
  reason = pair_reason old new (namesakes old new)

  more_quiet : (x : Pair) (seen : List Pair) → AreQuiet Pair reason seen → reason x ≡ None → AreQuiet Pair reason (x ∷ seen)
  more_quiet x seen q e y (inl is) = ap reason (sym is) ∙ e
  more_quiet x seen q e y (inr g) = q y g

  -- where nothing is found of a level, it and what was seen have no reason
  quiet_with : (level seen : List Pair) → AreQuiet Pair reason seen → ((x : Pair) → IsAmong level x → reason x ≡ None)
      → AreQuiet Pair reason (with_seen Pair level seen)
  quiet_with [] seen q h = q
  quiet_with (x ∷ level) seen q h = quiet_with level (x ∷ seen) (more_quiet x seen q (h x (inl refl))) (λ y g. h y (inr g))

  either_seen : (level seen : List Pair) (x : Pair) → IsAmong (with_seen Pair level seen) x → IsAmong level x ⊎ IsAmong seen x
  either_seen [] seen x h = inr h
  either_seen (y ∷ level) seen x h = turned (either_seen level (y ∷ seen) x h)
    where
      turned : IsAmong level x ⊎ IsAmong (y ∷ seen) x → IsAmong (y ∷ level) x ⊎ IsAmong seen x
      turned (inl a) = inl (inr a)
      turned (inr (inl e)) = inl (inl e)
      turned (inr (inr b)) = inr b

  -- what follows from what was seen and from a level was seen, or is at hand next
  follow_on : (level seen after : List Pair) → FollowIn Pair (follows old new) seen (with_seen Pair level seen)
      → Skims Pair (with_seen Pair level seen) after (flat_map (follows old new) level)
      → FollowIn Pair (follows old new) (with_seen Pair level seen) (with_seen Pair after (with_seen Pair level seen))
  follow_on level seen after f s x h y g = on (either_seen level seen x h)
    where
      on : IsAmong level x ⊎ IsAmong seen x → IsAmong (with_seen Pair after (with_seen Pair level seen)) y
      on (inl a) =
          all_seen Pair (with_seen Pair level seen) after (flat_map (follows old new) level) s y (into_flat (follows old new) level x y a g)
      on (inr b) = seen_stays Pair after (with_seen Pair level seen) y (f x b y g)

  none_yet : (found : List Pair) → FollowIn Pair (follows old new) [] found
  none_yet found x h = absurd h

  of_level : (level : List Pair) (x : Pair) → IsAmong level x ⊎ IsAmong [] x → IsAmong level x
  of_level level x (inl a) = a
  of_level level x (inr b) = absurd b

  -- the first round, once the roots are looked at
  pub first_round : (start level : List Pair) → reason_at old new zero ≡ None → Skims Pair [] start (reached old new zero)
      → Skims Pair (with_seen Pair start []) level (flat_map (follows old new) start) → Round old new zero (with_seen Pair start []) level
  first_round start level none s t = record {
    before = λ m lt. subst (λ (x : ℕ). reason_at old new x ≡ None) (none_below m lt) none;
    skims = next_skims Pair (follows old new) [] start (reached old new zero) (with_seen Pair start []) level s (none_yet (with_seen Pair start [])) t;
    quiet = λ x h. quiet_roots old new none x (kept_in Pair [] start (reached old new zero) s x (of_level start x (either_seen start [] x h)));
    follow = follow_on start [] level (none_yet (with_seen Pair start [])) t;
  }

  -- one round more
  pub next_round : (n : ℕ) (seen level after : List Pair) → Round old new n seen level → first_found reason level ≡ None
      → Skims Pair (with_seen Pair level seen) after (flat_map (follows old new) level) → Round old new (suc n) (with_seen Pair level seen) after
  next_round n seen level after r none s = record {
    before = λ m lt. earlier m (below m (suc n) lt);
    skims = next_skims Pair (follows old new) seen level (reached old new (suc n)) (with_seen Pair level seen) after r.skims r.follow s;
    quiet = quiet_with level seen r.quiet (λ x h. none_found reason level x none h);
    follow = follow_on level seen after r.follow s;
  }
    where
      earlier : (m : ℕ) → (m < suc n) ⊎ (m ≡ suc n) → reason_at old new m ≡ None
      earlier m (inl lt) = r.before m lt
      earlier m (inr e) =
          subst (λ (x : ℕ). reason_at old new x ≡ None) (sym e)
          (sym (same_first Pair Reason reason seen level (reached old new (suc n)) r.quiet r.skims) ∙ none)

  -- a reason at hand is the first
  pub broken : (n : ℕ) (seen level : List Pair) (why : Reason) → Round old new n seen level → first_found reason level ≡ Some why → IsBroken old new why
  broken n seen level why r some_ = record {
    steps = suc n;
    before = r.before;
    first = sym (same_first Pair Reason reason seen level (reached old new (suc n)) r.quiet r.skims) ∙ some_;
  }

  -- where nothing is at hand, all was seen
  seen_from : (n : ℕ) (seen : List Pair) → Round old new n seen [] → (k : ℕ) → AllIn Pair (reached old new (ahead n k)) seen
  seen_from n seen r zero x h = all_seen Pair seen [] (reached old new (suc n)) r.skims x h
  seen_from n seen r (suc k) x h =
      let from = of_flat (follows old new) (reached old new (ahead n k)) x h in
      r.follow from.0 (seen_from n seen r k from.0 from.1) x from.2

  none_among : (xs : List Pair) (seen : List Pair) → AreQuiet Pair reason seen → AllIn Pair xs seen → first_found reason xs ≡ None
  none_among [] seen q h = refl
  none_among (x ∷ xs) seen q h =
      ap (λ (o : Option Reason). option_or o (first_found reason xs)) (q x (h x (inl refl))) ∙ none_among xs seen q (λ y g. h y (inr g))

  later_none : (n : ℕ) (seen : List Pair) → Round old new n seen [] → (k : ℕ) → reason_at old new (suc (k + n)) ≡ None
  later_none n seen r k =
      none_among (reached old new (suc (k + n))) seen r.quiet (subst (λ (x : ℕ). AllIn Pair (reached old new x) seen) (ahead_is n k) (seen_from n seen r k))

  pub all_none : (n : ℕ) (seen : List Pair) → Round old new n seen [] → IsCompatible old new
  all_none n seen r m = go (split_at m n)
    where
      go : (m < suc n) ⊎ ((k : ℕ) × (suc (k + n) ≡ m)) → reason_at old new m ≡ None
      go (inl lt) = r.before m lt
      go (inr e) = subst (λ (x : ℕ). reason_at old new x ≡ None) e.1 (later_none n seen r e.0)

  -- ## As the code goes on

  -- where the search begins
  pub begins : (before after : PairSet) (start level firsts : List Pair) → reason_at old new zero ≡ None → firsts ≡ reached old new zero
      → Skims Pair [] start firsts × IsSetOf before (with_seen Pair start [])
      → ((list : List Pair) → IsSetOf before list → Skims Pair list level (flat_map (follows old new) start) × IsSetOf after (with_seen Pair level list))
      → AtRound old new after level
  begins before after start level firsts none is kept next =
      let s = subst (λ (l : List Pair). Skims Pair [] start l) is kept.0 in
      let more = next (with_seen Pair start []) kept.1 in
      record { steps = zero; passed = with_seen Pair start []; round = first_round start level none s more.0; set = more.1 }

  -- one turn more
  pub one_turn : (names : List (Option ℕ)) (seen more : PairSet) (level after : List Pair) (found : Option Reason) → names ≡ namesakes old new
      → AtRound old new seen level → found ≡ first_found (pair_reason old new names) level → ((why : Reason) → found ≡ Some why → after ≡ [])
      → (found ≡ None → (list : List Pair) → IsSetOf seen list
      → Skims Pair list after (flat_map (follows old new) level) × IsSetOf more (with_seen Pair after list))
      → AtSearch old new more after found
  one_turn names seen more level after found is here e stops goes =
      go found (e ∙ ap (λ (ns : List (Option ℕ)). first_found (pair_reason old new ns) level) is) stops goes
    where
      go : (o : Option Reason) → o ≡ first_found reason level → ((why : Reason) → o ≡ Some why → after ≡ [])
          → (o ≡ None → (list : List Pair) → IsSetOf seen list
          → Skims Pair list after (flat_map (follows old new) level) × IsSetOf more (with_seen Pair after list))
          → AtSearch old new more after o
      go None f s g =
          let next = g refl (with_seen Pair level here.passed) here.set in
          record {
            steps = suc here.steps;
            passed = with_seen Pair level here.passed;
            round = next_round here.steps here.passed level after here.round (sym f) next.0;
            set = next.1;
          }
      go (Some why) f s g = (broken here.steps here.passed level why here.round (sym f), s why refl)

  -- a level that isn't empty is that of a round
  pub open_round : (seen : PairSet) (level : List Pair) (o : Option Reason) → AtSearch old new seen level o → 0 < length level → AtRound old new seen level
  open_round seen level None here some_ = here
  open_round seen level (Some why) here some_ =
      let none = ap (λ (l : List Pair). length l) here.1 in absurd (let bad : ⊥ = omega (arith, some_, none) in bad)

  empty : (level : List Pair) → length level ≡ 0 → level ≡ []
  empty [] e = refl
  empty (x ∷ xs) e = absurd (let bad : ⊥ = omega (arith, e) in bad)

  -- where nothing is at hand, the answer is
  pub decided : (seen : PairSet) (level : List Pair) (o : Option Reason) → AtSearch old new seen level o → length level ≡ 0 → Decides old new o
  decided seen level None here none =
      all_none here.steps here.passed (subst (λ (l : List Pair). Round old new here.steps here.passed l) (empty level none) here.round)
  decided seen level (Some why) here none = here.0

  no_step : (m : ℕ) → m < zero → reason_at old new m ≡ None
  no_step m lt = absurd (let bad : ⊥ = omega (arith, lt) in bad)

  -- a root's reason is the first
  pub root_broken : (why : Reason) → reason_at old new zero ≡ Some why → IsBroken old new why
  root_broken why some_ = record { steps = zero; before = no_step; first = some_ }

  -- what is answered
  pub judged : (o : Option Reason) (stable : ℕ) → Decides old new o → stable ≡ length (roots old new) → Judges old new (verdict_by o stable)
  judged None stable d is = (d, is)
  judged (Some why) stable d is = d
