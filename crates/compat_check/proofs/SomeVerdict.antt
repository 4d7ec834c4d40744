-- Of any two schemas something is answered: there are so many pairs that can follow, and each round but the last sees more of them.
use Rattle.std.proofs.Common.{◌≡◌, ℕ, zero, suc, ◌+◌, ◌<◌, ◌≤◌, Bool, true, false, inl, inr, List, [], ◌∷◌, ◌++◌, length, map, Option, Some, None, refl, sym, ap, subst, ◌∙◌, arith}
use Rattle.std.specs.Prelude.{◌⊎◌, ◌||◌, if◌then◌else◌, slice_get}
use Rattle.std.specs.List.{flat_map, list_any}
use Rattle.std.proofs.lemmas.Option.{slice_get_within}
use Rattle.mj_schema.specs.declared.schema.Schema.{Schema}
use Rattle.compat_model.specs.declared.pair.Pair.{Pair}
use Rattle.compat_model.specs.declared.pair.Pair.TheVariants.{Structs, Unions, Enums, Interfaces}
use Rattle.compat_model.specs.declared.reason.Reason.{Reason}
use Rattle.compat_model.specs.declared.reason.Verdict.{Verdict}
use Rattle.compat_model.specs.steps.Among.{IsAmong}
use Rattle.compat_model.specs.Members.{first_found}
use Rattle.compat_model.specs.Pairs.{of_both, pair_reason, struct_pairs, union_pairs, interface_pairs, follows}
use Rattle.compat_model.specs.Verdicts.{namesakes, reached, reason_at, roots, Judges}
use Rattle.compat_model.proofs.Lists.{left_among, right_among, into_flat, into_map, of_flat}
use Rattle.compat_check.specs.steps.PairSets.{is_pair}
use Rattle.compat_check.specs.steps.Rounds.{Round, Decides, verdict_by}
use Rattle.compat_check.specs.steps.Skims.{Skims, AllIn, with_seen}
use Rattle.compat_check.proofs.Levels.{kept_in}
use Rattle.compat_check.proofs.PairOrder.{pair_same, pair_itself}
use Rattle.compat_check.proofs.Turns.{all_none, below, broken, first_round, judged, next_round, root_broken}

-- ## Lists without what was seen

abbrev is_in : Pair → List Pair → Bool
is_in x seen = list_any (is_pair x) seen

in_among : (x : Pair) (seen : List Pair) → is_in x seen ≡ true → IsAmong seen x
in_among x [] e = absurd cc
in_among x (y ∷ ys) e = go (is_pair x y) refl (in_among x ys) e
  where
    go : (b : Bool) → is_pair x y ≡ b → (is_in x ys ≡ true → IsAmong ys x) → (b || is_in x ys) ≡ true → IsAmong (y ∷ ys) x
    go true same later h = inl (sym (pair_same x y same))
    go false same later h = inr (later h)

abbrev skim : List Pair → List Pair → List Pair
skim seen [] = []
skim seen (x ∷ xs) = if is_in x seen then skim seen xs else (x ∷ skim (x ∷ seen) xs)

skims : (seen xs : List Pair) → Skims Pair seen (skim seen xs) xs
skims seen [] = refl
skims seen (x ∷ xs) = go (is_in x seen) refl (skims seen xs) (skims (x ∷ seen) xs)
  where
    go : (b : Bool) → is_in x seen ≡ b → Skims Pair seen (skim seen xs) xs → Skims Pair (x ∷ seen) (skim (x ∷ seen) xs) xs
        → Skims Pair seen (if b then skim seen xs else (x ∷ skim (x ∷ seen) xs)) (x ∷ xs)
    go true e same more_ = inl (in_among x seen e, same)
    go false e same more_ = inr (skim (x ∷ seen) xs, refl, more_)

-- the first that is kept wasn't seen
first_fresh : (seen xs : List Pair) (y : Pair) (rest : List Pair) → skim seen xs ≡ y ∷ rest → is_in y seen ≡ false
first_fresh seen [] y rest e = absurd cc
first_fresh seen (x ∷ xs) y rest e = go (is_in x seen) refl (first_fresh seen xs y rest) e
  where
    go : (b : Bool) → is_in x seen ≡ b → (skim seen xs ≡ y ∷ rest → is_in y seen ≡ false)
        → (if b then skim seen xs else (x ∷ skim (x ∷ seen) xs)) ≡ y ∷ rest → is_in y seen ≡ false
    go true was later h = later h
    go false was later h = let same : x ≡ y = cc in ap (λ (z : Pair). is_in z seen) (sym same) ∙ was

-- ## What is left to be seen

-- how many of some weren't seen
abbrev left : List Pair → List Pair → ℕ
left [] seen = 0
left (u ∷ us) seen = (if is_in u seen then 0 else 1) + left us seen

one_less : (a b : Bool) → (if a || b then 0 else 1) ≤ (if b then 0 else 1)
one_less true true = omega arith
one_less true false = omega arith
one_less false true = omega arith
one_less false false = omega arith

both_less : (a b c d : ℕ) → a ≤ b → c ≤ d → a + c ≤ b + d
both_less a b c d e f = omega (arith, e, f)

less_left : (us seen : List Pair) (x : Pair) → left us (x ∷ seen) ≤ left us seen
less_left [] seen x = omega arith
less_left (u ∷ us) seen x = both_less _ _ _ _ (one_less (is_pair u x) (is_in u seen)) (less_left us seen x)

first_less : (a b c d : ℕ) → a ≡ 0 → b ≡ 1 → c ≤ d → a + c < b + d
first_less a b c d e f g = omega (arith, e, f, g)

later_less : (a b c d : ℕ) → a ≤ b → c < d → a + c < b + d
later_less a b c d e f = omega (arith, e, f)

-- one that wasn't seen is left no more
fewer_left : (us seen : List Pair) (x : Pair) → IsAmong us x → is_in x seen ≡ false → left us (x ∷ seen) < left us seen
fewer_left [] seen x among fresh = absurd among
fewer_left (u ∷ us) seen x (inl e) fresh =
    first_less _ _ _ _
    (ap (λ (b : Bool). if b || is_in u seen then 0 else 1) (subst (λ (z : Pair). is_pair u z ≡ true) e (pair_itself u)))
    (ap (λ (b : Bool). if b then 0 else 1) (ap (λ (z : Pair). is_in z seen) e ∙ fresh)) (less_left us seen x)
fewer_left (u ∷ us) seen x (inr h) fresh =
    later_less _ _ _ _ (one_less (is_pair u x) (is_in u seen)) (fewer_left us seen x h fresh)

at_most : (a b c : ℕ) → a ≤ b → b ≤ c → a ≤ c
at_most a b c e f = omega (arith, e, f)

still_left : (us level seen : List Pair) → left us (with_seen Pair level seen) ≤ left us seen
still_left us [] seen = omega arith
still_left us (x ∷ level) seen =
    at_most (left us (with_seen Pair level (x ∷ seen))) (left us (x ∷ seen)) (left us seen) (still_left us level (x ∷ seen)) (less_left us seen x)

-- ## The pairs that can follow

abbrev numbers : ℕ → List ℕ
numbers zero = []
numbers (suc n) = n ∷ numbers n

in_numbers : (i n : ℕ) → i < n → IsAmong (numbers n) i
in_numbers i zero lt = absurd (let bad : ⊥ = omega (arith, lt) in bad)
in_numbers i (suc n) lt = go (in_numbers i n) (below i n lt)
  where
    go : (i < n → IsAmong (numbers n) i) → (i < n) ⊎ (i ≡ n) → IsAmong (n ∷ numbers n) i
    go later (inl less) = inr (later less)
    go later (inr same) = inl (sym same)

-- each number with each
abbrev grid : (ℕ → ℕ → Pair) → ℕ → ℕ → List Pair
grid make n m = flat_map (λ (i : ℕ). map (make i) (numbers m)) (numbers n)

in_grid : (make : ℕ → ℕ → Pair) (n m i j : ℕ) → i < n → j < m → IsAmong (grid make n m) (make i j)
in_grid make n m i j a b =
    into_flat (λ (k : ℕ). map (make k) (numbers m)) (numbers n) i (make i j) (in_numbers i n a) (into_map (make i) (numbers m) j (in_numbers j m b))

-- what follows of both follows where both are there
of_rows : {A B : Type 0} (f : A → A → List B) (xs ys : List A) (i j : ℕ) (q : B) (P : Type 0) → (i < length xs → j < length ys → P)
    → IsAmong (of_both [] f (slice_get xs i) (slice_get ys j)) q → P
of_rows {A} {B} f xs ys i j q P goes h = go (slice_get xs i) (slice_get ys j) refl refl h
  where
    go : (a b : Option A) → slice_get xs i ≡ a → slice_get ys j ≡ b → IsAmong (of_both [] f a b) q → P
    go None b e g h = absurd h
    go (Some x) None e g h = absurd h
    go (Some x) (Some y) e g h = goes (slice_get_within xs i x e) (slice_get_within ys j y g)

module _ (old new : Schema) where
  abbrev pairs : List Pair
  pairs =
      grid Structs (length old.structs) (length new.structs)
      ++ (grid Unions (length old.unions) (length new.unions) ++ grid Interfaces (length old.interfaces) (length new.interfaces))

  -- all that can follow
  abbrev all : List Pair
  all = flat_map (follows old new) pairs

  of_pair : (p q : Pair) → IsAmong pairs p → IsAmong (follows old new p) q → IsAmong all q
  of_pair p q among h = into_flat (follows old new) pairs p q among h

  in_all : (p q : Pair) → IsAmong (follows old new p) q → IsAmong all q
  in_all (Structs i j) q h =
      of_rows struct_pairs old.structs new.structs i j q (IsAmong all q)
      (λ a b. of_pair (Structs i j) q
      (left_among (grid Structs (length old.structs) (length new.structs)) _ (Structs i j)
      (in_grid Structs (length old.structs) (length new.structs) i j a b)) h) h
  in_all (Unions i j) q h =
      of_rows union_pairs old.unions new.unions i j q (IsAmong all q)
      (λ a b. of_pair (Unions i j) q
      (right_among (grid Structs (length old.structs) (length new.structs)) _ (Unions i j)
      (left_among (grid Unions (length old.unions) (length new.unions)) _ (Unions i j)
      (in_grid Unions (length old.unions) (length new.unions) i j a b))) h) h
  in_all (Enums i j) q h = absurd h
  in_all (Interfaces i j) q h =
      of_rows interface_pairs old.interfaces new.interfaces i j q (IsAmong all q)
      (λ a b. of_pair (Interfaces i j) q
      (right_among (grid Structs (length old.structs) (length new.structs)) _ (Interfaces i j)
      (right_among (grid Unions (length old.unions) (length new.unions)) _ (Interfaces i j)
      (in_grid Interfaces (length old.interfaces) (length new.interfaces) i j a b))) h) h

  followed_in : (xs : List Pair) → AllIn Pair (flat_map (follows old new) xs) all
  followed_in xs q h = let from = of_flat (follows old new) xs q h in in_all from.0 q from.2

  -- ## Round after round

  abbrev Found : Type 0
  Found = (o : Option Reason) × Decides old new o

  abbrev reason : Pair → Option Reason
  reason = pair_reason old new (namesakes old new)

  less_fuel : (a b c : ℕ) → a < b → b < suc c → a < c
  less_fuel a b c e f = omega (arith, e, f)

  -- what follows from a level
  abbrev behind : List Pair → List Pair
  behind level = flat_map (follows old new) level

  -- a level that isn't empty sees more
  sees_more : (seen xs : List Pair) (x : Pair) (rest : List Pair) → AllIn Pair xs all → skim seen xs ≡ x ∷ rest
      → left all (with_seen Pair (skim seen xs) seen) < left all seen
  sees_more seen xs x rest inside e =
      let among : IsAmong xs x = kept_in Pair seen (skim seen xs) xs (skims seen xs) x (subst (λ (l : List Pair). IsAmong l x) (sym e) (inl refl)) in
      let fewer = fewer_left all seen x (inside x among) (first_fresh seen xs x rest e) in
      let more = still_left all rest (x ∷ seen) in
      let is : left all (with_seen Pair (skim seen xs) seen) ≡ left all (with_seen Pair rest (x ∷ seen)) =
      ap (λ (l : List Pair). left all (with_seen Pair l seen)) e in
      omega (arith, fewer, more, is)

  -- what is found from a level, where so many pairs are left to be seen
  abbrev Finds : ℕ → Type 0
  Finds fuel = (n : ℕ) (seen xs : List Pair) → left all seen < fuel → AllIn Pair xs all → Round old new n seen (skim seen xs) → Found

  search_on : (fuel : ℕ) → Finds fuel
  search_on zero n seen xs lt inside round = absurd (let bad : ⊥ = omega (arith, lt) in bad)
  search_on (suc fuel) n seen xs lt inside round = by_reason (search_on fuel) (first_found reason (skim seen xs)) refl
    where
      by_level : Finds fuel → (l : List Pair) → skim seen xs ≡ l → first_found reason (skim seen xs) ≡ None → Found
      by_level goes_on [] e none = (None, all_none old new n seen (subst (λ (l : List Pair). Round old new n seen l) e round))
      by_level goes_on (x ∷ rest) e none =
          goes_on (suc n) (with_seen Pair (skim seen xs) seen) (behind (skim seen xs))
          (less_fuel (left all (with_seen Pair (skim seen xs) seen)) (left all seen) fuel (sees_more seen xs x rest inside e) lt)
          (followed_in (skim seen xs))
          (next_round old new n seen (skim seen xs) (skim (with_seen Pair (skim seen xs) seen) (behind (skim seen xs))) round none
          (skims (with_seen Pair (skim seen xs) seen) (behind (skim seen xs))))

      by_reason : Finds fuel → (o : Option Reason) → first_found reason (skim seen xs) ≡ o → Found
      by_reason goes_on (Some why) e = (Some why, broken old new n seen (skim seen xs) why round e)
      by_reason goes_on None e = by_level goes_on (skim seen xs) refl e

  -- the pairs of the roots, each once
  abbrev start : List Pair
  start = skim [] (reached old new zero)

  found : Found
  found = by_root (reason_at old new zero) refl
    where
      by_root : (o : Option Reason) → reason_at old new zero ≡ o → Found
      by_root (Some why) e = (Some why, root_broken old new why e)
      by_root None e =
          search_on (suc (left all (with_seen Pair start []))) zero (with_seen Pair start []) (behind start) (omega arith) (followed_in start)
          (first_round old new start (skim (with_seen Pair start []) (behind start)) e (skims [] (reached old new zero))
          (skims (with_seen Pair start []) (behind start)))

  pub some_verdict : (verdict : Verdict) × Judges old new verdict
  some_verdict = (verdict_by found.0 (length (roots old new)), judged old new found.0 (length (roots old new)) found.1 refl)
