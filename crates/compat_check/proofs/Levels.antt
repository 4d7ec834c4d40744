-- Levels without what was seen before: dropping it changes no first reason, and what is left in the end is all.
use Rattle.std.proofs.Common.{◌≡◌, inl, inr, List, [], ◌∷◌, ◌++◌, Option, Some, None, refl, sym, ap, subst, ◌∙◌}
use Rattle.std.specs.Prelude.{◌⊎◌}
use Rattle.std.specs.List.{flat_map}
use Rattle.std.specs.Option.{option_or}
use Rattle.compat_model.specs.steps.Among.{IsAmong}
use Rattle.compat_model.specs.Members.{first_found}
use Rattle.compat_check.specs.steps.Skims.{Skims, AllIn, with_seen, AreQuiet, FollowIn}

module _ (A : Type 0) where
  pub seen_stays : (kept seen : List A) → AllIn A seen (with_seen A kept seen)
  seen_stays [] seen x h = h
  seen_stays (y ∷ kept) seen x h = seen_stays kept (y ∷ seen) x (inr h)

  -- each element was seen, or is kept
  pub all_seen : (seen kept xs : List A) → Skims A seen kept xs → AllIn A xs (with_seen A kept seen)
  all_seen seen kept [] s x h = absurd h
  all_seen seen kept (y ∷ xs) (inl s) x (inl e) = seen_stays kept seen x (subst (IsAmong seen) e s.0)
  all_seen seen kept (y ∷ xs) (inl s) x (inr h) = all_seen seen kept xs s.1 x h
  all_seen seen kept (y ∷ xs) (inr s) x (inl e) =
      subst (λ (l : List A). IsAmong (with_seen A l seen) x) (sym s.1) (seen_stays s.0 (y ∷ seen) x (inl e))
  all_seen seen kept (y ∷ xs) (inr s) x (inr h) =
      subst (λ (l : List A). IsAmong (with_seen A l seen) x) (sym s.1) (all_seen (y ∷ seen) s.0 xs s.2 x h)

  either_one : (y : A) (rest xs : List A) (x : A) → (IsAmong rest x → IsAmong xs x) → IsAmong (y ∷ rest) x → IsAmong (y ∷ xs) x
  either_one y rest xs x go (inl e) = inl e
  either_one y rest xs x go (inr h) = inr (go h)

  -- what is kept is of the list
  pub kept_in : (seen kept xs : List A) → Skims A seen kept xs → AllIn A kept xs
  kept_in seen kept [] s x h = absurd (subst (λ (l : List A). IsAmong l x) s h)
  kept_in seen kept (y ∷ xs) (inl s) x h = inr (kept_in seen kept xs s.1 x h)
  kept_in seen kept (y ∷ xs) (inr s) x h = either_one y s.0 xs x (kept_in (y ∷ seen) s.0 xs s.2 x) (subst (λ (l : List A). IsAmong l x) s.1 h)

  -- ## What is found first

  module _ (B : Type 0) (look : A → Option B) where
    quiet_more : (seen : List A) (y : A) → AreQuiet A look seen → look y ≡ None → AreQuiet A look (y ∷ seen)
    quiet_more seen y q e x (inl is) = ap look (sym is) ∙ e
    quiet_more seen y q e x (inr h) = q x h

    first_by : (o a b : Option B) → (o ≡ None → a ≡ b) → option_or o a ≡ option_or o b
    first_by None a b same = same refl
    first_by (Some r) a b same = refl

    -- of what is kept the same is found first as of all
    pub same_first : (seen kept xs : List A) → AreQuiet A look seen → Skims A seen kept xs → first_found look kept ≡ first_found look xs
    same_first seen kept [] q s = ap (λ (l : List A). first_found look l) s
    same_first seen kept (y ∷ xs) q (inl s) =
        same_first seen kept xs q s.1 ∙ sym (ap (λ (o : Option B). option_or o (first_found look xs)) (q y s.0))
    same_first seen kept (y ∷ xs) q (inr s) =
        ap (λ (l : List A). first_found look l) s.1
        ∙ first_by (look y) (first_found look s.0) (first_found look xs) (λ e. same_first (y ∷ seen) s.0 xs (quiet_more seen y q e) s.2)

  -- ## The next level

  -- what was seen may be put before
  seen_before : (seen kept xs ys : List A) → AllIn A xs seen → Skims A seen kept ys → Skims A seen kept (xs ++ ys)
  seen_before seen kept [] ys h s = s
  seen_before seen kept (x ∷ xs) ys h s = inl (h x (inl refl), seen_before seen kept xs ys (λ z g. h z (inr g)) s)

  record Split (seen kept xs ys : List A) : Type 0 where
    first : List A
    rest : List A
    whole : kept ≡ first ++ rest
    skims_first : Skims A seen first xs
    skims_rest : Skims A (with_seen A first seen) rest ys

  split_on : (seen kept : List A) (x : A) (xs ys : List A) → (Skims A seen kept (xs ++ ys) → Split seen kept xs ys)
      → ((rest : List A) → Skims A (x ∷ seen) rest (xs ++ ys) → Split (x ∷ seen) rest xs ys)
      → (IsAmong seen x × Skims A seen kept (xs ++ ys)) ⊎ ((rest : List A) × (kept ≡ x ∷ rest) × Skims A (x ∷ seen) rest (xs ++ ys))
      → Split seen kept (x ∷ xs) ys
  split_on seen kept x xs ys same more_ (inl s) =
      let r = same s.1 in
      record { first = r.first; rest = r.rest; whole = r.whole; skims_first = inl (s.0, r.skims_first); skims_rest = r.skims_rest }
  split_on seen kept x xs ys same more_ (inr s) =
      let r = more_ s.0 s.2 in
      record {
        first = x ∷ r.first;
        rest = r.rest;
        whole = s.1 ∙ ap (λ (l : List A). x ∷ l) r.whole;
        skims_first = inr (r.first, refl, r.skims_first);
        skims_rest = r.skims_rest;
      }

  split : (seen kept xs ys : List A) → Skims A seen kept (xs ++ ys) → Split seen kept xs ys
  split seen kept [] ys s = record { first = []; rest = kept; whole = refl; skims_first = refl; skims_rest = s }
  split seen kept (x ∷ xs) ys s = split_on seen kept x xs ys (split seen kept xs ys) (λ rest. split (x ∷ seen) rest xs ys) s

  join : (seen first rest xs ys : List A) → Skims A seen first xs → Skims A (with_seen A first seen) rest ys → Skims A seen (first ++ rest) (xs ++ ys)
  join seen first rest [] ys a b = subst (λ (l : List A). Skims A seen (l ++ rest) ys) (sym a)
      (subst (λ (l : List A). Skims A (with_seen A l seen) rest ys) a b)
  join seen first rest (x ∷ xs) ys (inl a) b = inl (a.0, join seen first rest xs ys a.1 b)
  join seen first rest (x ∷ xs) ys (inr a) b =
      inr (
        a.0 ++ rest,
        ap (λ (l : List A). l ++ rest) a.1,
        join (x ∷ seen) a.0 rest xs ys a.2 (subst (λ (l : List A). Skims A (with_seen A l seen) rest ys) a.1 b),
      )

  module _ (next : A → List A) where
    follow_more : (seen : List A) (y : A) (found : List A) → FollowIn A next seen found → AllIn A (next y) found → FollowIn A next (y ∷ seen) found
    follow_more seen y found f g x (inl e) = subst (λ (z : A). AllIn A (next z) found) e g
    follow_more seen y found f g x (inr h) = f x h

    -- what skims all that follows from what is kept, skims all that follows
    pub next_skims : (seen kept xs found after : List A) → Skims A seen kept xs → FollowIn A next seen found → Skims A found after (flat_map next kept)
        → Skims A found after (flat_map next xs)
    next_skims seen kept [] found after s f a = subst (λ (l : List A). Skims A found after (flat_map next l)) s a
    next_skims seen kept (x ∷ xs) found after (inl s) f a = seen_before found after (next x) (flat_map next xs) (f x s.0)
        (next_skims seen kept xs found after s.1 f a)
    next_skims seen kept (x ∷ xs) found after (inr s) f a =
        let b : Skims A found after (next x ++ flat_map next s.0) = subst (λ (l : List A). Skims A found after (flat_map next l)) s.1 a in
        let parts = split found after (next x) (flat_map next s.0) b in
        let grown : FollowIn A next (x ∷ seen) (with_seen A parts.first found) =
        follow_more seen x (with_seen A parts.first found) (λ z h y g. seen_stays parts.first found y (f z h y g))
        (all_seen found parts.first (next x) parts.skims_first) in
        let rest = next_skims (x ∷ seen) s.0 xs (with_seen A parts.first found) parts.rest s.2 grown parts.skims_rest in
        subst (λ (l : List A). Skims A found l (next x ++ flat_map next xs)) (sym parts.whole)
        (join found parts.first parts.rest (next x) (flat_map next xs) parts.skims_first rest)
