-- What ends have by their keys is what the slab has, also after messages come in or go.
use Rattle.std.proofs.Common.{◌≡◌, ℕ, Bool, true, false, ◌||◌, List, ◌++◌, refl, sym, ap, subst, ◌∙◌, ◌⊎◌, inl, inr}
use Rattle.std.specs.Prelude.{Some, None, Option, if◌then◌else◌}
use Rattle.std.proofs.lemmas.Option.{none-some}
use Rattle.mj_base.specs.declared.ids.EndId.{EndId}
use Rattle.slab.specs.Slab.{Slab, get, SameValues}
use Rattle.handle_table.specs.Things.{same_end}
use Rattle.handle_table.proofs.ThingsLemmas.{or_cases, or_left, or_right, same_end-refl, same_end-true}
use Rattle.queued_keys.specs.Keys.{are_apart, has_place}
use Rattle.queued_keys.specs.declared.key.Key.{Key}
use Rattle.message_pipe.specs.declared.message.Message.{Message}
use Rattle.message_pipe.specs.Slots.{Hold, Kept}
use Rattle.message_pipe.specs.steps.SlotChanges.{Gains, Loses}
use Rattle.message_pipe.proofs.Places.{apart-append, apart-back, apart-far, hold-append, hold-back, hold-still, place-append, taken}

-- the keys of one end become these, and those of each other end stay
module _ (keys after : EndId → List Key) (end : EndId) (now : List Key) (here : after end ≡ now)
    (others : (x : EndId) → same_end end x ≡ false → after x ≡ keys x) where
  -- what holds of all that stand is so of all that are
  pub each : (P : List Key → Type 0) → P now → ((x : EndId) → same_end end x ≡ false → P (keys x)) → (x : EndId) → P (after x)
  each P h g x = go (same_end end x) refl
    where
      go : (b : Bool) → same_end end x ≡ b → P (after x)
      go true e = subst (λ (y : EndId). P (after y)) (same_end-true end x e) (subst P (sym here) h)
      go false e = subst P (sym (others x e)) (g x e)

-- messages come in at one end
module _ (old new : Slab Message) (keys after : EndId → List Key) (end : EndId) (ks : List Key) (ms : List Message) (kept : Kept old keys)
    (gains : Gains old new ks ms) (here : after end ≡ keys end ++ ks) (others : (x : EndId) → same_end end x ≡ false → after x ≡ keys x) where
  apart_from : (x : EndId) (a : ℕ) → has_place (keys x) a ≡ true → has_place ks a ≡ false
  apart_from x = taken old new (keys x) ks ms (kept.held x) gains

  -- each place of a key has the message that it had
  pub stays : (x : EndId) (a : ℕ) → has_place (keys x) a ≡ true → get new a ≡ get old a
  stays x a p = gains.rest a (apart_from x a p)

  -- a place that is of a key was so before, or is new
  origin : (x : EndId) (a : ℕ) → has_place (after x) a ≡ true → (has_place (keys x) a ≡ true) ⊎ ((end ≡ x) × (has_place ks a ≡ true))
  origin x a p = go (same_end end x) refl
    where
      go : (b : Bool) → same_end end x ≡ b → (has_place (keys x) a ≡ true) ⊎ ((end ≡ x) × (has_place ks a ≡ true))
      go true e =
          let is : end ≡ x = same_end-true end x e in
          let q : has_place (keys end ++ ks) a ≡ true = subst (λ (ls : List Key). has_place ls a ≡ true) here
          (subst (λ (y : EndId). has_place (after y) a ≡ true) (sym is) p) in
          elim (or_cases (has_place (keys end) a) (has_place ks a) (sym (place-append (keys end) ks a) ∙ q)) [
            | inl s ↦ inl (subst (λ (y : EndId). has_place (keys y) a ≡ true) is s)
            | inr s ↦ inr (is, s)
          ]
      go false e = inl (subst (λ (ls : List Key). has_place ls a ≡ true) (others x e) p)

  joined : (x y : EndId) (a : ℕ) → has_place (after x) a ≡ true → has_place (after y) a ≡ true → x ≡ y
  joined x y a p q = both (origin x a p) (origin y a q)
    where
      both : (has_place (keys x) a ≡ true) ⊎ ((end ≡ x) × (has_place ks a ≡ true))
          → (has_place (keys y) a ≡ true) ⊎ ((end ≡ y) × (has_place ks a ≡ true)) → x ≡ y
      both (inl s) (inl t) = kept.one_end x y a s t
      both (inl s) (inr t) =
          let f : has_place ks a ≡ false = apart_from x a s in
          let g : has_place ks a ≡ true = t.1 in
          cc
      both (inr s) (inl t) =
          let f : has_place ks a ≡ false = apart_from y a t in
          let g : has_place ks a ≡ true = s.1 in
          cc
      both (inr s) (inr t) = sym s.0 ∙ t.0

  grown : (x : EndId) (a : ℕ) → has_place (keys x) a ≡ true → has_place (after x) a ≡ true
  grown x a p = go (same_end end x) refl
    where
      go : (b : Bool) → same_end end x ≡ b → has_place (after x) a ≡ true
      go true e =
          let is : end ≡ x = same_end-true end x e in
          let q : has_place (keys end) a ≡ true = subst (λ (y : EndId). has_place (keys y) a ≡ true) (sym is) p in
          subst (λ (y : EndId). has_place (after y) a ≡ true) is (subst (λ (ls : List Key). has_place ls a ≡ true) (sym here)
          (place-append (keys end) ks a ∙ or_left (has_place (keys end) a) (has_place ks a) q))
      go false e = subst (λ (ls : List Key). has_place ls a ≡ true) (sym (others x e)) p

  owned : (a : ℕ) (m : Message) → get new a ≡ Some m → (x : EndId) × (has_place (after x) a ≡ true)
  owned a m h = go (has_place ks a) refl
    where
      go : (b : Bool) → has_place ks a ≡ b → (x : EndId) × (has_place (after x) a ≡ true)
      go true e = (
        end,
        subst (λ (ls : List Key). has_place ls a ≡ true) (sym here)
            (place-append (keys end) ks a ∙ or_right (has_place (keys end) a) (has_place ks a) e),
      )
      go false e =
          let q : (x : EndId) × (has_place (keys x) a ≡ true) = kept.queued a m (sym (gains.rest a e) ∙ h) in
          (q.0, grown q.0 a q.1)

  pub more_kept : Kept new after
  more_kept = record {
    held = each keys after end (keys end ++ ks) here others (λ (ls : List Key). Hold new ls)
        (hold-append new (keys end) ks (hold-still old new (keys end) (stays end) (kept.held end)) gains.held)
        (λ x e. hold-still old new (keys x) (stays x) (kept.held x));
    apart = each keys after end (keys end ++ ks) here others (λ (ls : List Key). are_apart ls ≡ true)
        (apart-append (keys end) ks (kept.apart end) gains.apart (apart_from end)) (λ x e. kept.apart x);
    one_end = joined;
    queued = owned;
  }

second : (b c : Bool) → b ≡ false → (b || c) ≡ true → c ≡ true
second true c f q = cc
second false c f q = q

-- messages go from one end
module _ (old new : Slab Message) (keys after : EndId → List Key) (end : EndId) (gone rest : List Key) (kept : Kept old keys)
    (split : keys end ≡ gone ++ rest) (loses : Loses old new gone) (here : after end ≡ rest)
    (others : (x : EndId) → same_end end x ≡ false → after x ≡ keys x) where
  unless_gone : (a : ℕ) → has_place gone a ≡ false → get new a ≡ get old a
  unless_gone a f = loses a ∙ ap (λ (b : Bool). if◌then◌else◌ {A = Option Message} b None (get old a)) f

  of_end : (a : ℕ) → has_place gone a ≡ true → has_place (keys end) a ≡ true
  of_end a p = subst (λ (ls : List Key). has_place ls a ≡ true) (sym split)
      (place-append gone rest a ∙ or_left (has_place gone a) (has_place rest a) p)

  whole : are_apart (gone ++ rest) ≡ true
  whole = subst (λ (ls : List Key). are_apart ls ≡ true) split (kept.apart end)

  -- what is left at the end has the messages that it had
  pub rest_stays : (a : ℕ) → has_place rest a ≡ true → get new a ≡ get old a
  rest_stays a p = unless_gone a (go (has_place gone a) refl)
    where
      go : (b : Bool) → has_place gone a ≡ b → b ≡ false
      go true e = let f : has_place rest a ≡ false = apart-far gone rest a whole e in cc
      go false e = refl

  -- and so has each other end
  pub other_stays : (x : EndId) → same_end end x ≡ false → (a : ℕ) → has_place (keys x) a ≡ true → get new a ≡ get old a
  other_stays x f a p = unless_gone a (go (has_place gone a) refl)
    where
      go : (b : Bool) → has_place gone a ≡ b → b ≡ false
      go true e =
          let is : end ≡ x = kept.one_end end x a (of_end a e) p in
          let t : same_end end x ≡ true = subst (λ (y : EndId). same_end end y ≡ true) is (same_end-refl end) in
          cc
      go false e = refl

  shrunk : (x : EndId) (a : ℕ) → has_place (after x) a ≡ true → has_place (keys x) a ≡ true
  shrunk x a p = go (same_end end x) refl
    where
      go : (b : Bool) → same_end end x ≡ b → has_place (keys x) a ≡ true
      go true e =
          let is : end ≡ x = same_end-true end x e in
          let q : has_place rest a ≡ true = subst (λ (ls : List Key). has_place ls a ≡ true) here
          (subst (λ (y : EndId). has_place (after y) a ≡ true) (sym is) p) in
          subst (λ (y : EndId). has_place (keys y) a ≡ true) is (subst (λ (ls : List Key). has_place ls a ≡ true) (sym split)
          (place-append gone rest a ∙ or_right (has_place gone a) (has_place rest a) q))
      go false e = subst (λ (ls : List Key). has_place ls a ≡ true) (others x e) p

  remains : (x : EndId) (a : ℕ) → has_place gone a ≡ false → has_place (keys x) a ≡ true → has_place (after x) a ≡ true
  remains x a f p = go (same_end end x) refl
    where
      go : (b : Bool) → same_end end x ≡ b → has_place (after x) a ≡ true
      go true e =
          let is : end ≡ x = same_end-true end x e in
          let q : has_place (gone ++ rest) a ≡ true = subst (λ (ls : List Key). has_place ls a ≡ true) split
          (subst (λ (y : EndId). has_place (keys y) a ≡ true) (sym is) p) in
          subst (λ (y : EndId). has_place (after y) a ≡ true) is (subst (λ (ls : List Key). has_place ls a ≡ true) (sym here)
          (second (has_place gone a) (has_place rest a) f (sym (place-append gone rest a) ∙ q)))
      go false e = subst (λ (ls : List Key). has_place ls a ≡ true) (sym (others x e)) p

  still_owned : (a : ℕ) (m : Message) → get new a ≡ Some m → (x : EndId) × (has_place (after x) a ≡ true)
  still_owned a m h = go (has_place gone a) refl
    where
      go : (b : Bool) → has_place gone a ≡ b → (x : EndId) × (has_place (after x) a ≡ true)
      go true e =
          let away : get new a ≡ None = loses a ∙ ap (λ (b : Bool). if◌then◌else◌ {A = Option Message} b None (get old a)) e in
          absurd (none-some m (sym away ∙ h))
      go false e =
          let q : (x : EndId) × (has_place (keys x) a ≡ true) = kept.queued a m (sym (unless_gone a e) ∙ h) in
          (q.0, remains q.0 a e q.1)

  pub less_kept : Kept new after
  less_kept = record {
    held = each keys after end rest here others (λ (ls : List Key). Hold new ls)
        (hold-still old new rest rest_stays (hold-back old gone rest (subst (λ (ls : List Key). Hold old ls) split (kept.held end))))
        (λ x e. hold-still old new (keys x) (other_stays x e) (kept.held x));
    apart = each keys after end rest here others (λ (ls : List Key). are_apart ls ≡ true) (apart-back gone rest whole) (λ x e. kept.apart x);
    one_end = λ x y a p q. kept.one_end x y a (shrunk x a p) (shrunk y a q);
    queued = still_owned;
  }

-- ends that have the keys that they had
pub keys_kept : (slab : Slab Message) (keys after : EndId → List Key) → ((x : EndId) → after x ≡ keys x) → Kept slab keys → Kept slab after
keys_kept slab keys after e kept = record {
  held = λ x. subst (λ (ls : List Key). Hold slab ls) (sym (e x)) (kept.held x);
  apart = λ x. subst (λ (ls : List Key). are_apart ls ≡ true) (sym (e x)) (kept.apart x);
  one_end = λ x y a p q. kept.one_end x y a (subst (λ (ls : List Key). has_place ls a ≡ true) (e x) p)
      (subst (λ (ls : List Key). has_place ls a ≡ true) (e y) q);
  queued = again;
}
  where
    again : (a : ℕ) (m : Message) → get slab a ≡ Some m → (x : EndId) × (has_place (after x) a ≡ true)
    again a m h =
        let q : (x : EndId) × (has_place (keys x) a ≡ true) = kept.queued a m h in
        (q.0, subst (λ (ls : List Key). has_place ls a ≡ true) (sym (e q.0)) q.1)

-- a slab that has the same at each place
pub values_kept : (old new : Slab Message) (keys : EndId → List Key) → SameValues old new → Kept old keys → Kept new keys
values_kept old new keys same kept = record {
  held = λ x. hold-still old new (keys x) (λ a p. same a) (kept.held x);
  apart = kept.apart;
  one_end = kept.one_end;
  queued = λ a m h. kept.queued a m (sym (same a) ∙ h);
}
