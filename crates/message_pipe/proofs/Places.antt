-- Places of keys in a slab: what a slab that gains or loses messages still has.
use Rattle.std.proofs.Common.{◌≡◌, ℕ, ◌+◌, ◌<◌, Bool, true, false, not, ◌&&◌, ◌||◌, List, [], ◌∷◌, ◌++◌, length, get_or, take, refl, sym, ap, subst, ◌∙◌, inl, inr}
use Rattle.std.specs.Prelude.{◌==◌, Option, Some, None, if◌then◌else◌}
use Rattle.std.proofs.lemmas.Bool.{eqb-true, eq-eqb, or_from}
use Rattle.std.proofs.lemmas.List.{map-append, take_more}
use Rattle.std.proofs.lemmas.List.Folds.{list_any-append}
use Rattle.std.proofs.lemmas.Option.{none-some}
use Rattle.slab.specs.Slab.{Slab, get, Updates, SameValues}
use Rattle.handle_table.proofs.ThingsLemmas.{and_left, and_right, not-true, not_left, not_right, or_cases, or_left, or_right}
use Rattle.queued_keys.specs.Keys.{are_apart, has_place}
use Rattle.queued_keys.specs.declared.key.Key.{Key}
use Rattle.message_pipe.specs.declared.message.Message.{Message}
use Rattle.message_pipe.specs.Slots.{Hold, message_in, message_of, messages_of}
use Rattle.message_pipe.specs.steps.SlotChanges.{Gains, Loses}

-- a key is of its own place
pub own_place : (k : Key) (ks : List Key) → has_place (k ∷ ks) k.at ≡ true
own_place k ks = or_left (k.at == k.at) (has_place ks k.at) (eq-eqb k.at k.at refl)

-- what is of the place of a later key is of the place of one
pub later_place : (k : Key) (ks : List Key) (a : ℕ) → has_place ks a ≡ true → has_place (k ∷ ks) a ≡ true
later_place k ks a p = or_right (k.at == a) (has_place ks a) p

pub place-append : (ks ls : List Key) (a : ℕ) → has_place (ks ++ ls) a ≡ (has_place ks a || has_place ls a)
place-append ks ls a = list_any-append (λ (k : Key). k.at == a) ks ls

-- another number is another place
pub differs : (k a : ℕ) → (k == a) ≡ false → a ≡ k → ⊥
differs k a f q = let t : (k == a) ≡ true = eq-eqb k a (sym q) in cc

only : (b : Bool) → (b || false) ≡ true → b ≡ true
only true h = refl
only false h = h

-- at the place of a key there is a message
pub held_here : (slab : Slab Message) (ks : List Key) (a : ℕ) → Hold slab ks → has_place ks a ≡ true → get slab a ≡ Some (message_in (get slab a))
held_here slab [] a h p = cc
held_here slab (k ∷ ks) a h p = elim (or_cases (k.at == a) (has_place ks a) p) [
  | inl s ↦ subst (λ (b : ℕ). get slab b ≡ Some (message_in (get slab b))) (eqb-true k.at a s) h.0
  | inr q ↦ held_here slab ks a h.2 q
]

-- messages stay where their places do
pub messages-still : (old new : Slab Message) (ks : List Key) → ((a : ℕ) → has_place ks a ≡ true → get new a ≡ get old a)
    → messages_of new ks ≡ messages_of old ks
messages-still old new [] e = refl
messages-still old new (k ∷ ks) e = ap (λ (o : Option Message). message_in o ∷ messages_of new ks) (e k.at (own_place k ks))
    ∙ ap (λ (ms : List Message). message_of old k ∷ ms) (messages-still old new ks (λ a p. e a (later_place k ks a p)))

pub hold-still : (old new : Slab Message) (ks : List Key) → ((a : ℕ) → has_place ks a ≡ true → get new a ≡ get old a) → Hold old ks → Hold new ks
hold-still old new [] e h = tt
hold-still old new (k ∷ ks) e h =
    let here : get new k.at ≡ get old k.at = e k.at (own_place k ks) in (
      here ∙ (h.0 ∙ ap (λ (o : Option Message). Some (message_in o)) (sym here)),
      ap (λ (o : Option Message). (message_in o).emitted) here ∙ h.1,
      hold-still old new ks (λ a p. e a (later_place k ks a p)) h.2,
    )

pub hold-append : (slab : Slab Message) (ks ls : List Key) → Hold slab ks → Hold slab ls → Hold slab (ks ++ ls)
hold-append slab [] ls h g = g
hold-append slab (k ∷ ks) ls h g = (h.0, h.1, hold-append slab ks ls h.2 g)

pub hold-back : (slab : Slab Message) (ks ls : List Key) → Hold slab (ks ++ ls) → Hold slab ls
hold-back slab [] ls h = h
hold-back slab (k ∷ ks) ls h = hold-back slab ks ls h.2

-- keys of other places may follow
pub apart-append : (ks ls : List Key) → are_apart ks ≡ true → are_apart ls ≡ true → ((a : ℕ) → has_place ks a ≡ true → has_place ls a ≡ false)
    → are_apart (ks ++ ls) ≡ true
apart-append [] ls h g far = g
apart-append (k ∷ ks) ls h g far =
    let none : has_place (ks ++ ls) k.at ≡ false = place-append ks ls k.at ∙ or_from (has_place ks k.at) (has_place ls k.at)
    (not-true (has_place ks k.at) (and_left (not (has_place ks k.at)) (are_apart ks) h)) (far k.at (own_place k ks)) in
    let rest : are_apart (ks ++ ls) ≡ true = apart-append ks ls (and_right (not (has_place ks k.at)) (are_apart ks) h) g
    (λ a p. far a (later_place k ks a p)) in
    ap (λ (b : Bool). not b && are_apart (ks ++ ls)) none ∙ rest

pub apart-back : (ks ls : List Key) → are_apart (ks ++ ls) ≡ true → are_apart ls ≡ true
apart-back [] ls h = h
apart-back (k ∷ ks) ls h = apart-back ks ls (and_right (not (has_place (ks ++ ls) k.at)) (are_apart (ks ++ ls)) h)

-- those that follow are of other places
pub apart-far : (ks ls : List Key) (a : ℕ) → are_apart (ks ++ ls) ≡ true → has_place ks a ≡ true → has_place ls a ≡ false
apart-far [] ls a h p = cc
apart-far (k ∷ ks) ls a h p = elim (or_cases (k.at == a) (has_place ks a) p) [
  | inl s ↦
      let none : has_place (ks ++ ls) k.at ≡ false = not-true (has_place (ks ++ ls) k.at)
      (and_left (not (has_place (ks ++ ls) k.at)) (are_apart (ks ++ ls)) h) in
      let both : (has_place ks k.at || has_place ls k.at) ≡ false = sym (place-append ks ls k.at) ∙ none in
      subst (λ (b : ℕ). has_place ls b ≡ false) (eqb-true k.at a s) (not_right (has_place ks k.at) (has_place ls k.at) both)
  | inr q ↦ apart-far ks ls a (and_right (not (has_place (ks ++ ls) k.at)) (are_apart (ks ++ ls)) h) q
]

-- one message that comes in
pub gains_one : (old new : Slab Message) (k : Key) (m : Message) → get old k.at ≡ None → Updates old new k.at (Some m) → k.emitted ≡ m.emitted
    → Gains old new (k ∷ []) (m ∷ [])
gains_one old new k m none u e = record {
  held = (
    u.changed ∙ ap (λ (o : Option Message). Some (message_in o)) (sym u.changed),
    ap (λ (o : Option Message). (message_in o).emitted) u.changed ∙ sym e,
    tt,
  );
  are = ap (λ (o : Option Message). message_in o ∷ []) u.changed;
  apart = refl;
  fresh = λ a p. subst (λ (b : ℕ). get old b ≡ None) (eqb-true k.at a (only (k.at == a) p)) none;
  rest = λ a p. u.others a (differs k.at a (not_left (k.at == a) false p));
}

-- one message that goes
pub loses_one : (old new : Slab Message) (k : Key) → Updates old new k.at None → (a : ℕ)
    → get new a ≡ (if has_place (k ∷ []) a then None else get old a)
loses_one old new k u a = go (k.at == a) refl
  where
    go : (b : Bool) → (k.at == a) ≡ b → get new a ≡ (if (b || false) then None else get old a)
    go true e = subst (λ (n : ℕ). get new n ≡ None) (eqb-true k.at a e) u.changed
    go false e = u.others a (differs k.at a e)

-- what goes at once may go in two parts
pub loses_both : (old mid new : Slab Message) (ks ls : List Key) → Loses old mid ks → Loses mid new ls → (a : ℕ)
    → get new a ≡ (if has_place (ks ++ ls) a then None else get old a)
loses_both old mid new ks ls g h a = h a ∙ (ap (λ (o : Option Message). if◌then◌else◌ {A = Option Message} (has_place ls a) None o) (g a)
    ∙ (go (has_place ks a) (has_place ls a)
    ∙ ap (λ (b : Bool). if◌then◌else◌ {A = Option Message} b None (get old a)) (sym (place-append ks ls a))))
  where
    go : (b c : Bool) → (if◌then◌else◌ {A = Option Message} c None (if◌then◌else◌ {A = Option Message} b None (get old a)))
        ≡ (if◌then◌else◌ {A = Option Message} (b || c) None (get old a))
    go true true = refl
    go true false = refl
    go false true = refl
    go false false = refl

-- one more that goes behind others
pub loses_more : (old mid new : Slab Message) (ks : List Key) (k : Key) → Loses old mid ks → Updates mid new k.at None → Loses old new (ks ++ k ∷ [])
loses_more old mid new ks k l u = loses_both old mid new ks (k ∷ []) l (loses_one mid new k u)

-- keys of a slab and those of what it gains are of other places
pub taken : (slab new : Slab Message) (ks ls : List Key) (ns : List Message) → Hold slab ks → Gains slab new ls ns → (a : ℕ) → has_place ks a ≡ true
    → has_place ls a ≡ false
taken slab new ks ls ns h g a p = go (has_place ls a) refl
  where
    go : (b : Bool) → has_place ls a ≡ b → b ≡ false
    go true e = absurd (none-some (message_in (get slab a)) (sym (g.fresh a e) ∙ held_here slab ks a h p))
    go false e = refl

-- what came in first has places of its own
module _ (old mid new : Slab Message) (ks ls : List Key) (ms ns : List Message) (g : Gains old mid ks ms) (h : Gains mid new ls ns) where
  far : (a : ℕ) → has_place ks a ≡ true → has_place ls a ≡ false
  far = taken mid new ks ls ns g.held h

  behind : (a : ℕ) → has_place ls a ≡ true → has_place ks a ≡ false
  behind a p = go (has_place ks a) refl
    where
      go : (b : Bool) → has_place ks a ≡ b → b ≡ false
      go true e = let f : has_place ls a ≡ false = far a e in cc
      go false e = refl

  still : (a : ℕ) → has_place ks a ≡ true → get new a ≡ get mid a
  still a p = h.rest a (far a p)

  fresh_both : (a : ℕ) → has_place (ks ++ ls) a ≡ true → get old a ≡ None
  fresh_both a p = elim (or_cases (has_place ks a) (has_place ls a) (sym (place-append ks ls a) ∙ p)) [
    | inl q ↦ g.fresh a q
    | inr q ↦ sym (g.rest a (behind a q)) ∙ h.fresh a q
  ]

  rest_both : (a : ℕ) → has_place (ks ++ ls) a ≡ false → get new a ≡ get old a
  rest_both a p =
      let both : (has_place ks a || has_place ls a) ≡ false = sym (place-append ks ls a) ∙ p in
      h.rest a (not_right (has_place ks a) (has_place ls a) both) ∙ g.rest a (not_left (has_place ks a) (has_place ls a) both)

  -- what comes in at once may come in two parts
  pub gains_both : Gains old new (ks ++ ls) (ms ++ ns)
  gains_both = record {
    held = hold-append new ks ls (hold-still mid new ks still g.held) h.held;
    are = map-append (message_of new) ks ls ∙ (ap (λ (xs : List Message). xs ++ messages_of new ls) (messages-still mid new ks still ∙ g.are)
        ∙ ap (λ (xs : List Message). ms ++ xs) h.are);
    apart = apart-append ks ls g.apart h.apart far;
    fresh = fresh_both;
    rest = rest_both;
  }

-- nothing that comes in changes nothing
pub gains_none : (slab : Slab Message) → Gains slab slab [] []
gains_none slab = record {
  held = tt;
  are = refl;
  apart = refl;
  fresh = λ a p. let f : ◌≡◌ {A = Bool} false true = p in cc;
  rest = λ a p. refl;
}

-- a slab that is left with the same at each place gains the same
pub gains_from : (old mid new : Slab Message) (ks : List Key) (ms : List Message) → SameValues old mid → Gains mid new ks ms → Gains old new ks ms
gains_from old mid new ks ms same g = record {
  held = g.held;
  are = g.are;
  apart = g.apart;
  fresh = λ a p. sym (same a) ∙ g.fresh a p;
  rest = λ a p. g.rest a p ∙ same a;
}

-- what came in and goes again leaves each place as it was
pub gone_again : (old mid new : Slab Message) (ks : List Key) (ms : List Message) → Gains old mid ks ms → Loses mid new ks → (a : ℕ)
    → get new a ≡ get old a
gone_again old mid new ks ms g l a = l a ∙ go (has_place ks a) refl
  where
    go : (b : Bool) → has_place ks a ≡ b → (if◌then◌else◌ {A = Option Message} b None (get mid a)) ≡ get old a
    go true e = sym (g.fresh a e)
    go false e = g.rest a e

-- a slab that has other room has the same at each place
pub same_slots : (old new : Slab Message) → new ≡ record old { capacity = new.capacity } → (a : ℕ) → get new a ≡ get old a
same_slots old new e a = ap (λ (s : Slab Message). get s a) e

-- and gains nothing more
pub gains_onto : (old mid new : Slab Message) (ks : List Key) (ms : List Message) → SameValues mid new → Gains old mid ks ms → Gains old new ks ms
gains_onto old mid new ks ms same g = record {
  held = hold-still mid new ks (λ a p. same a) g.held;
  are = messages-still mid new ks (λ a p. same a) ∙ g.are;
  apart = g.apart;
  fresh = g.fresh;
  rest = λ a p. same a ∙ g.rest a p;
}

-- one key more of the first so many
pub next_key : (ks : List Key) (n : ℕ) (k : Key) → n < length ks → k ≡ get_or ks n k → take (n + 1) ks ≡ take n ks ++ k ∷ []
next_key ks n k h is = take_more ks n k h ∙ ap (λ (x : Key). take n ks ++ x ∷ []) (sym is)
