-- The first end of a set that covers all that are ready is the least of those.
use Rattle.std.proofs.Common.{◌≡◌, Bool, true, false, List, [], ◌∷◌, refl, sym, ap, ◌∙◌, arith, ◌⊎◌, inl, inr}
use Rattle.std.specs.Prelude.{◌==◌, ◌&&◌, ◌||◌, nat_lt, if◌then◌else◌, filter, fold, Option, Some, None}
use Rattle.std.specs.List.{list_any}
use Rattle.std.proofs.lemmas.Bool.Decides.{nat_tests}
use Rattle.mj_base.specs.declared.ids.EndId.{EndId}
use Rattle.handle_table.specs.Things.{has, same_end}
use Rattle.handle_table.specs.declared.thing.Thing.{Thing}
use Rattle.handle_table.specs.declared.thing.Thing.TheVariants.{End, Token}
use Rattle.handle_table.proofs.ThingsLemmas.{or_cases, or_right, same_end-refl, same_end-true}
use Rattle.bind_model.specs.Ready.{ends_of, is_before, lesser}

-- an end that comes before another doesn't come behind it, nor before itself
not_behind : (x y : EndId) → is_before x y ≡ true → is_before y x ≡ false
not_behind x y h = go (nat_lt x.seq y.seq) (x.seq == y.seq) (nat_lt x.serial y.serial) (nat_lt y.seq x.seq) (y.seq == x.seq)
    (nat_lt y.serial x.serial) refl refl refl refl refl refl h
  where
    go : (b c d e f g : Bool) → nat_lt x.seq y.seq ≡ b → (x.seq == y.seq) ≡ c → nat_lt x.serial y.serial ≡ d → nat_lt y.seq x.seq ≡ e → (y.seq == x.seq) ≡ f
        → nat_lt y.serial x.serial ≡ g
        → (b || (c && d)) ≡ true → (e || (f && g)) ≡ false
    go b c d false false g p q r s t u h = refl
    go b c d false true false p q r s t u h = refl
    go true c d true f g p q r s t u h = absurd (grind (arith, nat_tests, p, s))
    go false true d true f g p q r s t u h = absurd (grind (arith, nat_tests, q, s))
    go false false d true f g p q r s t u h = absurd cc
    go true c d false true true p q r s t u h = absurd (grind (arith, nat_tests, p, t))
    go false true true false true true p q r s t u h = absurd (grind (arith, nat_tests, r, u))
    go false true false false true true p q r s t u h = absurd cc
    go false false d false true true p q r s t u h = absurd cc

not_itself : (x : EndId) → is_before x x ≡ false
not_itself x = go (is_before x x) refl
  where
    go : (b : Bool) → is_before x x ≡ b → b ≡ false
    go true e = absurd (let f : is_before x x ≡ false = not_behind x x e in cc)
    go false e = refl

-- ## The least of a list

-- all that pass are x, or come behind it
abbrev pub AllFrom : (EndId → Bool) → EndId → Type 0
AllFrom p x = (y : EndId) → p y ≡ true → (y ≡ x) ⊎ (is_before x y ≡ true)

module _ (p : EndId → Bool) (x : EndId) (from : AllFrom p x) where
  -- once x is the least so far it stays so
  kept_least : (y : EndId) → (y ≡ x) ⊎ (is_before x y ≡ true) → lesser (Some x) y ≡ Some x
  kept_least y (inl e) = rw (e, not_itself x) refl
  kept_least y (inr h) = rw (not_behind x y h) refl

  stays_least : (ends : List EndId) → fold lesser (Some x) (filter p ends) ≡ Some x
  stays_least [] = refl
  stays_least (y ∷ ends) = go (p y) refl (stays_least ends)
    where
      go : (b : Bool) → p y ≡ b → fold lesser (Some x) (filter p ends) ≡ Some x → fold lesser (Some x) (if b then y ∷ filter p ends else filter p ends) ≡ Some x
      go true e rest = ap (λ (acc : Option EndId). fold lesser acc (filter p ends)) (kept_least y (from y e)) ∙ rest
      go false e rest = rest

  -- what is the least so far comes behind x
  abbrev Behind : Option EndId → Type 0
  Behind None = Unit {0}
  Behind (Some y) = is_before x y ≡ true

  now_least : (acc : Option EndId) → Behind acc → lesser acc x ≡ Some x
  now_least None b = refl
  now_least (Some z) b = rw b refl

  one_of : (y z : EndId) → is_before x y ≡ true → is_before x z ≡ true → (c : Bool) → Behind (if c then Some y else Some z)
  one_of y z f b true = f
  one_of y z f b false = b

  still_behind : (acc : Option EndId) (y : EndId) → Behind acc → is_before x y ≡ true → Behind (lesser acc y)
  still_behind None y b f = f
  still_behind (Some z) y b f = one_of y z f b (is_before y z)

  abbrev has_passing : List EndId → Bool
  has_passing ends = list_any (λ y. same_end x y) (filter p ends)

  pub least_at : (acc : Option EndId) → Behind acc → (ends : List EndId) → has_passing ends ≡ true → fold lesser acc (filter p ends) ≡ Some x
  least_at acc b [] h = absurd cc
  least_at acc b (y ∷ ends) h = go (p y) refl h (λ a c f. least_at a c ends f)
    where
      found : y ≡ x → fold lesser (lesser acc y) (filter p ends) ≡ Some x
      found e = ap (λ (z : EndId). fold lesser (lesser acc z) (filter p ends)) e
          ∙ (ap (λ (a : Option EndId). fold lesser a (filter p ends)) (now_least acc b) ∙ stays_least ends)

      step : (y ≡ x) ⊎ (is_before x y ≡ true) → (same_end x y || has_passing ends) ≡ true
          → ((a : Option EndId) → Behind a → has_passing ends ≡ true → fold lesser a (filter p ends) ≡ Some x)
          → fold lesser (lesser acc y) (filter p ends) ≡ Some x
      step (inl e) h rest = found e
      step (inr f) h rest = elim (or_cases (same_end x y) (has_passing ends) h) [
        | inl s ↦ found (sym (same_end-true x y s))
        | inr s ↦ rest (lesser acc y) (still_behind acc y b f) s
      ]

      go : (c : Bool) → p y ≡ c → list_any (λ z. same_end x z) (if c then y ∷ filter p ends else filter p ends) ≡ true
          → ((a : Option EndId) → Behind a → has_passing ends ≡ true → fold lesser a (filter p ends) ≡ Some x)
          → fold lesser acc (if c then y ∷ filter p ends else filter p ends) ≡ Some x
      go true e h rest = step (from y e) h rest
      go false e h rest = rest acc b h

pub none_pass : (p : EndId → Bool) → ((y : EndId) → p y ≡ false) → (ends : List EndId) → filter p ends ≡ []
none_pass p none [] = refl
none_pass p none (y ∷ ends) = rw (none y) (none_pass p none ends)

-- an end that was made and passes is among those that pass
pub has_of_made : (x : EndId) (things : List Thing) → has things (End x) ≡ true → list_any (λ y. same_end x y) (ends_of things) ≡ true
has_of_made x [] h = absurd cc
has_of_made x (End y ∷ things) h = go (same_end y x) refl h (has_of_made x things)
  where
    go : (b : Bool) → same_end y x ≡ b → (b || has things (End x)) ≡ true → (has things (End x) ≡ true → list_any (λ z. same_end x z) (ends_of things) ≡ true)
        → (same_end x y || list_any (λ z. same_end x z) (ends_of things)) ≡ true
    go true e h rest = rw (same_end-true y x e, same_end-refl x) refl
    go false e h rest = or_right (same_end x y) (list_any (λ z. same_end x z) (ends_of things)) (rest h)
has_of_made x (Token t ∷ things) h = has_of_made x things h

pub has_passing_of : (p : EndId → Bool) (x : EndId) → p x ≡ true → (ends : List EndId) → list_any (λ y. same_end x y) ends ≡ true
    → list_any (λ y. same_end x y) (filter p ends) ≡ true
has_passing_of p x h [] f = absurd cc
has_passing_of p x h (y ∷ ends) f = go (p y) (same_end x y) refl refl f (has_passing_of p x h ends)
  where
    go : (b c : Bool) → p y ≡ b → same_end x y ≡ c → (c || list_any (λ z. same_end x z) ends) ≡ true
        → (list_any (λ z. same_end x z) ends ≡ true → list_any (λ z. same_end x z) (filter p ends) ≡ true)
        → list_any (λ z. same_end x z) (if b then y ∷ filter p ends else filter p ends) ≡ true
    go true true e f g rest = rw f refl
    go true false e f g rest = rw f (rest g)
    go false true e f g rest = absurd (let s : p x ≡ false = rw (same_end-true x y f) e in cc)
    go false false e f g rest = rest g
