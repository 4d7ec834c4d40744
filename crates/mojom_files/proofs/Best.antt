-- What is kept of refusals comes first of them.
use Rattle.std.proofs.Common.{◌≡◌, ℕ, List, [], ◌∷◌, refl, subst, inl, inr, arith}
use Rattle.std.specs.Prelude.{◌⊎◌, ◌==◌, nat_lt, Bool, true, false, ◌||◌, ◌&&◌, Option, Some, None, if◌then◌else◌}
use Rattle.std.proofs.lemmas.Grind.{common_steps}
use Rattle.mojom_files.specs.declared.refusal.Refusal.{Refusal}
use Rattle.mojom_files.specs.Refusals.{comes_before, rank, best_of, IsAmong, IsAnswered}

abbrev before : ℕ → ℕ → ℕ → ℕ → Bool
before a r b s = nat_lt a b || ((a == b) && nat_lt r s)

not_through : (a r b s c t : ℕ) → before a r b s ≡ false → before b s c t ≡ false → before a r c t ≡ false
not_through a r b s c t e f = grind (arith, common_steps)

not_itself : (a r : ℕ) → before a r a r ≡ false
not_itself a r = grind (arith, common_steps)

one_way : (a r b s : ℕ) → before a r b s ≡ true → before b s a r ≡ false
one_way a r b s e = grind (arith, common_steps)

through : (one two three : Refusal) → comes_before one two ≡ false → comes_before two three ≡ false → comes_before one three ≡ false
through one two three e f = not_through one.at (rank one.cause) two.at (rank two.cause) three.at (rank three.cause) e f

record Best (known : Refusal) (refusals : List Refusal) (first : Refusal) : Type 0 where
  is : (known ≡ first) ⊎ IsAmong refusals first
  known_not : comes_before known first ≡ false
  others_not : (other : Refusal) → IsAmong refusals other → comes_before other first ≡ false

-- the best so far stays, and the next does not come before it
stays_best : (known next : Refusal) (refusals : List Refusal) (first : Refusal)
    → comes_before next known ≡ false → Best known refusals first
    → Best known (next ∷ refusals) first
stays_best known next refusals first e best = record {
  is = elim best.is [ inl same ↦ inl same | inr among ↦ inr (inr among) ];
  known_not = best.known_not;
  others_not = λ other among. elim among [
    | inl same ↦ subst (λ (r : Refusal). comes_before r first ≡ false) same (through next known first e best.known_not)
    | inr among ↦ best.others_not other among
  ];
}

-- the next comes before the best so far
new_best : (known next : Refusal) (refusals : List Refusal) (first : Refusal)
    → comes_before next known ≡ true → Best next refusals first
    → Best known (next ∷ refusals) first
new_best known next refusals first e best = record {
  is = elim best.is [ inl same ↦ inr (inl same) | inr among ↦ inr (inr among) ];
  known_not = through known next first (one_way next.at (rank next.cause) known.at (rank known.cause) e) best.known_not;
  others_not = λ other among. elim among [
    | inl same ↦ subst (λ (r : Refusal). comes_before r first ≡ false) same best.known_not
    | inr among ↦ best.others_not other among
  ];
}

step : (known next : Refusal) (refusals : List Refusal) (first : Refusal) (b : Bool)
    → comes_before next known ≡ b → (best_of (Some known) refusals ≡ Some first → Best known refusals first)
    → (best_of (Some next) refusals ≡ Some first → Best next refusals first)
    → best_of (if b then Some next else Some known) refusals ≡ Some first
    → Best known (next ∷ refusals) first
step known next refusals first true e old new h = new_best known next refusals first e (new h)
step known next refusals first false e old new h = stays_best known next refusals first e (old h)

best : (known : Refusal) (refusals : List Refusal) (first : Refusal) → best_of (Some known) refusals ≡ Some first → Best known refusals first
best known [] first e =
    let same : known ≡ first = cc in
    record {
      is = inl same;
      known_not = subst (λ (r : Refusal). comes_before known r ≡ false) same (not_itself known.at (rank known.cause));
      others_not = λ other among. absurd among;
    }
best known (next ∷ refusals) first e = step known next refusals first (comes_before next known) refl (best known refusals first) (best next refusals first) e

never_none : (known : Refusal) (refusals : List Refusal) → best_of (Some known) refusals ≡ None → ⊥
never_none known [] e = absurd cc
never_none known (next ∷ refusals) e = go (comes_before next known) (never_none known refusals) (never_none next refusals) e
  where
    go : (b : Bool)
        → (best_of (Some known) refusals ≡ None → ⊥) → (best_of (Some next) refusals ≡ None → ⊥)
        → best_of (if b then Some next else Some known) refusals ≡ None
        → ⊥
    go true old new h = new h
    go false old new h = old h

-- what is kept of refusals is one of them, and none comes before it; it is none where there are none
pub best_is_first : (refusals : List Refusal) → IsAnswered (best_of None refusals) refusals
best_is_first [] = refl
best_is_first (next ∷ refusals) = go (best_of (Some next) refusals) refl
  where
    go : (o : Option Refusal) → best_of (Some next) refusals ≡ o → IsAnswered o (next ∷ refusals)
    go None e = absurd (never_none next refusals e)
    go (Some first) e = let b = best next refusals first e in record {
      among = elim b.is [ inl same ↦ inl same | inr among ↦ inr among ];
      least = λ other among. elim among [
        | inl same ↦ subst (λ (r : Refusal). comes_before r first ≡ false) same b.known_not
        | inr among ↦ b.others_not other among
      ];
    }
