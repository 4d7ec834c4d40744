-- Handles that come out, one after the other.
use Rattle.std.proofs.Common.{◌≡◌, ◌≤◌, ◌+◌, true, false, List, [], ◌∷◌, ◌++◌, refl, sym, ap, ◌∙◌, arith}
use Rattle.handle_table.specs.Places.{place_of, is_kept}
use Rattle.handle_table.specs.Things.{has, same, times, is_distinct}
use Rattle.handle_table.specs.declared.places.Place.TheVariants as places
use Rattle.handle_table.specs.declared.thing.Thing.{Thing}
use Rattle.handle_table.proofs.ThingsLemmas.{has-back, or_left, same-refl}
use Rattle.message_pipe.specs.Contents.{Contents}
use Rattle.bind_model.proofs.Counting.{absent, times-append, times-distinct}
use Rattle.core_state.specs.Placing.{PutsAll}
use Rattle.core_taking.specs.Taking.{LieThere}

-- what stands once doesn't stand before
before_none : (xs : List Thing) (x : Thing) (rest : List Thing) → is_distinct (xs ++ x ∷ rest) ≡ true → has xs x ≡ false
before_none xs x rest d =
    let one : times x (xs ++ x ∷ rest) ≤ 1 = times-distinct x (xs ++ x ∷ rest) d in
    let sum : times x (xs ++ x ∷ rest) ≡ times x xs + (1 + times x rest) = times-append x xs (x ∷ rest) ∙ rw (same-refl x) refl in
    absent x xs (omega arith)

module _ (things xs : List Thing) (x : Thing) (rest : List Thing) (old now : Contents) (e : things ≡ xs ++ x ∷ rest) (there : LieThere old things)
    (p : PutsAll xs places.Out old now) where
  -- the handle of the next is still kept
  pub next_kept : is_kept (place_of now.table x) ≡ true
  next_kept =
      let none : has xs x ≡ false = before_none xs x rest (rw e at there.once) in
      let among : has things x ≡ true = rw e (has-back xs (x ∷ rest) x (or_left (same x x) (has rest x) (same-refl x))) in
      let same : place_of now.table x ≡ place_of old.table x = p.places x ∙ rw none refl in
      rw same (there.kept x among)

-- a list that gained one
pub one_longer : (xs ys zs all : List Thing) (x : Thing) → ys ≡ xs ++ x ∷ [] → xs ≡ zs → all ≡ zs ++ x ∷ [] → ys ≡ all
one_longer xs ys zs all x e f g = e ∙ (ap (λ (ts : List Thing). ts ++ x ∷ []) f ∙ sym g)
