-- Things that come to one place, one after the other.
use Rattle.std.proofs.Common.{◌≡◌, ℕ, Bool, true, false, List, [], ◌∷◌, ◌++◌, refl, sym, ap, ◌∙◌}
use Rattle.std.specs.Prelude.{if◌then◌else◌, ◌||◌, Option, Some, None}
use Rattle.std.specs.Option.{option_map}
use Rattle.handle_table.specs.Places.{place_of, ends_made, tokens_made}
use Rattle.handle_table.specs.Things.{has, same}
use Rattle.handle_table.specs.declared.places.Place.{Place}
use Rattle.handle_table.specs.declared.thing.Thing.{Thing}
use Rattle.handle_table.proofs.ThingsLemmas.{has-append}
use Rattle.message_pipe.specs.Contents.{Contents, EndsStay, Puts}
use Rattle.core_state.specs.Placing.{PutsAll}

-- with those that are left all will have come
pub record Remains (things left : List Thing) (place : Place) (old now : Contents) : Type 0 where
  pub ends : EndsStay old now
  pub places : (z : Thing) → (if has left z then option_map (λ (before : Place). place) (place_of now.table z) else place_of now.table z)
      ≡ (if has things z then option_map (λ (before : Place). place) (place_of old.table z) else place_of old.table z)
  pub ends_made : (seq : ℕ) → ends_made now.table seq ≡ ends_made old.table seq
  pub tokens_made : (seq : ℕ) → tokens_made now.table seq ≡ tokens_made old.table seq
  pub made : now.made ≡ old.made

-- one more came to a place
module _ (xs : List Thing) (x : Thing) (place : Place) (old now next : Contents) (p : PutsAll xs place old now) (q : Puts x place now next) where
  both : (b c : Bool) (o : Option Place)
      → (if c then option_map (λ (before : Place). place) (if b then option_map (λ (before : Place). place) o else o)
      else (if b then option_map (λ (before : Place). place) o else o))
      ≡ (if (b || (c || false)) then option_map (λ (before : Place). place) o else o)
  both true true None = refl
  both true true (Some r) = refl
  both true false o = refl
  both false true o = refl
  both false false o = refl

  pub one_more : PutsAll (xs ++ x ∷ []) place old next
  one_more = record {
    ends = λ y. q.ends y ∙ p.ends y;
    places = λ z.
        q.table.places z
        ∙ (ap (λ (o : Option Place). if same x z then option_map (λ (before : Place). place) o else o) (p.places z)
        ∙ (both (has xs z) (same x z) (place_of old.table z)
        ∙ ap (λ (b : Bool). if b then option_map (λ (before : Place). place) (place_of old.table z) else place_of old.table z)
        (sym (has-append xs (x ∷ []) z))));
    ends_made = λ s. q.table.ends s ∙ p.ends_made s;
    tokens_made = λ s. q.table.tokens s ∙ p.tokens_made s;
    made = q.made ∙ p.made;
  }
