-- Pendings that nobody has any more, one after the other.
use Rattle.std.proofs.Common.{◌≡◌, Bool, true, false, List, [], ◌∷◌, ◌++◌, refl, sym, ap, ◌∙◌}
use Rattle.std.specs.Prelude.{◌&&◌, ◌||◌, not}
use Rattle.std.proofs.lemmas.List.Folds.{list_any-append}
use Rattle.bind_model.specs.Pendings.{is_out}
use Rattle.bind_model.specs.Replies.{has_pending, same_pending}
use Rattle.bind_model.specs.declared.endpoint.PendingId.{PendingId}
use Rattle.bind_model.specs.declared.names.EndpointName.{EndpointName}
use Rattle.core_state.specs.steps.Spends.{SpendsAll}

-- where there are none all stay as they are
pub no_less : (old : List (EndpointName × Bool)) → SpendsAll [] old old
no_less old p = whole (is_out old p)
  where
    whole : (b : Bool) → b ≡ (b && not false)
    whole true = refl
    whole false = refl

both : (a b c : Bool) → ((a && not b) && not c) ≡ (a && not (b || (c || false)))
both true true c = refl
both true false true = refl
both true false false = refl
both false b c = refl

-- one more is out no longer
pub one_less : (ps : List PendingId) (q : PendingId) (old now next : List (EndpointName × Bool)) → SpendsAll ps old now
    → ((p : PendingId) → is_out next p ≡ (is_out now p && not (same_pending q p))) → SpendsAll (ps ++ q ∷ []) old next
one_less ps q old now next before less p =
    less p
    ∙ (ap (λ (b : Bool). b && not (same_pending q p)) (before p)
    ∙ (both (is_out old p) (has_pending ps p) (same_pending q p)
    ∙ ap (λ (b : Bool). is_out old p && not b) (sym (list_any-append (λ (r : PendingId). same_pending r p) ps (q ∷ [])))))
