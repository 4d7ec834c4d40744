-- The requests of a scope in a tree: what the first key from its least on says of them.
use Rattle.std.proofs.Common.{◌≡◌, true, false, Option, Some, None, IsSome, List, [], ◌∷◌, sym, ◌∙◌, refl, subst}
use Rattle.std.specs.BTreeMap as tree
use Rattle.std.specs.BTreeMap.{BTreeMap}
use Rattle.std.specs.BTreeMap.Range.{IsRangeOf}
use Rattle.std.specs.declared.ops.Bound.TheVariants.{Included, Unbounded}
use Rattle.std.specs.FinMap.{get}
use Rattle.std.proofs.lemmas.Bool.{true≢false}
use Rattle.response_map.specs.declared.key.Key.{Key}
use Rattle.response_map.specs.declared.scope.Scope.{Scope}
use Rattle.response_map.specs.Keys.{key_cmp}
use Rattle.response_map.specs.Contents.{callbacks_of}
use Rattle.response_map.specs.steps.Scopes.{has, least}
use Rattle.response_map.proofs.Orders.{from_least, between}
use Rattle.response_map.proofs.Callbacks.{get_in}

-- r is what a tree has from this key on
abbrev pub IsFrom : {C : Type 0} → Key → BTreeMap Key C → List (Key × C) → Type 0
IsFrom low t r = IsRangeOf key_cmp (Included low) Unbounded t r

some_at : {C : Type 0} (o : Option C) (c : C) → o ≡ Some c → IsSome o
some_at o c e = rw e refl

none_unless : {C : Type 0} (o : Option C) → (IsSome o → true ≡ false) → o ≡ None
none_unless None none = refl
none_unless (Some c) none = absurd (true≢false (none refl))

module _ {C : Type 0} where
  pub none_from : (s : Scope) (low : Key) (t : BTreeMap Key C) (r : List (Key × C)) → low ≡ least s → IsFrom low t r → r ≡ []
      → (x : Key) → has s x ≡ true → get (callbacks_of t) x ≡ None
  none_from s low t r e range none x h =
      let at : IsFrom (least s) t r = subst (λ (y : Key). IsFrom y t r) e range in
      get_in t x ∙ at.5 none x (from_least s x h, tt)

  pub first_found : (low : Key) (t : BTreeMap Key C) (r : List (Key × C)) (k : Key) (c : C) (es : List (Key × C)) → IsFrom low t r → r ≡ (k, c) ∷ es
      → IsSome (get (callbacks_of t) k)
  first_found low t r k c es range e =
      let at : IsFrom low t ((k, c) ∷ es) = subst (λ (y : List (Key × C)). IsFrom low t y) e range in
      some_at (get (callbacks_of t) k) c (get_in t k ∙ at.1.1)

  pub none_behind : (s : Scope) (low : Key) (t : BTreeMap Key C) (r : List (Key × C)) (k : Key) (c : C) (es : List (Key × C)) → low ≡ least s → IsFrom low t r
      → r ≡ (k, c) ∷ es
      → has s k ≡ false → (x : Key) → has s x ≡ true → get (callbacks_of t) x ≡ None
  none_behind s low t r k c es e range f other x h =
      let from : IsFrom (least s) t r = subst (λ (y : Key). IsFrom y t r) e range in
      let at : IsFrom (least s) t ((k, c) ∷ es) = subst (λ (y : List (Key × C)). IsFrom (least s) t y) f from in
      get_in t x ∙ none_unless (tree.get key_cmp t x) (λ some.
      sym (between s k x h at.1.0.0 (at.2 x (from_least s x h, tt) some)) ∙ other)
