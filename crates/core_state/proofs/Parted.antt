-- A thing stands twice where an end or a token does.
use Rattle.std.proofs.Common.{◌≡◌, Bool, true, false, List, [], ◌∷◌, refl, sym, ap, ◌∙◌, arith}
use Rattle.std.specs.Prelude.{◌&&◌, ◌||◌, not, ◌↔◌, IsTrue}
use Rattle.std.specs.List.{AllByRecursion, IsDistinct, list_any}
use Rattle.std.proofs.lemmas.Map.Keys.{IsDistinct-cons, IsDistinct-from_apart, IsDistinct-head, IsDistinct-tail}
use Rattle.mj_base.specs.declared.ids.EndId.{EndId}
use Rattle.handle_table.specs.Things.{has, is_distinct, same_end, same_token}
use Rattle.handle_table.specs.declared.thing.Thing.{Thing}
use Rattle.handle_table.specs.declared.thing.Thing.TheVariants.{End, Token}
use Rattle.handle_table.specs.declared.thing.TokenId.{TokenId}
use Rattle.handle_table.proofs.ThingsLemmas.{same-sym}
use Rattle.bind_model.specs.Names.{endpoint_name, is_named}
use Rattle.bind_model.specs.Ready.{ends_of}
use Rattle.bind_model.specs.Replies.{distinct_pendings, has_pending, same_pending}
use Rattle.bind_model.specs.declared.endpoint.PendingId.{PendingId}
use Rattle.bind_model.specs.declared.names.EndpointName.{EndpointName}
use Rattle.bind_model.proofs.PendingLists.{same_pending-refl}
use Rattle.bind_model.proofs.Telling.{same_pending-true}
use Rattle.core_state.specs.steps.Spends.{endpoint_names}
use Rattle.core_state.specs.steps.Tokens.{tokens_of}

module _ {K : Type 0} (eq : K → K → Bool) where
  -- whether none is the same as a later one
  abbrev all_apart : List K → Bool
  all_apart [] = true
  all_apart (x ∷ xs) = not (list_any (eq x) xs) && all_apart xs

  none_same : (x : K) (xs : List K) → list_any (eq x) xs ≡ false → AllByRecursion (λ y. eq x y ≡ false) xs
  none_same x [] h = tt
  none_same x (y ∷ ys) h = go (eq x y) refl h (none_same x ys)
    where
      go : (b : Bool) → eq x y ≡ b → (b || list_any (eq x) ys) ≡ false
          → (list_any (eq x) ys ≡ false → AllByRecursion (λ z. eq x z ≡ false) ys) → (eq x y ≡ false) × AllByRecursion (λ z. eq x z ≡ false) ys
      go true e h rest = absurd cc
      go false e h rest = (e, rest h)

  same_none : (x : K) (xs : List K) → AllByRecursion (λ y. eq x y ≡ false) xs → list_any (eq x) xs ≡ false
  same_none x [] h = refl
  same_none x (y ∷ ys) h = rw h.0 (same_none x ys h.1)

  apart_distinct : (xs : List K) → all_apart xs ≡ true → IsDistinct eq xs
  apart_distinct [] h = IsDistinct-from_apart eq [] (λ i j d a l. absurd (omega arith))
  apart_distinct (x ∷ xs) h = go (list_any (eq x) xs) refl h (apart_distinct xs)
    where
      go : (b : Bool) → list_any (eq x) xs ≡ b → (not b && all_apart xs) ≡ true → (all_apart xs ≡ true → IsDistinct eq xs) → IsDistinct eq (x ∷ xs)
      go true e h rest = absurd cc
      go false e h rest = IsDistinct-cons eq x xs (none_same x xs e) (rest h)

  distinct_apart : (xs : List K) → IsDistinct eq xs → all_apart xs ≡ true
  distinct_apart [] h = refl
  distinct_apart (x ∷ xs) h = rw (same_none x xs (IsDistinct-head eq x xs h), distinct_apart xs (IsDistinct-tail eq x xs h)) refl

  -- what is true where they differ is whether they do
  apart_is : (xs : List K) (b : Bool) → IsTrue b ↔ IsDistinct eq xs → b ≡ all_apart xs
  apart_is xs true h = sym (distinct_apart xs (h.0 refl))
  apart_is xs false h = go (all_apart xs) refl
    where
      go : (b : Bool) → all_apart xs ≡ b → false ≡ b
      go true e = h.1 (apart_distinct xs e)
      go false e = refl

has_end : (xs : List Thing) (x : EndId) → has xs (End x) ≡ list_any (same_end x) (ends_of xs)
has_end [] x = refl
has_end (End y ∷ xs) x = rw (same-sym (End y) (End x), has_end xs x) refl
has_end (Token t ∷ xs) x = has_end xs x

has_token : (xs : List Thing) (t : TokenId) → has xs (Token t) ≡ list_any (same_token t) (tokens_of xs)
has_token [] t = refl
has_token (End x ∷ xs) t = has_token xs t
has_token (Token u ∷ xs) t = rw (same-sym (Token u) (Token t), has_token xs t) refl

by_sort : (xs : List Thing) → (all_apart same_end (ends_of xs) && all_apart same_token (tokens_of xs)) ≡ is_distinct xs
by_sort [] = refl
by_sort (End x ∷ xs) =
    rw (has_end xs x, ← by_sort xs) (go (not (list_any (same_end x) (ends_of xs))) (all_apart same_end (ends_of xs)) (all_apart same_token (tokens_of xs)))
  where
    go : (a e t : Bool) → ((a && e) && t) ≡ (a && (e && t))
    go true e t = refl
    go false e t = refl
by_sort (Token t ∷ xs) =
    rw (has_token xs t, ← by_sort xs)
    (go (not (list_any (same_token t) (tokens_of xs))) (all_apart same_end (ends_of xs)) (all_apart same_token (tokens_of xs)))
  where
    go : (a e t : Bool) → (e && (a && t)) ≡ (a && (e && t))
    go a true t = refl
    go true false t = refl
    go false false t = refl

module _ (xs : List Thing) (ends : List EndId) (tokens : List TokenId) (e : ends ≡ ends_of xs) where
  -- an end that stands twice decides
  pub end_twice : (r : Bool) → r ≡ false → IsTrue r ↔ IsDistinct same_end ends → r ≡ is_distinct xs
  end_twice r f h =
      let a : false ≡ all_apart same_end (ends_of xs) = rw (← f, ← e) (apart_is same_end ends r h) in rw (f, ← by_sort xs, ← a) refl

  -- else the tokens do
  pub tokens_differ : tokens ≡ tokens_of xs → (r s : Bool) → r ≡ true → IsTrue r ↔ IsDistinct same_end ends → IsTrue s ↔ IsDistinct same_token tokens
      → s ≡ is_distinct xs
  tokens_differ t r s f h i =
      let a : true ≡ all_apart same_end (ends_of xs) = rw (← f, ← e) (apart_is same_end ends r h) in
      let b : s ≡ all_apart same_token (tokens_of xs) = rw (← t) (apart_is same_token tokens s i) in rw (b, ← by_sort xs, ← a) refl

-- ## Pendings

pending-sym : (p q : PendingId) → same_pending p q ≡ same_pending q p
pending-sym p q = go (same_pending p q) (same_pending q p) refl refl
  where
    go : (x y : Bool) → same_pending p q ≡ x → same_pending q p ≡ y → x ≡ y
    go true true e h = refl
    go false false e h = refl
    go true false e h = let t : same_pending q p ≡ true = rw (same_pending-true p q e) (same_pending-refl q) in cc
    go false true e h = let t : same_pending p q ≡ true = rw (same_pending-true q p h) (same_pending-refl p) in cc

-- whether two names are of one endpoint
abbrev pub same_name : EndpointName → EndpointName → Bool
same_name a b = is_named a.end a.id b

has_name : (p : PendingId) (ps : List PendingId) → list_any (same_name (endpoint_name p.end p.id)) (endpoint_names ps) ≡ has_pending ps p
has_name p [] = refl
has_name p (q ∷ ps) =
    ap (λ (b : Bool). b || list_any (same_name (endpoint_name p.end p.id)) (endpoint_names ps)) (pending-sym p q)
    ∙ ap (λ (b : Bool). same_pending q p || b) (has_name p ps)

names_apart : (ps : List PendingId) → all_apart same_name (endpoint_names ps) ≡ distinct_pendings ps
names_apart [] = refl
names_apart (p ∷ ps) =
    ap (λ (b : Bool). not b && all_apart same_name (endpoint_names ps)) (has_name p ps)
    ∙ ap (λ (b : Bool). not (has_pending ps p) && b) (names_apart ps)

-- a pending stands twice where its name does
pub pendings_differ : (ps : List PendingId) (names : List EndpointName) → names ≡ endpoint_names ps → (r : Bool) → IsTrue r ↔ IsDistinct same_name names
    → r ≡ distinct_pendings ps
pendings_differ ps names e r h =
    apart_is same_name names r h ∙ (ap (λ (ns : List EndpointName). all_apart same_name ns) e ∙ names_apart ps)
