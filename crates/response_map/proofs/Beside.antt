-- The newest callback beside those of a tree: what is there at a request, and what a taking and a drop leave.
use Rattle.std.proofs.Common.{◌≡◌, ◌≢◌, Bool, true, false, not, cond, ◌==◌, ◌&&◌, Option, Some, None, IfSome, ap, sym, ◌∙◌, refl, subst}
use Rattle.std.specs.BTreeMap.{BTreeMap}
use Rattle.std.specs.FinMap.{FinMap, get, insert, remove, retain_keys}
use Rattle.std.proofs.lemmas.Bool.{true≢false, false_from_ne_true, and_parts, and_from, eqb-true, eq-eqb}
use Rattle.response_map.specs.declared.key.Key.{Key}
use Rattle.response_map.specs.declared.scope.Scope.{Scope}
use Rattle.response_map.specs.Contents.{Contents, callbacks_of, with_newest, seen}
use Rattle.response_map.specs.Keys.{key_cmp, is_of_end}
use Rattle.response_map.specs.steps.Scopes.{has, kept}
use Rattle.response_map.proofs.Orders.{one_end, is_there}
use Rattle.response_map.proofs.Callbacks.{is_one, one_key, get_newest, get_other, newest_taken, other_taken, get_taken, newest_kept, newest_dropped, get_less}

-- ---- requests that are one, by the test that `==` makes
abbrev is_same : Key → Key → Bool
is_same a b = is_of_end b.end a && ((a.id == b.id) && (a.request == b.request))

same_parts : (a b : Key) → a.end ≡ b.end → a.id ≡ b.id → a.request ≡ b.request → a ≡ b
same_parts a b p q r = λ i. record { end = p i; id = q i; request = r i }

pub same_keys : (a b : Key) → is_same a b ≡ true → a ≡ b
same_keys a b h =
    let parts = and_parts (is_of_end b.end a) ((a.id == b.id) && (a.request == b.request)) h in
    let numbers = and_parts (a.id == b.id) (a.request == b.request) parts.1 in
    same_parts a b (one_end b.end a parts.0) (eqb-true a.id b.id numbers.0) (eqb-true a.request b.request numbers.1)

same_itself : (a : Key) → is_same a a ≡ true
same_itself a = and_from (is_of_end a.end a) ((a.id == a.id) && (a.request == a.request)) (is_there a.end a refl)
    (and_from (a.id == a.id) (a.request == a.request) (eq-eqb a.id a.id refl) (eq-eqb a.request a.request refl))

pub other_keys : (a b : Key) → is_same a b ≡ false → a ≢ b
other_keys a b h e = true≢false (sym (same_itself a) ∙ ap (is_same a) e ∙ h)

apart : (a b : Key) → a ≢ b → is_one b a ≡ false
apart a b other = false_from_ne_true (is_one b a) (λ one. other (sym (one_key b a one)))

module _ {C : Type 0} where
  -- the newest callback, if there is one, is that of another request
  abbrev pub IsOther : Option (Key × C) → Key → Type 0
  IsOther newest key = IfSome newest (λ entry. entry.0 ≢ key)

  pub other_without : (o : Option (Key × C)) (x : Key) → o ≡ None → IsOther o x
  other_without o x e = subst (λ (y : Option (Key × C)). IsOther y x) (sym e) tt

  pub other_with : (o : Option (Key × C)) (x k : Key) (c : C) → o ≡ Some (k, c) → k ≢ x → IsOther o x
  other_with o x k c e other = subst (λ (y : Option (Key × C)). IsOther y x) (sym e) other

  -- the newest callback, if there is one, is that of no request in the tree
  abbrev pub IsNew : Option (Key × C) → BTreeMap Key C → Type 0
  IsNew newest tree = IfSome newest (λ entry. get (callbacks_of tree) entry.0 ≡ None)

  -- ---- what is there at a request
  pub get_found : (o : Option (Key × C)) (t : BTreeMap Key C) (n : Contents C) (x : Key) (c : C) → seen o t ≡ n → o ≡ Some (x, c) → get n.callbacks x ≡ Some c
  get_found o t n x c view e =
      ap (λ (y : Contents C). get y.callbacks x) (sym view)
      ∙ ap (λ (y : Option (Key × C)). get (with_newest y (callbacks_of t)) x) e
      ∙ get_newest (callbacks_of t) x c

  pub get_beside : (o : Option (Key × C)) (t : BTreeMap Key C) (n : Contents C) (x : Key) → seen o t ≡ n → IsOther o x
      → get (callbacks_of t) x ≡ get n.callbacks x
  get_beside None t n x view other = ap (λ (y : Contents C). get y.callbacks x) view
  get_beside (Some entry) t n x view other = sym (get_other (callbacks_of t) entry.0 x entry.1 (apart entry.0 x other))
      ∙ ap (λ (y : Contents C). get y.callbacks x) view

  -- ---- a taking
  pub found_taken : (o p : Option (Key × C)) (t : BTreeMap Key C) (n : Contents C) (x : Key) (c : C) → seen o t ≡ n → IsNew o t → o ≡ Some (x, c) → p ≡ None
      → with_newest p (callbacks_of t) ≡ remove n.callbacks x
  found_taken o p t n x c view new e none =
      ap (λ (y : Option (Key × C)). with_newest y (callbacks_of t)) none
      ∙ sym (newest_taken (callbacks_of t) x c (subst (λ (y : Option (Key × C)). IsNew y t) e new))
      ∙ ap (λ (y : Option (Key × C)). remove (with_newest y (callbacks_of t)) x) (sym e)
      ∙ ap (λ (y : Contents C). remove y.callbacks x) view

  pub beside_taken : (o : Option (Key × C)) (t u : BTreeMap Key C) (n : Contents C) (x : Key) → seen o t ≡ n → IsOther o x
      → callbacks_of u ≡ remove (callbacks_of t) x
      → with_newest o (callbacks_of u) ≡ remove n.callbacks x
  beside_taken None t u n x view other e = e ∙ ap (λ (y : Contents C). remove y.callbacks x) view
  beside_taken (Some entry) t u n x view other e =
      ap (with_newest (Some entry)) e ∙ sym (other_taken (callbacks_of t) entry.0 x entry.1 (apart entry.0 x other))
      ∙ ap (λ (y : Contents C). remove y.callbacks x) view

  pub new_beside : (o : Option (Key × C)) (t u : BTreeMap Key C) (x : Key) → IsNew o t → callbacks_of u ≡ remove (callbacks_of t) x → IsNew o u
  new_beside None t u x new e = tt
  new_beside (Some entry) t u x new e = ap (λ (m : FinMap key_cmp C). get m entry.0) e ∙ get_taken (callbacks_of t) entry.0 x new

  -- ---- a drop
  kept_cases : (b : Bool) (entry : Key × C) (t u : BTreeMap Key C) (s : Scope) → has s entry.0 ≡ b
      → callbacks_of u ≡ retain_keys (callbacks_of t) (λ x. not (has s x))
      → with_newest (cond b None (Some entry)) (callbacks_of u) ≡ retain_keys (insert (callbacks_of t) entry.0 entry.1) (λ x. not (has s x))
  kept_cases true entry t u s h e = e ∙ sym (newest_dropped (callbacks_of t) (λ x. not (has s x)) entry.0 entry.1 (ap not h))
  kept_cases false entry t u s h e = ap (with_newest (Some entry)) e ∙ sym (newest_kept (callbacks_of t) (λ x. not (has s x)) entry.0 entry.1 (ap not h))

  pub kept_is : (o : Option (Key × C)) (t u : BTreeMap Key C) (n : Contents C) (s : Scope) → seen o t ≡ n
      → callbacks_of u ≡ retain_keys (callbacks_of t) (λ x. not (has s x))
      → with_newest (kept o s) (callbacks_of u) ≡ retain_keys n.callbacks (λ x. not (has s x))
  kept_is None t u n s view e = e ∙ ap (λ (y : Contents C). retain_keys y.callbacks (λ x. not (has s x))) view
  kept_is (Some entry) t u n s view e = kept_cases (has s entry.0) entry t u s refl e
      ∙ ap (λ (y : Contents C). retain_keys y.callbacks (λ x. not (has s x))) view

  new_cases : (b : Bool) (entry : Key × C) (t : BTreeMap Key C) → get (callbacks_of t) entry.0 ≡ None → IsNew (cond b None (Some entry)) t
  new_cases true entry t e = tt
  new_cases false entry t e = e

  pub kept_new : (o : Option (Key × C)) (t u : BTreeMap Key C) (s : Scope) → IsNew o t → callbacks_of u ≡ retain_keys (callbacks_of t) (λ x. not (has s x))
      → IsNew (kept o s) u
  kept_new None t u s new e = tt
  kept_new (Some entry) t u s new e = new_cases (has s entry.0) entry u
      (ap (λ (m : FinMap key_cmp C). get m entry.0) e ∙ get_less (callbacks_of t) (λ x. not (has s x)) entry.0 new)
