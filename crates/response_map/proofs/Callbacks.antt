-- Callbacks by their requests: the newest beside the others, and what is left behind a call.
use Rattle.std.proofs.Common.{◌≡◌, Bool, true, false, cond, Option, Some, None, List, [], ◌∷◌, ap, sym, ◌∙◌, refl}
use Rattle.std.specs.declared.cmp.Ordering.{Ordering}
use Rattle.std.specs.declared.cmp.Ordering.TheVariants.{Less, Equal, Greater}
use Rattle.std.specs.Ordering.{is_eq, eq_by_cmp}
use Rattle.std.specs.Cmp.{eq_by_cmp_equiv}
use Rattle.std.specs.BTreeMap as tree
use Rattle.std.specs.BTreeMap.{BTreeMap, is_at}
use Rattle.std.specs.Map.{lookup}
use Rattle.std.specs.FinMap.{FinMap, get, insert, remove, retain_keys, find, get-insert, get-remove, get-retain_keys, get-from_entries, same_map}
use Rattle.std.proofs.lemmas.Bool.{true≢false, cond-true, cond-false}
use Rattle.std.proofs.lemmas.Cmp.{tied_itself}
use Rattle.response_map.specs.declared.key.Key.{Key}
use Rattle.response_map.specs.Keys.{key_cmp}
use Rattle.response_map.specs.Contents.{callbacks_of}
use Rattle.response_map.proofs.Orders.{keys_total, exact_keys}

-- whether two requests are one
abbrev pub is_one : Key → Key → Bool
is_one a b = eq_by_cmp key_cmp a b

is_equal : (o : Ordering) → is_eq o ≡ true → o ≡ Equal
is_equal Less e = absurd (true≢false (sym e))
is_equal Equal e = refl
is_equal Greater e = absurd (true≢false (sym e))

pub one_key : (a b : Key) → is_one a b ≡ true → a ≡ b
one_key a b e = exact_keys a b (is_equal (key_cmp a b) e)

module _ {C : Type 0} where
  -- maps that answer alike are one
  alike : (m n : FinMap key_cmp C) → ((q : Key) → get m q ≡ get n q) → m ≡ n
  alike m n h = same_map keys_total exact_keys m n h

  pub get_kept : (m : FinMap key_cmp C) (p : Key → Bool) (q : Key) → get (retain_keys m p) q ≡ cond (p q) (get m q) None
  get_kept m p q = get-retain_keys m p q (λ x e. ap p (sym (exact_keys q x e)))

  -- ---- the newest beside the others
  pub get_newest : (m : FinMap key_cmp C) (k : Key) (c : C) → get (insert m k c) k ≡ Some c
  get_newest m k c = get-insert keys_total m k c k ∙ cond-true (is_one k k) (Some c) (get m k) (ap is_eq (tied_itself keys_total k))

  pub get_other : (m : FinMap key_cmp C) (k x : Key) (c : C) → is_one x k ≡ false → get (insert m k c) x ≡ get m x
  get_other m k x c other = get-insert keys_total m k c x ∙ cond-false (is_one x k) (Some c) (get m x) other

  taken_at : (b : Bool) (c : C) (o : Option C) → (b ≡ true → o ≡ None) → cond b None (cond b (Some c) o) ≡ o
  taken_at true c o none = sym (none refl)
  taken_at false c o none = refl

  pub newest_taken : (m : FinMap key_cmp C) (k : Key) (c : C) → get m k ≡ None → remove (insert m k c) k ≡ m
  newest_taken m k c none = alike (remove (insert m k c) k) m (λ q.
      get-remove keys_total (insert m k c) k q
      ∙ ap (cond (is_one q k) None) (get-insert keys_total m k c q)
      ∙ taken_at (is_one q k) c (get m q) (λ e. ap (get m) (one_key q k e) ∙ none))

  other_at : (a b : Bool) (c : C) (o : Option C) → (a ≡ true → b ≡ true → true ≡ false) → cond a None (cond b (Some c) o) ≡ cond b (Some c) (cond a None o)
  other_at true true c o apart = absurd (true≢false (apart refl refl))
  other_at true false c o apart = refl
  other_at false true c o apart = refl
  other_at false false c o apart = refl

  pub other_taken : (m : FinMap key_cmp C) (k x : Key) (c : C) → is_one x k ≡ false → remove (insert m k c) x ≡ insert (remove m x) k c
  other_taken m k x c other = alike (remove (insert m k c) x) (insert (remove m x) k c) (λ q.
      get-remove keys_total (insert m k c) x q
      ∙ ap (cond (is_one q x) None) (get-insert keys_total m k c q)
      ∙ other_at (is_one q x) (is_one q k) c (get m q) (λ e f. sym f ∙ ap (λ (y : Key). is_one y k) (one_key q x e) ∙ other)
      ∙ sym (get-insert keys_total (remove m x) k c q ∙ ap (cond (is_one q k) (Some c)) (get-remove keys_total m x q)))

  pub get_taken : (m : FinMap key_cmp C) (k x : Key) → get m k ≡ None → get (remove m x) k ≡ None
  get_taken m k x none = get-remove keys_total m x k ∙ gone_at (is_one k x) (get m k) none
    where
      gone_at : (b : Bool) (o : Option C) → o ≡ None → cond b None o ≡ None
      gone_at true o e = refl
      gone_at false o e = e

  kept_at : (a b : Bool) (c : C) (o : Option C) → (b ≡ true → a ≡ true) → cond a (cond b (Some c) o) None ≡ cond b (Some c) (cond a o None)
  kept_at true b c o is = refl
  kept_at false true c o is = absurd (true≢false (sym (is refl)))
  kept_at false false c o is = refl

  pub newest_kept : (m : FinMap key_cmp C) (p : Key → Bool) (k : Key) (c : C) → p k ≡ true → retain_keys (insert m k c) p ≡ insert (retain_keys m p) k c
  newest_kept m p k c is = alike (retain_keys (insert m k c) p) (insert (retain_keys m p) k c) (λ q.
      get_kept (insert m k c) p q
      ∙ ap (λ (o : Option C). cond (p q) o None) (get-insert keys_total m k c q)
      ∙ kept_at (p q) (is_one q k) c (get m q) (λ e. ap p (one_key q k e) ∙ is)
      ∙ sym (get-insert keys_total (retain_keys m p) k c q ∙ ap (cond (is_one q k) (Some c)) (get_kept m p q)))

  gone_with : (a b : Bool) (x o : Option C) → (b ≡ true → a ≡ false) → cond a (cond b x o) None ≡ cond a o None
  gone_with true true x o is = absurd (true≢false (is refl))
  gone_with true false x o is = refl
  gone_with false b x o is = refl

  pub newest_dropped : (m : FinMap key_cmp C) (p : Key → Bool) (k : Key) (c : C) → p k ≡ false → retain_keys (insert m k c) p ≡ retain_keys m p
  newest_dropped m p k c is = alike (retain_keys (insert m k c) p) (retain_keys m p) (λ q.
      get_kept (insert m k c) p q
      ∙ ap (λ (o : Option C). cond (p q) o None) (get-insert keys_total m k c q)
      ∙ gone_with (p q) (is_one q k) (Some c) (get m q) (λ e. ap p (one_key q k e) ∙ is)
      ∙ sym (get_kept m p q))

  pub get_less : (m : FinMap key_cmp C) (p : Key → Bool) (k : Key) → get m k ≡ None → get (retain_keys m p) k ≡ None
  get_less m p k none = get_kept m p k ∙ less_at (p k) (get m k) none
    where
      less_at : (b : Bool) (o : Option C) → o ≡ None → cond b o None ≡ None
      less_at true o e = e
      less_at false o e = refl

  -- ---- the others, one by one
  pub one_dropped : (m : FinMap key_cmp C) (p : Key → Bool) (k : Key) → p k ≡ false → retain_keys (remove m k) p ≡ retain_keys m p
  one_dropped m p k is = alike (retain_keys (remove m k) p) (retain_keys m p) (λ q.
      get_kept (remove m k) p q
      ∙ ap (λ (o : Option C). cond (p q) o None) (get-remove keys_total m k q)
      ∙ gone_with (p q) (is_one q k) None (get m q) (λ e. ap p (one_key q k e) ∙ is)
      ∙ sym (get_kept m p q))

  all_at : (a : Bool) (o : Option C) → (a ≡ false → o ≡ None) → cond a o None ≡ o
  all_at true o none = refl
  all_at false o none = sym (none refl)

  pub all_dropped : (m : FinMap key_cmp C) (p : Key → Bool) → ((q : Key) → p q ≡ false → get m q ≡ None) → retain_keys m p ≡ m
  all_dropped m p none = alike (retain_keys m p) m (λ q. get_kept m p q ∙ all_at (p q) (get m q) (none q))

  -- ---- what a tree has
  find_key : (es : List (Key × C)) (q : Key) → find key_cmp q es ≡ lookup (is_at (key_cmp q)) es
  find_key [] q = refl
  find_key (e ∷ es) q = ap (cond (is_at (key_cmp q) e.0) (Some e.1)) (find_key es q)

  pub get_in : (t : BTreeMap Key C) (q : Key) → get (callbacks_of t) q ≡ tree.get key_cmp t q
  get_in t q = get-from_entries keys_total t.entries q ∙ find_key t.entries q

  turned : (s t : BTreeMap Key C) (k : Key) (w : Option C) (q : Key) → tree.Updates key_cmp s t k w
      → get (callbacks_of t) q ≡ cond (is_one q k) w (get (callbacks_of s) q)
  turned s t k w q u =
      get_in t q ∙ u.0 q
      ∙ ap (λ (b : Bool). cond b w (tree.get key_cmp s q)) ((eq_by_cmp_equiv keys_total).symm k q)
      ∙ ap (cond (is_one q k) w) (sym (get_in s q))

  pub put_in : (s t : BTreeMap Key C) (k : Key) (c : C) → tree.Updates key_cmp s t k (Some c) → callbacks_of t ≡ insert (callbacks_of s) k c
  put_in s t k c u = alike (callbacks_of t) (insert (callbacks_of s) k c) (λ q.
      turned s t k (Some c) q u ∙ sym (get-insert keys_total (callbacks_of s) k c q))

  pub taken_from : (s t : BTreeMap Key C) (k : Key) → tree.Updates key_cmp s t k None → callbacks_of t ≡ remove (callbacks_of s) k
  taken_from s t k u = alike (callbacks_of t) (remove (callbacks_of s) k) (λ q.
      turned s t k None q u ∙ sym (get-remove keys_total (callbacks_of s) k q))
