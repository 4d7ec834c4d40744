-- The keys of requests, and maps by them.
use Rattle.std.proofs.Common.{◌≡◌, ◌≤◌, ◌<◌, ◌==◌, ℕ, Bool, true, false, List, ◌⊎◌, inl, inr, ⊎_elim, length, refl, sym, ap, ◌∙◌, arith}
use Rattle.std.specs.Prelude.{Option, Some, None, cond}
use Rattle.std.specs.declared.cmp.Ordering.{Ordering}
use Rattle.std.specs.declared.cmp.Ordering.TheVariants.{Less, Equal, Greater}
use Rattle.std.specs.Ordering.{nat_cmp, ordering_then, is_eq, eq_by_cmp}
use Rattle.std.specs.Cmp.{IsTotalOrder, nat_cmp_total}
use Rattle.std.specs.FinMap.{FinMap, empty, get, insert, remove, retain_keys, get-empty, get-insert, get-remove, get-retain_keys}
use Rattle.std.proofs.lemmas.Bool.{true≢false, and_parts, and_from, eqb-true, eq-eqb}
use Rattle.std.proofs.lemmas.Cmp.{on_total, then_total, tied_itself}
use Rattle.std.proofs.lemmas.Map.Lookups.{CmpEqualImpliesEq, exact_unsigned, exact_pairs}
use Rattle.mj_base.specs.declared.ids.EndId.{EndId}
use Rattle.response_map.specs.declared.key.Key.{Key}
use Rattle.response_map.specs.Keys.{end_cmp, key_cmp, is_of_end, is_of_endpoint}
use Rattle.remote_receiver.specs.declared.jobs.Waiting.{Waiting}
use Rattle.remote_receiver.specs.declared.note.Note.{Note}
use Rattle.remote_receiver.specs.Stepped.{same_key}
use Rattle.remote_receiver.specs.Waits.{AreNoted, IsPartOf}

keys_total : IsTotalOrder key_cmp
keys_total =
    let ends : IsTotalOrder end_cmp = then_total (on_total (λ (x : EndId). x.seq) nat_cmp_total) (on_total (λ (x : EndId). x.serial) nat_cmp_total) in
    then_total (on_total (λ (x : Key). x.end) ends)
    (then_total (on_total (λ (x : Key). x.id) nat_cmp_total) (on_total (λ (x : Key). x.request) nat_cmp_total))

exact_ends : CmpEqualImpliesEq end_cmp
exact_ends a b h = ap (λ (p : ℕ × ℕ). record { seq = p.0; serial = p.1 })
    (exact_pairs nat_cmp nat_cmp exact_unsigned exact_unsigned (a.seq, a.serial) (b.seq, b.serial) h)

exact_keys : CmpEqualImpliesEq key_cmp
exact_keys a b h = ap (λ (p : EndId × (ℕ × ℕ)). record { end = p.0; id = p.1.0; request = p.1.1 })
    (exact_pairs end_cmp (λ (x y : ℕ × ℕ). ordering_then (nat_cmp x.0 y.0) (nat_cmp x.1 y.1)) exact_ends
    (exact_pairs nat_cmp nat_cmp exact_unsigned exact_unsigned) (a.end, (a.id, a.request)) (b.end, (b.id, b.request)) h)

-- whether two requests are one, as a map tells
abbrev pub is_one : Key → Key → Bool
is_one a b = eq_by_cmp key_cmp a b

is_equal : (o : Ordering) → is_eq o ≡ true → o ≡ Equal
is_equal Less e = absurd (true≢false (sym e))
is_equal Equal e = refl
is_equal Greater e = absurd (true≢false (sym e))

pub one_key : (a b : Key) → is_one a b ≡ true → a ≡ b
one_key a b e = exact_keys a b (is_equal (key_cmp a b) e)

pub itself : (a : Key) → is_one a a ≡ true
itself a = ap is_eq (tied_itself keys_total a)

pub same_itself : (a : Key) → same_key a a ≡ true
same_itself a =
    let n : (n : ℕ) → (n == n) ≡ true = λ n. eq-eqb n n refl in
    and_from (is_of_endpoint a.end a.id a) (a.request == a.request)
    (and_from (is_of_end a.end a) (a.id == a.id) (and_from (a.end.seq == a.end.seq) (a.end.serial == a.end.serial) (n a.end.seq) (n a.end.serial)) (n a.id))
    (n a.request)

pub same_keys : (a b : Key) → same_key a b ≡ true → a ≡ b
same_keys a b h =
    let all = and_parts (is_of_endpoint a.end a.id b) (a.request == b.request) h in
    let point = and_parts (is_of_end a.end b) (b.id == a.id) all.0 in
    let parts = and_parts (b.end.seq == a.end.seq) (b.end.serial == a.end.serial) point.0 in
    one (eqb-true b.end.seq a.end.seq parts.0) (eqb-true b.end.serial a.end.serial parts.1) (eqb-true b.id a.id point.1) (eqb-true a.request b.request all.1)
  where
    one : b.end.seq ≡ a.end.seq → b.end.serial ≡ a.end.serial → b.id ≡ a.id → a.request ≡ b.request → a ≡ b
    one p q r s = λ i. record { end = record { seq = (sym p) i; serial = (sym q) i }; id = (sym r) i; request = s i }

module _ {X : Type 0} where
  pub get_put : (m : FinMap key_cmp X) (k : Key) (x : X) (q : Key) → get (insert m k x) q ≡ cond (is_one q k) (Some x) (get m q)
  get_put m k x q = get-insert keys_total m k x q

  pub get_taken : (m : FinMap key_cmp X) (k q : Key) → get (remove m k) q ≡ cond (is_one q k) None (get m q)
  get_taken m k q = get-remove keys_total m k q

  pub get_kept : (m : FinMap key_cmp X) (p : Key → Bool) (q : Key) → get (retain_keys m p) q ≡ cond (p q) (get m q) None
  get_kept m p q = get-retain_keys m p q (λ x e. ap p (sym (exact_keys q x e)))

  some_part : (b : Bool) (o : Option X) (x : X) → cond b None o ≡ Some x → o ≡ Some x
  some_part true o x e = cc
  some_part false o x e = e

  some_kept : (b : Bool) (o : Option X) (x : X) → cond b o None ≡ Some x → (b ≡ true) × (o ≡ Some x)
  some_kept true o x e = (refl, e)
  some_kept false o x e = cc

  pub taken_part : (m : FinMap key_cmp X) (k q : Key) (x : X) → get (remove m k) q ≡ Some x → get m q ≡ Some x
  taken_part m k q x e = some_part (is_one q k) (get m q) x (sym (get_taken m k q) ∙ e)

  pub kept_part : (m : FinMap key_cmp X) (p : Key → Bool) (q : Key) (x : X) → get (retain_keys m p) q ≡ Some x → (p q ≡ true) × (get m q ≡ Some x)
  kept_part m p q x e = some_kept (p q) (get m q) x (sym (get_kept m p q) ∙ e)

-- ---- the notes of the jobs that wait

module _ {C : Type 0} where
  pub kept_of_some : (old new : FinMap key_cmp (Waiting C)) (p : Key → Bool) → new ≡ retain_keys old p → IsPartOf old new
  kept_of_some old new p e key w there = (kept_part old p key w (sym (ap (λ m. get m key) e) ∙ there)).1

  pub taken_of_some : (old new : FinMap key_cmp (Waiting C)) (k : Key) → new ≡ remove old k → IsPartOf old new
  taken_of_some old new k e key w there = taken_part old k key w (sym (ap (λ m. get m key) e) ∙ there)

  pub none_there : (m : FinMap key_cmp (Waiting C)) (key : Key) (w : Waiting C) → m ≡ empty → get m key ≡ Some w → ⊥
  none_there m key w e there =
      let none : get m key ≡ None = ap (λ x. get x key) e ∙ get-empty key_cmp key in
      cc

  pub none_noted : (m : FinMap key_cmp (Waiting C)) (notes : List Note) → m ≡ empty → AreNoted m notes
  none_noted m notes e key w there = absurd (none_there m key w e there)

  pub part_noted : (old new : FinMap key_cmp (Waiting C)) (a b : List Note) → IsPartOf old new → length b ≡ length a → AreNoted old a → AreNoted new b
  part_noted old new a b part same are key w there = let at = are key w (part key w there) in omega arith

  put_at : (b : Bool) (o : Option (Waiting C)) (v w : Waiting C) → cond b (Some v) o ≡ Some w → (v ≡ w) ⊎ (o ≡ Some w)
  put_at true o v w e = inl (cc)
  put_at false o v w e = inr e

  pub put_noted : (old new : FinMap key_cmp (Waiting C)) (a b : List Note) (k : Key) (v : Waiting C) → new ≡ insert old k v
      → v.at < length b → length a ≤ length b → AreNoted old a → AreNoted new b
  put_noted old new a b k v e here more are key w there =
      ⊎_elim
      (λ (is : v ≡ w). let same : v.at ≡ w.at = ap (λ (x : Waiting C). x.at) is in omega arith)
      (λ was. let at = are key w was in omega arith)
      (put_at (is_one key k) (get old key) v w (sym (ap (λ m. get m key) e ∙ get_put old k v key) ∙ there))
