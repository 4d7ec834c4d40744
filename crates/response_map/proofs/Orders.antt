-- The order of requests: it is total, and tells all of them apart; those of a scope lie together.
use Rattle.std.proofs.Common.{◌≡◌, ◌≤◌, ◌<◌, ◌==◌, ℕ, true, false, ap, sym, ◌∙◌, refl, arith}
use Rattle.std.specs.declared.cmp.Ordering.{Ordering}
use Rattle.std.specs.declared.cmp.Ordering.TheVariants.{Less, Equal, Greater}
use Rattle.std.specs.Ordering.{nat_cmp, ordering_then, ordering_reverse, is_gt}
use Rattle.std.specs.Cmp.{IsTotalOrder, nat_cmp_total}
use Rattle.std.proofs.lemmas.Bool.{true≢false, and_parts, and_from, eqb-true, eq-eqb}
use Rattle.std.proofs.lemmas.Cmp.{on_total, then_total, by_ranked, ranked, tied_itself}
use Rattle.std.proofs.lemmas.Map.Lookups.{CmpEqualImpliesEq, exact_unsigned, exact_pairs}
use Rattle.mj_base.specs.declared.ids.EndId.{EndId}
use Rattle.response_map.specs.declared.key.Key.{Key}
use Rattle.response_map.specs.declared.scope.Scope.{Scope}
use Rattle.response_map.specs.declared.scope.Scope.TheVariants.{End, Endpoint}
use Rattle.response_map.specs.Keys.{end_cmp, key_cmp, is_of_end}
use Rattle.response_map.specs.steps.Scopes.{has, least}

ends_total : IsTotalOrder end_cmp
ends_total = then_total (on_total (λ (x : EndId). x.seq) nat_cmp_total) (on_total (λ (x : EndId). x.serial) nat_cmp_total)

pub keys_total : IsTotalOrder key_cmp
keys_total = then_total (on_total (λ (x : Key). x.end) ends_total)
    (then_total (on_total (λ (x : Key). x.id) nat_cmp_total) (on_total (λ (x : Key). x.request) nat_cmp_total))

exact_ends : CmpEqualImpliesEq end_cmp
exact_ends a b h = ap (λ (p : ℕ × ℕ). record { seq = p.0; serial = p.1 })
    (exact_pairs nat_cmp nat_cmp exact_unsigned exact_unsigned (a.seq, a.serial) (b.seq, b.serial) h)

-- requests that compare alike are one
pub exact_keys : CmpEqualImpliesEq key_cmp
exact_keys a b h = ap (λ (p : EndId × (ℕ × ℕ)). record { end = p.0; id = p.1.0; request = p.1.1 })
    (exact_pairs end_cmp (λ (x y : ℕ × ℕ). ordering_then (nat_cmp x.0 y.0) (nat_cmp x.1 y.1)) exact_ends
    (exact_pairs nat_cmp nat_cmp exact_unsigned exact_unsigned) (a.end, (a.id, a.request)) (b.end, (b.id, b.request)) h)

-- ---- not above, for numbers and for one order before another
up_to : (a b : ℕ) → a ≤ b → is_gt (nat_cmp a b) ≡ false
up_to a b h = by_ranked (a < b) (a ≡ b) (b < a) (nat_cmp a b) (ranked a b (nat_cmp a b) refl)
    (λ e _. ap is_gt e) (λ e _. ap is_gt e) (λ e above. absurd (omega arith))

is_up_to : (a b : ℕ) → is_gt (nat_cmp a b) ≡ false → a ≤ b
is_up_to a b h = by_ranked (a < b) (a ≡ b) (b < a) (nat_cmp a b) (ranked a b (nat_cmp a b) refl)
    (λ e below. omega arith) (λ e same. omega arith) (λ e _. absurd (true≢false (sym (ap is_gt e) ∙ h)))

both_up_to : (a b : Ordering) → is_gt a ≡ false → is_gt b ≡ false → is_gt (ordering_then a b) ≡ false
both_up_to Less b p q = refl
both_up_to Equal b p q = q
both_up_to Greater b p q = p

first_up_to : (a b : Ordering) → is_gt (ordering_then a b) ≡ false → is_gt a ≡ false
first_up_to Less b h = refl
first_up_to Equal b h = refl
first_up_to Greater b h = h

rest_up_to : (a b : Ordering) → a ≡ Equal → is_gt (ordering_then a b) ≡ false → is_gt b ≡ false
rest_up_to a b e h = sym (ap (λ (o : Ordering). is_gt (ordering_then o b)) e) ∙ h

neither_above : (a b : Ordering) → a ≡ ordering_reverse b → is_gt a ≡ false → is_gt b ≡ false → a ≡ Equal
neither_above Less Less e p q = cc
neither_above Less Equal e p q = e
neither_above Less Greater e p q = absurd (true≢false q)
neither_above Equal b e p q = refl
neither_above Greater b e p q = absurd (true≢false p)

-- ---- the end and the id of the requests of a scope
pub one_end : (end : EndId) (x : Key) → is_of_end end x ≡ true → x.end ≡ end
one_end end x h =
    let parts = and_parts (x.end.seq == end.seq) (x.end.serial == end.serial) h in
    one (eqb-true x.end.seq end.seq parts.0) (eqb-true x.end.serial end.serial parts.1)
  where
    one : x.end.seq ≡ end.seq → x.end.serial ≡ end.serial → x.end ≡ end
    one p q = λ i. record { seq = p i; serial = q i }

pub is_there : (end : EndId) (x : Key) → x.end ≡ end → is_of_end end x ≡ true
is_there end x e = and_from (x.end.seq == end.seq) (x.end.serial == end.serial)
    (eq-eqb x.end.seq end.seq (ap (λ (y : EndId). y.seq) e)) (eq-eqb x.end.serial end.serial (ap (λ (y : EndId). y.serial) e))

-- between two keys whose ends are one, all are of that end
end_between : (a b c : EndId) → a ≡ c → is_gt (end_cmp a b) ≡ false → is_gt (end_cmp b c) ≡ false → b ≡ a
end_between a b c e p q = sym (exact_ends a b (neither_above (end_cmp a b) (end_cmp b a) (ends_total.antisymm a b) p
    (ap (λ (y : EndId). is_gt (end_cmp b y)) e ∙ q)))

same_cmp : (a b : EndId) → a ≡ b → end_cmp a b ≡ Equal
same_cmp a b e = ap (end_cmp a) (sym e) ∙ tied_itself ends_total a

-- the least key of a scope is above none of its keys
pub from_least : (s : Scope) (x : Key) → has s x ≡ true → is_gt (key_cmp (least s) x) ≡ false
from_least (End end) x h =
    both_up_to (end_cmp end x.end) (ordering_then (nat_cmp 0 x.id) (nat_cmp 0 x.request))
    (ap is_gt (same_cmp end x.end (sym (one_end end x h))))
    (both_up_to (nat_cmp 0 x.id) (nat_cmp 0 x.request) (up_to 0 x.id (omega arith)) (up_to 0 x.request (omega arith)))
from_least (Endpoint end id) x h =
    let parts = and_parts (is_of_end end x) (x.id == id) h in
    let same : x.id ≡ id = eqb-true x.id id parts.1 in
    both_up_to (end_cmp end x.end) (ordering_then (nat_cmp id x.id) (nat_cmp 0 x.request))
    (ap is_gt (same_cmp end x.end (sym (one_end end x parts.0))))
    (both_up_to (nat_cmp id x.id) (nat_cmp 0 x.request) (up_to id x.id (omega arith)) (up_to 0 x.request (omega arith)))

-- from the least key of a scope to a key of it, all are of it
pub between : (s : Scope) (x y : Key) → has s y ≡ true → is_gt (key_cmp (least s) x) ≡ false → is_gt (key_cmp x y) ≡ false → has s x ≡ true
between (End end) x y h low high =
    is_there end x (end_between end x.end y.end (sym (one_end end y h))
    (first_up_to (end_cmp end x.end) (ordering_then (nat_cmp 0 x.id) (nat_cmp 0 x.request)) low)
    (first_up_to (end_cmp x.end y.end) (ordering_then (nat_cmp x.id y.id) (nat_cmp x.request y.request)) high))
between (Endpoint end id) x y h low high =
    let parts = and_parts (is_of_end end y) (y.id == id) h in
    let there : y.end ≡ end = one_end end y parts.0 in
    let here : x.end ≡ end = end_between end x.end y.end (sym there)
    (first_up_to (end_cmp end x.end) (ordering_then (nat_cmp id x.id) (nat_cmp 0 x.request)) low)
    (first_up_to (end_cmp x.end y.end) (ordering_then (nat_cmp x.id y.id) (nat_cmp x.request y.request)) high) in
    let below : id ≤ x.id = is_up_to id x.id (first_up_to (nat_cmp id x.id) (nat_cmp 0 x.request)
    (rest_up_to (end_cmp end x.end) (ordering_then (nat_cmp id x.id) (nat_cmp 0 x.request)) (same_cmp end x.end (sym here)) low)) in
    let above : x.id ≤ y.id = is_up_to x.id y.id (first_up_to (nat_cmp x.id y.id) (nat_cmp x.request y.request)
    (rest_up_to (end_cmp x.end y.end) (ordering_then (nat_cmp x.id y.id) (nat_cmp x.request y.request)) (same_cmp x.end y.end (here ∙ sym there)) high)) in
    let same : y.id ≡ id = eqb-true y.id id parts.1 in
    and_from (is_of_end end x) (x.id == id) (is_there end x here) (eq-eqb x.id id (omega arith))
