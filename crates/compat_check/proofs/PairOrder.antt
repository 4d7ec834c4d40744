-- The order of pairs tells all of them apart.
use Rattle.std.proofs.Common.{◌≡◌, ℕ, true, refl, sym, ap, ◌∙◌}
use Rattle.std.specs.Prelude.{◌==◌, ◌&&◌, if◌then◌else◌}
use Rattle.std.specs.BTreeMap.{is_at}
use Rattle.std.specs.Cmp.{unsigned_ties}
use Rattle.std.specs.Ordering.{is_eq, ordering_then, nat_cmp}
use Rattle.std.specs.declared.cmp.Ordering.{Ordering}
use Rattle.std.specs.declared.cmp.Ordering.TheVariants.{Less, Equal, Greater}
use Rattle.std.proofs.lemmas.Bool.{and_parts, eqb-true, eq-eqb}
use Rattle.compat_model.specs.declared.pair.Pair.{Pair}
use Rattle.compat_model.specs.declared.pair.Pair.TheVariants.{Structs, Unions, Enums, Interfaces}
use Rattle.compat_check.specs.declared.pair_set.Key.{Key}
use Rattle.compat_check.specs.steps.PairSets.{key_of, key_cmp, is_pair}

both_equal : (r s : Ordering) → is_eq (ordering_then r s) ≡ (is_eq r && is_eq s)
both_equal Less s = refl
both_equal Equal s = refl
both_equal Greater s = refl

tied : (n m : ℕ) → is_eq (nat_cmp n m) ≡ (n == m)
tied n m = sym (unsigned_ties n m)

rows_alike : (i j k l : ℕ) → is_eq (ordering_then (nat_cmp i k) (nat_cmp j l)) ≡ ((i == k) && (j == l))
rows_alike i j k l = both_equal (nat_cmp i k) (nat_cmp j l) ∙ (λ x. tied i k x && tied j l x)

keys_alike : (a b : Key) → is_at (key_cmp a) b ≡ ((a.sort == b.sort) && ((a.older == b.older) && (a.newer == b.newer)))
keys_alike a b =
    both_equal (nat_cmp a.sort b.sort) (ordering_then (nat_cmp a.older b.older) (nat_cmp a.newer b.newer))
    ∙ (λ x. tied a.sort b.sort x && rows_alike a.older a.newer b.older b.newer x)

abbrev key_by : ℕ → ℕ → ℕ → Key
key_by s i j = record { sort = s; older = i; newer = j }

one_key : (s t i k j l : ℕ) → s ≡ t → i ≡ k → j ≡ l → key_by s i j ≡ key_by t k l
one_key s t i k j l e f g =
    ap (λ (x : ℕ). key_by x i j) e ∙ (ap (λ (x : ℕ). key_by t x j) f ∙ ap (λ (x : ℕ). key_by t k x) g)

-- keys that are taken for one are one
key_same : (a b : Key) → is_at (key_cmp a) b ≡ true → a ≡ b
key_same a b h =
    let first = and_parts (a.sort == b.sort) ((a.older == b.older) && (a.newer == b.newer)) (sym (keys_alike a b) ∙ h) in
    let rest = and_parts (a.older == b.older) (a.newer == b.newer) first.1 in
    one_key a.sort b.sort a.older b.older a.newer b.newer (eqb-true a.sort b.sort first.0) (eqb-true a.older b.older rest.0)
    (eqb-true a.newer b.newer rest.1)

-- the pair of a key
abbrev pair_by : Key → Pair
pair_by k =
    if k.sort == 0
    then Structs k.older k.newer
    else (if k.sort == 1 then Unions k.older k.newer else (if k.sort == 2 then Enums k.older k.newer else Interfaces k.older k.newer))

back : (p : Pair) → pair_by (key_of p) ≡ p
back (Structs i j) = refl
back (Unions i j) = refl
back (Enums i j) = refl
back (Interfaces i j) = refl

-- pairs that are taken for one are one
pub pair_same : (p q : Pair) → is_pair p q ≡ true → p ≡ q
pair_same p q h = sym (back p) ∙ (ap pair_by (key_same (key_of p) (key_of q) h) ∙ back q)

itself : (k : Key) → is_at (key_cmp k) k ≡ true
itself k = keys_alike k k ∙ rw (eq-eqb k.sort k.sort refl, eq-eqb k.older k.older refl, eq-eqb k.newer k.newer refl) refl

pub pair_itself : (p : Pair) → is_pair p p ≡ true
pair_itself p = itself (key_of p)
