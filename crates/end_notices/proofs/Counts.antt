-- Numbers by ids: what stands under one, and what the change of one makes of all.
use Rattle.std.proofs.Common.{◌≡◌, ◌<◌, ℕ, Bool, true, false, List, refl, sym, ap, ◌∙◌, Some, None, arith}
use Rattle.std.specs.Prelude.{if◌then◌else◌, ◌==◌, Option, unwrap_or, cond, is_some}
use Rattle.std.specs.BTreeMap.{BTreeMap, get, Updates}
use Rattle.std.specs.Map.{lookup}
use Rattle.std.specs.Ordering.{nat_cmp}
use Rattle.bind_model.proofs.NameOrder.{found_by, tied, updated_by}
use Rattle.end_notices.specs.Kept.{has_place, waiting}

-- whether two numbers are one
abbrev pub same : ℕ → ℕ → Bool
same a b = a == b

pub found : (m : BTreeMap ℕ ℕ) (k : ℕ) → lookup (same k) m.entries ≡ get nat_cmp m k
found m k = found_by nat_cmp same tied m k

-- there is a place where one is asked for
pub no_place : (m : BTreeMap ℕ ℕ) (entries : List (ℕ × ℕ)) (k : ℕ) → m.entries ≡ entries → None ≡ get nat_cmp m k
    → has_place entries k ≡ true → ⊥
no_place m entries k e none there =
    let a : is_some (lookup (same k) m.entries) ≡ false = ap (λ (o : Option ℕ). is_some o) (found m k ∙ sym none) in
    let b : is_some (lookup (same k) entries) ≡ false = rw (← e) a in cc

-- and where some wait
pub none_waits : (m : BTreeMap ℕ ℕ) (entries : List (ℕ × ℕ)) (k : ℕ) → m.entries ≡ entries → None ≡ get nat_cmp m k
    → 0 < waiting entries k → ⊥
none_waits m entries k e none some =
    let a : waiting m.entries k ≡ 0 = ap (λ (o : Option ℕ). unwrap_or o 0) (found m k ∙ sym none) in
    let b : waiting entries k ≡ 0 = rw (← e) a in omega (arith, b, some)

-- as many wait at the endpoint of an id now
pub counted : (old new : BTreeMap ℕ ℕ) (id now : ℕ) → Updates nat_cmp old new id (Some now) → (n : ℕ)
    → waiting new.entries n ≡ (if id == n then now else waiting old.entries n)
counted old new id now u n =
    ap (λ (o : Option ℕ). unwrap_or o 0) (updated_by nat_cmp same tied old new id (Some now) u n) ∙ go (id == n)
  where
    go : (b : Bool) → unwrap_or (cond b (Some now) (lookup (same n) old.entries)) 0 ≡ (if b then now else waiting old.entries n)
    go true = refl
    go false = refl
