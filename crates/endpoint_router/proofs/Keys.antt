-- Maps by the names of endpoints and by ends: what is found in them, and what the change of one entry makes of all.
use Rattle.std.proofs.Common.{◌≡◌, ℕ, Bool, true, false, List, refl, sym, ap, ◌∙◌, Some, None}
use Rattle.std.specs.Prelude.{if◌then◌else◌, ◌==◌, ◌&&◌, Option, cond, is_some, unwrap_or}
use Rattle.std.specs.BTreeMap.{BTreeMap, get, is_at, Updates}
use Rattle.std.specs.Map.{lookup}
use Rattle.std.specs.Ordering.{nat_cmp, ordering_then}
use Rattle.std.specs.declared.cmp.Ordering.{Ordering}
use Rattle.mj_base.specs.declared.ids.EndId.{EndId}
use Rattle.handle_table.specs.Things.{same_end}
use Rattle.handle_table.proofs.ThingsLemmas.{same_end-true}
use Rattle.bind_model.specs.Names.{is_named}
use Rattle.bind_model.specs.declared.names.EndpointName.{EndpointName}
use Rattle.bind_model.proofs.NameOrder.{both_equal, found_by, name_cmp, name_of, named, tied, updated_by}
use Rattle.endpoint_router.specs.Table.{drawn_of, is_counted}
use Rattle.endpoint_router.specs.Slots.{key_in}

-- ## By names

abbrev same_name : EndpointName → EndpointName → Bool
same_name a b = is_named a.end a.id b

name_alike : (a b : EndpointName) → is_at (name_cmp a) b ≡ same_name a b
name_alike a b = named a.end a.id b

pub key_found : (m : BTreeMap EndpointName ℕ) (x : EndId) (id : ℕ) → key_in m.entries x id ≡ get name_cmp m (name_of x id)
key_found m x id = found_by name_cmp same_name name_alike m (name_of x id)

pub key_added : (old new : BTreeMap EndpointName ℕ) (x : EndId) (id key : ℕ) → Updates name_cmp old new (name_of x id) (Some key) → (y : EndId) (n : ℕ)
    → key_in new.entries y n ≡ cond (same_end x y && (id == n)) (Some key) (key_in old.entries y n)
key_added old new x id key u y n = updated_by name_cmp same_name name_alike old new (name_of x id) (Some key) u (name_of y n)

-- ## By ends

-- by sequence, then by number
abbrev pub end_cmp : EndId → EndId → Ordering
end_cmp a b = ordering_then (nat_cmp a.seq b.seq) (nat_cmp a.serial b.serial)

-- ends that compare alike are one
pub alike : (x y : EndId) → is_at (end_cmp x) y ≡ same_end x y
alike x y = both_equal (nat_cmp x.seq y.seq) (nat_cmp x.serial y.serial) ∙ (λ i. tied x.seq y.seq i && tied x.serial y.serial i)

module _ {X : Type 0} where
  pub end_found : (m : BTreeMap EndId X) (x : EndId) → lookup (same_end x) m.entries ≡ get end_cmp m x
  end_found m x = found_by end_cmp same_end alike m x

  pub end_updated : (old new : BTreeMap EndId X) (x : EndId) (w : Option X) → Updates end_cmp old new x w → (y : EndId)
      → lookup (same_end y) new.entries ≡ cond (same_end x y) w (lookup (same_end y) old.entries)
  end_updated old new x w u y = updated_by end_cmp same_end alike old new x w u y

-- ## How many ids ends drew

-- the number that is found
pub count_found : (m : BTreeMap EndId ℕ) (drawn : List (EndId × ℕ)) (x : EndId) → m.entries ≡ drawn → unwrap_or (get end_cmp m x) 0 ≡ drawn_of drawn x
count_found m drawn x e =
    ap (λ (o : Option ℕ). unwrap_or o 0) (sym (end_found m x)) ∙ ap (λ (ds : List (EndId × ℕ)). drawn_of ds x) e

-- there is a place where one is asked for
pub not_counted : (m : BTreeMap EndId ℕ) (drawn : List (EndId × ℕ)) (x : EndId) → m.entries ≡ drawn → None ≡ get end_cmp m x → is_counted drawn x ≡ true → ⊥
not_counted m drawn x e none there =
    let a : is_counted m.entries x ≡ false = ap (λ (o : Option ℕ). is_some o) (end_found m x ∙ sym none) in
    let b : is_counted drawn x ≡ false = rw (← e) a in cc

module _ (old new : BTreeMap EndId ℕ) (x : EndId) (count : ℕ) (update : Updates end_cmp old new x (Some count)) where
  -- so many of one end, and of others as many as before
  pub counts_set : (y : EndId) → drawn_of new.entries y ≡ (if same_end x y then count else drawn_of old.entries y)
  counts_set y = ap (λ (o : Option ℕ). unwrap_or o 0) (end_updated old new x (Some count) update y) ∙ go (same_end x y)
    where
      go : (b : Bool) → unwrap_or (cond b (Some count) (lookup (same_end y) old.entries)) 0 ≡ (if b then count else drawn_of old.entries y)
      go true = refl
      go false = refl

  -- a number that is new and 0 is as none
  pub fresh_count : count ≡ 0 → is_counted old.entries x ≡ false → (y : EndId) → drawn_of new.entries y ≡ drawn_of old.entries y
  fresh_count none absent y = counts_set y ∙ go (same_end x y) refl
    where
      empty : (o : Option ℕ) → is_some o ≡ false → 0 ≡ unwrap_or o 0
      empty None h = refl
      empty (Some n) h = absurd cc

      go : (b : Bool) → same_end x y ≡ b → (if b then count else drawn_of old.entries y) ≡ drawn_of old.entries y
      go true e =
          none ∙ empty (lookup (same_end y) old.entries) (ap (λ (z : EndId). is_counted old.entries z) (sym (same_end-true x y e)) ∙ absent)
      go false e = refl

  -- there is a place
  pub count_stands : is_counted new.entries x ≡ true
  count_stands = ap (λ (o : Option ℕ). is_some o) (end_found new x ∙ update.1)

  -- places stay
  pub counted_still : (y : EndId) → is_counted old.entries y ≡ true → is_counted new.entries y ≡ true
  counted_still y h = ap (λ (o : Option ℕ). is_some o) (end_updated old new x (Some count) update y) ∙ go (same_end x y) h
    where
      go : (b : Bool) → is_counted old.entries y ≡ true → is_some (cond b (Some count) (lookup (same_end y) old.entries)) ≡ true
      go true h = refl
      go false h = h
