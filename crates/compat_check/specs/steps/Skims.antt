-- Lists without what was seen before.
use Rattle.std.specs.Prelude.{◌≡◌, ◌⊎◌, List, [], ◌∷◌, Option, None}
use Rattle.compat_model.specs.steps.Among.{IsAmong}

module _ (A : Type 0) where
  -- the second list is the third without what is in the first or stands earlier in itself
  abbrev pub Skims : List A → List A → List A → Type 0
  Skims seen kept [] = kept ≡ []
  Skims seen kept (x ∷ xs) = (IsAmong seen x × Skims seen kept xs) ⊎ ((rest : List A) × (kept ≡ x ∷ rest) × Skims (x ∷ seen) rest xs)

  -- each element of one list is in another
  abbrev pub AllIn : List A → List A → Type 0
  AllIn xs ys = (x : A) → IsAmong xs x → IsAmong ys x

  -- what is kept, added to what was seen
  abbrev pub with_seen : List A → List A → List A
  with_seen [] seen = seen
  with_seen (x ∷ kept) seen = with_seen kept (x ∷ seen)

  -- nothing is found of any of these
  abbrev pub AreQuiet : {B : Type 0} → (A → Option B) → List A → Type 0
  AreQuiet look seen = (x : A) → IsAmong seen x → look x ≡ None

  -- what follows from each of some is in these
  abbrev pub FollowIn : (A → List A) → List A → List A → Type 0
  FollowIn next seen found = (x : A) → IsAmong seen x → AllIn (next x) found
