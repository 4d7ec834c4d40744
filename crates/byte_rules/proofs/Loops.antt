-- Reading a list of a rule in a loop, with what was read before in front.
use Rattle.std.proofs.Common.{◌≡◌, ℕ, ◌-◌, ◌+◌, ◌≤◌, ◌<◌, List, [], ◌∷◌, ◌++◌, Ok, Err, true, false, ◌==◌, sym, ap, ◌∙◌, subst, append_assoc}
use Rattle.std.specs.List.{flat_map}
use Rattle.std.proofs.lemmas.List.{append-nil}
use Rattle.byte_rules.specs.declared.stop.Stop.{Stop}
use Rattle.byte_rules.specs.declared.stop.Stop.TheVariants as stops
use Rattle.byte_rules.specs.Lang.{Lang, Read, front_is, byte, ◌▸◌, until, rest_of}
use Rattle.byte_rules.specs.Reading.{Fails}
use Rattle.byte_rules.specs.steps.Reading.{with_front, behind}
use Rattle.byte_rules.proofs.Gathers as gathers

module _ {A B : Type 0} (parts : A → List B) (c : ℕ) (one : Lang A) where
  abbrev add : List B → List A → List B
  add front xs = front ++ flat_map parts xs

  nothing : (front : List B) → add front [] ≡ front
  nothing front = append-nil front

  just : (front : List B) (x : A) → add front (x ∷ []) ≡ front ++ parts x
  just front x = ap (λ (l : List B). front ++ l) (append-nil (parts x))

  one_more : (front : List B) (x : A) (xs : List A) → add front (x ∷ xs) ≡ add (add front (x ∷ [])) xs
  one_more front x xs = sym (append_assoc front (parts x) (flat_map parts xs)) ∙ ap (λ (l : List B). l ++ flat_map parts xs) (sym (just front x))

  -- one more
  pub goes_on : (front : List B) (count i : ℕ) (ts : List ℕ) (x : A) (next : List ℕ) (total : Read (List B)) → i < count
      → front_is (λ b. b == c) ts ≡ false → one.read ts ≡ Ok (x, next) → with_front parts front ((until c (count - i) one).read ts) ≡ total
      → with_front parts (front ++ parts x) ((until c (count - (i + 1)) one).read next) ≡ total
  goes_on front count i ts x next total lt e r so_far =
      subst (λ (l : List B). with_front parts l ((until c (count - (i + 1)) one).read next) ≡ total) (just front x)
      (gathers.goes_on add nothing one_more c one front count i ts x next total lt e r so_far)

  -- none more, where there is neither one nor the end
  pub ends : (e : Stop) (front : List B) (count i : ℕ) (ts : List ℕ) (total : Read (List B)) → i < count → front_is (λ b. b == c) ts ≡ false
      → Fails e (one.read ts) → with_front parts front ((until c (count - i) one).read ts) ≡ total → Fails e total
  ends e front count i ts total lt f r so_far = gathers.ends add nothing one_more c one e front count i ts total lt f r so_far

  -- the end
  pub halts_ok : (front : List B) (count i : ℕ) (ts rest : List ℕ) (b : ℕ) (total : Read (List B)) → front_is (λ b. b == c) ts ≡ true
      → (byte c).read ts ≡ Ok (b, rest) → with_front parts front ((until c (count - i) one).read ts) ≡ total → total ≡ Ok (front, rest)
  halts_ok front count i ts rest b total e r so_far = gathers.halts_ok add nothing one_more c one front count i ts rest b total e r so_far

  -- as many as there are bytes
  pub done_ok : (front : List B) (count i : ℕ) (ts rest : List ℕ) (b : ℕ) (total : Read (List B)) → count ≤ i → (byte c).read ts ≡ Ok (b, rest)
      → with_front parts front ((until c (count - i) one).read ts) ≡ total → total ≡ Ok (front, rest)
  done_ok front count i ts rest b total le r so_far = gathers.done_ok add nothing one_more c one front count i ts rest b total le r so_far

  pub done_err : (e : Stop) (front : List B) (count i : ℕ) (ts : List ℕ) (total : Read (List B)) → count ≤ i → Fails e ((byte c).read ts)
      → with_front parts front ((until c (count - i) one).read ts) ≡ total → Fails e total
  done_err e front count i ts total le r so_far = gathers.done_err add nothing one_more c one e front count i ts total le r so_far

  -- the same with exactly so many
  pub goes_exactly : (front : List B) (count i : ℕ) (ts : List ℕ) (x : A) (next : List ℕ) (total : Read (List B)) → i < count
      → (44 ▸ one).read ts ≡ Ok (x, next) → with_front parts front ((rest_of c (count - i) one).read ts) ≡ total
      → with_front parts (front ++ parts x) ((rest_of c (count - (i + 1)) one).read next) ≡ total
  goes_exactly front count i ts x next total lt r so_far =
      subst (λ (l : List B). with_front parts l ((rest_of c (count - (i + 1)) one).read next) ≡ total) (just front x)
      (gathers.goes_exactly add nothing one_more c one front count i ts x next total lt r so_far)

  pub ends_exactly : (e : Stop) (front : List B) (count i : ℕ) (ts : List ℕ) (total : Read (List B)) → i < count → Fails e ((44 ▸ one).read ts)
      → with_front parts front ((rest_of c (count - i) one).read ts) ≡ total → Fails e total
  ends_exactly e front count i ts total lt r so_far = gathers.ends_exactly add nothing one_more c one e front count i ts total lt r so_far

  pub exactly_ok : (front : List B) (count i : ℕ) (ts rest : List ℕ) (b : ℕ) (total : Read (List B)) → count ≤ i → (byte c).read ts ≡ Ok (b, rest)
      → with_front parts front ((rest_of c (count - i) one).read ts) ≡ total → total ≡ Ok (front, rest)
  exactly_ok front count i ts rest b total le r so_far = gathers.exactly_ok add nothing one_more c one front count i ts rest b total le r so_far

  pub exactly_err : (e : Stop) (front : List B) (count i : ℕ) (ts : List ℕ) (total : Read (List B)) → count ≤ i → Fails e ((byte c).read ts)
      → with_front parts front ((rest_of c (count - i) one).read ts) ≡ total → Fails e total
  exactly_err e front count i ts total le r so_far = gathers.exactly_err add nothing one_more c one e front count i ts total le r so_far

-- the same, where each value was put behind the front
abbrev value_of : {A : Type 0} → Read (List A) → List A
value_of (Ok x) = x.0
value_of (Err n) = []

abbrev rest_in : {A : Type 0} → Read (List A) → List ℕ
rest_in (Ok x) = x.1
rest_in (Err n) = []

behind_is : {B : Type 0} (front new : List B) (next : List ℕ) (r : Read (List B)) → behind front r ≡ Ok (new, next)
    → (x : List B) × (r ≡ Ok (x, next)) × (front ++ x ≡ new)
behind_is front new next (Ok x) e = (x.0, ap (λ (l : List ℕ). Ok (x.0, l)) (ap rest_in e), ap value_of e)
behind_is front new next (Err n) e = absurd (cc)

behind_fails : {B : Type 0} (e : Stop) (front : List B) (r : Read (List B)) → Fails e (behind front r) → Fails e r
behind_fails stops.Memory front r h = tt
behind_fails (stops.Left n) front (Ok x) h = absurd (cc)
behind_fails (stops.Left n) front (Err m) h = let k : m ≡ n = cc in ap (λ (k : ℕ). Err k) k

module _ {B : Type 0} (c : ℕ) (one : Lang (List B)) where
  pub goes_behind : (front new : List B) (count i : ℕ) (ts next : List ℕ) (total : Read (List B)) → i < count → front_is (λ b. b == c) ts ≡ false
      → behind front (one.read ts) ≡ Ok (new, next) → with_front (λ x. x) front ((until c (count - i) one).read ts) ≡ total
      → with_front (λ x. x) new ((until c (count - (i + 1)) one).read next) ≡ total
  goes_behind front new count i ts next total lt e r so_far =
      let k = behind_is front new next (one.read ts) r in
      subst (λ (l : List B). with_front (λ x. x) l ((until c (count - (i + 1)) one).read next) ≡ total) k.2
      (goes_on (λ x. x) c one front count i ts k.0 next total lt e k.1 so_far)

  pub ends_behind : (e : Stop) (front : List B) (count i : ℕ) (ts : List ℕ) (total : Read (List B)) → i < count → front_is (λ b. b == c) ts ≡ false
      → Fails e (behind front (one.read ts)) → with_front (λ x. x) front ((until c (count - i) one).read ts) ≡ total → Fails e total
  ends_behind e front count i ts total lt n r so_far =
      ends (λ x. x) c one e front count i ts total lt n (behind_fails e front (one.read ts) r) so_far
