-- The first rows of a file stand at its place.
use Rattle.std.proofs.Common.{◌≡◌, ℕ, zero, suc, ◌+◌, ◌<◌, List, [], ◌∷◌, length, take, get_or, refl, ◌∙◌, ap, arith}
use Rattle.std.specs.Prelude.{Bool, true, false, Option, Some, None, if◌then◌else◌, ◌==◌, find, slice_get, option_and_then}
use Rattle.std.specs.Option.{option_map, option_or}
use Rattle.draft_rows.specs.declared.counts.FileRows.{FileRows}
use Rattle.draft_rows.specs.steps.RowPlaces.{place_of}

moved : {A : Type 0} (f : A → A) (o e : Option A) → option_map f (option_or o e) ≡ option_or (option_map f o) (option_map f e)
moved f None e = refl
moved f (Some x) e = refl

abbrev at_head : (b : Bool) → Option ℕ → Option ℕ
at_head b later = if b then Some 0 else option_map (λ (n : ℕ). n + 1) later

next : (n : ℕ) (b : Bool) → option_map (λ (n : ℕ). n + 1) (if b then Some n else None) ≡ (if b then Some (suc n) else None)
next n true = let e : n + 1 ≡ suc n = omega arith in rw e refl
next n false = refl

head_more : (b : Bool) (o e f : Option ℕ) → option_map (λ (n : ℕ). n + 1) e ≡ f → at_head b (option_or o e) ≡ option_or (at_head b o) f
head_more true o e f h = refl
head_more false o e f h = moved (λ (n : ℕ). n + 1) o e ∙ ap (λ (x : Option ℕ). option_or (option_map (λ (n : ℕ). n + 1) o) x) h

-- the place of a file among one more: as before, or else the last where that is of the file
pub place_more : (q : ℕ) (xs : List FileRows) (n : ℕ) (d : FileRows)
    → n < length xs
    → place_of q (take (n + 1) xs) ≡ option_or (place_of q (take n xs)) (if (get_or xs n d).file == q then Some n else None)
place_more q [] n d lt = absurd (let bad : ⊥ = omega (arith, lt) in bad)
place_more q (x ∷ xs) zero d lt = refl
place_more q (x ∷ xs) (suc n) d lt =
    let e : suc n + 1 ≡ suc (n + 1) = omega arith in
    let later = place_more q xs n d (omega (arith, lt)) in
    rw (e, later)
    (head_more (x.file == q) (place_of q (take n xs)) (if (get_or xs n d).file == q then Some n else None)
    (if (get_or xs n d).file == q then Some (suc n) else None) (next n ((get_or xs n d).file == q)))

step : (b : Bool) (x : FileRows) (xs : List FileRows) (place : Option ℕ) (found : Option FileRows)
    → option_and_then (slice_get xs) place ≡ found
    → option_and_then (slice_get (x ∷ xs)) (at_head b place) ≡ (if b then Some x else found)
step true x xs place found e = refl
step false x xs None found e = e
step false x xs (Some n) found e = let more : n + 1 ≡ suc n = omega arith in rw more e

-- what stands at the place of a file is the first of the file
pub at_place : (q : ℕ) (xs : List FileRows) → option_and_then (slice_get xs) (place_of q xs) ≡ find (λ (r : FileRows). r.file == q) xs
at_place q [] = refl
at_place q (x ∷ xs) = step (x.file == q) x xs (place_of q xs) (find (λ (r : FileRows). r.file == q) xs) (at_place q xs)
