-- Words that are borrowed, and tests of each of them.
use Rattle.std.proofs.Common.{◌≡◌, ◌<◌, ◌≤◌, ◌+◌, ℕ, List, [], ◌∷◌, ◌++◌, length, take, drop, get_or, refl, sym, ap, ◌∙◌, arith, Bool, true, false}
use Rattle.std.specs.Prelude.{map}
use Rattle.std.specs.List.{list_all}
use Rattle.std.proofs.lemmas.Grind.{common_steps}
use Rattle.std.proofs.lemmas.List.{map-append, take_more}
use Rattle.std.proofs.lemmas.List.Folds.{list_all-map, list_all_at}
use denote.Ref.{Bor}

-- the parts of a text, read as a slice
pub parts_are : (now items : List (Bor (List ℕ))) (ps : List (List ℕ)) → now ≡ items → map (λ (part : Bor (List ℕ)). part.now) items ≡ ps
    → map (λ (part : Bor (List ℕ)). part.now) now ≡ ps
parts_are now items ps v h = ap (map (λ (part : Bor (List ℕ)). part.now)) v ∙ h

-- a test of each of these bytes
pub all_false : (p : List ℕ → Bool) (xs : List (Bor (List ℕ))) (k : ℕ) (d : Bor (List ℕ)) → k < length xs → p (get_or xs k d).now ≡ false
    → false ≡ list_all p (map (λ (part : Bor (List ℕ)). part.now) xs)
all_false p xs k d h e = sym (list_all-map p (λ (part : Bor (List ℕ)). part.now) xs ∙ list_all_at (λ (part : Bor (List ℕ)). p part.now) xs k d h e)

pub all_true : (p : List ℕ → Bool) (xs : List (Bor (List ℕ))) (k : ℕ) → length xs ≤ k → list_all (λ (part : Bor (List ℕ)). p part.now) (take k xs) ≡ true
    → true ≡ list_all p (map (λ (part : Bor (List ℕ)). part.now) xs)
all_true p xs k h e =
    let t : take k xs ≡ xs = grind (arith, common_steps) in
    sym (list_all-map p (λ (part : Bor (List ℕ)). part.now) xs ∙ rw t at e)

pub all_at : (p : List ℕ → Bool) (xs : List (Bor (List ℕ))) (k : ℕ) (d : Bor (List ℕ)) → list_all p (map (λ (part : Bor (List ℕ)). part.now) xs) ≡ true
    → k < length xs → p (get_or xs k d).now ≡ true
all_at p xs k d all h = go (p (get_or xs k d).now) refl
  where
    go : (b : Bool) → p (get_or xs k d).now ≡ b → b ≡ true
    go true e = refl
    go false e = let none : false ≡ list_all p (map (λ (part : Bor (List ℕ)). part.now) xs) = all_false p xs k d h e in absurd cc

-- one word more
pub words_more : (xs : List (Bor (List ℕ))) (k : ℕ) (d : Bor (List ℕ)) → k < length xs
    → map (λ (part : Bor (List ℕ)). part.now) (take (k + 1) xs) ≡ map (λ (part : Bor (List ℕ)). part.now) (take k xs) ++ (get_or xs k d).now ∷ []
words_more xs k d h = rw (take_more xs k d h) (map-append (λ (part : Bor (List ℕ)). part.now) (take k xs) (get_or xs k d ∷ []))

-- the words around one of them
pub words_around : (xs : List (Bor (List ℕ))) (k : ℕ) (d : Bor (List ℕ)) → k < length xs
    → map (λ (part : Bor (List ℕ)). part.now) xs
    ≡ (map (λ (part : Bor (List ℕ)). part.now) (take k xs) ++ (get_or xs k d).now ∷ []) ++ map (λ (part : Bor (List ℕ)). part.now) (drop (k + 1) xs)
words_around xs k d h =
    let cut : xs ≡ take (k + 1) xs ++ drop (k + 1) xs = grind (arith, common_steps) in
    ap (map (λ (part : Bor (List ℕ)). part.now)) cut
    ∙ (map-append (λ (part : Bor (List ℕ)). part.now) (take (k + 1) xs) (drop (k + 1) xs)
    ∙ ap (λ ws. ws ++ map (λ (part : Bor (List ℕ)). part.now) (drop (k + 1) xs)) (words_more xs k d h))
