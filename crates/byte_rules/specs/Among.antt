-- Words of a list: what the bytes begin with is judged against all of them.
use Rattle.std.specs.Prelude.{◌≡◌, ℕ, suc, ◌-◌, ◌==◌, ◌⊎◌, nat_lt, if◌then◌else◌, List, [], ◌∷◌, Option, Some, None, length, drop, Ok, Err}
use Rattle.byte_rules.specs.Lang.{Lang, Read, Words, words, never}

-- how many bytes two lists have in common at the front
abbrev pub common : List ℕ → List ℕ → ℕ
common [] bs = 0
common (w ∷ ws) [] = 0
common (w ∷ ws) (b ∷ bs) = if w == b then suc (common ws bs) else 0

-- how far some word goes with the bytes, and the value of the word that ends there
abbrev pub Near : Type 0 → Type 0
Near A = ℕ × Option A

-- one word more, which has so much in common with the bytes
abbrev pub nearer_at : {A : Type 0} → List ℕ → A → ℕ → Near A → Near A
nearer_at text x n near =
    if nat_lt n near.0 then near else (if length text == n then (n, Some x) else (if n == near.0 then near else (n, None)))

-- one word more
abbrev pub nearer : {A : Type 0} → List ℕ → List ℕ → A → Near A → Near A
nearer text bs x near = nearer_at text x (common text bs) near

-- all words, one after the other
abbrev pub nearest : {A : Type 0} → (A → List ℕ) → List ℕ → Near A → List A → Near A
nearest spelled bs near [] = near
nearest spelled bs near (x ∷ xs) = nearest spelled bs (nearer (spelled x) bs x near) xs

-- what is read by the word that goes farthest; where none ends there, no byte goes on
abbrev pub found : {A : Type 0} → List ℕ → Near A → Read A
found bs (n, Some x) = Ok (x, drop n bs)
found bs (n, None) = Err (length bs - n)

-- one of a list
abbrev pub IsAmong : {A : Type 0} → A → List A → Type 0
IsAmong x [] = ⊥
IsAmong x (y ∷ ys) = (x ≡ y) ⊎ IsAmong x ys

-- the words of these values, scanned one after the other
abbrev pub among_words : {A : Type 0} → (A → List ℕ) → List A → Words A
among_words {A} spelled xs = record {
  In = λ x. IsAmong x xs;
  spelled = spelled;
  scan = λ bs. found bs (nearest spelled bs (0, None) xs);
}

-- one of the words of these values; where there is none, no byte goes on
abbrev pub among : {A : Type 0} → A → (A → List ℕ) → List A → Lang A
among other spelled [] = never other
among other spelled (x ∷ xs) = words (among_words spelled (x ∷ xs))
