-- How lists are read in a loop, and what is said of bytes by what was read.
use Rattle.std.specs.Prelude.{◌-◌, ℕ, List, [], ◌∷◌, length, Result, Ok, Err, ◌++◌}
use Rattle.byte_rules.specs.Lang.{Lang, Read, ◌>>=◌}
use Rattle.byte_rules.specs.Judged.{Spells, IsBad}
use Rattle.std.specs.List.{flat_map}

-- what is said of bytes where this is the answer
abbrev pub Judges : {A : Type 0} → Lang A → List ℕ → Result A ℕ → Type 0
Judges one bytes (Ok x) = Spells one x bytes
Judges one bytes (Err at) = IsBad one bytes at

-- the answer for so many bytes where this was read
abbrev pub verdict : {A : Type 0} → ℕ → Read A → Result A ℕ
verdict len (Ok (x, [])) = Ok x
verdict len (Ok (x, b ∷ bs)) = Err (len - length (b ∷ bs))
verdict len (Err left) = Err (len - left)

-- what was read before, with what is still read
abbrev pub gathered : {A F : Type 0} → (F → List A → F) → F → Read (List A) → Read F
gathered add front read = read >>= λ x. Ok (add front x.0, x.1)

-- what was read before, and what of each value is still read
abbrev pub with_front : {A B : Type 0} → (A → List B) → List B → Read (List A) → Read (List B)
with_front parts front read = read >>= λ x. Ok (front ++ flat_map parts x.0, x.1)

-- what was read before, and what is still read
abbrev pub behind : {B : Type 0} → List B → Read (List B) → Read (List B)
behind front read = read >>= λ x. Ok (front ++ x.0, x.1)
