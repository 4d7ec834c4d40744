-- Names by their numbers in a list.
use Rattle.std.specs.Prelude.{ℕ, ◌+◌, List, [], ◌∷◌, if◌then◌else◌, Option, Some, None}
use Rattle.std.specs.Option.{option_map}
use Rattle.std.specs.Str.{bytes_eq}

-- the number of the first of these that is this name
abbrev pub number_of : List ℕ → List (List ℕ) → Option ℕ
number_of name [] = None
number_of name (other ∷ others) = if bytes_eq name other then Some 0 else option_map (λ (n : ℕ). n + 1) (number_of name others)
