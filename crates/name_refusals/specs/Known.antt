-- Sets of names, by the test whether a name is one of them.
use Rattle.std.specs.Prelude.{ℕ, Bool, false, ◌||◌, List}
use Rattle.std.specs.Str.{bytes_eq}

-- none
abbrev pub no_names : List ℕ → Bool
no_names name = false

-- these and one more
abbrev pub with_name : (List ℕ → Bool) → List ℕ → List ℕ → Bool
with_name known one name = known name || bytes_eq name one
