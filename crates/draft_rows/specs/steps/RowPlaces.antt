-- Where the rows of a file stand.
use Rattle.std.specs.Prelude.{ℕ, ◌+◌, ◌==◌, if◌then◌else◌, List, [], ◌∷◌, Option, Some, None}
use Rattle.std.specs.Option.{option_map}
use Rattle.draft_rows.specs.declared.counts.FileRows.{FileRows}

-- the place of the first rows of the file of this number
abbrev pub place_of : ℕ → List FileRows → Option ℕ
place_of file [] = None
place_of file (r ∷ rs) = if r.file == file then Some 0 else option_map (λ (n : ℕ). n + 1) (place_of file rs)
