-- The ordinals of members that stand in a list.
use Rattle.std.specs.Prelude.{ℕ, ◌+◌, List, [], ◌∷◌, Option, Some, None}
use Rattle.mojom_ast.specs.declared.names.Number.{Number}

-- a member and its ordinal
pub record NumberedAs (A : Type 0) : Type 0 where
  pub member : A
  pub ordinal : ℕ

-- the ordinal of a member: the number that is written, as it is kept, or else the next
abbrev pub ordinal_by : (ℕ → ℕ) → ℕ → Option Number → ℕ
ordinal_by kept next None = next
ordinal_by kept next (Some written) = kept written.value

-- members with their ordinals, of which those that are written are told: the first has this one if none is written, and each other has
-- the one after that of the member before
abbrev pub numbered_by : {A : Type 0} → (ℕ → ℕ) → (A → Option Number) → ℕ → List A → List (NumberedAs A)
numbered_by kept written next [] = []
numbered_by kept written next (m ∷ ms) =
    record { member = m; ordinal = ordinal_by kept next (written m) }
    ∷ numbered_by kept written (kept (ordinal_by kept next (written m) + 1)) ms
