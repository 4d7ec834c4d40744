-- A moment that may stand behind a word, and how it does.
use Rattle.std.proofs.Common.{◌≡◌, ℕ, ℤ, ◌++◌, ◌∷◌, List, Option, Some, None, Bool, true, false, refl}
use Rattle.std.specs.Fmt.{signed_decimal}
use Rattle.line_parts.specs.Signs.{blank}

-- whether there is a moment
abbrev pub has_moment : Option ℤ → Bool
has_moment None = false
has_moment (Some moment) = true

-- these bytes, behind a blank and the moment where there is one
abbrev pub behind_at : Option ℤ → List ℕ → List ℕ
behind_at None rest = rest
behind_at (Some moment) rest = blank ∷ (signed_decimal moment ++ rest)

pub none_of : (at : Option ℤ) → has_moment at ≡ false → at ≡ None
none_of None e = refl
none_of (Some moment) e = absurd (cc)

pub some_of : (at : Option ℤ) → has_moment at ≡ true → (moment : ℤ) × (at ≡ Some moment)
some_of None e = absurd (cc)
some_of (Some moment) e = (moment, refl)
