-- Fronts of a text, by the places where they end.
use Rattle.std.specs.Prelude.{ℕ, ◌≡◌, ◌<◌, ◌≤◌, List, length, map, take, get_or}
use Rattle.std.specs.List.{All}
use Rattle.std.specs.Str.{IsCharBoundary}
use Rattle.module_resolver.specs.NameDots.{dots_in}

-- the fronts of a text that end at these places
abbrev pub cut_at : List ℕ → List ℕ → List (List ℕ)
cut_at text ends = map (λ (end : ℕ). take end text) ends

-- the text can be cut at these places
abbrev pub AreCuts : List ℕ → List ℕ → Type 0
AreCuts text ends = All (IsCharBoundary text) ends

-- none of these is less than one behind it
abbrev pub Falls : List ℕ → Type 0
Falls counts = (i j : ℕ) → i ≤ j → j < length counts → get_or counts j 0 ≤ get_or counts i 0

-- fronts of a text, the longest first, and how many dots each has
pub record AreFronts (text ends dots : List ℕ) : Type 0 where
  pub cuts : AreCuts text ends
  pub dotted : map dots_in (cut_at text ends) ≡ dots
  pub many : length ends ≡ length dots
  pub falls : Falls dots
