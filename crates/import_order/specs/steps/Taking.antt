-- What the code keeps of files and their imports while it takes them.
use Rattle.std.specs.Prelude.{ℕ, ◌≡◌, ◌<◌, ◌+◌, ◌==◌, Bool, false, not, if◌then◌else◌, List, [], ◌∷◌, length, get_or, count_by}
use Rattle.std.specs.List.{All}
use Rattle.std.specs.Str.{IsUtf8}
use Rattle.import_order.specs.Imports.{has, AreDistinct}

-- each of these is a number below the limit
abbrev pub AreBelow : ℕ → List ℕ → Type 0
AreBelow limit numbers = All (λ (number : ℕ). number < limit) numbers

-- all imports are of files that there are
abbrev pub AreImports : List (List ℕ) → Type 0
AreImports imports = (file : ℕ) → AreBelow (length imports) (get_or imports file [])

-- numbers below a limit
pub record NumberList : Type 0 where
  pub limit : ℕ
  pub numbers : List ℕ

-- the marks say which numbers below the limit stand in the list, where none stands twice
pub record AreMarked (marks : List Bool) (numbers : List ℕ) : Type 0 where
  pub marked : (k : ℕ) → k < length marks → get_or marks k false ≡ has numbers k
  pub counted : count_by (λ (mark : Bool). mark) marks ≡ length numbers
  pub below : AreBelow (length marks) numbers
  pub distinct : AreDistinct numbers

-- how many of the numbers pass the test
abbrev pub how_many : (ℕ → Bool) → List ℕ → ℕ
how_many test [] = 0
how_many test (number ∷ numbers) = (if test number then 1 else 0) + how_many test numbers

-- how often the number stands in the list
abbrev pub times : ℕ → List ℕ → ℕ
times one numbers = how_many (λ (other : ℕ). other == one) numbers

-- how many imports of a file aren't taken
abbrev pub imports_left : List (List ℕ) → List ℕ → ℕ → ℕ
imports_left imports taken file = how_many (λ (other : ℕ). not (has taken other)) (get_or imports file [])

-- for each file the files that import it, each as often as it does
abbrev pub AreImporters : List (List ℕ) → List (List ℕ) → Type 0
AreImporters imports importers = (one other : ℕ) → times one (get_or importers other []) ≡ times other (get_or imports one [])

-- names that are texts
abbrev pub AreTexts : List (List ℕ) → Type 0
AreTexts names = All IsUtf8 names
