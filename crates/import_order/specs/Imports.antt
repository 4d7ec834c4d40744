-- Files and those that they import, by their numbers: the order in which files can be taken, each behind its imports, and the circle
-- in which imports go where not all files can be. Here `imports` has for each file, by its number, the files that it imports.
use Rattle.std.specs.Prelude.{ℕ, ◌≡◌, ◌<◌, ◌+◌, ◌==◌, Bool, not, ◌&&◌, List, [], ◌∷◌, ◌++◌, length, take, get_or, find, Option, Some, None, is_none}
use Rattle.std.specs.List.{list_any, range_with_len}

-- the number is one of these
abbrev pub has : List ℕ → ℕ → Bool
has numbers one = list_any (λ (other : ℕ). other == one) numbers

-- no number stands twice
abbrev pub AreDistinct : List ℕ → Type 0
AreDistinct numbers = (i j : ℕ) → i < j → j < length numbers → get_or numbers i 0 ≡ get_or numbers j 0 → ⊥

-- the numbers of all files
abbrev pub all_files : List (List ℕ) → List ℕ
all_files imports = range_with_len 0 (length imports)

-- the first of these files that isn't taken
abbrev pub first_left : List ℕ → List ℕ → Option ℕ
first_left taken files = find (λ (file : ℕ). not (has taken file)) files

-- the first import of a file that isn't taken
abbrev pub import_left : List (List ℕ) → List ℕ → ℕ → Option ℕ
import_left imports taken file = first_left taken (get_or imports file [])

-- a file that isn't taken, and all of whose imports are
abbrev pub is_free : List (List ℕ) → List ℕ → ℕ → Bool
is_free imports taken file = not (has taken file) && is_none (import_left imports taken file)

-- the first file that isn't taken, and all of whose imports are
abbrev pub next_file : List (List ℕ) → List ℕ → Option ℕ
next_file imports taken = find (is_free imports taken) (all_files imports)

-- each of these files is the next one behind those before it
abbrev pub IsTakenInOrder : List (List ℕ) → List ℕ → Type 0
IsTakenInOrder imports taken = (k : ℕ) → k < length taken → next_file imports (take k taken) ≡ Some (get_or taken k 0)

-- again and again the next file is taken, until there is none
pub record IsTakenWhole (imports : List (List ℕ)) (taken : List ℕ) : Type 0 where
  pub in_order : IsTakenInOrder imports taken
  pub none_next : next_file imports taken ≡ None

-- the resolved order: again and again the next file is taken, until no file is left
pub record IsOrder (imports : List (List ℕ)) (order : List ℕ) : Type 0 where
  pub in_order : IsTakenInOrder imports order
  pub none_left : first_left order (all_files imports) ≡ None

-- a walk from the first file that is left, from each file to its first import that is left
pub record IsWalk (imports : List (List ℕ)) (taken path : List ℕ) : Type 0 where
  pub begins : first_left taken (all_files imports) ≡ Some (get_or path 0 0)
  pub goes_on : (k : ℕ) → k + 1 < length path → import_left imports taken (get_or path k 0) ≡ Some (get_or path (k + 1) 0)

-- the walk meets no file twice, until it comes back to this place of its own, where the circle begins
pub record IsCircle (imports : List (List ℕ)) (taken path : List ℕ) (first : ℕ) : Type 0 where
  pub on_path : first < length path
  pub distinct : AreDistinct path
  pub walk : IsWalk imports taken (path ++ get_or path first 0 ∷ [])
