-- Places that are marked.
use Rattle.std.specs.Prelude.{ℕ, Bool, true, false, List, [], ◌∷◌, set}

-- the marks once these indexes are marked too; one past the end marks nothing
abbrev pub marked : List ℕ → List Bool → List Bool
marked [] marks = marks
marked (i ∷ is) marks = marked is (set marks i true)

-- what stands at marked places
abbrev pub with_mark : {A : Type 0} → List Bool → List A → List A
with_mark [] xs = []
with_mark (m ∷ marks) [] = []
with_mark (true ∷ marks) (x ∷ xs) = x ∷ with_mark marks xs
with_mark (false ∷ marks) (x ∷ xs) = with_mark marks xs

-- what stands at the others
abbrev pub without_mark : {A : Type 0} → List Bool → List A → List A
without_mark [] xs = []
without_mark (m ∷ marks) [] = []
without_mark (true ∷ marks) (x ∷ xs) = without_mark marks xs
without_mark (false ∷ marks) (x ∷ xs) = x ∷ without_mark marks xs
