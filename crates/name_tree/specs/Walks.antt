-- Walks in a tree of names: from node to node, by the parts of a text between its dots. `step` gives the node right below a node by its part.
use Rattle.std.specs.Prelude.{ℕ, ◌≡◌, ◌==◌, ◌<◌, ◌≤◌, ◌⊎◌, List, [], ◌∷◌, ◌++◌, if◌then◌else◌, Option, Some, option_and_then}

-- the node to which a text leads from a node, where this much of its first part is read
abbrev pub walk : (ℕ → List ℕ → Option ℕ) → ℕ → List ℕ → List ℕ → Option ℕ
walk step node part [] = step node part
walk step node part (byte ∷ text) =
    if byte == 46 then option_and_then (λ (below : ℕ). walk step below [] text) (step node part) else walk step node (part ++ byte ∷ []) text

-- each node stands below one of a lesser number, in one place
pub record IsTree (step : ℕ → List ℕ → Option ℕ) (count : ℕ) : Type 0 where
  pub later : (node : ℕ) (part : List ℕ) (below : ℕ) → step node part ≡ Some below → (node < below) × (below < count)
  pub apart : (node other : ℕ) (part another : List ℕ) (below : ℕ)
      → step node part ≡ Some below → step other another ≡ Some below → (node ≡ other) × (part ≡ another)

-- all nodes stay where they were, and what is added has numbers from `count` on
pub record Grows (old : ℕ → List ℕ → Option ℕ) (count : ℕ) (new : ℕ → List ℕ → Option ℕ) (more : ℕ) : Type 0 where
  pub longer : count ≤ more
  pub kept : (node : ℕ) (part : List ℕ) (below : ℕ) → old node part ≡ Some below → new node part ≡ Some below
  pub fresh : (node : ℕ) (part : List ℕ) (below : ℕ) → new node part ≡ Some below → (old node part ≡ Some below) ⊎ (count ≤ below)
