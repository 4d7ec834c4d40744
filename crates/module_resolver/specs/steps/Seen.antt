-- The names of the files that a file imports, as the code keeps them.
use Rattle.std.specs.Prelude.{ℕ, ◌≡◌, Bool, List}
use Rattle.std.specs.List.{list_any}
use Rattle.std.specs.Str.{bytes_eq}
use Rattle.indexmap.specs.IndexSet.{IndexSet}
use Rattle.mojom_ast.specs.declared.file.Import.{Import}
use denote.Bor.{Bor}

-- the name is one of these, which are lent
abbrev pub is_kept : List (Bor (List ℕ)) → List ℕ → Bool
is_kept known name = list_any (λ (one : Bor (List ℕ)). bytes_eq name one.now) known

-- these are the names that the imports have
abbrev pub ArePaths : {S : Type 0} → List Import → IndexSet (Bor (List ℕ)) S → Type 0
ArePaths imports paths = (name : List ℕ) → is_kept paths.keys name ≡ list_any (λ (i : Import). bytes_eq i.path.bytes name) imports
