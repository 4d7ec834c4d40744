-- A step along a list of names.
use Rattle.std.proofs.Common.{◌≡◌, ℕ, List, [], ◌∷◌, ◌++◌, map, sym, arith}
use Rattle.std.specs.List.{fold}
use Rattle.std.proofs.lemmas.List.Sums.{fold-append}
use Rattle.std.specs.Prelude.{Bool, Option, if◌then◌else◌}
use Rattle.std.proofs.lemmas.Grind.{common_steps}
use Rattle.mojom_ast.specs.declared.names.Identifier.{Identifier}
use Rattle.mojom_files.specs.declared.refusal.Refusal.{Refusal}
use Rattle.mojom_files.specs.Refusals.{best_of}
use Rattle.name_refusals.specs.Known.{with_name}
use Rattle.name_refusals.specs.NameRefusals.{duplicate, repeated}

-- the first refusal of two lists, one behind the other
both : (file : ℕ) (best : Option Refusal) (xs ys : List Identifier)
    → best_of (best_of best (map (duplicate file) xs)) (map (duplicate file) ys) ≡ best_of best (map (duplicate file) (xs ++ ys))
both file best xs ys = grind (arith, common_steps)

-- a name is tested and added
pub one_more : {A : Type 0} (name : A → List ℕ) (at : A → Identifier) (file : ℕ) (best next : Option Refusal) (known more : List ℕ → Bool)
    → (x : A) (xs : List A) (full : List ℕ) (here : Identifier) → full ≡ name x → here ≡ at x
    → next ≡ best_of best (map (duplicate file) (if known full then here ∷ [] else [])) → more ≡ with_name known full
    → best_of next (map (duplicate file) (repeated name at more xs)) ≡ best_of best (map (duplicate file) (repeated name at known (x ∷ xs)))
one_more name at file best next known more x xs full here f h e m =
    rw (e, m, f, h) (both file best (if known (name x) then at x ∷ [] else []) (repeated name at (with_name known (name x)) xs))

-- more names are added, one by one
pub added_more : (known more start : List ℕ → Bool) (names : List (List ℕ)) (full one : List ℕ) → known ≡ fold with_name start names
    → more ≡ with_name known full → full ≡ one → more ≡ fold with_name start (names ++ one ∷ [])
added_more known more start names full one k m f = rw (m, k, f) (sym (fold-append with_name start names (one ∷ [])))
