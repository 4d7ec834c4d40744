-- The structs of methods have the numbers that their interface's row and the order of definitions say.
use Rattle.std.proofs.Common.{◌≡◌, ℕ, ◌+◌, ◌≤◌, List, [], ◌∷◌, ◌++◌, refl, ◌∙◌, arith}
use Rattle.std.specs.Prelude.{◌&&◌, nat_lt, Bool, true, Option, Some, None}
use Rattle.std.specs.Option.{option_map, option_map_or}
use Rattle.std.specs.List.{list_all}
use Rattle.std.proofs.lemmas.Bool.{lt-ltb, and_from}
use Rattle.std.proofs.lemmas.List.Folds.{list_all-append}
use Rattle.std.proofs.lemmas.List.Sums.{sum_by-cons}
use Rattle.mojom_ast.specs.declared.definitions.Method.{Method}
use Rattle.mojom_ast.specs.declared.definitions.Parameter.{Parameter}
use Rattle.mj_schema.specs.WellFormed.{RowCounts, is_row, has_structs}
use Rattle.kind_scope.specs.Members.{held, ordinal_at}
use Rattle.draft_rows.specs.RowCounts.{structs_with, structs_of, structs_of_all}
use Rattle.draft_rows.specs.Rows.{method_row, method_rows}
use Rattle.draft_rows.specs.Drafts.{response_order, method_order, methods_order}

-- what passes of two lists passes of both together
pub both_pass : {A : Type 0} (test : A → Bool) (xs ys : List A)
    → list_all test xs ≡ true → list_all test ys ≡ true
    → list_all test (xs ++ ys) ≡ true
both_pass test xs ys one two = list_all-append test xs ys ∙ and_from (list_all test xs) (list_all test ys) one two

response_there : (first total : ℕ) (response : Option (List Parameter))
    → first + structs_with response ≤ total
    → (nat_lt first total && option_map_or (λ (number : ℕ). nat_lt number total) (option_map (λ (parameters : List Parameter). first + 1) response) true)
    ≡ true
response_there first total None below = and_from (nat_lt first total) true (lt-ltb first total (omega arith)) refl
response_there first total (Some parameters) below =
    and_from (nat_lt first total) (nat_lt (first + 1) total) (lt-ltb first total (omega arith)) (lt-ltb (first + 1) total (omega arith))

-- the structs of methods are there
pub methods_there : (next first total : ℕ) (methods : List Method)
    → first + structs_of_all methods ≤ total
    → list_all (has_structs total) (method_rows next first methods) ≡ true
methods_there next first total [] below = refl
methods_there next first total (m ∷ ms) below =
    let sum = sum_by-cons structs_of m ms in
    and_from (has_structs total (method_row (ordinal_at next m.ordinal) first m))
    (list_all (has_structs total) (method_rows (held (ordinal_at next m.ordinal + 1)) (first + structs_of m) ms))
    (response_there first total m.response (omega (arith, sum)))
    (methods_there (held (ordinal_at next m.ordinal + 1)) (first + structs_of m) total ms (omega (arith, sum)))

response_ordered : (total : RowCounts) (first : ℕ) (response : Option (List Parameter))
    → first + structs_with response ≤ total.structs
    → list_all (is_row total) (response_order first response) ≡ true
response_ordered total first None below = refl
response_ordered total first (Some parameters) below =
    and_from (nat_lt (first + 1) total.structs) true (lt-ltb (first + 1) total.structs (omega arith)) refl

first_there : (first total : ℕ) (response : Option (List Parameter)) → first + structs_with response ≤ total → nat_lt first total ≡ true
first_there first total None below = lt-ltb first total (omega arith)
first_there first total (Some parameters) below = lt-ltb first total (omega arith)

method_ordered : (total : RowCounts) (first : ℕ) (m : Method)
    → first + structs_of m ≤ total.structs
    → list_all (is_row total) (method_order first m) ≡ true
method_ordered total first m below =
    and_from (nat_lt first total.structs) (list_all (is_row total) (response_order first m.response))
    (first_there first total.structs m.response below) (response_ordered total first m.response below)

-- the structs of methods that the order of definitions has are there
pub methods_ordered : (total : RowCounts) (first : ℕ) (methods : List Method)
    → first + structs_of_all methods ≤ total.structs
    → list_all (is_row total) (methods_order first methods) ≡ true
methods_ordered total first [] below = refl
methods_ordered total first (m ∷ ms) below =
    let sum = sum_by-cons structs_of m ms in
    both_pass (is_row total) (method_order first m) (methods_order (first + structs_of m) ms)
    (method_ordered total first m (omega (arith, sum)))
    (methods_ordered total (first + structs_of m) ms (omega (arith, sum)))
