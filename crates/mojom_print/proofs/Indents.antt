-- One level of indent more.
use Rattle.std.proofs.Common.{◌≡◌, ℕ, zero, suc, ◌+◌, List, ◌++◌, refl, ap, add-one}
use Rattle.std.specs.Prelude.{codes}
use Rattle.mojom_print.specs.Words.{indent}

indent_next : (n : ℕ) → indent (suc n) ≡ indent n ++ codes "  "
indent_next zero = refl
indent_next (suc n) = ap (λ (l : List ℕ). codes "  " ++ l) (indent_next n)

-- for `push_indent`: one depth more
pub indent_more : (n : ℕ) → indent (n + 1) ≡ indent n ++ codes "  "
indent_more n = rw add-one (indent_next n)
