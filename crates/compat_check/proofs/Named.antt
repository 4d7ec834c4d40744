-- The names of a schema's definitions, as the tables have them.
use Rattle.std.proofs.Common.{◌≡◌, ℕ, ◌+◌, Bool, List, [], ◌∷◌, Some, None, refl, ap, ◌∙◌}
use Rattle.std.specs.Prelude.{Option, cond}
use Rattle.mj_schema.specs.declared.rows.RowSort.{RowSort}
use Rattle.mj_schema.specs.declared.rows.RowSort.TheVariants as sorts
use Rattle.mj_schema.specs.declared.rows.StructRow.{StructRow}
use Rattle.mj_schema.specs.declared.schema.Schema.{Schema}
use Rattle.compat_model.specs.Verdicts.{names_of, struct_names}
use Rattle.compat_check.specs.steps.Named.{names_by}

-- two tests that say the same leave the same names
pub same_names : (f g : ℕ → Bool) → ((n : ℕ) → f n ≡ g n) → (number : ℕ) (rows : List StructRow) → struct_names f number rows ≡ struct_names g number rows
same_names f g same number [] = refl
same_names f g same number (row ∷ rows) =
    ap (λ (b : Bool). cond b None (Some row.name) ∷ struct_names f (number + 1) rows) (same number)
    ∙ ap (λ (names : List (Option (List ℕ))). cond (g number) None (Some row.name) ∷ names) (same_names f g same (number + 1) rows)

-- the names of each sort
pub all_named : (schema : Schema) (structs unions enums interfaces : List (Option (List ℕ))) → structs ≡ names_of schema sorts.Struct
    → unions ≡ names_of schema sorts.Union → enums ≡ names_of schema sorts.Enum → interfaces ≡ names_of schema sorts.Interface → (sort : RowSort)
    → names_by structs unions enums interfaces sort ≡ names_of schema sort
all_named schema structs unions enums interfaces a b c d sorts.Struct = a
all_named schema structs unions enums interfaces a b c d sorts.Union = b
all_named schema structs unions enums interfaces a b c d sorts.Enum = c
all_named schema structs unions enums interfaces a b c d sorts.Interface = d
all_named schema structs unions enums interfaces a b c d sorts.Const = refl
