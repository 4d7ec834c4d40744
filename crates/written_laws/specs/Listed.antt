-- That the listing has each row once.
use Rattle.std.specs.Prelude.{ℕ, ◌≡◌, length}
use Rattle.std.specs.List.{range_with_len}
use Rattle.mj_schema.specs.declared.rows.RowSort.{RowSort}
use Rattle.mj_schema.specs.declared.rows.RowSort.TheVariants as sorts
use Rattle.mj_schema.specs.Sound.{numbers_in}
use Rattle.draft_rows.specs.declared.draft.Draft.{Draft}

-- how many rows of this sort there are
abbrev pub rows_in : Draft → RowSort → ℕ
rows_in draft sorts.Struct = length draft.structs
rows_in draft sorts.Union = length draft.unions
rows_in draft sorts.Enum = length draft.enums
rows_in draft sorts.Interface = length draft.interfaces
rows_in draft sorts.Const = length draft.consts

-- the rows of each sort stand in the listing by their numbers, each once
abbrev pub AreListed : Draft → Type 0
AreListed draft = (sort : RowSort) → numbers_in sort draft.order ≡ range_with_len 0 (rows_in draft sort)
