-- The order of definitions has each row once.
use Rattle.std.proofs.Common.{◌≡◌, ℕ, zero, suc, ◌+◌, refl, ap, ◌∙◌, arith}
use Rattle.std.specs.Prelude.{true, ◌==◌}
use Rattle.std.specs.List.{range_with_len}
use Rattle.std.proofs.lemmas.Bool.{and_from}
use Rattle.std.proofs.lemmas.Bool.Decides.{Decides-eqb}
use Rattle.mj_schema.specs.declared.rows.RowSort.{RowSort}
use Rattle.mj_schema.specs.declared.rows.RowSort.TheVariants as sorts
use Rattle.mj_schema.specs.Sound.{are_counted, is_listed, are_listed}
use Rattle.draft_rows.specs.declared.draft.Draft.{Draft}
use Rattle.written_laws.specs.Listed.{AreListed, rows_in}

equal : (a b : ℕ) → a ≡ b → (a == b) ≡ true
equal a b e = (Decides-eqb a b).1 e

-- numbers from k on, of which there are n
counted : (k n end : ℕ) → end ≡ k + n → are_counted k end (range_with_len k n) ≡ true
counted k zero end e = equal k end (omega (arith, e))
counted k (suc n) end e = and_from (k == k) (are_counted (k + 1) end (range_with_len (k + 1) n)) (equal k k refl) (counted (k + 1) n end (omega (arith, e)))

pub all_listed : (draft : Draft) → AreListed draft
    → are_listed draft.structs draft.unions draft.enums draft.interfaces draft.consts draft.order ≡ true
all_listed draft listed =
    and_from _ _ (one sorts.Struct)
    (and_from _ _ (one sorts.Union) (and_from _ _ (one sorts.Enum) (and_from _ _ (one sorts.Interface) (one sorts.Const))))
  where
    one : (sort : RowSort) → is_listed draft.order sort (rows_in draft sort) ≡ true
    one sort =
        let n = rows_in draft sort in
        ap (are_counted 0 n) (listed sort) ∙ counted 0 n n (omega arith)
