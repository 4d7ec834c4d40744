use Rattle.std.proofs.Common.{◌≡◌, take, ℕ}
use Rattle.std.specs.Bool.{nat_eq}
use Rattle.std.specs.HashMap.{get}
use Rattle.draft_rows.specs.steps.RowPlaces.{place_of}
use Rattle.draft_rows.proofs.row_table.RowTable.new.Given as goal

abbrev pub invariant-loop-place : goal.invariant-loop-place
invariant-loop-place l = (q : ℕ) → get nat_eq l.places q ≡ place_of q (take l.place l.fn.rows)
