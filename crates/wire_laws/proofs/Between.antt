-- A payload between other bytes, and how long it is at least.
use Rattle.std.proofs.Common.{◌≡◌, ℕ, ◌≤◌, false, Option, Some, List, ◌++◌, length, ap, ◌∙◌, arith}
use Rattle.std.proofs.lemmas.List.{get_or_append_left, get_or-append-add}
use Rattle.mj_base.specs.Bytes.{bytes16, bytes32, bytes64}
use Rattle.mj_schema.specs.declared.rows.StructRow.{StructRow}
use Rattle.mj_schema.specs.declared.schema.Schema.{Schema}
use Rattle.mj_schema.specs.KindTrees.{StructKind}
use Rattle.wire_model.specs.Cells.{zeros}
use Rattle.wire_model.specs.Emit.{emit, struct_object, body_of, behind}
use Rattle.wire_model.specs.Fits.{Fits}
use Rattle.wire_model.specs.Tight.{MAX_DEPTH, payload_of}
use Rattle.wire_model.specs.Trees.{Trees, Fields}
use Rattle.wire_laws.proofs.Bytes.{Holds}

pub stands_between : (front xs back : List ℕ) → Holds (front ++ (xs ++ back)) (length front) xs
stands_between front xs back = record { each = λ i lt. get_or-append-add front (xs ++ back) i 0 ∙ get_or_append_left xs back 0 i lt }

pub payload_long : (schema : Schema) (number : ℕ) (ts : Trees) → Fits schema MAX_DEPTH false (StructKind number false) (Fields ts)
    → 8 ≤ length (payload_of schema number ts)
unfolding Fits emit bytes16 bytes32 bytes64
payload_long schema number ts fits =
    let e : length (payload_of schema number ts) ≡ length (struct_object (Some fits.0) (λ ss size. body_of schema ss ts (zeros size) size)
    (λ ss. behind schema ss ts)) =
    ap (λ (o : Option StructRow). length (struct_object o (λ ss size. body_of schema ss ts (zeros size) size) (λ ss. behind schema ss ts))) fits.1 in
    omega (arith, e)
