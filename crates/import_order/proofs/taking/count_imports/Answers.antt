use Rattle.std.proofs.Common.{ℕ, List, [], length, sym, ◌∙◌, ap, arith}
use Rattle.std.proofs.lemmas.Grind.{common_steps}
use Rattle.std.proofs.lemmas.List.{get_or_read}
use Rattle.import_order.specs.Imports.{has}
use Rattle.import_order.proofs.Counts.{free_more, added_where_zero, kept_where_some}
use Rattle.import_order.proofs.taking.count_imports.Goals as goal
use Rattle.import_order.proofs.taking.count_imports.Goals.{then-len-eq0+in_ok-insert, else-len-eq0}

pub loop-file-preserved : goal.loop-file-preserved
loop-file-preserved c =
    let list = c.index-imports-file.result in
    let read = get_or_read c.args.imports.now c.loop-file.file list c.loop-file-test.true c.index-imports-file.is [] in
    elim c.if-len-eq0.branch [
      | then-len-eq0+in_ok-insert w ↦ record {
        counts = grind (arith, common_steps);
        free = λ k.
            free_more c.args.imports.now c.loop-file.free c.if-len-eq0.free list c.loop-file.file k read (c.loop-file.invariant.free k)
            (added_where_zero c.loop-file.free c.if-len-eq0.free c.loop-file.file (length list) k
            (sym c.len-in-loop-file.ensures ∙ w.if-len-eq0.true) (ap (λ (xs : List ℕ). has xs k) w.free-is ∙ w.in_ok-insert.ensures k));
      }
      | else-len-eq0 w ↦ record {
        counts = grind (arith, common_steps);
        free = λ k.
            free_more c.args.imports.now c.loop-file.free c.if-len-eq0.free list c.loop-file.file k read (c.loop-file.invariant.free k)
            (kept_where_some c.loop-file.free c.if-len-eq0.free c.loop-file.file (length list) k
            (λ e. w.if-len-eq0.false (c.len-in-loop-file.ensures ∙ e)) w.free-is);
      }
    ]
