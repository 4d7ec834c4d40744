use Rattle.std.proofs.Common.{◌≡◌, ◌<◌, ◌+◌, ◌-◌, ℕ, List, length, get_or, refl, sym, ◌∙◌, ap, arith}
use Rattle.std.proofs.lemmas.List.{get_or-set_same}
use Rattle.import_order.specs.Imports.{has}
use Rattle.import_order.proofs.Counts.{enough_left, down_counts, down_free, added_where_zero, kept_where_some}
use Rattle.import_order.proofs.taking.count_down.Goals as goal
use Rattle.import_order.proofs.taking.count_down.Goals.{then-left-file-eq0+in_ok-insert, else-left-file-eq0}

pub overflow_sub-left : goal.overflow_sub-left
overflow_sub-left c =
    enough_left c.loop-file.left c.args.importers.now (λ k. get_or c.args.left.now k 0) c.loop-file.file-index
    (get_or c.args.importers.now c.loop-file.file-index 0) refl c.loop-file-test.true c.requires.enough
    c.loop-file.invariant.counts

pub loop-file-preserved : goal.loop-file-preserved
loop-file-preserved c =
    let at = get_or c.args.importers.now c.loop-file.file-index 0 in
    let left = c.loop-file.left in
    let v = get_or left at 0 - 1 in
    let lt = c.loop-file-test.true in
    let one =
    enough_left left c.args.importers.now (λ k. get_or c.args.left.now k 0) c.loop-file.file-index at refl lt c.requires.enough
    c.loop-file.invariant.counts in
    let less : v + 1 ≡ get_or left at 0 = omega (arith, one) in
    let below = c.requires.below c.loop-file.file-index 0 lt in
    let long = c.loop-file.auto.left in
    let within : at < length left = omega (arith, below, long) in
    let now = get_or-set_same left at v 0 within in
    elim c.if-left-file-eq0.branch [
      | then-left-file-eq0+in_ok-insert w ↦ record {
        counts = λ k.
            down_counts left c.args.importers.now c.loop-file.file-index at v k (get_or c.args.left.now k 0) refl lt within less
            (c.loop-file.invariant.counts k);
        free = λ k.
            down_free left c.args.importers.now c.loop-file.free c.if-left-file-eq0.free c.args.free.now c.loop-file.file-index at v k refl
            lt within less (c.loop-file.invariant.free k)
            (added_where_zero c.loop-file.free c.if-left-file-eq0.free at v k (sym now ∙ w.if-left-file-eq0.true)
            (ap (λ (xs : List ℕ). has xs k) w.free-is ∙ w.in_ok-insert.ensures k));
      }
      | else-left-file-eq0 w ↦ record {
        counts = λ k.
            down_counts left c.args.importers.now c.loop-file.file-index at v k (get_or c.args.left.now k 0) refl lt within less
            (c.loop-file.invariant.counts k);
        free = λ k.
            down_free left c.args.importers.now c.loop-file.free c.if-left-file-eq0.free c.args.free.now c.loop-file.file-index at v k refl
            lt within less (c.loop-file.invariant.free k)
            (kept_where_some c.loop-file.free c.if-left-file-eq0.free at v k (λ e. w.if-left-file-eq0.false (now ∙ e)) w.free-is);
      }
    ]
