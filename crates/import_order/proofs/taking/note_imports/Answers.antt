use Rattle.std.proofs.Common.{◌∷◌, ◌++◌, [], ℕ, List, length, get_or, refl, ◌∙◌, ap, arith, ◌<◌}
use Rattle.std.proofs.lemmas.List.{get_or_default}
use Rattle.import_order.specs.steps.Taking.{times}
use Rattle.import_order.proofs.Counts.{noted_in, ok_of}
use Rattle.import_order.proofs.taking.note_imports.Goals as goal

pub loop-other-preserved : goal.loop-other-preserved
loop-other-preserved c = λ one other.
    let lists = c.loop-other.importers in
    let at = get_or c.args.imports.now c.loop-other.other-index 0 in
    let below = c.requires c.loop-other.other-index 0 c.loop-other-test.true in
    let same = c.loop-other.auto.importers in
    let within : at < length lists = omega (arith, below, same) in
    let new = ok_of c.push.result _ c.if-is_err.ensures.value c.push.ensures.ok in
    noted_in lists c.args.imports.now c.push.new.self c.loop-other.other-index at c.args.file one other
    (times one (get_or c.args.importers.now other [])) within
    (new ∙ ap (λ (xs : List ℕ). xs ++ c.args.file ∷ []) (get_or_default lists at c.index-importers-other.result [] within))
    (c.loop-other.invariant one other)
    c.loop-other-test.true
    refl
