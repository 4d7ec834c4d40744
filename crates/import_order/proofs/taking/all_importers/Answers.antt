use Rattle.std.proofs.Common.{ℕ, List, [], length, sym, ◌∙◌, ap, subst}
use Rattle.std.proofs.lemmas.List.{get_or_read}
use Rattle.import_order.specs.steps.Taking.{AreBelow}
use Rattle.import_order.proofs.taking.all_importers.Goals as goal

pub note_imports-requires : goal.note_imports-requires
note_imports-requires c =
    let read = get_or_read c.args.imports.now c.loop-file.file c.index-imports-file.result c.loop-file-test.true c.index-imports-file.is [] in
    subst (λ (limit : ℕ). AreBelow limit c.as_slice.result.now)
    (sym (ap (λ (lists : List (List ℕ)). length lists) c.as_mut_slice.ensures.value ∙ c.loop-file.invariant.long))
    (subst (λ (xs : List ℕ). AreBelow (length c.args.imports.now) xs) (sym (c.as_slice.ensures ∙ read)) (c.requires.imports c.loop-file.file))
