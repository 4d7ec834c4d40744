use Rattle.std.proofs.Common.{◌∙◌, sym, subst, length, [], List, ℕ}
use Rattle.std.proofs.lemmas.List.{get_or_read}
use Rattle.import_order.specs.steps.Taking.{AreBelow}
use Rattle.import_order.proofs.circle.import_left.Goals as goal

pub first_left-requires : goal.first_left-requires
first_left-requires c =
    let read = get_or_read c.args.imports.now c.args.file c.index-imports-file.result c.requires.within c.index-imports-file.is [] in
    subst (λ (limit : ℕ). AreBelow limit c.as_slice.result.now) (sym c.requires.limit)
    (subst (λ (xs : List ℕ). AreBelow (length c.args.imports.now) xs) (sym (c.as_slice.ensures ∙ read)) (c.requires.imports c.args.file))
