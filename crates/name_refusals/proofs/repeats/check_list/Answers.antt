use Rattle.std.proofs.Common.{◌+◌, map, drop, refl, sym, ◌∙◌, ap}
use Rattle.mojom_ast.specs.declared.names.Identifier.{Identifier}
use Rattle.mojom_files.specs.Refusals.{best_of}
use Rattle.name_refusals.specs.steps.Sets.{holds}
use Rattle.name_refusals.specs.NameRefusals.{duplicate, repeated}
use Rattle.module_resolver.proofs.OneMore.{drop_item}
use Rattle.name_refusals.proofs.OneMore.{one_more}
use Rattle.name_refusals.proofs.repeats.check_list.Goals as goal

pub loop-name-preserved : goal.loop-name-preserved
loop-name-preserved c =
    let known = holds c.loop-name.known in
    let name = λ (n : Identifier). n.text in
    let at = λ (n : Identifier). n in
    let left = drop_item c.args.names.now c.loop-name.name-index c.name-item.result c.loop-name-test.true c.name-item.is in
    let rest = map (λ n. n.now) (drop (c.loop-name.name-index + 1) c.args.names.now) in
    let clauses = c.in_ok-check_one.ensures in
    one_more name at c.args.file c.loop-name.best c.check_one.new.best known _ c.name-item.result.now rest _ _ c.as_str.ensures refl clauses.kept clauses.added
    ∙ ap (λ xs. best_of c.loop-name.best (map (duplicate c.args.file) (repeated name at known (map (λ n. n.now) xs)))) (sym left)
    ∙ c.loop-name.invariant
