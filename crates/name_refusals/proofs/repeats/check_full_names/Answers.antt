use Rattle.std.proofs.Common.{◌∷◌, [], ◌+◌, map, take, drop, refl, sym, ◌∙◌, ap}
use Rattle.std.proofs.lemmas.List.{map-append}
use Rattle.std.specs.List.{fold}
use Rattle.mojom_files.specs.Definitions.{Defined}
use Rattle.mojom_files.specs.Refusals.{best_of}
use Rattle.name_refusals.specs.Known.{with_name}
use Rattle.name_refusals.specs.steps.Trees.{knows}
use Rattle.name_refusals.specs.NameRefusals.{duplicate, repeated_definitions}
use Rattle.module_resolver.proofs.OneMore.{drop_item, take_item}
use Rattle.name_refusals.proofs.OneMore.{one_more, added_more}
use Rattle.name_refusals.proofs.repeats.check_full_names.Goals as goal

pub loop-view-preserved : goal.loop-view-preserved
loop-view-preserved c =
    let best = c.loop-view.best in
    let known = knows c.loop-view.known in
    let name = λ (d : Defined). d.full in
    let at = λ (d : Defined). d.name in
    let views = c.args.views.now in
    let i = c.loop-view.view-index in
    let view = c.view-item.result in
    let left = drop_item views i view c.loop-view-test.true c.view-item.is in
    let done = take_item views i view c.loop-view-test.true c.view-item.is in
    let clauses = c.in_ok-check_full_name.ensures in
    let start = knows c.args.known.now in
    record {
      known = clauses.known;
      kept = one_more name at c.args.file best _ known _ view (drop (i + 1) views) _ _ refl refl clauses.kept clauses.added
          ∙ ap (λ xs. best_of best (map (duplicate c.args.file) (repeated_definitions known xs))) (sym left)
          ∙ c.loop-view.invariant.kept;
      added = added_more known _ start (map name (take i views)) _ (name view) c.loop-view.invariant.added clauses.added refl
          ∙ ap (fold with_name start) (sym (ap (map name) done ∙ map-append name (take i views) (view ∷ [])));
    }
