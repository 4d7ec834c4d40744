use Rattle.std.proofs.Common.{◌++◌, ◌∷◌, [], ap, map, pos, ◌∙◌}
use Rattle.std.proofs.lemmas.List.{map_push}
use Rattle.wire_model.specs.Trees.{Tree, Whole, view}
use Rattle.load_run.proofs.Loading.{one_more}
use Rattle.load_run.proofs.values.bytes.Goals as goal

pub loop-preserved : goal.loop-preserved
loop-preserved c =
    let bytes = c.loop.bytes.items in
    ap (map view) c.in_ok-push.ensures.items
    ∙ (map_push view bytes c.whole.result
    ∙ (ap (λ (t : Tree). map view bytes ++ t ∷ []) c.whole.ensures
    ∙ one_more (map view bytes) c.loop.counter (Whole (pos c.args.byte)) c.loop.invariant))
