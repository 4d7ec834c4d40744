use Rattle.std.proofs.Common.{◌≡◌, ◌++◌, ℕ, List, ap, ◌∙◌}
use Rattle.mj_schema.specs.KindTrees.{KindTree}
use Rattle.value_text.specs.Spelling.{spell}
use Rattle.view_text.proofs.LeafTexts.{leaf_spelled, on_ok}
use Rattle.wire_view.specs.PartValues.{tree_in}
use Rattle.view_text.proofs.leaves.push_leaf.Goals as goal

pub returns : goal.returns
returns c =
    let schema = c.args.schema.now in
    let kind = c.new-kind.result in
    let t = tree_in c.args.part.now in
    let old = c.args.out.now.items in
    let seen = c.in_ok-value.ensures c.requires in
    on_ok (c.push_all.new.out.items ≡ old ++ c.as_slice.result.now) ((k : KindTree) → c.push_all.new.out.items ≡ old ++ spell schema k t) c.push_all.result
    (λ e k. e ∙ ap (λ (s : List ℕ). old ++ s)
    (c.as_slice.ensures.value ∙ c.in_ok-text.ensures.text ∙ ap (spell schema kind) seen ∙ leaf_spelled schema t c.requires kind k))
    c.push_all.ensures
