use Rattle.std.proofs.Common.{List, map, sym, ap, ◌∙◌, arith, rules, SFits}
use Rattle.std.proofs.lemmas.Int.{ints}
use Rattle.std.specs.Int.{w128}
use Rattle.wire_model.specs.declared.value.Value.{Value}
use Rattle.wire_model.specs.Trees.{Text, Items, trees, view}
use Rattle.kept_values.proofs.KeptLists.{number_kept, tree_kept, view_text, view_list}
use Rattle.kept_values.proofs.kept_parameters.short_part.Goals as goal

pub returns-in-Whole : goal.returns-in-Whole
returns-in-Whole c =
    let fits : SFits w128 c.in-Whole.number = search rules in
    number_kept c.args.value.now c.in-Whole.number _ c.number_part.result c.in-Whole.is c.number_part.ensures (omega (arith, ints, fits))

pub returns-in-Text : goal.returns-in-Text
returns-in-Text c =
    tree_kept c.text_part.result (Text c.as_slice.result.now) (view c.args.value.now)
    (ap Text c.as_slice.ensures.value ∙ sym (ap view c.in-Text.is ∙ view_text c.in-Text.text)) c.text_part.ensures

pub returns-in-List : goal.returns-in-List
returns-in-List c =
    tree_kept c.bytes_part.result (Items (trees (map view c.deref.result.now))) (view c.args.value.now)
    (ap (λ (vs : List Value). Items (trees (map view vs))) c.deref.ensures.value ∙ sym (ap view c.in-List.is ∙ view_list c.in-List.items))
    c.bytes_part.ensures
