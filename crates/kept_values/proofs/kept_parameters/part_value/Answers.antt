use Rattle.std.proofs.Common.{◌≡◌, ℕ, List, map, sym, ap, subst, ◌∙◌, arith, rules, SFits, w64}
use Rattle.std.specs.Prelude.{IfOk}
use Rattle.std.proofs.lemmas.Int.{ints}
use Rattle.wire_model.specs.Trees.{Tree, Text, Items, trees, view}
use Rattle.kept_values.specs.KeptTrees.{byte_tree, part_tree}
use Rattle.kept_values.proofs.KeptLists.{whole_again}
use Rattle.kept_values.proofs.kept_parameters.part_value.Goals as goal

pub returns-in-Whole : goal.returns-in-Whole
returns-in-Whole c =
    let fits : SFits w64 c.in-Whole.number = search rules in
    whole_again c.args.part.now c.in-Whole.number _ (view c.whole_value.result) c.in-Whole.is c.whole_value.ensures (omega (arith, ints, fits))

pub returns-in-Text : goal.returns-in-Text
returns-in-Text c =
    subst (λ (t : Tree). IfOk c.text_value.result (λ value. view value ≡ t))
    (ap Text c.as_slice.ensures.value ∙ ap part_tree (sym c.in-Text.is)) c.text_value.ensures

pub returns-in-Bytes : goal.returns-in-Bytes
returns-in-Bytes c =
    subst (λ (t : Tree). IfOk c.array_value.result (λ value. view value ≡ t))
    (ap (λ (bs : List ℕ). Items (trees (map byte_tree bs))) c.deref.ensures.value ∙ ap part_tree (sym c.in-Bytes.is)) c.array_value.ensures

pub returns-in-Other : goal.returns-in-Other
returns-in-Other c =
    subst (λ (t : Tree). IfOk c.copy_value.result (λ value. view value ≡ t))
    (ap view c.get.ensures ∙ ap part_tree (sym c.in-Other.is)) c.copy_value.ensures
