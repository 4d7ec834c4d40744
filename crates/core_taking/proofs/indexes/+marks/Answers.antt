use Rattle.std.proofs.Common.{List, map, sym, ap, ◌∙◌}
use Rattle.wire_model.specs.Indexes.{handles_of, handles_in}
use Rattle.wire_model.specs.Trees.{Tree, view, trees}
use Rattle.wire_model.specs.declared.value.Value.{Value}
use Rattle.core_taking.specs.steps.Marks.{marked}
use Rattle.core_taking.proofs.Marking.{marked-on, marked-map, view-map}
use Rattle.core_taking.proofs.indexes.+marks.Goals as goal

pub mark_all-loop-value-preserved : goal.mark_all-loop-value-preserved
mark_all-loop-value-preserved t c =
    marked-on c.args.values.now c.loop-value.value-index c.value-item.result c.loop-value.marks c.mark_handles.new.marks _ c.loop-value-test.true
    c.value-item.is c.mark_handles.ensures c.loop-value.invariant

pub mark_handles-returns-in-Map : goal.mark_handles-returns-in-Map
mark_handles-returns-in-Map t c =
    marked-map c.in-Map.keys c.in-Map.values c.args.marks.now c.mark_all.new.marks c.mark_all-in-Map.new.marks
    (c.mark_all.ensures ∙ ap (λ (vs : List Value). marked (handles_in (trees (map view vs))) c.args.marks.now) c.deref.ensures.value)
    (c.mark_all-in-Map.ensures ∙ ap (λ (vs : List Value). marked (handles_in (trees (map view vs))) c.mark_all.new.marks) c.deref-in-Map.ensures.value)
    ∙ ap (λ (v : Tree). marked (handles_of v) c.args.marks.now) (sym (ap view c.in-Map.is ∙ view-map c.in-Map.keys c.in-Map.values))
