use Rattle.std.proofs.Common.{◌≡◌, List, Bool, false, length, replicate, sym, ap, ◌∙◌}
use Rattle.std.proofs.lemmas.Result.{IfOk-weaker}
use Rattle.wire_model.specs.Indexes.{handles_of}
use Rattle.wire_model.specs.Trees.{view}
use Rattle.core_taking.specs.steps.Marks.{marked, with_mark, without_mark}
use Rattle.core_taking.proofs.Marking.{with-picked, without-picked, written-back, marked-length}
use Rattle.core_taking.proofs.indexes.part_named.Goals as goal

marks-are : (c : goal.After-drop-marks) → c.deref.result.now ≡ marked (handles_of (view c.args.value.now)) (replicate (length c.args.things.now) false)
marks-are c =
    let fresh : c.deref_mut.result.now ≡ replicate (length c.args.things.now) false =
    c.deref_mut.ensures.value ∙ c.in_ok-marks.ensures.items_if_clones_equal (λ y e. e) in
    let many : length c.mark_handles.new.marks ≡ c.in_ok-marks.marks.len =
    ap length c.mark_handles.ensures ∙ (marked-length (handles_of (view c.args.value.now)) c.deref_mut.result.now
    ∙ (ap length c.deref_mut.ensures.value ∙ sym c.in_ok-marks.marks.ok.0)) in
    written-back c.in_ok-marks.marks.len c.mark_handles.new.marks _ c.deref.result.now many c.deref.ensures.value
    ∙ (c.mark_handles.ensures ∙ ap (marked (handles_of (view c.args.value.now))) fresh)

pub returns-clause-named : goal.returns-clause-named
returns-clause-named c = IfOk-weaker c.part.result _ _
    (λ parts e. e ∙ (ap (λ (marks : List Bool). with_mark marks c.args.things.now) (marks-are c)
    ∙ with-picked (handles_of (view c.args.value.now)) c.args.things.now))
    c.part.ensures.named

pub returns-clause-left : goal.returns-clause-left
returns-clause-left c = IfOk-weaker c.part.result _ _
    (λ parts e. e ∙ (ap (λ (marks : List Bool). without_mark marks c.args.things.now) (marks-are c)
    ∙ without-picked (handles_of (view c.args.value.now)) c.args.things.now))
    c.part.ensures.left
