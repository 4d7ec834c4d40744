use Rattle.std.proofs.Common.{◌≡◌, ◌∙◌, ap, map, subst, sym, Bor, List, Ok, Some, reverse}
use Rattle.std.specs.Arc.{arc_value}
use Rattle.mj_schema.specs.declared.schema.Schema.{Schema}
use Rattle.bind_core.specs.Play.{Play}
use Rattle.bind_model.specs.Left.{left}
use Rattle.call_script.specs.declared.script.Line.{Line}
use Rattle.script_run.specs.Draining.{HaveRested}
use Rattle.script_run.specs.steps.Going.{Played}
use Rattle.script_run.specs.steps.Orders.{AreInOrder}
use Rattle.script_run.specs.steps.Running.{AreLines}
use Rattle.script_run.proofs.RunParts.{are_lines, ended, if_any, ran_left, ran_legal, ran_notes, ran_script}
use Rattle.script_run.proofs.FewEvents.{ran_few}
use Rattle.script_run.proofs.runner.run_alone.Goals as goal

pub play-drained-requires-clause-lines : goal.play-drained-requires-clause-lines
play-drained-requires-clause-lines c =
    let script = c.args.script.now in
    let schema : c.new-core.result.schema ≡ arc_value c.args.schema = ap (λ (p : Play). p.schema) c.new-core.ensures ∙ c.in-Ok.ensures in
    subst (λ (s : Schema). AreLines s script (map (λ (l : Bor Line). l.now) c.as_slice.result.now)) (sym schema)
    (subst (λ (ls : List (Bor Line)). AreLines (arc_value c.args.schema) script (map (λ (l : Bor Line). l.now) ls)) (sym c.as_slice.ensures.value)
    (are_lines (arc_value c.args.schema) script c.args.order (map (λ (l : Bor Line). l.now) c.in_ok-lines.lines.items) c.in_ok-lines.ensures
    c.requires.script.lines))

pub play-drained-requires-clause-rested : goal.play-drained-requires-clause-rested
play-drained-requires-clause-rested c =
    subst (λ (p : Play). HaveRested p c.in_ok-rests.rests.items) (sym c.new-core.ensures) (c.in_ok-rests.ensures _)

pub returns : goal.returns
returns c =
    let schema = arc_value c.args.schema in
    let script = c.args.script.now in
    let order = c.args.order in
    let drained = c.play-drained.result in
    let is : c.new-core.result.schema ≡ schema = ap (λ (p : Play). p.schema) c.new-core.ensures ∙ c.in-Ok.ensures in
    let are = subst (λ (ls : List (Bor Line)). AreInOrder script order (map (λ (l : Bor Line). l.now) ls)) (sym c.as_slice.ensures.value)
    c.in_ok-lines.ensures in
    let played = subst (λ (s : Schema). Played s script order drained) is (c.play-drained.ensures.played order are) in
    let ran = ended schema script order drained c.end.result in
    let whole = c.end.ensures.whole in
    let history = c.end.ensures.history in
    record {
      legal = ran (λ r. Unit {0}) _ played whole history (if_any c.end.result) (λ r all h q. ran_legal schema script order drained r all h);
      script = ran (λ r. Unit {0}) _ played whole history (if_any c.end.result) (λ r all h q. ran_script schema script order drained r all h);
      left =
          ran (λ r. r.left ≡ left drained.core.seqs (reverse drained.core.events)) _ played whole history c.end.ensures.left
          (λ r all h q. ran_left schema script order drained r all h r.left q);
      notes =
          ran (λ r. drained.notes ≡ Ok r.notes) _ played whole history c.end.ensures.notes
          (λ r all h q. ran_notes schema script order drained r all h q);
      few =
          ran (λ r. Unit {0}) _ played whole history (if_any c.end.result)
          (λ r all h q. ran_few schema script c.requires.script c.requires.short (Some order) r.history.events (ran_legal schema script order drained r all h)
          (ran_script schema script order drained r all h));
    }

pub end-requires : goal.end-requires
end-requires c =
    let script = c.args.script.now in
    let order = c.args.order in
    let are = subst (λ (ls : List (Bor Line)). AreInOrder script order (map (λ (l : Bor Line). l.now) ls)) (sym c.as_slice.ensures.value)
    c.in_ok-lines.ensures in
    c.play-drained.ensures.unspent order c.requires.short are
