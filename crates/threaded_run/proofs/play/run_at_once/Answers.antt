use Rattle.std.proofs.Common.{◌≡◌, ◌<◌, ◌∙◌, ℕ, [], arith, subst, sym, Ok}
use Rattle.std.specs.Arc.{arc_value}
use Rattle.std.specs.Prelude.{reverse, IfNone, None}
use Rattle.std.proofs.lemmas.Result.{on_ok_weaker}
use Rattle.mj_schema.specs.declared.schema.Schema.{Schema}
use Rattle.bind_hub.specs.Hubs.{schema_in, seqs_in}
use Rattle.bind_model.specs.Left.{left}
use Rattle.bind_model.specs.Replies.{Legal}
use Rattle.bind_model.specs.WireOf.{wire_of}
use Rattle.call_script.specs.Sound.{IsScript}
use Rattle.script_run.specs.Draining.{HaveRested}
use Rattle.script_run.proofs.RunParts.{if_any}
use Rattle.script_run.proofs.FewEvents.{ran_few}
use Rattle.threaded_run.specs.steps.Joins.{core_of}
use Rattle.threaded_run.specs.steps.Plays.{MayDrain, PlayedAtOnce}
use Rattle.threaded_run.proofs.Places.{there_at}
use Rattle.threaded_run.proofs.Starting.{are_first, count_first, have_none}
use Rattle.threaded_run.proofs.Whole.{ended_at_once, may_drain, never_spent, ran_left, ran_legal, ran_notes, ran_script}
use Rattle.threaded_run.proofs.play.run_at_once.Goals as goal

pub start-requires : goal.start-requires
start-requires g c = c.requires.script.seqs.0

pub play-done-requires-clause-hub : goal.play-done-requires-clause-hub
play-done-requires-clause-hub g c κs within = let is = c.in-Ok-start.ensures.hub in (is.0 ∙ (c.in-Ok.ensures ∙ sym c.deref.ensures), is.1)

pub play-done-requires-clause-count : goal.play-done-requires-clause-count
play-done-requires-clause-count g c κs within =
    count_first (arc_value c.in-Ok.shared) c.args.script.now.seqs c.in-Ok-start.hub c.in-Ok-start.passes.items c.in-Ok-start.ensures.hub
    c.in-Ok-start.ensures.passes

pub play-done-requires-clause-passes : goal.play-done-requires-clause-passes
play-done-requires-clause-passes g c κs within k p got =
    are_first (arc_value c.in-Ok.shared) c.args.script.now.seqs c.in-Ok-start.hub c.in-Ok-start.passes.items c.in-Ok-start.ensures.hub
    c.in-Ok-start.ensures.passes k p got

pub play-done-requires-clause-fresh : goal.play-done-requires-clause-fresh
play-done-requires-clause-fresh g c κs within k p got =
    have_none (arc_value c.in-Ok.shared) c.args.script.now.seqs c.in-Ok-start.hub c.in-Ok-start.passes.items c.in-Ok-start.ensures.hub
    c.in-Ok-start.ensures.passes k p got

pub play-done-requires-clause-rested : goal.play-done-requires-clause-rested
play-done-requires-clause-rested g c κs within =
    let S = schema_in c.in-Ok-start.hub in
    subst (λ (n : ℕ). HaveRested (core_of S n []) c.in_ok-rests.rests.items) (sym c.in-Ok-start.ensures.hub.1) (c.in_ok-rests.ensures S)

pub close-core-requires-clause-passes : goal.close-core-requires-clause-passes
close-core-requires-clause-passes g c k p got = (c.play-done.ensures.passes k p got).1

pub close-core-requires-clause-all : goal.close-core-requires-clause-all
close-core-requires-clause-all g c n below =
    let t = there_at c.play-done.new.crew.passes.items n (omega (arith, below, c.play-done.ensures.count)) in
    (n, t.0, t.1, (c.play-done.ensures.passes n t.0 t.1).0)

pub finish-drained-requires-clause-schema : goal.finish-drained-requires-clause-schema
finish-drained-requires-clause-schema g c =
    c.close-core.ensures.core.0 ∙ (c.in-Ok-start.ensures.hub.0 ∙ (c.in-Ok.ensures ∙ sym c.deref-2.ensures))

pub finish-drained-requires-clause-may : goal.finish-drained-requires-clause-may
finish-drained-requires-clause-may g c =
    let script = c.args.script.now in
    let hub = c.in-Ok-start.hub in
    let is = c.in-Ok-start.ensures.hub in
    let core = c.close-core.result in
    let close = c.close-core.ensures in
    let passes = c.play-done.new.crew.passes.items in
    let rests = c.play-done.new.crew.rests.items in
    let some : 0 < seqs_in hub = subst (λ (n : ℕ). 0 < n) (sym is.1) c.requires.script.seqs.0 in
    on_ok_weaker c.play-done.result
    (λ done. subst (λ (s : Schema). MayDrain s script core rests) (is.0 ∙ (c.in-Ok.ensures ∙ sym c.deref-2.ensures))
    (may_drain hub.turn.board.shared.table_id (schema_in hub) (seqs_in hub) script passes rests core c.play-done.ensures.count some is.1 close.core.0
    close.core.1 close.legal close.few done close.passes))
    c.play-done.ensures.done

pub finish-drained-requires-clause-unspent : goal.finish-drained-requires-clause-unspent
finish-drained-requires-clause-unspent g c spent =
    let script = c.args.script.now in
    let hub = c.in-Ok-start.hub in
    let S = schema_in hub in
    let N = seqs_in hub in
    let is = c.in-Ok-start.ensures.hub in
    let core = c.close-core.result in
    let close = c.close-core.ensures in
    let passes = c.play-done.new.crew.passes.items in
    let some : 0 < N = subst (λ (n : ℕ). 0 < n) (sym is.1) c.requires.script.seqs.0 in
    let its : IsScript S script = subst (λ (s : Schema). IsScript s script) (sym (is.0 ∙ c.in-Ok.ensures)) c.requires.script in
    let lawful : Legal (wire_of S) N core.events =
    subst (λ (s : Schema). Legal (wire_of s) N core.events) close.core.0
    (subst (λ (n : ℕ). Legal (wire_of core.schema) n core.events) close.core.1 close.legal) in
    never_spent hub.turn.board.shared.table_id S N script passes core.events c.play-done.ensures.count some its c.requires.short is.1 lawful
    (c.play-done.ensures.spent spent) close.passes

pub end-requires : goal.end-requires
end-requires g c = c.finish-drained.ensures.unspent

pub returns : goal.returns
returns g c =
    let schema = arc_value c.args.schema in
    let script = c.args.script.now in
    let drained = c.finish-drained.result in
    let played = subst (λ (s : Schema). IfNone drained.cut (PlayedAtOnce s script drained)) c.deref-2.ensures c.finish-drained.ensures.played in
    let ran = ended_at_once schema script drained c.end.result in
    let whole = c.end.ensures.whole in
    let history = c.end.ensures.history in
    record {
      legal = ran (λ r. Unit {0}) _ played whole history (if_any c.end.result) (λ r all h q. ran_legal schema script drained r all h);
      script = ran (λ r. Unit {0}) _ played whole history (if_any c.end.result) (λ r all h q. ran_script schema script drained r all h);
      left =
          ran (λ r. r.left ≡ left drained.core.seqs (reverse drained.core.events)) _ played whole history c.end.ensures.left
          (λ r all h q. ran_left schema script drained r all h r.left q);
      notes =
          ran (λ r. drained.notes ≡ Ok r.notes) _ played whole history c.end.ensures.notes (λ r all h q. ran_notes schema script drained r all h q);
      few =
          ran (λ r. Unit {0}) _ played whole history (if_any c.end.result)
          (λ r all h q. ran_few schema script c.requires.script c.requires.short None r.history.events (ran_legal schema script drained r all h)
          (ran_script schema script drained r all h));
    }
