use Rattle.std.proofs.Common.{◌+◌, ℕ, length, refl, ap, ◌∙◌}
use Rattle.std.specs.Prelude.{None, filter}
use Rattle.std.proofs.lemmas.List.{length_push}
use Rattle.script_run.specs.Order.{is_own}
use Rattle.script_run.specs.declared.agenda.Agenda.{Agenda}
use Rattle.script_run.specs.steps.Following.{IsFresh}
use Rattle.script_run.specs.steps.Orders.{numbered}
use Rattle.script_run.proofs.Traces.{each_added}
use Rattle.script_run.proofs.agenda.all_agendas.Goals as goal

pub loop-seq-preserved : goal.loop-seq-preserved
loop-seq-preserved c =
    let agenda : Agenda = record { lines = c.in_ok-lines.lines; done = 0; due = None } in
    let is : IsFresh c.args.script.now c.loop-seq.seq agenda = record {
      lines = c.in_ok-lines.ensures ∙ ap (filter (is_own (numbered c.loop-seq.seq))) c.as_slice.ensures;
      done = refl;
      due = refl;
    } in
    record {
      count =
          ap length c.in_ok-push.ensures.items
          ∙ (length_push c.loop-seq.agendas.items agenda ∙ ap (λ (n : ℕ). n + 1) c.loop-seq.invariant.count);
      each =
          each_added (IsFresh c.args.script.now) c.loop-seq.agendas.items c.push.new.self.items c.loop-seq.seq agenda c.loop-seq.invariant.count
          c.in_ok-push.ensures.items is c.loop-seq.invariant.each;
    }
