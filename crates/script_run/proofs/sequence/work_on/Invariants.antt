use Rattle.std.proofs.Common.{◌≡◌, ◌≤◌, ◌++◌, List, length, take}
use Rattle.std.specs.Prelude.{filter}
use Rattle.bind_model.specs.declared.event.Event.{Event}
use Rattle.remote_receiver.specs.Held.{kept_of}
use Rattle.script_names.specs.Names.{joined}
use Rattle.step_gate.specs.Calls.{calls_round}
use Rattle.script_run.specs.Order.{is_own, joins_of}
use Rattle.script_run.specs.AtDesk.{IsLater, SameDesk, seen_by}
use Rattle.script_names.specs.Held.{HaveNames, names_in}
use Rattle.script_run.specs.steps.Working.{HasWorked}
use Rattle.script_run.proofs.sequence.work_on.Given as goal

-- the lines so far are done
abbrev pub invariant-loop-line : goal.invariant-loop-line
invariant-loop-line g l = record {
  same : SameDesk (seen_by g.P.Stepper.schema g.P.Stepper.seqs g.P.Stepper.alone g.P.Stepper.me g.P.Stepper.seen l.fn.desk.stepper)
      (seen_by g.P.Stepper.schema g.P.Stepper.seqs g.P.Stepper.alone g.P.Stepper.me g.P.Stepper.seen l.desk.stepper);
  home : g.P.Stepper.home l.desk.stepper ≡ g.P.Stepper.home l.fn.desk.stepper;
  later : IsLater (seen_by g.P.Stepper.schema g.P.Stepper.seqs g.P.Stepper.alone g.P.Stepper.me g.P.Stepper.seen l.fn.desk.stepper)
      (seen_by g.P.Stepper.schema g.P.Stepper.seqs g.P.Stepper.alone g.P.Stepper.me g.P.Stepper.seen l.desk.stepper);
  have : HaveNames l.script.names l.rooms;
  few : l.number ≤ l.line-index;
  steps : l.number ≡ length (filter (is_own (g.P.Stepper.me l.fn.desk.stepper)) (take l.line-index l.script.lines));
  calls : g.G.Gate.calls l.gate ≡ g.G.Gate.calls l.fn.gate ++ calls_round (g.P.Stepper.me l.fn.desk.stepper) l.number;
  did : (after_joins : List Event) → names_in l.fn.rooms ≡ joined (g.P.Stepper.me l.fn.desk.stepper) (joins_of l.script) after_joins
      → HasWorked l.script after_joins (g.P.Stepper.schema l.fn.desk.stepper) (g.P.Stepper.me l.fn.desk.stepper) (g.P.Stepper.seen l.fn.desk.stepper)
      (g.P.Stepper.seen l.desk.stepper) (kept_of l.fn.desk.jobs) (kept_of l.desk.jobs) (names_in l.rooms) (take l.line-index l.script.lines);
}
