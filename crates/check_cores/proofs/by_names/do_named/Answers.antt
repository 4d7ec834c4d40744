use Rattle.std.proofs.Common.{arith}
use Rattle.std.proofs.lemmas.Result.{on_ok_weaker}
use Rattle.event_tables.specs.AsCore.{Steps}
use Rattle.plain_names.specs.Commands.{asked_in}
use Rattle.check_cores.proofs.by_names.do_named.Goals as goal

pub step-requires-clause-few : goal.step-requires-clause-few
step-requires-clause-few c = omega (arith, c.len.ensures)

pub returns-clause-schema : goal.returns-clause-schema
returns-clause-schema c =
    on_ok_weaker c.step.result
    (λ (steps : Steps c.args.machine.now.tables c.step.new.self.tables c.args.seq (asked_in c.args.command)). steps.schema) c.step.ensures.steps

pub returns-clause-seqs : goal.returns-clause-seqs
returns-clause-seqs c =
    on_ok_weaker c.step.result
    (λ (steps : Steps c.args.machine.now.tables c.step.new.self.tables c.args.seq (asked_in c.args.command)). steps.seqs) c.step.ensures.steps
