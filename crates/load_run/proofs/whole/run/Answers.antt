use Rattle.std.proofs.Common.{subst, sym}
use Rattle.std.specs.Prelude.{IfOk}
use Rattle.mj_schema.specs.declared.schema.Schema.{Schema}
use Rattle.load_run.specs.Counts.{AreLoadCounts}
use Rattle.load_run.proofs.Loading.{started}
use Rattle.load_run.proofs.whole.run.Goals as goal

pub go_on-core-requires-clause-started : goal.go_on-core-requires-clause-started
go_on-core-requires-clause-started c =
    started c.args.schema.now c.args.seed c.targets_in-targets.result c.args.core c.start-core.result.0 c.start-core.result.1
    c.targets_in-targets.ensures.named c.requires.schema c.requires.seqs c.requires.none (rw c.in-Ok.is at c.start-core.ensures.asked)
    (rw c.in-Ok.is at c.start-core.ensures.rested)

pub returns-in-Ok : goal.returns-in-Ok
returns-in-Ok c =
    subst (λ (s : Schema). IfOk c.go_on-core.result.1 (AreLoadCounts s c.args.seed c.args.messages)) (sym c.requires.schema) c.go_on-core.ensures
