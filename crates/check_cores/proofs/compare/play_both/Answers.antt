use Rattle.std.proofs.Common.{◌∙◌, arith, subst, sym}
use Rattle.mj_schema.specs.declared.schema.Schema.{Schema}
use Rattle.plain_names.specs.Commands.{IsFor}
use Rattle.check_cores.proofs.compare.play_both.Goals as goal

pub do_named-requires-clause-stands : goal.do_named-requires-clause-stands
do_named-requires-clause-stands c = c.requires.machine.0

pub do_named-requires-clause-seq : goal.do_named-requires-clause-seq
do_named-requires-clause-seq c = omega (arith, c.requires.machine.2)

pub do_named-requires-clause-prepared : goal.do_named-requires-clause-prepared
do_named-requires-clause-prepared c =
    let of = rw c.in-Some.is at c.in_ok-command.ensures in
    subst (λ (s : Schema). IsFor s c.in-Ok.plain) (sym c.requires.machine.1) (c.in-Ok.ensures c.args.schema.now of)

pub returns-clause-machine : goal.returns-clause-machine
returns-clause-machine c =
    let done = c.in_ok-do_named.ensures in
    (done.stands, done.schema ∙ c.requires.machine.1, done.seqs ∙ c.requires.machine.2)
