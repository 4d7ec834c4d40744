use Rattle.std.proofs.Common.{ap, arith, length, subst}
use Rattle.handle_table.specs.declared.thing.Thing.{Thing}
use Rattle.bind_model.specs.declared.asked.Asked.TheVariants as asks
use Rattle.load_run.specs.steps.Doing.{OneMore}
use Rattle.load_run.proofs.ends.bind.Goals as goal

pub remove-requires : goal.remove-requires
remove-requires c = omega (arith, c.args.ends.now.ok.0, ap length c.requires.ends.1)

pub returns-in-Ok-clause-one : goal.returns-in-Ok-clause-one
returns-in-Ok-clause-one c =
    let told = rw c.in-Ok.is at c.tell-core.ensures.told in
    let handle = rw c.requires.ends.1 at c.remove.ensures.value in (
      told.0,
      subst (λ (h : Thing). OneMore c.args.seq (asks.Bind h c.args.side c.args.interface) told.0 c.args.core c.tell-core.result.0) handle told.1,
    )

pub returns-in-Ok-clause-rested : goal.returns-in-Ok-clause-rested
returns-in-Ok-clause-rested c = rw c.in-Ok.is at c.tell-core.ensures.rested

pub returns-in-Ok-clause-more : goal.returns-in-Ok-clause-more
returns-in-Ok-clause-more c = λ more is. rw is at c.remove.ensures.items
