use Rattle.std.proofs.Common.{ap, subst, sym, ◌∙◌}
use Rattle.bind_model.specs.declared.told.Told.TheVariants as tells
use Rattle.bind_model.specs.declared.told.Why.{Why}
use Rattle.data_pipe.specs.declared.refused.DataRefused.{DataRefused}
use Rattle.event_tables.specs.AsCore.{state_of}
use Rattle.event_tables.specs.steps.Moving.{SaysWhy}
use Rattle.event_tables.proofs.moving.unmoved.Goals as goal

pub refuse-requires-clause-why : goal.refuse-requires-clause-why
refuse-requires-clause-why c =
    subst (λ (r : DataRefused). SaysWhy (state_of c.args.tables.now) c.args.seq c.args.thing c.args.flow c.args.token r) c.in-No.is c.requires.why
    ∙ ap (λ (why : Why). tells.No why) (sym c.at.ensures)
