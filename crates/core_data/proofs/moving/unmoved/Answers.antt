use Rattle.std.proofs.Common.{ap, subst, sym, ◌∙◌}
use Rattle.bind_model.specs.declared.told.Told.TheVariants as tells
use Rattle.bind_model.specs.declared.told.Why.{Why}
use Rattle.data_pipe.specs.declared.refused.DataRefused.{DataRefused}
use Rattle.core_data.specs.steps.Moved.{SaysWhy}
use Rattle.core_data.proofs.moving.unmoved.Goals as goal

pub refuse_moved-requires-clause-why : goal.refuse_moved-requires-clause-why
refuse_moved-requires-clause-why c =
    subst (λ (r : DataRefused). SaysWhy c.args.state.now c.args.seq c.args.moved c.args.token r) c.in-No.is c.requires.why
    ∙ ap (λ (why : Why). tells.No why) (sym c.at.ensures)
