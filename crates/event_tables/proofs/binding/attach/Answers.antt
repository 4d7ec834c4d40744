use Rattle.std.proofs.Common.{ap, sym, ◌∙◌}
use Rattle.bind_model.specs.declared.told.Told.TheVariants as tells
use Rattle.core_ends.proofs.Pended.{attach_told, told_of_why}
use Rattle.event_tables.specs.AsCore.{state_of}
use Rattle.event_tables.proofs.binding.attach.Goals as goal

pub refuse-requires-clause-why : goal.refuse-requires-clause-why
refuse-requires-clause-why c =
    sym (attach_told (state_of c.args.tables.now) c.args.seq c.requires c.args.id c.args.on)
    ∙ ap (told_of_why (tells.Attached c.args.id.id)) (sym c.not_attached.ensures ∙ c.in-Some.is)

pub attach_free-requires-clause-free : goal.attach_free-requires-clause-free
attach_free-requires-clause-free c = sym c.not_attached.ensures ∙ c.in-None.is
