use Rattle.std.proofs.Common.{ap, sym, ◌∙◌}
use Rattle.bind_model.specs.declared.told.Told.TheVariants as tells
use Rattle.core_ends.proofs.Pended.{made_told, next, told_of_why}
use Rattle.event_tables.specs.AsCore.{state_of}
use Rattle.event_tables.proofs.binding.associate.Goals as goal

pub refuse-requires-clause-why : goal.refuse-requires-clause-why
refuse-requires-clause-why c =
    let s = state_of c.args.tables.now in
    sym (made_told s c.args.seq c.requires c.args.end c.args.side c.args.interface)
    ∙ ap (told_of_why (tells.Associated (next s c.args.seq c.requires c.args.end c.args.side c.args.interface)))
    (sym c.not_associated.ensures ∙ c.in-Some.is)

pub make-requires-clause-told : goal.make-requires-clause-told
make-requires-clause-told c =
    let s = state_of c.args.tables.now in
    sym (made_told s c.args.seq c.requires c.args.end c.args.side c.args.interface)
    ∙ ap (told_of_why (tells.Associated (next s c.args.seq c.requires c.args.end c.args.side c.args.interface)))
    (sym c.not_associated.ensures ∙ c.in-None.is)
