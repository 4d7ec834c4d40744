use Rattle.std.proofs.Common.{ap, sym, ◌∙◌}
use Rattle.bind_model.specs.declared.told.Told.TheVariants as tells
use Rattle.core_ends.proofs.Pended.{made_told, next, told_of_why}
use Rattle.core_ends.proofs.associate.associate.Goals as goal

pub refuse-requires-clause-why : goal.refuse-requires-clause-why
refuse-requires-clause-why c =
    let s = c.args.state.now in
    sym (made_told s c.args.seq c.requires.able c.args.end c.args.side c.args.interface)
    ∙ ap (told_of_why (tells.Associated (next s c.args.seq c.requires.able c.args.end c.args.side c.args.interface))) (sym c.why_not.ensures ∙ c.in-Some.is)

pub make-requires-clause-told : goal.make-requires-clause-told
make-requires-clause-told c =
    let s = c.args.state.now in
    sym (made_told s c.args.seq c.requires.able c.args.end c.args.side c.args.interface)
    ∙ ap (told_of_why (tells.Associated (next s c.args.seq c.requires.able c.args.end c.args.side c.args.interface))) (sym c.why_not.ensures ∙ c.in-None.is)
