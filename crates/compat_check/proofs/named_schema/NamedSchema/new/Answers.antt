use Rattle.compat_check.proofs.Named.{all_named}
use Rattle.compat_check.proofs.named_schema.NamedSchema.new.Goals as goal

pub returns-clause-named : goal.returns-clause-named
returns-clause-named c =
    all_named c.args.schema.now c.in_ok-structs.structs c.in_ok-unions.unions c.in_ok-enums.enums c.in_ok-interfaces.interfaces c.in_ok-structs.ensures
    c.in_ok-unions.ensures c.in_ok-enums.ensures c.in_ok-interfaces.ensures
