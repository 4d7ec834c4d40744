use Rattle.std.proofs.Common.{refl}
use Rattle.module_resolver.proofs.Held.{noted}
use Rattle.module_resolver.proofs.Owned.{on_ok_then}
use Rattle.module_resolver.proofs.name_index.NameIndex.note.Goals as goal

pub returns : goal.returns
returns c =
    on_ok_then c.add_owner.result
    (λ adds.
    noted c.args.self.now _ c.args.entry c.args.target refl c.requires.sound c.requires.there c.requires.measured c.in_ok-mark.ensures
    adds)
    c.add_owner.ensures
