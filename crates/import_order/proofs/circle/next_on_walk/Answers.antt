use Rattle.std.proofs.Common.{◌<◌, ℕ, length, get_or, [], sym}
use Rattle.std.specs.Prelude.{not}
use Rattle.import_order.specs.Imports.{has}
use Rattle.import_order.proofs.Walks.{leads_on, found_all, left_is}
use Rattle.import_order.proofs.circle.next_on_walk.Goals as goal

pub unreachable-requires : goal.unreachable-requires
unreachable-requires c =
    leads_on c.args.imports.now c.args.taken.now.numbers c.args.file c.requires.none_next c.requires.within c.requires.left (sym c.in-None.ensures)

pub returns-clause-within : goal.returns-clause-within
returns-clause-within c =
    found_all (λ (k : ℕ). k < length c.args.imports.now) (λ (k : ℕ). not (has c.args.taken.now.numbers k))
    (get_or c.args.imports.now c.args.file []) c.in-Some.next (c.requires.imports c.args.file)
    (sym c.in-Some.ensures)

pub returns-clause-left : goal.returns-clause-left
returns-clause-left c = left_is c.args.taken.now.numbers (get_or c.args.imports.now c.args.file []) c.in-Some.next (sym c.in-Some.ensures)
