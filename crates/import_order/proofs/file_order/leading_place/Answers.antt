use Rattle.std.proofs.Common.{sym}
use Rattle.import_order.proofs.Leading.{are_imports, place_there, leads_at}
use Rattle.import_order.proofs.file_order.leading_place.Goals as goal

pub next_on_walk-next-requires-clause-imports : goal.next_on_walk-next-requires-clause-imports
next_on_walk-next-requires-clause-imports c = are_imports c.args.files.now c.args.imports.now c.requires.imports

pub unreachable-requires : goal.unreachable-requires
unreachable-requires c =
    place_there c.args.files.now c.args.table.now c.args.imports.now c.args.taken.now.numbers c.args.file c.next_on_walk-next.result
    c.index-files-file.result c.requires.named c.requires.imports c.requires.within c.index-files-file.is
    c.next_on_walk-next.ensures.leads
    (sym c.in-None.ensures)

pub returns : goal.returns
returns c =
    leads_at c.args.files.now c.args.table.now c.args.imports.now c.args.taken.now.numbers c.args.file c.next_on_walk-next.result
    c.in-Some.at c.index-files-file.result c.requires.named c.requires.imports c.requires.within
    c.index-files-file.is
    c.next_on_walk-next.ensures.leads
    c.in-Some.ensures
