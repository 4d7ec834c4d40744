use Rattle.std.proofs.Common.{inr, arith}
use Rattle.import_order.proofs.Leading.{as_many, ordered}
use Rattle.import_order.proofs.file_order.ordered_or_circular.Goals as goal

pub first_file_left-requires : goal.first_file_left-requires
first_file_left-requires c =
    let many = as_many c.args.files.now c.args.imports.now c.requires.imports in
    omega arith

pub returns-in_ok-circular-in-Some-clause-refused : goal.returns-in_ok-circular-in-Some-clause-refused
returns-in_ok-circular-in-Some-clause-refused c = inr (c.requires.none, c.in_ok-circular-in-Some.ensures)

pub returns-in-None-clause-ok : goal.returns-in-None-clause-ok
returns-in-None-clause-ok c =
    ordered c.args.files.now c.args.imports.now c.args.taken.numbers c.into_vec.result.items c.requires.imports c.requires.none c.requires.whole
    c.in-None.ensures c.into_vec.ensures
