use Rattle.std.proofs.Common.{◌∙◌, arith}
use Rattle.import_order.proofs.Leading.{as_many, are_imports}
use Rattle.import_order.proofs.file_order.taken_order.Goals as goal

pub take_all-requires-clause-few : goal.take_all-requires-clause-few
take_all-requires-clause-few c =
    let many = as_many c.args.files.now c.as_slice-list.result.now (c.as_slice-list.ensures.value ∙ c.in_ok-imports.ensures) in
    omega arith

pub take_all-requires-clause-imports : goal.take_all-requires-clause-imports
take_all-requires-clause-imports c =
    are_imports c.args.files.now c.as_slice-list.result.now (c.as_slice-list.ensures.value ∙ c.in_ok-imports.ensures)

pub ordered_or_circular-requires-clause-imports : goal.ordered_or_circular-requires-clause-imports
ordered_or_circular-requires-clause-imports c = c.as_slice-list.ensures.value ∙ c.in_ok-imports.ensures
