use Rattle.import_order.proofs.Leading.{are_imports, part_below}
use Rattle.import_order.proofs.file_order.circular.Goals as goal

pub find_circle-requires-clause-imports : goal.find_circle-requires-clause-imports
find_circle-requires-clause-imports c = are_imports c.args.files.now c.args.imports.now c.requires.imports

pub names_at-requires : goal.names_at-requires
names_at-requires c =
    part_below c.args.files.now c.args.imports.now c.in_ok-circle.circle.path.items c.as_slice-path.result.now c.in_ok-circle.circle.first _
    c.requires.imports c.in_ok-circle.ensures.below c.as_slice-path.ensures.value
