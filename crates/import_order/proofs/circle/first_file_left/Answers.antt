use Rattle.std.proofs.Common.{◌∙◌, ap, sym, arith}
use Rattle.std.specs.Prelude.{not}
use Rattle.import_order.specs.Imports.{has}
use Rattle.import_order.proofs.Firsts.{find_found, find_nowhere}
use Rattle.import_order.proofs.circle.first_file_left.Goals as goal

pub returns-then-not-has : goal.returns-then-not-has
returns-then-not-has c =
    sym
    (find_found (λ file. not (has c.args.taken.now.numbers file)) c.args.count c.loop-file.file c.loop-file-test.true c.loop-file.invariant
    (ap not (sym c.has.ensures.is ∙ c.if-not-has.true)))

pub returns : goal.returns
returns c =
    sym (find_nowhere (λ file. not (has c.args.taken.now.numbers file)) c.args.count
    (λ k lt. c.loop-file.invariant k (let le = c.loop-file-test.false in omega (arith, lt, le))))
