use Rattle.std.proofs.Common.{sym}
use Rattle.call_script.proofs.TableLemmas.{found_front, found_behind, found_nowhere}
use Rattle.call_script.proofs.name_table.find.Goals as goal

pub returns-in_default-clause-none : goal.returns-in_default-clause-none
returns-in_default-clause-none c = found_nowhere c.args.table.now c.args.count c.args.text.now (sym c.in_default.ensures.value)

pub returns-then-number-count-clause-found : goal.returns-then-number-count-clause-found
returns-then-number-count-clause-found c =
    found_front c.args.table.now c.args.count c.args.text.now _ (sym c.in-Some.ensures.value) c.if-number-count.true

pub returns-else-number-count-clause-none : goal.returns-else-number-count-clause-none
returns-else-number-count-clause-none c =
    found_behind c.args.table.now c.args.count c.args.text.now _ (sym c.in-Some.ensures.value) c.if-number-count.false
