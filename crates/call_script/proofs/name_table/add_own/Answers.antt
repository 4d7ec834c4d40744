use Rattle.call_script.proofs.TableLemmas.{own_set}
use Rattle.call_script.proofs.name_table.add_own.Goals as goal

pub returns-then-not-are_free : goal.returns-then-not-are_free
returns-then-not-are_free c = own_set c.args.table.now c.args.table.now c.args.seq _ (rw c.if-not-are_free.true at c.are_free.ensures)
