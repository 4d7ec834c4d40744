use Rattle.std.proofs.Common.{sym}
use Rattle.std.specs.Prelude.{nat_eq}
use Rattle.indexmap.specs.IndexMap.{get}
use Rattle.call_script.proofs.Interfaces.{stays_kept, more_kept}
use Rattle.call_script.proofs.indexed_schema.keep.Goals as goal

pub returns-in-Some : goal.returns-in-Some
returns-in-Some c =
    stays_kept (get nat_eq c.args.numbers.now) c.args.node c.args.number c.in-Some._first.now (sym c.in-Some.ensures.value)

pub returns : goal.returns
returns c =
    more_kept (get nat_eq c.args.numbers.now) (get nat_eq c.insert.new.self) c.args.node c.args.number (sym c.in_default.ensures.value)
    c.in_ok-insert.ensures.updates.0
