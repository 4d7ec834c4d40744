use Rattle.std.proofs.Common.{take}
use Rattle.std.specs.Prelude.{nat_eq}
use Rattle.indexmap.specs.IndexMap.{get}
use Rattle.call_script.specs.steps.Interfaces.{number_at, AreKept, AreNumbered, StandsAt}
use Rattle.call_script.proofs.indexed_schema.number_all.Given as goal

-- the interfaces that were passed are numbered, and the module of the last of them is at hand
abbrev pub invariant-loop-number : goal.invariant-loop-number
invariant-loop-number l = record {
  kept : AreKept l.tree (get nat_eq l.numbers);
  stands : StandsAt l.tree l.around l.at;
  numbered : AreNumbered (number_at l.tree (get nat_eq l.numbers)) (take l.number l.fn.interfaces);
}
