use Rattle.std.proofs.Common.{◌≡◌, ℕ, [], take, map, get_or}
use Rattle.std.specs.Prelude.{Some}
use Rattle.module_resolver.specs.NamesOf.{texts_from}
use Rattle.module_resolver.specs.Seats.{node_of}
use Rattle.module_resolver.specs.steps.Held.{Entered}
use Rattle.module_resolver.proofs.module_nodes.nodes_from.Given as goal

abbrev pub invariant-loop-part : goal.invariant-loop-part
invariant-loop-part l = record {
  entered : Entered l.fn.index l.index;
  before : map (node_of l.index 0) (take l.part-index (texts_from l.first.text l.rest)) ≡ map (λ (n : ℕ). Some n) l.nodes.items;
  here : node_of l.index 0 (get_or (texts_from l.first.text l.rest) l.part-index []) ≡ Some l.node;
}
