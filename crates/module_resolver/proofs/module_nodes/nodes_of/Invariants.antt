use Rattle.std.proofs.Common.{◌≡◌, ℕ, List, take, map}
use Rattle.std.specs.Prelude.{Some}
use Rattle.module_resolver.specs.NamesOf.{module_fronts}
use Rattle.module_resolver.specs.Seats.{node_of}
use Rattle.module_resolver.specs.steps.Held.{Entered}
use Rattle.module_resolver.proofs.module_nodes.nodes_of.Given as goal

abbrev pub invariant-loop-file : goal.invariant-loop-file
invariant-loop-file l = record {
  entered : Entered l.fn.index l.index;
  are : map (λ f. map (node_of l.index 0) (module_fronts f.tree.module_statement)) (take l.file-index l.files)
      ≡ map (λ (ns : List ℕ). map (λ (n : ℕ). Some n) ns) l.nodes.items;
}
