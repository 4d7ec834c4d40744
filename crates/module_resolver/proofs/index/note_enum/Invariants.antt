use Rattle.std.proofs.Common.{◌+◌, ℕ, take, map}
use Rattle.std.specs.Option.{option_map}
use Rattle.import_order.specs.Numbers.{number_of}
use Rattle.mj_base.specs.Names.{within}
use Rattle.module_resolver.specs.declared.target.Target.TheVariants.{Enumerator}
use Rattle.module_resolver.specs.steps.Owners.{where_seen, Notes}
use Rattle.module_resolver.specs.Seats.{held}
use Rattle.module_resolver.specs.steps.Held.{IsSound, IsEntry, KeepsNodes}
use Rattle.module_resolver.proofs.index.note_enum.Given as goal

abbrev pub invariant-loop-place : goal.invariant-loop-place
invariant-loop-place l = record {
  sound : IsSound l.index;
  nodes : KeepsNodes l.fn.index l.index;
  inner : IsEntry l.index l.one.outer l.inner;
  notes : Notes (held l.fn.index) (held l.index)
      (λ p q. where_seen p l.file (option_map (λ (n : ℕ). Enumerator l.file (l.first + n)) (number_of q (take l.place (map (within l.one.outer) l.names)))));
}
