use Rattle.std.proofs.Common.{ℕ, take}
use Rattle.std.specs.Option.{option_map}
use Rattle.import_order.specs.Numbers.{number_of}
use Rattle.module_resolver.specs.declared.target.Target.TheVariants.{Definition}
use Rattle.module_resolver.specs.steps.Owners.{where_seen, Notes}
use Rattle.module_resolver.specs.Seats.{held}
use Rattle.module_resolver.specs.steps.Held.{IsSound, IsEntry}
use Rattle.module_resolver.proofs.index.note_definitions.Given as goal

abbrev pub invariant-loop-number : goal.invariant-loop-number
invariant-loop-number l = record {
  sound : IsSound l.index;
  at : IsEntry l.index l.around l.at;
  notes : Notes (held l.fn.index) (held l.index)
      (λ p q. where_seen p l.file (option_map (λ (n : ℕ). Definition l.file n) (number_of q (take l.number l.names))));
}
