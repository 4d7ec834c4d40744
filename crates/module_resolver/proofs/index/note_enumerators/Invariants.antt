use Rattle.std.proofs.Common.{◌≡◌, ℕ, length, take}
use Rattle.std.specs.List.{flat_map}
use Rattle.std.specs.Option.{option_map}
use Rattle.import_order.specs.Numbers.{number_of}
use Rattle.module_resolver.specs.declared.target.Target.TheVariants.{Enumerator}
use Rattle.module_resolver.specs.Enums.{names_in_enum}
use Rattle.module_resolver.specs.steps.Owners.{where_seen, Notes}
use Rattle.module_resolver.specs.Seats.{held}
use Rattle.module_resolver.specs.steps.Held.{IsSound, IsEntry}
use Rattle.module_resolver.proofs.index.note_enumerators.Given as goal

abbrev pub invariant-loop-one : goal.invariant-loop-one
invariant-loop-one l = record {
  sound : IsSound l.index;
  at : IsEntry l.index l.around l.at;
  first : l.first ≡ length (flat_map names_in_enum (take l.one-index l.enums));
  notes : Notes (held l.fn.index) (held l.index)
      (λ p q. where_seen p l.file (option_map (λ (n : ℕ). Enumerator l.file n) (number_of q (flat_map names_in_enum (take l.one-index l.enums)))));
}
