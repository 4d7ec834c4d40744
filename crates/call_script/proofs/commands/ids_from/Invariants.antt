use Rattle.std.proofs.Common.{◌≡◌}
use Rattle.std.specs.Prelude.{map}
use Rattle.std.specs.List.{range_with_len}
use Rattle.call_script.specs.declared.script.NameId.{NameId}
use Rattle.call_script.proofs.commands.ids_from.Given as goal

abbrev pub invariant-loop-k : goal.invariant-loop-k
invariant-loop-k l = map (λ (id : NameId). id.0) l.ids.items ≡ range_with_len l.first l.k
