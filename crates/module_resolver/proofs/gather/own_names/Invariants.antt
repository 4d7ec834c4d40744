use Rattle.std.proofs.Common.{◌≡◌, take, map}
use Rattle.module_resolver.proofs.gather.own_names.Given as goal

abbrev pub invariant-loop-enumerator : goal.invariant-loop-enumerator
invariant-loop-enumerator l = l.names.items ≡ map (λ e. e.name.text) (take l.enumerator-index l.enumerators)
