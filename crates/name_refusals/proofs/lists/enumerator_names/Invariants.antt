use Rattle.std.proofs.Common.{◌≡◌, take, map}
use Rattle.name_refusals.proofs.lists.enumerator_names.Given as goal

abbrev pub invariant-loop-enumerator : goal.invariant-loop-enumerator
invariant-loop-enumerator l = map (λ n. n.now) l.names.items ≡ map (λ e. e.name) (take l.enumerator-index l.enumerators)
