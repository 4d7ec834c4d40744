use Rattle.std.proofs.Common.{◌≡◌, take, map}
use Rattle.module_resolver.proofs.gather.full_names.Given as goal

abbrev pub invariant-loop-view : goal.invariant-loop-view
invariant-loop-view l = l.names.items ≡ map (λ d. d.full) (take l.view-index l.views)
