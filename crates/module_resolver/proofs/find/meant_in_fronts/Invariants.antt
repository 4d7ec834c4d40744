use Rattle.std.proofs.Common.{◌≡◌, ◌-◌, length, drop, map, [], ◌∷◌, ◌++◌}
use Rattle.std.specs.Prelude.{None}
use Rattle.mj_base.specs.Names.{within}
use Rattle.mojom_files.specs.Refusals.{first_of}
use Rattle.import_order.specs.Imports.{has}
use Rattle.module_resolver.specs.LookUp.{candidates}
use Rattle.module_resolver.specs.Seats.{owner, held}
use Rattle.module_resolver.proofs.find.meant_in_fronts.Given as goal

abbrev pub invariant-loop-next : goal.invariant-loop-next
invariant-loop-next l =
    first_of (owner (held l.index) (has l.here.seen)) (candidates None l.here.fronts l.name)
    ≡ first_of (owner (held l.index) (has l.here.seen)) (map (λ outer. within outer l.name) (drop l.number l.here.fronts) ++ l.name ∷ [])

abbrev pub decreases-loop-next : goal.decreases-loop-next
decreases-loop-next l = length l.here.fronts - l.number
