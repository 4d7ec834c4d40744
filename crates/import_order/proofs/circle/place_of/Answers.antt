use Rattle.std.proofs.Common.{arith}
use Rattle.import_order.proofs.Walks.{absent}
use Rattle.import_order.proofs.circle.place_of.Goals as goal

pub unreachable-requires : goal.unreachable-requires
unreachable-requires c =
    absent c.args.path.now c.args.file c.requires
    (λ k lt. c.loop-place.invariant k (let le = c.loop-place-test.false in omega (arith, lt, le)))
