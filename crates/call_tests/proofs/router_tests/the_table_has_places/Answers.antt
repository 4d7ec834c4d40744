use Rattle.std.proofs.Common.{ap}
use Rattle.endpoint_router.specs.Table.{Table, router_of}
use Rattle.call_tests.proofs.router_tests.the_table_has_places.Goals as goal

pub put_one-requires : goal.put_one-requires
put_one-requires g c = λ x. ap (λ (t : Table). router_of t x) c.new-first.ensures

pub associate_one-requires : goal.associate_one-requires
associate_one-requires g c = λ x. ap (λ (t : Table). router_of t x) c.new-second.ensures
