use Rattle.std.proofs.Common.{List, ap}
use Rattle.mj_base.specs.declared.ids.EndId.{EndId}
use Rattle.endpoint_router.specs.Plain.{router_in}
use Rattle.endpoint_router.specs.Rows.{Contents}
use Rattle.call_tests.proofs.router_tests.the_plain_form_has_places.Goals as goal

pub put_one-requires : goal.put_one-requires
put_one-requires g c = λ x. ap (λ (all : List (EndId × Contents)). router_in all x) c.new-first.ensures

pub associate_one-requires : goal.associate_one-requires
associate_one-requires g c = λ x. ap (λ (all : List (EndId × Contents)). router_in all x) c.new-second.ensures
