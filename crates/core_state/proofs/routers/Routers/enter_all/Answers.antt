use Rattle.std.proofs.Common.{subst, sym}
use Rattle.core_state.specs.Entries.{AllEnterAt, AreNew}
use Rattle.core_state.specs.Routers.{Routers, router_at}
use Rattle.core_state.proofs.routers.Routers.enter_all.Goals as goal

pub enter_all-requires : goal.enter_all-requires
enter_all-requires c = subst (λ (r : Routers). AreNew (router_at r c.args.end) c.args.entries.now) (sym c.self.view_is) c.requires

pub returns : goal.returns
returns c = subst (λ (r : Routers). AllEnterAt c.args.entries.now c.args.end r c.enter_all.new.table) c.self.view_is c.enter_all.ensures
