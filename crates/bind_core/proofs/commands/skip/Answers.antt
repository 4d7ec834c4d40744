use Rattle.std.proofs.Common.{refl}
use Rattle.core_state.specs.Agreement.{past_of, wire_in}
use Rattle.core_state.proofs.Still.{skipped}
use Rattle.core_state.proofs.Held.{finish}
use Rattle.bind_core.proofs.commands.skip.Goals as goal

pub returns : goal.returns
returns c =
    finish c.args.state.now _ c.args.seq _ _ c.requires.able refl refl refl refl
    (record { none = refl; handed = λ wire. refl; after = λ rs. refl; gives = refl; hands = refl; halves = λ wire past. refl })
    refl
    c.push_reserved.ensures.events refl
    (skipped (wire_in c.args.state.now) (past_of c.args.state.now) c.args.seq _ c.args.state.now.pipes c.args.state.now.endpoints c.requires.able.holds.agrees)
    tt
