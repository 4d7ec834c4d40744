use Rattle.std.proofs.Common.{◌∷◌, ◌∙◌, sym, refl, ap, ◌++◌, []}
use Rattle.bind_model.specs.declared.asked.Asked.{Asked}
use Rattle.bind_model.specs.declared.told.Told.TheVariants.{No}
use Rattle.bind_model.specs.Plain.{asked_of}
use Rattle.core_state.specs.Agreement.{past_of, wire_in}
use Rattle.core_state.proofs.Still.{refused}
use Rattle.core_state.proofs.Held.{finish}
use Rattle.core_state.proofs.state.refuse.Goals as goal

pub returns-clause-done : goal.returns-clause-done
returns-clause-done c =
    finish c.args.state.now _ c.args.seq c.args.command _ c.requires.can.able refl refl refl refl
    (record { none = refl; handed = λ wire. refl; after = λ rs. refl; gives = refl; hands = refl; halves = λ wire past. refl })
    refl
    (c.push_reserved.ensures.events
    ∙ ap (λ (a : Asked). c.args.state.now.log.events ++ record { seq = c.args.seq; asked = a; told = No c.args.why } ∷ [])
    c.requires.asked)
    (sym c.requires.why)
    (refused (wire_in c.args.state.now) (past_of c.args.state.now) c.args.seq
    (asked_of c.args.command) c.args.why c.args.state.now.pipes c.args.state.now.endpoints c.requires.can.able.holds.agrees)
    refl
