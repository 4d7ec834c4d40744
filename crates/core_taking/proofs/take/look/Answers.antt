use Rattle.std.proofs.Common.{subst}
use Rattle.std.specs.Prelude.{IfOk}
use Rattle.bind_model.specs.declared.told.Told.{Told}
use Rattle.core_taking.specs.Founds.{Tells}
use Rattle.core_state.specs.Agreement.{past_of, wire_in}
use Rattle.core_taking.specs.declared.reading.Found.{Found}
use Rattle.core_taking.proofs.Looking.{front_read, front_refused}
use Rattle.core_taking.proofs.take.look.Goals as goal

pub returns-in-Ok : goal.returns-in-Ok
returns-in-Ok c =
    subst (λ (t : Told). IfOk c.read.result (λ (found : Found). Tells (wire_in c.args.state.now) (past_of c.args.state.now) c.args.end found t))
    (front_read c.args.state.now c.requires c.args.end c.args.seq _ c.in-Ok.ensures.ok) c.read.ensures

pub returns-in-Err : goal.returns-in-Err
returns-in-Err c = front_refused c.args.state.now c.requires c.args.end c.args.seq _ c.in-Err.ensures.err
