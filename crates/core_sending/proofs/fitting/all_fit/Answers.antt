use Rattle.core_sending.proofs.Fitted.{fit_apart}
use Rattle.core_sending.proofs.fitting.all_fit.Goals as goal

pub returns-then-pendings-wants : goal.returns-then-pendings-wants
returns-then-pendings-wants c = fit_apart c.args.endpoints.now c.args.pendings.now c.args.wants.now c.if-pendings-wants.true
