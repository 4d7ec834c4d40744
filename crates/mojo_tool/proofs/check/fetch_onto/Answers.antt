use Rattle.mojo_tool.proofs.Made.{one_unfetched}
use Rattle.mojo_tool.proofs.From.{ended_from}
use Rattle.mojo_tool.proofs.check.fetch_onto.Goals as goal

pub returns-in-Err-clause-stopped : goal.returns-in-Err-clause-stopped
returns-in-Err-clause-stopped g c = one_unfetched c.args.name.now c.in-Err.stop _ _ c.in-Err.ensures.ended

pub returns-in-Err-clause-long : goal.returns-in-Err-clause-long
returns-in-Err-clause-long g c = ended_from (λ work. ⊥) c.args.name.now c.in-Err.stop _ _ c.in-Err.ensures.ended
