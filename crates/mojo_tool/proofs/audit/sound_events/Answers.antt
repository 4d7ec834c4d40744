use Rattle.std.proofs.Common.{refl}
use Rattle.mojo_tool.proofs.Histories.{short_is, tail_is, wrong_is}
use Rattle.mojo_tool.proofs.audit.sound_events.Goals as goal

pub returns-in-Wrong-clause-unsound : goal.returns-in-Wrong-clause-unsound
returns-in-Wrong-clause-unsound c = (refl, wrong_is c.args.answer _ c.in-Wrong.is)

pub returns-in-Short-clause-unsound : goal.returns-in-Short-clause-unsound
returns-in-Short-clause-unsound c = (refl, short_is c.args.answer _ c.in-Short.is)

pub returns-in-Tail-clause-unsound : goal.returns-in-Tail-clause-unsound
returns-in-Tail-clause-unsound c = (refl, tail_is c.args.answer _ c.in-Tail.is)
