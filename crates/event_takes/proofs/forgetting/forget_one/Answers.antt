use Rattle.std.proofs.Common.{sym, ◌∙◌}
use Rattle.core_state.proofs.Pausing.{forgot_one}
use Rattle.event_takes.proofs.forgetting.forget_one.Goals as goal

pub returns : goal.returns
returns c =
    forgot_one c.args.pipes.now c.args.notices.now c.forget.new.self c.args.end c.in-Some.wait (sym c.first_wait.ensures ∙ c.in-Some.is)
    (sym c.is_met.ensures ∙ c.if-not-is_met.false) c.forget.ensures
