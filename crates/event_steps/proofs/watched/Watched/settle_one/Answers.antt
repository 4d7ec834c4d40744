use Rattle.std.proofs.Common.{Bool, sym, ap, ◌∙◌}
use Rattle.std.specs.Prelude.{not, is_some, Option}
use Rattle.mj_base.specs.declared.ids.SeqId.{SeqId}
use Rattle.event_tables.specs.AsCore.{state_of}
use Rattle.bind_core.proofs.Settled.{unready_left}
use Rattle.event_steps.proofs.watched.Watched.settle_one.Goals as goal

pub returns-then-is_none : goal.returns-then-is_none
returns-then-is_none c =
    unready_left (state_of c.args.tables.now) c.args.end c.args.self.now c.remove.new.self
    (ap (λ (taker : Option SeqId). is_some taker) (sym c.ready_taker.ensures) ∙ (c.is_none.ensures ∙ ap (λ (b : Bool). not b) c.if-is_none.true))
    c.remove.ensures
