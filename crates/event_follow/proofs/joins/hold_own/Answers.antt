use Rattle.std.proofs.Common.{Bool, ap, sym, ◌∙◌}
use Rattle.script_run.specs.Rooms.{filled_if}
use Rattle.event_follow.proofs.joins.hold_own.Goals as goal

pub returns-then-not-own : goal.returns-then-not-own
returns-then-not-own c = sym (ap (λ (b : Bool). filled_if b c.args.handles.now.items.items c.args.name c.args.thing) c.if-not-own.true)

pub returns : goal.returns
returns c =
    c.set.ensures ∙ sym (ap (λ (b : Bool). filled_if b c.args.handles.now.items.items c.args.name c.args.thing) c.if-not-own.false)
