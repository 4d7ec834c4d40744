use Rattle.std.proofs.Common.{Option, Some, None, IfNone, sym, ◌∙◌}
use Rattle.response_map.proofs.Ranges.{none_from, first_found, none_behind}
use Rattle.response_map.proofs.settled.first_of.Goals as goal

if_none : {A : Type 0} (o : Option A) (P : Type 0) → P → IfNone o P
if_none None P p = p
if_none (Some x) P p = tt

pub returns-in_err-key-clause-none : goal.returns-in_err-key-clause-none
returns-in_err-key-clause-none g c = if_none c.from_residual.result _
    (none_from c.args.scope c.least.result c.args.callbacks.now c.range.result c.least.ensures (c.range.ensures.in_range tt) c.in_err-key.ensures.steps.0)

pub returns-then-has-clause-found : goal.returns-then-has-clause-found
returns-then-has-clause-found g c = (
  sym c.has.ensures ∙ c.if-has.true,
  first_found c.least.result c.args.callbacks.now c.range.result c.in_ok-key.key.now c.in_ok-key._callback.now c.next.new.self
      (c.range.ensures.in_range tt) c.in_ok-key.ensures.steps,
)

pub returns-else-has-clause-none : goal.returns-else-has-clause-none
returns-else-has-clause-none g c =
    none_behind c.args.scope c.least.result c.args.callbacks.now c.range.result c.in_ok-key.key.now c.in_ok-key._callback.now c.next.new.self
    c.least.ensures (c.range.ensures.in_range tt) c.in_ok-key.ensures.steps (sym c.has.ensures ∙ c.if-has.false)
