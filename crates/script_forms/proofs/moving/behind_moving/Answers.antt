use Rattle.script_forms.proofs.Behind.{flow_ok, moving_ok}
use Rattle.script_forms.proofs.moving.behind_moving.Goals as goal

pub returns-then-eq : goal.returns-then-eq
returns-then-eq c = moving_ok c.args.command.now _ _ c.data_of.result (rw c.as_slice.ensures at c.if-eq.ensures) c.data_of.ensures

pub returns : goal.returns
returns c = flow_ok c.args.command.now _ (rw c.as_slice.ensures at c.if-eq.ensures) c.flow_of.result c.flow_of.ensures
