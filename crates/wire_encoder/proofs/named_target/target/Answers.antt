use Rattle.std.proofs.Common.{subst, sym}
use Rattle.std.specs.Prelude.{Option, IfSome}
use Rattle.wire_model.specs.declared.target.Target.{Target}
use Rattle.wire_encoder.specs.Prepared.{HasTarget}
use Rattle.wire_encoder.proofs.TargetsThere.{there}
use Rattle.wire_encoder.proofs.named_target.target.Goals as goal

pub returns-clause-there : goal.returns-clause-there
returns-clause-there c =
    subst (λ (o : Option Target). IfSome o (HasTarget c.args.schema.now)) (sym c.target_of.ensures)
    (there c.args.schema.now c.in_ok-number.number c.args.method.now c.args.side c.in_ok-row.row.now (sym c.in_ok-row.ensures))
