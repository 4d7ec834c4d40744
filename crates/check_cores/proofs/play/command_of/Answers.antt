use Rattle.std.proofs.Common.{IfOk, IfSome}
use Rattle.std.specs.Prelude.{Option, Result, Ok, Err}
use Rattle.bind_model.specs.Plain.{IsOf}
use Rattle.bind_model.specs.declared.commands.Command.{Command}
use Rattle.mj_schema.specs.declared.schema.Schema.{Schema}
use Rattle.check_cores.proofs.play.command_of.Goals as goal

-- what serves each schema serves this one
served : {E : Type 0} (schema : Schema) (result : Result (Option Command) E) → IfOk result (λ found. (s : Schema) → IfSome found (IsOf s))
    → IfOk result (λ found. IfSome found (IsOf schema))
served schema (Ok found) h = h schema
served schema (Err e) h = h

pub returns-in-Raw : goal.returns-in-Raw
returns-in-Raw c = served c.args.schema.now c.raw.result c.raw.ensures

pub returns-in_default : goal.returns-in_default
returns-in_default c = served c.args.schema.now c.moving_or_closing.result c.moving_or_closing.ensures
