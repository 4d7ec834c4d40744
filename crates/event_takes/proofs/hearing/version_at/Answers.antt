use Rattle.std.proofs.Common.{ap, ◌∙◌}
use Rattle.std.specs.Prelude.{Option}
use Rattle.mj_schema.specs.declared.schema.Schema.{Schema}
use Rattle.bind_model.specs.Replies.{version_of}
use Rattle.bind_model.specs.WireOf.{wire_of}
use Rattle.bind_model.specs.declared.endpoint.Endpoint.{Endpoint}
use Rattle.core_state.specs.Agreement.{wire_in}
use Rattle.core_state.proofs.Steady.{found_is}
use Rattle.event_tables.specs.AsCore.{state_of}
use Rattle.event_takes.proofs.hearing.version_at.Goals as goal

pub returns : goal.returns
returns c =
    c.version_of.ensures
    ∙ ap (λ (schema : Schema). version_of (wire_of schema) c.find.result) c.deref.ensures
    ∙ ap (λ (o : Option Endpoint). version_of (wire_in (state_of c.args.tables.now)) o) (c.find.ensures ∙ found_is c.requires.agrees c.args.end c.args.id)
