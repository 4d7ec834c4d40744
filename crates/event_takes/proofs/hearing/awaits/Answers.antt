use Rattle.std.proofs.Common.{ap, ℕ, ◌∙◌}
use Rattle.std.specs.Prelude.{Option}
use Rattle.bind_model.specs.declared.endpoint.Endpoint.{Endpoint}
use Rattle.end_notices.specs.Agreement.{is_awaited}
use Rattle.end_notices.specs.Table.{notices_at}
use Rattle.core_taking.proofs.Obeying.{awaited_is}
use Rattle.event_tables.specs.AsCore.{state_of}
use Rattle.event_takes.proofs.hearing.awaits.Goals as goal

pub returns : goal.returns
returns c =
    let s = (state_of c.args.tables.now) in
    c.is_awaited.ensures
    ∙ (ap (λ (n : ℕ). is_awaited n c.find.result) c.queries.ensures
    ∙ (ap (λ (o : Option Endpoint). is_awaited ((notices_at s.tables.notices c.args.end).queries c.args.id) o) c.find.ensures
    ∙ awaited_is s c.requires c.args.end c.args.id))
