-- Why bytes aren't moved.
use Rattle.std.specs.Prelude.{◌≡◌}
use Rattle.mj_base.specs.declared.ids.SeqId.{SeqId}
use Rattle.handle_table.specs.declared.thing.Thing.{Thing}
use Rattle.handle_table.specs.declared.thing.TokenId.{TokenId}
use Rattle.bind_model.specs.declared.asked.Asked.TheVariants as asks
use Rattle.bind_model.specs.declared.flow.Flow.{Flow}
use Rattle.bind_model.specs.declared.told.Told.TheVariants as tells
use Rattle.data_pipe.specs.History.{why_at}
use Rattle.data_pipe.specs.declared.refused.DataRefused.{DataRefused}
use Rattle.data_pipe.specs.declared.refused.DataRefused.TheVariants.{No, Memory}
use Rattle.core_state.specs.Doing.{told_to}
use Rattle.core_state.specs.declared.state.State.{State}

-- where a data pipe refuses for a reason, the history tells that
abbrev pub SaysWhy : State → SeqId → Thing → Flow → TokenId → DataRefused → Type 0
SaysWhy s seq thing flow token (No why) = told_to s seq (asks.Flow thing flow) ≡ tells.No (why_at token why)
SaysWhy s seq thing flow token Memory = Unit {0}
