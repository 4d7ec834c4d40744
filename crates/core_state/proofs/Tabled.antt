-- What is kept of controls and of data pipes stays what the events say.
use Rattle.std.proofs.Common.{◌≡◌, Bool, false, List, ◌∷◌, sym, subst}
use Rattle.std.specs.Prelude.{◌||◌}
use Rattle.handle_table.proofs.ThingsLemmas.{not_left, not_right}
use Rattle.bind_model.specs.declared.asked.Asked.{Asked}
use Rattle.bind_model.specs.declared.event.Event.{Event}
use Rattle.bind_model.specs.declared.told.Told.{Told}
use Rattle.data_pipe.specs.Agreement.{DataAgrees}
use Rattle.data_pipe.specs.steps.MovesData.{moves_data}
use Rattle.data_pipe.specs.Table.{Lines}
use Rattle.data_pipe.proofs.Agreeing.{data_quiet}
use Rattle.end_notices.specs.Agreement.{AllAgree as NoticesAgree}
use Rattle.end_notices.proofs.Quieting.{all_quiet, stirs}
use Rattle.core_state.specs.Agreement.{TablesAgree}
use Rattle.core_state.specs.declared.tables.Tables.{Tables}

-- whether an event is of a control that ends write, or of a data pipe
abbrev pub stirs_any : Told → Asked → Bool
stirs_any told asked = stirs told asked || moves_data told asked

-- one that is of neither leaves all
pub tables_quiet : (event : Event) (past : List Event) (tables : Tables) → stirs_any event.told event.asked ≡ false → TablesAgree past tables
    → TablesAgree (event ∷ past) tables
tables_quiet event past tables still a = record {
  notices = all_quiet event past tables.notices (not_left (stirs event.told event.asked) (moves_data event.told event.asked) still) a.notices;
  flows = data_quiet event past tables.flows (not_right (stirs event.told event.asked) (moves_data event.told event.asked) still) a.flows;
}

-- one that is of no data pipe leaves these
pub tables_noted : (event : Event) (past : List Event) (old new : Tables) → new.flows ≡ old.flows → moves_data event.told event.asked ≡ false
    → NoticesAgree (event ∷ past) new.notices → TablesAgree past old → TablesAgree (event ∷ past) new
tables_noted event past old new same still noted a = record {
  notices = noted;
  flows = subst (λ (lines : Lines). DataAgrees (event ∷ past) lines) (sym same) (data_quiet event past old.flows still a.flows);
}
