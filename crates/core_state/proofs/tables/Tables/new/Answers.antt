use Rattle.std.proofs.Common.{[], subst, sym}
use Rattle.data_pipe.specs.Agreement.{DataAgrees}
use Rattle.data_pipe.specs.Table.{Lines as FlowLines}
use Rattle.data_pipe.proofs.Agreeing.{none_agree as no_flows}
use Rattle.end_notices.specs.Agreement.{AllAgree as NoticesAgree}
use Rattle.end_notices.specs.Table.{Lines}
use Rattle.end_notices.proofs.Quieting.{none_agree}
use Rattle.core_state.proofs.tables.Tables.new.Goals as goal

pub returns : goal.returns
returns c = record {
  notices = subst (λ (lines : Lines). NoticesAgree [] lines) (sym c.new.ensures) none_agree;
  flows = subst (λ (lines : FlowLines). DataAgrees [] lines) (sym c.new-2.ensures) no_flows;
}
