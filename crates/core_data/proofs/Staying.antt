-- A data pipe that tells why nothing is moved stays as it was, and so does the state.
use Rattle.std.specs.Prelude.{Result, Ok, Err, IfOk, IfErr}
use Rattle.mj_base.specs.declared.ids.SeqId.{SeqId}
use Rattle.bind_model.specs.declared.commands.Command.{Command}
use Rattle.bind_model.specs.declared.commands.Refused.{Refused}
use Rattle.bind_model.specs.declared.commands.Reply.{Reply}
use Rattle.data_pipe.specs.Table.{AllStay, Lines}
use Rattle.data_pipe.proofs.Agreeing.{flows_same}
use Rattle.core_state.specs.Agreement.{Holds, past_of}
use Rattle.core_state.specs.Doing.{CanDo, Done, Undone}
use Rattle.core_state.specs.declared.state.State.{State}

module _ (s : State) (lines : Lines) (same : AllStay s.tables.flows lines) where
  -- the state with these lines
  abbrev pub with_flows : State
  with_flows = record s { tables = record s.tables { flows = lines } }

  pub still_holds : Holds s → Holds with_flows
  still_holds h = record {
    legal = h.legal;
    agrees = h.agrees;
    tables = record { notices = h.tables.notices; flows = flows_same (past_of s) s.tables.flows lines same h.tables.flows };
    responders = h.responders;
    pendings = h.pendings;
    few = h.few;
  }

  pub can_still : (seq : SeqId) (command : Command) → CanDo s seq command → CanDo with_flows seq command
  can_still seq command can = record {
    able = record { holds = still_holds can.able.holds; within = can.able.within; room = can.able.room; few = can.able.few };
    prepared = can.prepared;
  }

  -- what is done from it is done from the one before, and so is what isn't done
  done_from : (new : State) (seq : SeqId) (command : Command) (reply : Reply) → Done with_flows new seq command reply → Done s new seq command reply
  done_from new seq command reply d = record {
    holds = d.holds;
    schema = d.schema;
    seqs = d.seqs;
    events = d.events;
    told = d.told;
    back = d.back;
    responders = d.responders;
    pendings = d.pendings;
    few = d.few;
  }

  undone_from : (new : State) (command : Command) (refused : Refused) → Undone with_flows new command refused → Undone s new command refused
  undone_from new command refused u =
      record { holds = u.holds; schema = u.schema; seqs = u.seqs; events = u.events; back = u.back; spent = u.spent }

  pub all_done_from : (new : State) (seq : SeqId) (command : Command) (r : Result Reply Refused)
      → IfOk r (λ reply. Done with_flows new seq command reply) → IfOk r (λ reply. Done s new seq command reply)
  all_done_from new seq command (Ok reply) d = done_from new seq command reply d
  all_done_from new seq command (Err refused) d = tt

  pub all_undone_from : (new : State) (command : Command) (r : Result Reply Refused)
      → IfErr r (λ refused. Undone with_flows new command refused) → IfErr r (λ refused. Undone s new command refused)
  all_undone_from new command (Ok reply) u = tt
  all_undone_from new command (Err refused) u = undone_from new command refused u
