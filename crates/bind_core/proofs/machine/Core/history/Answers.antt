use Rattle.std.proofs.Common.{◌≤◌, length, arith}
use Rattle.std.proofs.lemmas.List.{length-reverse}
use Rattle.mj_base.specs.declared.limits.TheConstants.{MAX_EVENTS}
use Rattle.bind_model.proofs.Fresh.{one_place}
use Rattle.bind_model.proofs.Responses.{in_order, all_stand, own_responses}
use Rattle.bind_model.proofs.OriginLemmas.{have_writers}
use Rattle.bind_model.proofs.Askers.{of_askers}
use Rattle.bind_model.proofs.Pauses.{all_unpaused}
use Rattle.bind_model.proofs.FlushLemmas.{flushes_numbered}
use Rattle.bind_model.proofs.DataLemmas.{data_in_order}
use Rattle.ending_laws.proofs.GotOpen.{all_got_open}
use Rattle.ending_laws.proofs.InTime.{all_in_time}
use Rattle.group_laws.proofs.Law.{groups_apart}
use Rattle.reply_laws.proofs.Behind.{all_behind}
use Rattle.reply_laws.proofs.Once.{all_first}
use Rattle.reply_laws.proofs.Own.{all_own}
use Rattle.core_state.specs.Agreement.{Holds, past_of, schema_of, wire_in}
use Rattle.core_state.specs.declared.state.State.{State}
use Rattle.bind_core.proofs.machine.Core.history.Goals as goal

-- a core keeps no more events than there may be
few_past : (s : State) → Holds s → length (past_of s) ≤ MAX_EVENTS
few_past s holds = let few = holds.few in omega (arith, few, length-reverse s.log.events)

pub returns-clause-few : goal.returns-clause-few
returns-clause-few c = rw (← c.self.view_is) c.self.invariant.holds.few

pub returns-clause-one_place : goal.returns-clause-one_place
returns-clause-one_place c = rw (← c.self.view_is) (one_place (wire_in c.self.inside.state) c.self.inside.state.seqs
    (past_of c.self.inside.state) c.self.invariant.holds.legal)

pub returns-clause-in_order : goal.returns-clause-in_order
returns-clause-in_order c = rw (← c.self.view_is) (in_order (wire_in c.self.inside.state) c.self.inside.state.seqs
    (past_of c.self.inside.state) c.self.invariant.holds.legal)

pub returns-clause-all_stand : goal.returns-clause-all_stand
returns-clause-all_stand c = rw (← c.self.view_is) (all_stand (wire_in c.self.inside.state) c.self.inside.state.seqs
    (past_of c.self.inside.state) c.self.invariant.holds.legal)

pub returns-clause-own_responses : goal.returns-clause-own_responses
returns-clause-own_responses c = rw (← c.self.view_is) (own_responses (wire_in c.self.inside.state) c.self.inside.state.seqs
    (past_of c.self.inside.state) c.self.invariant.holds.legal)

pub returns-clause-of_askers : goal.returns-clause-of_askers
returns-clause-of_askers c = rw (← c.self.view_is) (of_askers (wire_in c.self.inside.state) c.self.inside.state.seqs
    (past_of c.self.inside.state) c.self.invariant.holds.legal (few_past c.self.inside.state c.self.invariant.holds))

pub returns-clause-have_writers : goal.returns-clause-have_writers
returns-clause-have_writers c = rw (← c.self.view_is) (have_writers (wire_in c.self.inside.state) c.self.inside.state.seqs
    (past_of c.self.inside.state) c.self.invariant.holds.legal)

pub returns-clause-all_own : goal.returns-clause-all_own
returns-clause-all_own c = rw (← c.self.view_is) (all_own c.passed_is_encodable.ensures (schema_of c.self.inside.state) c.self.inside.state.seqs
    (past_of c.self.inside.state) c.self.invariant.holds.legal (few_past c.self.inside.state c.self.invariant.holds))

pub returns-clause-all_first : goal.returns-clause-all_first
returns-clause-all_first c = rw (← c.self.view_is) (all_first c.passed_is_encodable.ensures (schema_of c.self.inside.state) c.self.inside.state.seqs
    (past_of c.self.inside.state) c.self.invariant.holds.legal (few_past c.self.inside.state c.self.invariant.holds))

pub returns-clause-all_in_time : goal.returns-clause-all_in_time
returns-clause-all_in_time c = rw (← c.self.view_is) (all_in_time (wire_in c.self.inside.state) c.self.inside.state.seqs
    (past_of c.self.inside.state) c.self.invariant.holds.legal (few_past c.self.inside.state c.self.invariant.holds))

pub returns-clause-all_got_open : goal.returns-clause-all_got_open
returns-clause-all_got_open c = rw (← c.self.view_is) (all_got_open (wire_in c.self.inside.state) c.self.inside.state.seqs
    (past_of c.self.inside.state) c.self.invariant.holds.legal (few_past c.self.inside.state c.self.invariant.holds))

pub returns-clause-all_unpaused : goal.returns-clause-all_unpaused
returns-clause-all_unpaused c = rw (← c.self.view_is) (all_unpaused (wire_in c.self.inside.state) c.self.inside.state.seqs
    (past_of c.self.inside.state) c.self.invariant.holds.legal)

pub returns-clause-flushes_numbered : goal.returns-clause-flushes_numbered
returns-clause-flushes_numbered c = rw (← c.self.view_is) (flushes_numbered (wire_in c.self.inside.state) c.self.inside.state.seqs
    (past_of c.self.inside.state) c.self.invariant.holds.legal)

pub returns-clause-all_behind : goal.returns-clause-all_behind
returns-clause-all_behind c = rw (← c.self.view_is) (all_behind (schema_of c.self.inside.state) c.self.inside.state.seqs
    (past_of c.self.inside.state) c.self.invariant.holds.legal (few_past c.self.inside.state c.self.invariant.holds))

pub returns-clause-data_in_order : goal.returns-clause-data_in_order
returns-clause-data_in_order c = rw (← c.self.view_is) (data_in_order (wire_in c.self.inside.state) c.self.inside.state.seqs
    (past_of c.self.inside.state) c.self.invariant.holds.legal)

pub returns-clause-groups_apart : goal.returns-clause-groups_apart
returns-clause-groups_apart c = rw (← c.self.view_is) (groups_apart (wire_in c.self.inside.state) c.self.inside.state.seqs
    (past_of c.self.inside.state) c.self.invariant.holds.legal)
