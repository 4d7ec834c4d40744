-- Room for an event, and waits that are forgotten, change nothing that the tables say.
use Rattle.std.proofs.Common.{◌≡◌, ◌≤◌, ◌<◌, List, [], ◌∷◌, ◌++◌, length, sym, subst}
use Rattle.std.specs.Prelude.{reverse}
use Rattle.mj_base.specs.declared.ids.SeqId.{SeqId}
use Rattle.mj_base.specs.declared.limits.TheConstants.{MAX_EVENTS}
use Rattle.bind_model.specs.Histories.{EventList}
use Rattle.bind_model.specs.Pendings.{KnowsPendings}
use Rattle.bind_model.specs.Replies.{answer, legal}
use Rattle.bind_model.specs.Responders.{CountsResponders}
use Rattle.bind_model.specs.declared.asked.Asked.{Asked}
use Rattle.bind_model.specs.declared.event.Event.{Event}
use Rattle.core_state.specs.Agreement.{Agrees, Holds, TablesAgree, wire_in, with_notices}
use Rattle.core_state.specs.Forgets.{StaysTrue}
use Rattle.core_state.specs.declared.state.State.{State}
use Rattle.core_state.proofs.Pausing.{still_holds}
use Rattle.end_notices.specs.Table.{Lines}
use Rattle.event_tables.specs.AsCore.{StepsOn}

module _ (s : State) (log : EventList) (same : log.events ≡ s.log.events) where
  -- the same events, with room
  abbrev roomy : State
  roomy = record s { log = log }

  pub roomy_holds : Holds s → Holds roomy
  roomy_holds h = record {
    legal = subst (λ (es : List Event). legal (wire_in s) s.seqs (reverse es)) (sym same) h.legal;
    agrees = subst (λ (es : List Event). Agrees (wire_in s) (reverse es) s.pipes s.endpoints) (sym same) h.agrees;
    tables = subst (λ (es : List Event). TablesAgree (reverse es) s.tables) (sym same) h.tables;
    responders = subst (λ (es : List Event). CountsResponders (wire_in s) (reverse es) s.rights.responders) (sym same) h.responders;
    pendings = subst (λ (es : List Event). KnowsPendings (reverse es) s.rights.pendings) (sym same) h.pendings;
    few = subst (λ (es : List Event). length es ≤ MAX_EVENTS) (sym same) h.few;
  }

  pub roomy_steps : (new : State) (seq : SeqId) (asked : Asked) → StepsOn roomy new seq asked → StepsOn s new seq asked
  roomy_steps new seq asked steps = record {
    holds = steps.holds;
    schema = steps.schema;
    seqs = steps.seqs;
    events =
        subst (λ (es : List Event). new.log.events
        ≡ es ++ record { seq = seq; asked = asked; told = answer (wire_in s) s.seqs (reverse es) seq asked } ∷ []) same steps.events;
    few = subst (λ (es : List Event). length es < MAX_EVENTS) same steps.few;
  }

-- waits that are forgotten behind a step are no part of it
pub then_forgot : (s new : State) (lines : Lines) (seq : SeqId) (asked : Asked) → StepsOn s new seq asked
    → StaysTrue new.pipes new.tables.notices lines → StepsOn s (with_notices new lines) seq asked
then_forgot s new lines seq asked steps stays = record {
  holds = still_holds new lines steps.holds stays;
  schema = steps.schema;
  seqs = steps.seqs;
  events = steps.events;
  few = steps.few;
}

-- a step behind waits that were forgotten is one of the tables before
pub forgot_steps : (s : State) (lines : Lines) (new : State) (seq : SeqId) (asked : Asked) → StepsOn (with_notices s lines) new seq asked
    → StepsOn s new seq asked
forgot_steps s lines new seq asked steps = record {
  holds = steps.holds;
  schema = steps.schema;
  seqs = steps.seqs;
  events = steps.events;
  few = steps.few;
}
