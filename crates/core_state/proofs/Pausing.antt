-- Whom an end waits for, by what the state keeps, is whom it waits for by the events; and waits that are met may be forgotten.
use Rattle.std.proofs.Common.{◌≡◌, Bool, true, List, [], ◌∷◌, refl, sym, ap, ◌∙◌}
use Rattle.std.specs.Prelude.{◌||◌, if◌then◌else◌, map, Option, Some}
use Rattle.std.specs.List.{slice_get}
use Rattle.mj_base.specs.declared.ids.EndId.{EndId}
use Rattle.message_pipe.specs.Contents.{Contents}
use Rattle.bind_model.specs.Machine.{is_gone}
use Rattle.bind_model.specs.Notices.{first_unmet, is_met, waits}
use Rattle.bind_model.proofs.Fresh.{kept}
use Rattle.end_notices.specs.Agreement.{wait_of}
use Rattle.end_notices.specs.Seen.{without_wait}
use Rattle.end_notices.specs.Table.{BecomesAt, Lines, line_of, notices_at, seen_in}
use Rattle.end_notices.specs.declared.notices.Notices.{Notices}
use Rattle.end_notices.specs.declared.waits.Wait.{Wait}
use Rattle.end_notices.proofs.Quieting.{all_forgot}
use Rattle.end_notices.proofs.Stepping.{says}
use Rattle.core_state.specs.Agreement.{Holds, past_of, wire_in, with_notices}
use Rattle.core_state.specs.Forgets.{StaysTrue}
use Rattle.core_state.specs.steps.Paused.{is_met_by, is_met_in, unmet_in}
use Rattle.core_state.specs.declared.state.State.{State}
use Rattle.core_state.proofs.Facts.{closed_is}

module _ (s : State) (h : Holds s) where
  met_is : (w : Wait) → is_met_in s w ≡ is_met (past_of s) (wait_of w)
  met_is w =
      ap (λ (b : Bool). b || (notices_at s.tables.notices w.end).met w.flush)
      (closed_is (wire_in s) (past_of s) (kept (wire_in s) s.seqs (past_of s) h.legal) s.pipes s.endpoints h.agrees w.end)
      ∙ ap (λ (b : Bool). is_gone (past_of s) w.end || b) ((h.tables.notices w.end).met w.flush)

  unmet_is : (ws : List Wait) → unmet_in s ws ≡ first_unmet (past_of s) (map wait_of ws)
  unmet_is [] = refl
  unmet_is (w ∷ ws) =
      ap (λ (b : Bool). if b then unmet_in s ws else Some w.end) (met_is w)
      ∙ ap (λ (o : Option EndId). if is_met (past_of s) (wait_of w) then o else Some w.end) (unmet_is ws)

  -- the first wait of an end that isn't met
  pub paused_is : (x : EndId) → unmet_in s (notices_at s.tables.notices x).waits ≡ first_unmet (past_of s) (waits (past_of s) x)
  paused_is x = unmet_is (notices_at s.tables.notices x).waits ∙ sym (says (past_of s) x (notices_at s.tables.notices x) (h.tables.notices x)).paused

  -- the same, by the line of the end
  pub paused_at : (x : EndId) (o : Option Notices) → o ≡ line_of s.tables.notices x
      → unmet_in s (seen_in o).waits ≡ first_unmet (past_of s) (waits (past_of s) x)
  paused_at x o e = ap (λ (line : Option Notices). unmet_in s (seen_in line).waits) e ∙ paused_is x

-- ## What may be forgotten

-- the first wait of an end, once it is met
pub forgot_one : (pipes : Contents) (old new : Lines) (x : EndId) (wait : Wait) → slice_get (notices_at old x).waits 0 ≡ Some wait
    → is_met_by pipes old wait ≡ true → BecomesAt without_wait x old new → StaysTrue pipes old new
forgot_one pipes old new x wait first met change past closed all =
    all_forgot past x wait old new first (sym same ∙ met) change all
  where
    same : is_met_by pipes old wait ≡ is_met past (wait_of wait)
    same =
        ap (λ (b : Bool). b || (notices_at old wait.end).met wait.flush) (closed wait.end)
        ∙ ap (λ (b : Bool). is_gone past wait.end || b) ((all wait.end).met wait.flush)

-- what stays true behind what did
pub stays_after : (pipes : Contents) (old mid new : Lines) → StaysTrue pipes old mid → StaysTrue pipes mid new → StaysTrue pipes old new
stays_after pipes old mid new first second past closed all = second past closed (first past closed all)

-- so a state holds in which no more than that changed
pub still_holds : (s : State) (lines : Lines) → Holds s → StaysTrue s.pipes s.tables.notices lines → Holds (with_notices s lines)
still_holds s lines h stays = record {
  legal = h.legal;
  agrees = h.agrees;
  tables = record {
    notices = stays (past_of s) (λ x.
        closed_is (wire_in s) (past_of s) (kept (wire_in s) s.seqs (past_of s) h.legal) s.pipes s.endpoints h.agrees x) h.tables.notices;
    flows = h.tables.flows;
  };
  responders = h.responders;
  pendings = h.pendings;
  few = h.few;
}
