use Rattle.std.proofs.Common.{◌≡◌, Bool, true, false, List, ap, sym, subst, ◌∙◌}
use Rattle.std.specs.Prelude.{IfOk, Option, None, Some, Result, Ok, Err, if◌then◌else◌}
use Rattle.mj_base.specs.declared.ids.EndId.{EndId}
use Rattle.message_pipe.specs.Contents.{Contents}
use Rattle.message_pipe.specs.Ends.{end_of, is_closed, unread_at}
use Rattle.message_pipe.specs.Mail.{front_of}
use Rattle.message_pipe.specs.declared.message.Message.{Message}
use Rattle.bind_model.specs.Notices.{first_unmet, waits}
use Rattle.bind_model.specs.declared.endpoint.Endpoint.{Endpoint}
use Rattle.bind_model.specs.declared.told.Told.{Told}
use Rattle.bind_model.specs.declared.told.Why.{Why}
use Rattle.bind_model.specs.declared.told.Why.TheVariants.{Disconnected}
use Rattle.bind_model.proofs.Fresh.{kept}
use Rattle.core_taking.specs.Founds.{Tells, front_at}
use Rattle.core_taking.specs.Taking.{front_bound, front_free, front_in, front_open}
use Rattle.core_state.specs.Agreement.{Holds, past_of, wire_in}
use Rattle.core_state.specs.Routers.{found_at}
use Rattle.core_state.specs.declared.state.State.{State}
use Rattle.core_state.proofs.Facts.{unread_is}
use Rattle.core_taking.specs.declared.reading.Found.{Found}
use Rattle.core_taking.proofs.Looking.{front_read, front_refused}
use Rattle.event_tables.specs.AsCore.{state_of}
use Rattle.event_takes.proofs.taking.look.Goals as goal

-- what is found at the front is the oldest unread message
module _ (pipes : Contents) (y : EndId) (m : Message) where
  front_there : (o : Option Message) → front_open pipes y o ≡ Ok m → o ≡ Some m
  front_there None e = absurd cc
  front_there (Some n) e = cc

  front_here : (closed : Bool) (pause : Option EndId)
      → ◌≡◌ {A = Result Message Why} (if closed then Err Disconnected else front_free pipes y pause) (Ok m) → front_of (unread_at pipes.ends y) ≡ Some m
  front_here true pause e = absurd cc
  front_here false None e = front_there (front_of (unread_at pipes.ends y)) e
  front_here false (Some x) e = absurd cc

  front_unread : (pause : Option EndId) (main : Option Endpoint) → front_bound pipes y pause main ≡ Ok m → front_of (unread_at pipes.ends y) ≡ Some m
  front_unread pause None e = absurd cc
  front_unread pause (Some main) e = front_here (is_closed (end_of pipes.ends y)) pause e

front_is : (s : State) → Holds s → (y : EndId) (m : Message) → front_in s y ≡ Ok m → front_at (wire_in s) (past_of s) y ≡ Some m
front_is s h y m e =
    sym (ap (λ (ms : List Message). front_of ms)
    (unread_is (wire_in s) (past_of s) (kept (wire_in s) s.seqs (past_of s) h.legal) s.pipes s.endpoints h.agrees y))
    ∙ front_unread s.pipes y m (first_unmet (past_of s) (waits (past_of s) y)) (found_at s.endpoints y 0) e

pub read-requires-clause-front : goal.read-requires-clause-front
read-requires-clause-front c = front_is (state_of c.args.tables.now) c.requires c.args.end _ c.in-Ok.ensures.ok

pub returns-in-Ok : goal.returns-in-Ok
returns-in-Ok c =
    subst (λ (t : Told). IfOk c.read.result (λ (found : Found). Tells (wire_in (state_of c.args.tables.now)) (past_of (state_of c.args.tables.now))
    c.args.end found t))
    (front_read (state_of c.args.tables.now) c.requires c.args.end c.args.seq _ c.in-Ok.ensures.ok) c.read.ensures

pub returns-in-Err : goal.returns-in-Err
returns-in-Err c = front_refused (state_of c.args.tables.now) c.requires c.args.end c.args.seq _ c.in-Err.ensures.err
