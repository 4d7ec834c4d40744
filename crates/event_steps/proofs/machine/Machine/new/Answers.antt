use Rattle.std.proofs.Common.{◌≡◌, true, List, sym, subst, true≢false}
use Rattle.std.specs.Prelude.{reverse}
use Rattle.bind_core.specs.Covers.{AllListed}
use Rattle.bind_model.specs.Ready.{is_ready}
use Rattle.bind_model.specs.declared.event.Event.{Event}
use Rattle.event_tables.specs.AsCore.{wire_by}
use Rattle.event_steps.proofs.machine.Machine.new.Goals as goal

-- without events nothing is to be taken, and nobody waits
pub returns-clause-stands : goal.returns-clause-stands
returns-clause-stands c =
    let tables = c.new-tables.result in
    let events = c.new-tables.ensures.events in
    record {
      holds = c.new-tables.ensures.holds;
      covers = λ x t.
          let never = subst (λ (es : List Event). is_ready (wire_by tables) (reverse es) x ≡ true) events t in
          absurd (true≢false (sym never));
      listed = subst (λ (es : List Event). AllListed c.new-waiting.result (reverse es)) (sym events) (λ x. tt);
    }
