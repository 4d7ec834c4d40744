use Rattle.std.proofs.Common.{◌≡◌, true, List, [], ◌∷◌, subst, sym}
use Rattle.message_pipe.specs.Mail.{are_emitted}
use Rattle.message_pipe.specs.declared.message.Message.{Message}
use Rattle.control_bytes.specs.declared.control.Control.TheVariants.{Version}
use Rattle.core_state.proofs.Emitted.{all_emitted}
use Rattle.event_tables.proofs.controls.emit_version.Goals as goal

pub push_emitted-requires-clause-emitted : goal.push_emitted-requires-clause-emitted
push_emitted-requires-clause-emitted c =
    subst (λ (ms : List Message). are_emitted ms ≡ true) (sym c.in_ok-messages.ensures)
    (all_emitted (λ n. Version n c.args.version) c.args.endpoints.now c.args.end (c.args.id ∷ []))
