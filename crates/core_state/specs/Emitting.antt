-- The controls that the machine writes by itself, and where.
use Rattle.std.specs.Prelude.{ℕ, ◌≡◌, ◌<◌, ◌&&◌, Bool, true, not, List, [], ◌∷◌, Option, Some, None, if◌then◌else◌, IsSome}
use Rattle.std.specs.Option.{option_map}
use Rattle.mj_base.specs.declared.ids.EndId.{EndId}
use Rattle.wire_model.specs.HeaderMarks.{CONTROL_ID}
use Rattle.handle_table.specs.Things.{same_end}
use Rattle.control_bytes.specs.Controls.{written_control}
use Rattle.control_bytes.specs.declared.control.Control.{Control}
use Rattle.control_bytes.specs.declared.control.Control.TheVariants.{Closed}
use Rattle.message_pipe.specs.Contents.{Contents}
use Rattle.message_pipe.specs.Ends.{end_of, is_closed, peer_of, with_messages}
use Rattle.message_pipe.specs.declared.message.Message.{Message}
use Rattle.bind_model.specs.Laws.{has_number}
use Rattle.bind_model.specs.Machine.{is_peer_closed}
use Rattle.core_state.specs.Routers.{Routers, found_at}

-- a control can name an endpoint of this id
pub record IsNamed (id : ℕ) : Type 0 where
  pub some : 0 < id
  pub other : id < CONTROL_ID

-- so it is with each of these ids
abbrev pub AreNamed : List ℕ → Type 0
AreNamed ids = (id : ℕ) → has_number ids id ≡ true → IsNamed id

-- the message of a control, which the machine writes by itself
abbrev pub control_for : Control → Message
control_for control = record { bytes = written_control control; handles = []; emitted = true }

-- one for each endpoint of these ids at an end, but for those whose peer is known to be closed
abbrev pub emitted_at : (ℕ → Control) → Routers → EndId → List ℕ → List Message
emitted_at control endpoints y [] = []
emitted_at control endpoints y (id ∷ ids) =
    if not (is_peer_closed (found_at endpoints y id))
    then control_for (control id) ∷ emitted_at control endpoints y ids
    else emitted_at control endpoints y ids

-- those which tell that the endpoints are closed
abbrev pub controls_at : Routers → EndId → List ℕ → List Message
controls_at endpoints y ids = emitted_at Closed endpoints y ids

-- these messages are written at an end where it is open, and nothing else changes
pub record Emits (p : EndId) (open_there : Bool) (messages : List Message) (old new : Contents) : Type 0 where
  pub ends : (x : EndId) → end_of new.ends x
      ≡ (if same_end p x && open_there then option_map (with_messages messages) (end_of old.ends x) else end_of old.ends x)
  pub table : new.table ≡ old.table
  pub made : new.made ≡ old.made

-- at the other end of a pipe, if there is one
abbrev pub EmitsTo : Option EndId → List Message → Contents → Contents → Type 0
EmitsTo None messages old new = new ≡ old
EmitsTo (Some p) messages old new = Emits p (not (is_closed (end_of old.ends p))) messages old new

-- the other end of its pipe is there, where an end is
abbrev pub HasPeer : Contents → EndId → Type 0
HasPeer pipes y = (p : EndId) → peer_of (end_of pipes.ends y) ≡ Some p → IsSome (end_of pipes.ends p)
