-- What goes with a message, and the pendings of it.
use Rattle.std.specs.Prelude.{Bool, true, false, ◌==◌, ◌&&◌, not, List, [], ◌∷◌, Option, Some, None, if◌then◌else◌}
use Rattle.std.specs.List.{list_all}
use Rattle.mj_base.specs.declared.ids.EndId.{EndId}
use Rattle.handle_table.specs.Things.{same_end}
use Rattle.message_pipe.specs.Contents.{Contents}
use Rattle.wire_encoder.specs.declared.endpoint.EndpointSide.{EndpointSide}
use Rattle.wire_encoder.specs.declared.endpoint.WantedEndpoint.{WantedEndpoint}
use Rattle.bind_model.specs.Machine.{other_side}
use Rattle.bind_model.specs.Pendings.{is_out, names_of}
use Rattle.bind_model.specs.Replies.{distinct_pendings, same_side}
use Rattle.bind_model.specs.declared.endpoint.Endpoint.{Endpoint}
use Rattle.bind_model.specs.declared.endpoint.PendingId.{PendingId}
use Rattle.bind_model.specs.declared.names.EndpointName.{EndpointName}
use Rattle.bind_model.specs.declared.told.Why.{Why}
use Rattle.bind_model.specs.declared.told.Why.TheVariants.{WrongPipe}
use Rattle.core_state.specs.Routers.{Routers, found_at}
use Rattle.core_state.specs.Unsent.{is_received}
use Rattle.core_state.specs.Placing.{all_out}
use Rattle.core_sending.specs.declared.carried.Carried.{Carried}
use Rattle.core_sending.specs.declared.carried.CarriedNames.{CarriedNames}

-- what all that goes with a message is of
abbrev pub names_in : Carried → CarriedNames
names_in c = record { things = c.handles; pendings = names_of c.pendings }

-- whether all pendings are with callers, and none stands twice
abbrev pub all_pending : List (EndpointName × Bool) → List PendingId → Bool
all_pending table ps = list_all (λ (p : PendingId). is_out table p) ps && distinct_pendings ps

-- whether all that goes with a message is with callers, and nothing stands twice
abbrev pub all_own : Contents → List (EndpointName × Bool) → CarriedNames → Bool
all_own pipes table names = all_out pipes names.things && all_pending table names.pendings

-- ## Where pendings fit

-- the side that a pending is to be, by its endpoint here: of one that was made here, the other than that has
abbrev pub side_of : Endpoint → EndpointSide
side_of e = if is_received (Some e) then e.side else other_side e.side

-- whether a pending is of this side and interface
abbrev pub fits : Option Endpoint → WantedEndpoint → Bool
fits None wanted = false
fits (Some e) wanted = same_side (side_of e) wanted.side && (e.interface == wanted.interface)

-- whether there are as many as are wanted, and each fits
abbrev pub all_fit : Routers → List PendingId → List WantedEndpoint → Bool
all_fit endpoints [] [] = true
all_fit endpoints [] (w ∷ wants) = false
all_fit endpoints (p ∷ ps) [] = false
all_fit endpoints (p ∷ ps) (w ∷ wants) = fits (found_at endpoints p.end p.id) w && all_fit endpoints ps wants

-- whether a pending was made at this end
abbrev pub is_made_at : Routers → EndId → PendingId → Bool
is_made_at endpoints y p = same_end p.end y && not (is_received (found_at endpoints p.end p.id))

-- why these don't go with a message from an end: the first is told that was not made there
abbrev pub wrong_pipe : Routers → EndId → List PendingId → Option Why
wrong_pipe endpoints y [] = None
wrong_pipe endpoints y (p ∷ ps) = if is_made_at endpoints y p then wrong_pipe endpoints y ps else Some (WrongPipe p.id)
