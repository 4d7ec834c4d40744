-- Requests that are sent from an endpoint, and responses that end them.
use Rattle.std.specs.Prelude.{ℕ, ◌==◌, ◌&&◌, not}
use Rattle.mj_base.specs.declared.ids.EndId.{EndId}
use Rattle.handle_table.specs.Things.{same_end}
use Rattle.endpoint_router.specs.Changes.{with_request, without_request}
use Rattle.core_state.specs.Routers.{Routers, router_at}
use Rattle.endpoint_router.specs.Turns.{TurnsIf}
use Rattle.wire_model.specs.declared.target.MessageSide.{MessageSide}
use Rattle.bind_model.specs.Replies.{is_response}

-- a request of this number and method was sent from the endpoint of an id; one of number 0 changes nothing
abbrev pub SendsAt : EndId → ℕ → ℕ → ℕ → Routers → Routers → Type 0
SendsAt x id request method old new = (y : EndId) → TurnsIf (with_request method) id (same_end x y && not (request == 0)) (router_at old y) (router_at new y)

-- what is got at the endpoint of an id ends the request of its number where it is a response
abbrev pub AnswersAt : EndId → ℕ → ℕ → MessageSide → Routers → Routers → Type 0
AnswersAt x id request side old new =
    (y : EndId) → TurnsIf (without_request request) id (same_end x y && is_response side) (router_at old y) (router_at new y)
