-- What a table that agrees with the events says.
use Rattle.std.proofs.Common.{◌≡◌, ℕ, ◌+◌, Bool, true, false, List, length, Some, None, refl, ap, ◌∙◌}
use Rattle.std.specs.Prelude.{if◌then◌else◌, not, ◌&&◌, ◌||◌, Option}
use Rattle.std.specs.Option.{option_map}
use Rattle.mj_base.specs.declared.ids.EndId.{EndId}
use Rattle.bind_model.specs.Machine.{endpoint_at, is_closed, is_remote}
use Rattle.bind_model.specs.Replies.{drawn, is_asked, next_id}
use Rattle.bind_model.specs.Wire.{Wire}
use Rattle.bind_model.specs.declared.endpoint.Endpoint.{Endpoint}
use Rattle.bind_model.specs.declared.event.Event.{Event}
use Rattle.bind_model.specs.declared.limits.TheConstants.{REMOTE_IDS}
use Rattle.endpoint_router.specs.Agreement.{Agrees, Says, row_with}
use Rattle.endpoint_router.specs.Rows.{Contents, RowSeen, endpoints_of, is_pending, next_number, own_id, row_at}

module _ (wire : Wire) (past : List Event) (x : EndId) (contents : Contents) (agrees : Agrees wire past x contents) where
  -- the endpoints
  pub endpoint_told : (id : ℕ) → endpoints_of contents id ≡ endpoint_at wire past x id
  endpoint_told id = ap (λ (o : Option RowSeen). option_map (λ (row : RowSeen). row.endpoint) o) (agrees.rows id) ∙ go (endpoint_at wire past x id)
    where
      go : (o : Option Endpoint) → option_map (λ (row : RowSeen). row.endpoint) (option_map (row_with past x id) o) ≡ o
      go None = refl
      go (Some e) = refl

  -- the next id that the end makes
  pub own_id_told : own_id contents ≡ next_id wire past x
  own_id_told = λ i. agrees.drawn i + 1 + (if is_remote (endpoint_told 0 i) then REMOTE_IDS else 0)

  module _ (id : ℕ) (e : Endpoint) (there : endpoint_at wire past x id ≡ Some e) where
    -- the row of an endpoint
    pub row_there : row_at contents id ≡ Some (row_with past x id e)
    row_there = agrees.rows id ∙ ap (λ (o : Option Endpoint). option_map (row_with past x id) o) there

    -- the number of its next request
    pub number_told : next_number (row_at contents id) ≡ length (drawn past x id) + 1
    number_told = ap next_number row_there

    -- whether nobody waits for a response that comes to an endpoint which isn't closed
    pub unasked_told : is_closed e ≡ false → (request method : ℕ)
        → not (is_pending (row_at contents id) request method) ≡ (e.peer_closed || not (is_asked past x id request method))
    unasked_told alive request method =
        ap (λ (o : Option RowSeen). not (is_pending o request method)) row_there
        ∙ (ap (λ (b : Bool). not (not b && not e.peer_closed && is_asked past x id request method)) alive
        ∙ go e.peer_closed (is_asked past x id request method))
      where
        go : (a b : Bool) → not (true && not a && b) ≡ (a || not b)
        go true b = refl
        go false b = refl

-- all of it
pub says : (wire : Wire) (past : List Event) (x : EndId) (contents : Contents) → Agrees wire past x contents → Says wire past x contents
says wire past x contents agrees = record {
  endpoints = endpoint_told wire past x contents agrees;
  own_id = own_id_told wire past x contents agrees;
  numbers = number_told wire past x contents agrees;
  unasked = unasked_told wire past x contents agrees;
}
