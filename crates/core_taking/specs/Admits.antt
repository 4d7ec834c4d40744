-- The ids that come with a message: which are strange, and what enters under the others.
use Rattle.std.specs.Prelude.{ℕ, ◌≡◌, ◌<◌, ◌++◌, List, [], ◌∷◌, if◌then◌else◌, Option, Some, None, slice_get}
use Rattle.wire_encoder.specs.declared.endpoint.WantedEndpoint.{WantedEndpoint}
use Rattle.bind_model.specs.Machine.{Endpoints, closed_endpoint, closed_ids, endpoint_named, entries_of, first_strange, is_closed, pending_as}
use Rattle.bind_model.specs.Wire.{Named}
use Rattle.bind_model.specs.declared.endpoint.Endpoint.{Endpoint}
use Rattle.endpoint_router.specs.Agreement.{entered_row}
use Rattle.endpoint_router.specs.Rows.{Contents, row_at}
use Rattle.core_taking.specs.declared.admit.Admitted.{Admitted}

-- the endpoint that enters under an id, by what the value says of its place
abbrev pub by_slot : Option (Option WantedEndpoint) → Endpoint
by_slot None = closed_endpoint
by_slot (Some None) = closed_endpoint
by_slot (Some (Some wanted)) = pending_as wanted

-- the slots say what the value names of so many places
abbrev pub AreSlots : List Named → ℕ → List (Option WantedEndpoint) → Type 0
AreSlots named many slots = (k : ℕ) → k < many → endpoint_named named k ≡ by_slot (slice_get slots k)

-- what these ids are to a table: the first strange one, what enters under the others, and the ids of what enters as closed
pub record Admits (endpoints : Endpoints) (named : List Named) (ids : List ℕ) (a : Admitted) : Type 0 where
  pub strange : a.strange ≡ first_strange endpoints [] ids
  pub entries : a.entries.items ≡ entries_of endpoints named 0 [] ids
  pub closed : a.closed.items ≡ closed_ids (entries_of endpoints named 0 [] ids)

-- and those that enter were seen
pub record IsAdmitted (endpoints : Endpoints) (named : List Named) (ids : List ℕ) (seen : Contents) (a : Admitted) : Type 0 where
  pub so_far : Admits endpoints named ids a
  pub rows : (n : ℕ) → row_at seen n ≡ entered_row (entries_of endpoints named 0 [] ids) n None

-- the first one, which this is where there is none yet
abbrev pub first_or : Option ℕ → ℕ → Option ℕ
first_or None id = Some id
first_or (Some x) id = Some x

-- one more enters
pub record Gains (id : ℕ) (endpoint : Endpoint) (old new : Admitted) : Type 0 where
  pub strange : new.strange ≡ old.strange
  pub entries : new.entries.items ≡ old.entries.items ++ record { id = id; endpoint = endpoint } ∷ []
  pub closed : new.closed.items ≡ old.closed.items ++ (if is_closed endpoint then id ∷ [] else [])
