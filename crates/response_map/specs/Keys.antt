-- The order of requests, and which of them belong together.
use Rattle.std.specs.Prelude.{ℕ, Bool, ◌==◌, ◌&&◌}
use Rattle.std.specs.declared.cmp.Ordering.{Ordering}
use Rattle.std.specs.Ordering.{nat_cmp, ordering_then}
use Rattle.mj_base.specs.declared.ids.EndId.{EndId}
use Rattle.response_map.specs.declared.key.Key.{Key}

-- by the sequence that made the end, and then by its number
abbrev pub end_cmp : EndId → EndId → Ordering
end_cmp a b = ordering_then (nat_cmp a.seq b.seq) (nat_cmp a.serial b.serial)

-- by the end, then by the endpoint's id there, and then by the request's number
abbrev pub key_cmp : Key → Key → Ordering
key_cmp a b = ordering_then (end_cmp a.end b.end) (ordering_then (nat_cmp a.id b.id) (nat_cmp a.request b.request))

-- whether the request was sent from this end
abbrev pub is_of_end : EndId → Key → Bool
is_of_end end key = (key.end.seq == end.seq) && (key.end.serial == end.serial)

-- whether it was sent from this endpoint
abbrev pub is_of_endpoint : EndId → ℕ → Key → Bool
is_of_endpoint end id key = is_of_end end key && (key.id == id)
