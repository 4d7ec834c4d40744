-- The ends of pipes, with the keys of what lies unread at them.
use Rattle.std.specs.Prelude.{Bool, true, false, List, [], ◌∷◌, ◌++◌, drop, Option, Some, None}
use Rattle.mj_base.specs.declared.ids.EndId.{EndId}
use Rattle.handle_table.specs.Numbered.{at_number}
use Rattle.queued_keys.specs.declared.key.Key.{Key}
use Rattle.queued_keys.specs.declared.keyed_end.KeyedEnd.{KeyedEnd}

-- an end of a pipe; none where it was never made
abbrev pub end_of : List (List KeyedEnd) → EndId → Option KeyedEnd
end_of ends x = at_number ends x.seq x.serial

-- the keys at an end, where it is there
abbrev pub keys_of : Option KeyedEnd → List Key
keys_of None = []
keys_of (Some end) = end.unread

-- whether an end is closed
abbrev pub is_closed : Option KeyedEnd → Bool
is_closed None = false
is_closed (Some end) = end.closed

-- the other end of its pipe, where an end is there
abbrev pub peer_of : Option KeyedEnd → Option EndId
peer_of None = None
peer_of (Some end) = Some end.peer

-- the keys at an end
abbrev pub keys_at : List (List KeyedEnd) → EndId → List Key
keys_at ends x = keys_of (end_of ends x)

-- an open end without keys
abbrev pub open_end : EndId → KeyedEnd
open_end peer = record { peer = peer; closed = false; unread = [] }

-- an end that is closed: no key stands at it any more
abbrev pub shut : KeyedEnd → KeyedEnd
shut end = record { peer = end.peer; closed = true; unread = [] }

-- an end with several keys more
abbrev pub with_keys : List Key → KeyedEnd → KeyedEnd
with_keys ks end = record { peer = end.peer; closed = end.closed; unread = end.unread ++ ks }

-- an end with a key more
abbrev pub with_key : Key → KeyedEnd → KeyedEnd
with_key k = with_keys (k ∷ [])

-- an end without its oldest key
abbrev pub without_front : KeyedEnd → KeyedEnd
without_front end = record { peer = end.peer; closed = end.closed; unread = drop 1 end.unread }
