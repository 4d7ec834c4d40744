-- Messages in a slab, and the keys by which ends have them.
use Rattle.std.specs.Prelude.{ℕ, ◌≡◌, true, false, List, [], ◌∷◌, map, Option, Some, None}
use Rattle.mj_base.specs.declared.ids.EndId.{EndId}
use Rattle.slab.specs.Slab.{Slab, get}
use Rattle.queued_keys.specs.Ends.{keys_at}
use Rattle.queued_keys.specs.Keys.{are_apart, has_place}
use Rattle.queued_keys.specs.declared.key.Key.{Key}
use Rattle.queued_keys.specs.declared.keyed_end.KeyedEnd.{KeyedEnd}
use Rattle.message_pipe.specs.declared.message.Message.{Message}
use Rattle.message_pipe.specs.declared.pipe_end.PipeEnd.{PipeEnd}

-- the message of a place; one of nothing where there is none
abbrev pub message_in : Option Message → Message
message_in None = record { bytes = []; handles = []; emitted = false }
message_in (Some m) = m

-- the message of a key
abbrev pub message_of : Slab Message → Key → Message
message_of slab k = message_in (get slab k.at)

-- the messages of keys, in order
abbrev pub messages_of : Slab Message → List Key → List Message
messages_of slab ks = map (message_of slab) ks

-- an end with the messages of its keys
abbrev pub seen_end : Slab Message → KeyedEnd → PipeEnd
seen_end slab end = record { peer = end.peer; closed = end.closed; unread = messages_of slab end.unread }

-- all ends with the messages of their keys
abbrev pub seen_ends : Slab Message → List (List KeyedEnd) → List (List PipeEnd)
seen_ends slab ends = map (λ (list : List KeyedEnd). map (seen_end slab) list) ends

-- under each key stands a message, which is emitted where the key says so
abbrev pub Hold : Slab Message → List Key → Type 0
Hold slab [] = Unit {0}
Hold slab (k ∷ ks) = (get slab k.at ≡ Some (message_of slab k)) × ((message_of slab k).emitted ≡ k.emitted) × Hold slab ks

-- each key of an end has its message, no place is that of two keys, and each message is of a key of an end
pub record Kept (slab : Slab Message) (keys : EndId → List Key) : Type 0 where
  pub held : (x : EndId) → Hold slab (keys x)
  pub apart : (x : EndId) → are_apart (keys x) ≡ true
  pub one_end : (x y : EndId) (a : ℕ) → has_place (keys x) a ≡ true → has_place (keys y) a ≡ true → x ≡ y
  pub queued : (a : ℕ) (m : Message) → get slab a ≡ Some m → (x : EndId) × (has_place (keys x) a ≡ true)

-- the same of the ends of all pipes
abbrev pub AllKept : Slab Message → List (List KeyedEnd) → Type 0
AllKept slab ends = Kept slab (keys_at ends)
