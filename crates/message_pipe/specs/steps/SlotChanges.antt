-- How messages in a slab change, with the keys of ends.
use Rattle.std.specs.Prelude.{ℕ, ◌≡◌, ◌==◌, true, false, List, ◌++◌, Option, Some, None, if◌then◌else◌}
use Rattle.mj_base.specs.declared.ids.EndId.{EndId}
use Rattle.slab.specs.Slab.{Slab, get}
use Rattle.handle_table.specs.Numbered.{listed, changed_at}
use Rattle.queued_keys.specs.Ends.{with_keys}
use Rattle.queued_keys.specs.Keys.{are_apart, has_place}
use Rattle.queued_keys.specs.declared.key.Key.{Key}
use Rattle.queued_keys.specs.declared.keyed_end.KeyedEnd.{KeyedEnd}
use Rattle.message_pipe.specs.Slots.{messages_of, Hold}
use Rattle.message_pipe.specs.declared.message.Message.{Message}

-- what stands under a key, where there is one
abbrev pub found_in : Slab Message → Option Key → Option Message
found_in slab None = None
found_in slab (Some k) = get slab k.at

-- a slab gains these messages under these keys, and nothing else changes in it
pub record Gains (old new : Slab Message) (ks : List Key) (ms : List Message) : Type 0 where
  pub held : Hold new ks
  pub are : messages_of new ks ≡ ms
  pub apart : are_apart ks ≡ true
  pub fresh : (a : ℕ) → has_place ks a ≡ true → get old a ≡ None
  pub rest : (a : ℕ) → has_place ks a ≡ false → get new a ≡ get old a

-- a slab loses what stood under these keys, and nothing else changes in it
abbrev pub Loses : Slab Message → Slab Message → List Key → Type 0
Loses old new ks = (a : ℕ) → get new a ≡ (if has_place ks a then None else get old a)

-- a slab gains the first of these messages under these keys, and the rest is to come
pub record Stores (old new : Slab Message) (ks : List Key) (rest all : List Message) : Type 0 where
  pub done : List Message
  pub gains : Gains old new ks done
  pub whole : done ++ rest ≡ all

-- messages come to an end under new keys, and nothing else changes
pub record Enters (end : EndId) (ms : List Message) (old new : List (List KeyedEnd)) (before after : Slab Message) : Type 0 where
  pub keys : List Key
  pub gains : Gains before after keys ms
  pub queued : (s : ℕ) → listed new s ≡ (if end.seq == s then changed_at (with_keys keys) end.serial (listed old s) else listed old s)
