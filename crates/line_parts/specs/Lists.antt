-- How lists of things, and bytes in hexadecimal, stand in a line.
use Rattle.std.specs.Prelude.{ℕ, ◌+◌, ◌*◌, ◌==◌, Bool, true, false, List, [], ◌∷◌}
use Rattle.std.specs.List.{flat_map}
use Rattle.handle_table.specs.declared.thing.Thing.{Thing}
use Rattle.bind_model.specs.declared.endpoint.PendingId.{PendingId}
use Rattle.byte_rules.specs.Lang.{Lang, as_value, byte_in, choice, closed, ◌then◌, ◌▸◌, listed, many}
use Rattle.value_text.specs.Characters.{is_hex, hex_value}
use Rattle.line_parts.specs.Signs.{comma, dash, opens, closes, letter_p}
use Rattle.line_parts.specs.Series.{series}
use Rattle.line_parts.specs.Ids.{thing, pending}
use Rattle.line_parts.specs.declared.items.Item.{Item}
use Rattle.line_parts.specs.declared.items.Item.TheVariants.{Handle, Pending}

-- things
unfoldable pub things : Lang (List Thing)
things = opens ▸ listed closes thing

-- pending endpoints
unfoldable pub pendings : Lang (List PendingId)
pendings = opens ▸ listed closes pending

-- whether what was read is a pending endpoint
abbrev pub is_pending : Item → Bool
is_pending (Handle x) = false
is_pending (Pending p) = true

-- a handle or a pending endpoint; behind a pending endpoint no handle comes
unfoldable pub item : Bool → Lang Item
item true = as_value Pending pending
item false = choice (λ b. b == letter_p) (as_value Pending pending) (as_value Handle thing)

-- what the handle of an item is of, where the item is one
abbrev pub handle_in : Item → List Thing
handle_in (Handle x) = x ∷ []
handle_in (Pending p) = []

-- the pending endpoint that an item is, where it is one
abbrev pub pending_in : Item → List PendingId
pending_in (Handle x) = []
pending_in (Pending p) = p ∷ []

-- what the handles of items are of, and their pending endpoints, each in order
abbrev pub parted : List Item → List Thing × List PendingId
parted items = (flat_map handle_in items, flat_map pending_in items)

-- items behind one, and the end of the list
abbrev pub more_items : Bool → Lang (List Item × Unit {0})
more_items seen = series (λ b. b == closes) (λ seen. comma ▸ item seen) (λ seen x. is_pending x) (closed closes tt) seen

-- handles and then pending endpoints, in one list
unfoldable pub tokens : Lang (List Thing × List PendingId)
tokens = opens ▸ choice (λ b. b == closes) (closed closes ([], []))
    (item false then λ x. as_value (λ r. parted (x ∷ r.0)) (more_items (is_pending x)))

-- a byte as two digits
unfoldable pub pair : Lang ℕ
pair = byte_in is_hex then λ high. as_value (λ low. 16 * hex_value high + hex_value low) (byte_in is_hex)

-- bytes in hexadecimal, `-` for none, and the byte that ends them
unfoldable pub hex : ℕ → Lang (List ℕ)
hex c = choice (λ b. b == dash) (dash ▸ closed c []) (pair then λ b. as_value (λ bs. b ∷ bs) (many c pair))
