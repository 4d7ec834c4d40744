-- How words of a table and a series are read in a loop.
use Rattle.std.specs.Prelude.{ℕ, ◌++◌, List, [], ◌∷◌, Ok}
use Rattle.std.specs.List.{flat_map}
use Rattle.byte_rules.specs.Lang.{Read, ◌>>=◌}
use Rattle.byte_rules.specs.Among.{Near, nearer}
use Rattle.handle_table.specs.declared.thing.Thing.{Thing}
use Rattle.bind_model.specs.declared.endpoint.PendingId.{PendingId}
use Rattle.line_parts.specs.Lists.{handle_in, pending_in}
use Rattle.line_parts.specs.declared.items.Item.{Item}

-- what was gathered before, with the series that is still read
abbrev pub gathered : {A B F : Type 0} → (F → List A → F) → F → Read (List A × B) → Read (F × B)
gathered add front read = read >>= λ x. Ok ((add front x.0.0, x.0.1), x.1)

-- handles and pending endpoints with those of more items behind them
abbrev pub add_items : List Thing × List PendingId → List Item → List Thing × List PendingId
add_items (handles, pendings) items = (handles ++ flat_map handle_in items, pendings ++ flat_map pending_in items)

-- what was gathered before, with the items that are still read
abbrev pub with_items : List Thing × List PendingId → Read (List Item × Unit {0}) → Read (List Thing × List PendingId)
with_items front read = read >>= λ x. Ok (add_items front x.0.0, x.1)

-- what words of a table go furthest with the bytes, and the value of the word that ends there
abbrev pub nearest_in : {T : Type 0} → List ℕ → Near T → List (T × List ℕ) → Near T
nearest_in bs near [] = near
nearest_in bs near (entry ∷ entries) = nearest_in bs (nearer entry.1 bs entry.0 near) entries
