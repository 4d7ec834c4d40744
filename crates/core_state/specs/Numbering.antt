-- What isn't closed, as the places of things have it.
use Rattle.std.specs.Prelude.{ℕ, List, map, not}
use Rattle.std.specs.List.{flat_map, filter}
use Rattle.handle_table.specs.Places.{Store, place_of, ends_made, tokens_made}
use Rattle.handle_table.specs.declared.thing.Thing.{Thing}
use Rattle.handle_table.specs.declared.thing.Thing.TheVariants.{End, Token}
use Rattle.bind_model.specs.Laws.{up_from}
use Rattle.core_state.specs.Agreement.{is_shut}
use Rattle.core_state.specs.declared.left.Sort.{Sort}
use Rattle.core_state.specs.declared.left.Sort.TheVariants.{Ends, Tokens}

-- a thing by its number
abbrev pub numbered : Sort → ℕ → ℕ → Thing
numbered Ends seq serial = End (record { seq = seq; serial = serial })
numbered Tokens seq serial = Token (record { seq = seq; serial = serial })

-- how many a sequence made
abbrev pub count_by : Sort → Store → ℕ → ℕ
count_by Ends table seq = ends_made table seq
count_by Tokens table seq = tokens_made table seq

-- all that a sequence made
abbrev pub all_by : Sort → Store → ℕ → List Thing
all_by sort table seq = map (numbered sort seq) (up_from 0 (count_by sort table seq))

-- all that so many sequences made
abbrev pub all_made : Sort → Store → ℕ → List Thing
all_made sort table seqs = flat_map (all_by sort table) (up_from 0 seqs)

-- those that aren't closed
abbrev pub open_in : Store → List Thing → List Thing
open_in table things = filter (λ (z : Thing). not (is_shut (place_of table z))) things
