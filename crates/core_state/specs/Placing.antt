-- Things that come to one place.
use Rattle.std.specs.Prelude.{ℕ, ◌≡◌, List, if◌then◌else◌, Bool, ◌&&◌}
use Rattle.std.specs.Option.{option_map}
use Rattle.handle_table.specs.Places.{place_of, ends_made, tokens_made}
use Rattle.handle_table.specs.Things.{has, is_distinct}
use Rattle.handle_table.specs.declared.places.Place.{Place}
use Rattle.handle_table.specs.declared.thing.Thing.{Thing}
use Rattle.message_pipe.specs.Contents.{Contents, EndsStay}
use Rattle.std.specs.List.{list_all}
use Rattle.core_state.specs.Agreement.{is_out}

-- these things come to a place, and nothing else changes
pub record PutsAll (things : List Thing) (place : Place) (old new : Contents) : Type 0 where
  pub ends : EndsStay old new
  pub places : (z : Thing) → place_of new.table z ≡ (if has things z then option_map (λ (before : Place). place)
      (place_of old.table z) else place_of old.table z)
  pub ends_made : (seq : ℕ) → ends_made new.table seq ≡ ends_made old.table seq
  pub tokens_made : (seq : ℕ) → tokens_made new.table seq ≡ tokens_made old.table seq
  pub made : new.made ≡ old.made

-- whether the handles of all are with callers, and none stands twice
abbrev pub all_out : Contents → List Thing → Bool
all_out pipes things = list_all (λ (z : Thing). is_out (place_of pipes.table z)) things && is_distinct things
