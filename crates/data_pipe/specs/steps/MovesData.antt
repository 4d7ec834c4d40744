-- Which events make a data pipe or move its bytes.
use Rattle.std.specs.Prelude.{Bool, true, false, [], ◌∷◌}
use Rattle.handle_table.specs.declared.thing.Thing.TheVariants.{Token}
use Rattle.bind_model.specs.declared.asked.Asked.{Asked}
use Rattle.bind_model.specs.declared.asked.Asked.TheVariants.{Data}
use Rattle.bind_model.specs.declared.told.Told.{Told}
use Rattle.bind_model.specs.declared.told.Told.TheVariants.{Made, Flowed}

-- whether an event makes one, or moves bytes or begins or ends something at one
abbrev pub moves_data : Told → Asked → Bool
moves_data (Flowed t w) asked = true
moves_data (Made (Token p ∷ Token c ∷ [])) (Data size) = true
moves_data told asked = false
