-- Where a reader of words stands.
use Rattle.script_words.specs.declared.splitting.Place.{Place as WrittenPlace}
use Rattle.script_words.specs.declared.splitting.Place.TheVariants as places
use Rattle.script_words.specs.Pieces.{Place, Outside, Inside, Escaped}

-- the same place, as the rules have it
abbrev pub place_view : WrittenPlace → Place
place_view places.Outside = Outside
place_view places.Inside = Inside
place_view places.Escaped = Escaped
