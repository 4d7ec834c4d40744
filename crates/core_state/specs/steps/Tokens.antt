-- The tokens among things.
use Rattle.std.specs.Prelude.{List, [], ◌∷◌}
use Rattle.handle_table.specs.declared.thing.Thing.{Thing}
use Rattle.handle_table.specs.declared.thing.Thing.TheVariants.{End, Token}
use Rattle.handle_table.specs.declared.thing.TokenId.{TokenId}

-- the tokens among things, in their order
abbrev pub tokens_of : List Thing → List TokenId
tokens_of [] = []
tokens_of (End x ∷ things) = tokens_of things
tokens_of (Token t ∷ things) = t ∷ tokens_of things
