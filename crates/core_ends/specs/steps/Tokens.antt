-- The token that a sequence makes next.
use Rattle.std.specs.Prelude.{ℕ}
use Rattle.handle_table.specs.Places.{tokens_made}
use Rattle.handle_table.specs.declared.thing.TokenId.{TokenId}
use Rattle.message_pipe.specs.Contents.{Contents}

-- by how many it made
abbrev pub next_token : Contents → ℕ → TokenId
next_token pipes seq = record { seq = seq; serial = tokens_made pipes.table seq }
