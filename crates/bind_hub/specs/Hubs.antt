-- What clauses see of a hub.
use Rattle.std.specs.Prelude.{ℕ}
use Rattle.mj_schema.specs.declared.schema.Schema.{Schema}
use Rattle.bind_hub.specs.declared.shared.Hub.{Hub}

-- the schema of its core
abbrev pub schema_in : Hub → Schema
schema_in hub = hub.turn.board.shared.key.0.value.core.schema

-- how many sequences its core has
abbrev pub seqs_in : Hub → ℕ
seqs_in hub = hub.turn.board.shared.key.0.value.core.seqs
