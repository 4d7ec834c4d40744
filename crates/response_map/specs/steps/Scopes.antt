-- What a drop takes along.
use Rattle.std.specs.Prelude.{Bool, Option, Some, None, if◌then◌else◌}
use Rattle.response_map.specs.declared.key.Key.{Key}
use Rattle.response_map.specs.declared.scope.Scope.{Scope}
use Rattle.response_map.specs.declared.scope.Scope.TheVariants.{End, Endpoint}
use Rattle.response_map.specs.Keys.{is_of_end, is_of_endpoint}

-- whether the request is of the scope
abbrev pub has : Scope → Key → Bool
has (End end) key = is_of_end end key
has (Endpoint end id) key = is_of_endpoint end id key

-- the least key that it may have
abbrev pub least : Scope → Key
least (End end) = record { end = end; id = 0; request = 0 }
least (Endpoint end id) = record { end = end; id = id; request = 0 }

-- what stays of one callback where the scope goes
abbrev pub kept : {C : Type 0} → Option (Key × C) → Scope → Option (Key × C)
kept None scope = None
kept (Some entry) scope = if has scope entry.0 then None else Some entry
