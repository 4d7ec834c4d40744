-- How many brackets are open at once in the text of a value, at most: those of arrays, maps, structs and unions.
use Rattle.std.specs.Prelude.{ℕ, suc, max}
use Rattle.mj_base.specs.declared.limits.TheConstants as limits
use Rattle.wire_model.specs.Trees.{Tree, Trees, Flag, Whole, Text, Items, Pairs, Fields, Member, Unknown, Handle, Remote, Endpoint, EndpointRemote, Null}
use Rattle.wire_model.specs.Trees.{none, more}

-- how many brackets may be open at once in the text of a value
abbrev pub MAX_BRACKETS : ℕ
MAX_BRACKETS = limits.MAX_BRACKETS

abbrev mutual
  -- a map's two lists have no brackets of their own, but the map has one
  pub brackets : Tree → ℕ
  brackets (Flag b) = 0
  brackets (Whole n) = 0
  brackets (Text bs) = 0
  brackets (Items ts) = suc (brackets_in ts)
  brackets (Pairs ts) = brackets_in ts
  brackets (Fields ts) = suc (brackets_in ts)
  brackets (Member tag t) = suc (brackets t)
  brackets (Unknown tag) = 1
  brackets (Handle i) = 0
  brackets (Remote i version) = 0
  brackets (Endpoint i) = 0
  brackets (EndpointRemote i version) = 0
  brackets Null = 0

  -- of some values the most that one of them has
  pub brackets_in : Trees → ℕ
  brackets_in none = 0
  brackets_in (more t ts) = max (brackets t) (brackets_in ts)
