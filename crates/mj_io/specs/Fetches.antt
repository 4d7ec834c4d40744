-- The fetches that files keep for clauses.
use Rattle.std.specs.Prelude.{List, [], ◌∷◌, ◌++◌, map, flat_map}
use Rattle.mj_io.specs.Outside.{Named, Fetch, fetch_of, read_by}
use Rattle.mj_io.specs.declared.fetches.Trace.{Trace, Empty, More'}
use Rattle.mj_io.specs.declared.fetches.FetchMade.{FetchMade}

-- the items, the first in front
abbrev pub listed : {T : Type 0} → Trace T → List T
listed Empty = []
listed (More' marker before last) = listed before ++ last ∷ []

-- its name and its answer
abbrev pub made_of : FetchMade → Fetch
made_of entry = fetch_of (listed entry.name) entry.answer

-- the file that it got
abbrev pub got_by : FetchMade → List Named
got_by entry = read_by entry.answer (listed entry.name) entry.start entry.into.value.items

-- all fetches
abbrev pub fetches_of : Trace FetchMade → List Fetch
fetches_of trace = map made_of (listed trace)

-- all files that were fetched whole
abbrev pub read_of : Trace FetchMade → List Named
read_of trace = flat_map got_by (listed trace)
