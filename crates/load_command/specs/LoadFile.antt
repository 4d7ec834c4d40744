-- The Mojom file of a load.
use Rattle.std.specs.Prelude.{ℕ, List, [], ◌∷◌, codes}
use Rattle.mojom_compile.specs.declared.source.Source.{Source}

-- its name
abbrev pub load_name : List ℕ
load_name = codes "load"

-- its bytes
abbrev pub load_bytes : List ℕ
load_bytes = codes "module load; interface Echo { Say(uint32 n, string s) => (uint32 n); Note(array<uint8> b); };"

-- the file
abbrev pub load_source : Source
load_source = record { name = load_name; bytes = load_bytes }

-- it alone
abbrev pub load_sources : List Source
load_sources = load_source ∷ []
