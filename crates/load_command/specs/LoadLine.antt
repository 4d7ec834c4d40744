-- The line of the numbers of a load.
use Rattle.std.specs.Prelude.{ℕ, decimal, ◌≡◌, ◌++◌, List, [], ◌∷◌, codes}
use Rattle.mj_schema.specs.declared.schema.Schema.{Schema}
use Rattle.mojom_compile.specs.Schemas.{IsSchemaOfFiles}
use Rattle.load_run.specs.Counts.{AreLoadCounts}
use Rattle.load_run.specs.declared.counts.Counts.{Counts}
use Rattle.load_command.specs.LoadFile.{load_sources}

-- the byte that ends a line
abbrev pub line_feed : ℕ
line_feed = 10

-- the line of these numbers
abbrev pub counts_line : Counts → List ℕ
counts_line counts =
    codes "events " ++ (decimal counts.events ++ (codes " sent " ++ (decimal counts.sent ++ (codes " got " ++ (decimal counts.got
    ++ (codes " ran " ++ (decimal counts.ran ++ (codes " bytes " ++ (decimal counts.bytes ++ line_feed ∷ [])))))))))

-- the text is the line of the numbers of a load over this schema
pub record Counted (schema : Schema) (seed messages : ℕ) (text : List ℕ) : Type 0 where
  pub counts : Counts
  pub are : AreLoadCounts schema seed messages counts
  pub line : text ≡ counts_line counts

-- over the schema of its file
abbrev pub HasCounts : ℕ → ℕ → List ℕ → Type 0
HasCounts seed messages text = (schema : Schema) × IsSchemaOfFiles load_sources schema × Counted schema seed messages text
