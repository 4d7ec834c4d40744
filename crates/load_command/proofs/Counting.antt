-- The numbers of a load over a schema that is shared.
use Rattle.std.proofs.Common.{◌≡◌, ℕ, List, subst}
use Rattle.mj_schema.specs.declared.schema.Schema.{Schema}
use Rattle.load_run.specs.Counts.{AreLoadCounts}
use Rattle.load_run.specs.declared.counts.Counts.{Counts}
use Rattle.load_command.specs.LoadLine.{Counted, counts_line}

-- they are those of a load over the schema itself
pub counted_so : (schema shared : Schema) (seed messages : ℕ) (counts : Counts) (text : List ℕ) → shared ≡ schema
    → AreLoadCounts shared seed messages counts → text ≡ counts_line counts → Counted schema seed messages text
counted_so schema shared seed messages counts text same are is =
    record { counts = counts; are = subst (λ (s : Schema). AreLoadCounts s seed messages counts) same are; line = is }
