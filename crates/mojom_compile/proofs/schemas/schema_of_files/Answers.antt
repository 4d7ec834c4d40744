use Rattle.std.proofs.Common.{List, sym, subst}
use Rattle.mojom_files.specs.declared.named_file.NamedFile.{NamedFile}
use Rattle.mojom_compile.specs.Schemas.{AreTreesOf}
use Rattle.mojom_compile.proofs.Sound.{can_be}
use Rattle.mojom_compile.proofs.schemas.schema_of_files.Goals as goal

pub schema_of-requires : goal.schema_of-requires
schema_of-requires c =
    let trees = subst (λ (fs : List NamedFile). AreTreesOf c.args.sources.now fs) (sym c.as_slice.ensures.value) c.in_ok-files.ensures.trees in
    let can = can_be c.args.sources.now c.as_slice.result.now c.in_ok-tables.tables trees c.in_ok-tables.ensures.tables in
    record { whole = can.whole; sound = can.sound; texts = can.texts }
