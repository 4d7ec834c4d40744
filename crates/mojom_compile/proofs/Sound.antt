-- The tables of files have what a schema keeps by its type.
use Rattle.std.proofs.Common.{List, subst}
use Rattle.mojom_files.specs.declared.named_file.NamedFile.{NamedFile}
use Rattle.draft_rows.specs.declared.draft.Draft.{Draft}
use Rattle.schema_laws.specs.Whole.{IsWhole}
use Rattle.schema_laws.proofs.Assembly.{whole_passed}
use Rattle.sound_laws.specs.Sound.{IsSound, HasTexts}
use Rattle.sound_laws.proofs.SoundDraft.{sound_draft}
use Rattle.sound_laws.proofs.Texts.{texts_sound}
use Rattle.mojom_compile.specs.Schemas.{AreTreesOf, AreTablesOf}
use Rattle.mojom_compile.specs.declared.source.Source.{Source}
use Rattle.mojom_compile.proofs.Strings.{trees_text}
use Rattle.std.proofs.Common.{sym}

-- what is asked of tables that become a schema
pub record CanBeSchema (draft : Draft) : Type 0 where
  pub whole : IsWhole draft
  pub sound : IsSound draft
  pub texts : HasTexts draft

pub can_be : (sources : List Source) (files : List NamedFile) (draft : Draft) → AreTreesOf sources files → AreTablesOf files draft → CanBeSchema draft
can_be sources files draft trees are =
    subst CanBeSchema (sym are.are)
    (record {
      whole = whole_passed files are.order are.names are.consts are.passed;
      sound = sound_draft files are.order are.names are.consts are.passed;
      texts = texts_sound files (trees_text sources files trees) are.names.files are.consts are.passed.evaluated.are are.order;
    })
