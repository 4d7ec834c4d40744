-- Nothing is refused of the values, the numbers and the kinds of any definition of files that pass.
use Rattle.std.proofs.Common.{◌≡◌, ◌+◌, ℕ, List, [], length, sym, ◌∙◌, ap, subst}
use Rattle.std.specs.Prelude.{Option, Some, slice_get}
use Rattle.std.specs.Option.{option_map_or}
use Rattle.mojom_files.specs.declared.named_file.NamedFile.{NamedFile}
use Rattle.mojom_files.specs.Definitions.{Defined, definitions_of}
use Rattle.module_resolver.specs.declared.file_names.Names.{Names}
use Rattle.module_resolver.specs.NamesOf.{names_of}
use Rattle.name_refusals.specs.NameRefusals.{refused_uses}
use Rattle.name_refusals.specs.Uses.{uses_of}
use Rattle.const_eval.specs.declared.consts.Consts.{Consts}
use Rattle.const_eval.specs.declared.file_things.FileThings.{FileThings}
use Rattle.const_eval.specs.Consts.{AreConsts}
use Rattle.const_eval.specs.Things.{numbered, things_at}
use Rattle.const_eval.specs.Evaluated.{refused_things}
use Rattle.const_eval.specs.Refused.{Site, refused_definition, refused_enumerators}
use Rattle.kind_refusals.specs.KindRefusals.{refused_definition as refused_kinds}
use Rattle.schema_laws.specs.Passed.{IsPassed}
use Rattle.schema_laws.proofs.Among.{IsAmong, place_of}
use Rattle.schema_laws.proofs.Quiet.{both_empty}
use Rattle.schema_laws.proofs.QuietFiles.{AreQuiet, all_quiet, uses_at}
use Rattle.schema_laws.proofs.Places.{numbered_at}
use Rattle.schema_laws.proofs.Told.{place}

-- nothing is refused of a definition in the file of this number: of its values, its kinds and the names that it uses
pub record IsQuiet (names : Names) (consts : Consts) (file : ℕ) (d : Defined) : Type 0 where
  pub thing : ℕ
  pub values : refused_definition (record { consts = consts; names = names.files; file = file }) thing d ≡ []
  pub kinds : refused_kinds names.files consts file d ≡ []
  pub uses : refused_uses names.files file (uses_of d) ≡ []

module _ (files : List NamedFile) (order : List ℕ) (consts : Consts) (are : AreConsts files (names_of files order).files consts)
    (are_quiet : AreQuiet files (names_of files order).files consts) where
  abbrev site : ℕ → Site
  site file = record { consts = consts; names = (names_of files order).files; file = file }

  -- nothing is refused of the things of a file
  pub things_quiet : (file : ℕ) (tree : NamedFile) (is : slice_get files file ≡ Some tree)
      → refused_things (site file) tree (things_at (place files order file tree is).begin (definitions_of tree.tree)) ≡ []
  things_quiet file tree is =
      let p = place files order file tree is in
      let there : slice_get consts.files file ≡ Some (things_at p.begin (definitions_of tree.tree)) =
      ap (λ (ts : List FileThings). slice_get ts file) are.files_are ∙ p.things in
      sym (ap (λ (o : Option FileThings). option_map_or (refused_things (site file) tree) o []) there) ∙ are_quiet.values file tree is

  definition_quiet : (file : ℕ) (tree : NamedFile) → slice_get files file ≡ Some tree → (d : Defined) → IsAmong (definitions_of tree.tree) d
      → IsQuiet (names_of files order) consts file d
  definition_quiet file tree is d among =
      let p = place files order file tree is in
      let ds = definitions_of tree.tree in
      let at = place_of ds d among in
      let all = (both_empty (numbered (refused_definition (site file)) p.begin ds) (refused_enumerators (site file) (p.begin + length ds) ds)
      (things_quiet file tree is)).0 in
      record {
        thing = p.begin + at.place;
        values = numbered_at (refused_definition (site file)) p.begin ds at.place d all at.is;
        kinds = are_quiet.kinds file tree is d among;
        uses = uses_at (names_of files order).files file ds d (are_quiet.uses file tree is) among;
      }

-- of files that pass
pub quiet_definition : (files : List NamedFile) (order : List ℕ) (names : Names) (consts : Consts) → IsPassed files order names consts
    → (file : ℕ) (tree : NamedFile) → slice_get files file ≡ Some tree → (d : Defined) → IsAmong (definitions_of tree.tree) d
    → IsQuiet names consts file d
quiet_definition files order names consts passed file tree is d among =
    subst (λ (all : Names). IsQuiet all consts file d) (sym passed.named.are)
    (go (subst (λ (all : Names). IsPassed files order all consts) passed.named.are passed))
  where
    go : IsPassed files order (names_of files order) consts → IsQuiet (names_of files order) consts file d
    go here = definition_quiet files order consts here.evaluated.are (all_quiet files order consts here) file tree is d among
