-- The tables of files of which nothing is refused are as they are written.
use Rattle.std.proofs.Common.{◌≡◌, ℕ, List, [], ◌∷◌, ◌++◌, map, refl, sym, subst, inl, inr}
use Rattle.std.specs.Prelude.{slice_get, Option, Some, None}
use Rattle.std.specs.Option.{option_map_or}
use Rattle.std.proofs.lemmas.Grind.{flat_map-append}
use Rattle.mojom_files.specs.declared.named_file.NamedFile.{NamedFile}
use Rattle.mojom_files.specs.Definitions.{Defined, definitions_of}
use Rattle.module_resolver.specs.declared.file_names.FileNames.{FileNames}
use Rattle.module_resolver.specs.declared.file_names.Names.{Names}
use Rattle.module_resolver.specs.declared.target.Target.TheVariants as targets
use Rattle.module_resolver.specs.declared.target.DefinitionSort.{DefinitionSort}
use Rattle.module_resolver.specs.LookUp.{sort_of}
use Rattle.module_resolver.specs.NamesOf.{names_of}
use Rattle.name_refusals.specs.Uses.{uses_in_attributes, uses_in_item}
use Rattle.const_eval.specs.declared.consts.Consts.{Consts}
use Rattle.const_eval.specs.Refused.{refused_versions}
use Rattle.draft_rows.specs.declared.counts.Counts.{Counts}
use Rattle.draft_rows.specs.declared.counts.FileRows.{FileRows}
use Rattle.draft_rows.specs.declared.draft.Draft.{Draft}
use Rattle.kind_scope.specs.Scopes.{around}
use Rattle.draft_rows.specs.RowCounts.{after, after_all, definitions_at, no_rows, rows_before, rows_of}
use Rattle.draft_rows.specs.Drafts.{empty, join, draft_of_definition, draft_of_all, draft_from, draft_of}
use Rattle.schema_laws.specs.Passed.{IsPassed}
use Rattle.schema_laws.proofs.Among.{IsAmong}
use Rattle.schema_laws.proofs.Quiet.{both_empty}
use Rattle.schema_laws.proofs.QuietFiles.{all_quiet}
use Rattle.schema_laws.proofs.Rowed.{defined_as, has_row}
use Rattle.schema_laws.proofs.Kinded.{uses_apart}
use Rattle.schema_laws.proofs.NothingLost.{nothing_lost}
use Rattle.schema_laws.proofs.ConstsHaveRows.{found_file}
use Rattle.written_laws.specs.Rows.{ArePaired, IsStruct, IsUnion, IsInterface, Placed, placed_in, all_placed, site_in, struct_texts, union_texts, interface_texts, AreAsWritten}
use Rattle.written_laws.proofs.Values.{value_known}
use Rattle.written_laws.proofs.Definitions.{quiet_definition}
use Rattle.written_laws.proofs.Items.{HasItem, item_kept}
use Rattle.written_laws.proofs.Pairs.{paired_append}

-- joined tables

none_written : (rows : List FileRows) (names : List FileNames) (consts : Consts) → AreAsWritten rows names consts [] empty
none_written rows names consts = record { structs = tt; unions = tt; interfaces = tt }

with_item : (rows : List FileRows) (names : List FileNames) (consts : Consts) (file : ℕ) (d : Defined) (ones : List Placed) (one two : Draft)
    → HasItem rows names consts file d.full d.attributes d.item one → AreAsWritten rows names consts ones two
    → AreAsWritten rows names consts (record { file = file; definition = d } ∷ ones) (join one two)
with_item rows names consts file d ones one two a b = record {
  structs =
      paired_append (IsStruct rows) (struct_texts (site_in names consts file d.full) d.full d.attributes d.item) _ one.structs two.structs a.structs b.structs;
  unions = paired_append (IsUnion rows) (union_texts (site_in names consts file d.full) d.full d.attributes d.item) _ one.unions two.unions a.unions b.unions;
  interfaces =
      paired_append IsInterface (interface_texts (site_in names consts file d.full) d.full d.attributes d.item) _ one.interfaces two.interfaces a.interfaces
      b.interfaces;
}

joined_written : (rows : List FileRows) (names : List FileNames) (consts : Consts) (ps qs : List Placed) (one two : Draft)
    → AreAsWritten rows names consts ps one → AreAsWritten rows names consts qs two → AreAsWritten rows names consts (ps ++ qs) (join one two)
joined_written rows names consts ps qs one two a b =
    let structs = flat_map-append
    (λ (p : Placed). struct_texts (site_in names consts p.file p.definition.full) p.definition.full p.definition.attributes p.definition.item) ps qs in
    let unions = flat_map-append
    (λ (p : Placed). union_texts (site_in names consts p.file p.definition.full) p.definition.full p.definition.attributes p.definition.item) ps qs in
    let interfaces = flat_map-append
    (λ (p : Placed). interface_texts (site_in names consts p.file p.definition.full) p.definition.full p.definition.attributes p.definition.item) ps qs in
    record {
      structs = subst (λ ts. ArePaired (IsStruct rows) ts (one.structs ++ two.structs)) (sym structs)
          (paired_append (IsStruct rows) _ _ one.structs two.structs a.structs b.structs);
      unions = subst (λ ts. ArePaired (IsUnion rows) ts (one.unions ++ two.unions)) (sym unions)
          (paired_append (IsUnion rows) _ _ one.unions two.unions a.unions b.unions);
      interfaces = subst (λ ts. ArePaired IsInterface ts (one.interfaces ++ two.interfaces)) (sym interfaces)
          (paired_append IsInterface _ _ one.interfaces two.interfaces a.interfaces b.interfaces);
    }

-- definitions of a file by its number
abbrev pub at_file : ℕ → List Defined → List Placed
at_file file ds = map (λ (d : Defined). record { file = file; definition = d }) ds

all_written : (rows : List FileRows) (names : List FileNames) (consts : Consts) (file : ℕ) (ds : List Defined)
    → ((counts : Counts) (d : Defined) → IsAmong ds d
    → HasItem rows names consts file d.full d.attributes d.item (draft_of_definition rows (around names consts file None) counts d))
    → (counts : Counts) → AreAsWritten rows names consts (at_file file ds) (draft_of_all rows (around names consts file None) counts ds)
all_written rows names consts file [] each counts = none_written rows names consts
all_written rows names consts file (d ∷ ds) each counts =
    with_item rows names consts file d (at_file file ds) (draft_of_definition rows (around names consts file None) counts d)
    (draft_of_all rows (around names consts file None) (after counts d.item) ds) (each counts d (inl refl))
    (all_written rows names consts file ds (λ c other among. each c other (inr among)) (after counts d.item))

pub placed_same : (files : List NamedFile) (file : ℕ) → at_file file (definitions_at files file) ≡ placed_in files file
placed_same files file = go (slice_get files file)
  where
    go : (o : Option NamedFile)
        → at_file file (option_map_or (λ (f : NamedFile). definitions_of f.tree) o [])
        ≡ option_map_or (λ (tree : NamedFile). map (λ (d : Defined). record { file = file; definition = d }) (definitions_of tree.tree)) o []
    go None = refl
    go (Some tree) = refl

files_written : (rows : List FileRows) (names : List FileNames) (consts : Consts) (files : List NamedFile) (order : List ℕ)
    → ((file : ℕ) (counts : Counts) (d : Defined) → IsAmong (definitions_at files file) d
    → HasItem rows names consts file d.full d.attributes d.item (draft_of_definition rows (around names consts file None) counts d))
    → (counts : Counts) → AreAsWritten rows names consts (all_placed files order) (draft_from rows names consts files counts order)
files_written rows names consts files [] each counts = none_written rows names consts
files_written rows names consts files (file ∷ order) each counts =
    let here = definitions_at files file in
    let one = subst (λ (ps : List Placed). AreAsWritten rows names consts ps (draft_of_all rows (around names consts file None) counts here))
    (placed_same files file) (all_written rows names consts file here (λ c d among. each file c d among) counts) in
    joined_written rows names consts (placed_in files file) (all_placed files order) (draft_of_all rows (around names consts file None) counts here)
    (draft_from rows names consts files (after_all counts here) order) one
    (files_written rows names consts files order each (after_all counts here))

-- files that pass

rows_there : (files : List NamedFile) (order : List ℕ) (consts : Consts) → IsPassed files order (names_of files order) consts
    → (file place : ℕ) (sort : DefinitionSort) → sort_of (names_of files order).files (targets.Definition file place) ≡ Some sort
    → (counts : Counts) × (rows_before (rows_of files order) file place ≡ Some counts)
rows_there files order consts passed file place sort e =
    has_row files order file place sort passed.ordered.is (defined_as files order file place sort e)

written_here : (files : List NamedFile) (order : List ℕ) (consts : Consts) → IsPassed files order (names_of files order) consts
    → AreAsWritten (rows_of files order) (names_of files order).files consts (all_placed files order) (draft_of (names_of files order).files consts files order)
written_here files order consts passed =
    let names = (names_of files order).files in
    let quiet = all_quiet files order consts passed in
    files_written (rows_of files order) names consts files order
    (λ file counts d among.
    let there = found_file files file d among in
    let q = quiet_definition files order (names_of files order) consts passed file there.0 there.1 d there.2 in
    let values = (both_empty (refused_versions (record { consts = consts; names = names; file = file }) d.enclosing d.name d.attributes) _ q.values).1 in
    let uses = (uses_apart names file (uses_in_attributes d.enclosing d.attributes) (uses_in_item d d.item) q.uses).1 in
    let kept = nothing_lost (rows_of files order) names consts file d (rows_there files order consts passed) q.uses q.kinds in
    item_kept (rows_of files order) names consts file
    (λ full value e. value_known files order consts passed.evaluated.are quiet file (Some full) value e)
    q.thing d counts d.item values q.kinds uses kept)
    no_rows

-- the tables of files that pass are as they are written
pub numbers_are_as_written : (files : List NamedFile) (order : List ℕ) (names : Names) (consts : Consts) → IsPassed files order names consts
    → AreAsWritten (rows_of files order) names.files consts (all_placed files order) (draft_of names.files consts files order)
numbers_are_as_written files order names consts passed =
    subst (λ (all : Names). AreAsWritten (rows_of files order) all.files consts (all_placed files order) (draft_of all.files consts files order))
    (sym passed.named.are)
    (written_here files order consts (subst (λ (all : Names). IsPassed files order all consts) passed.named.are passed))
