-- Files have a schema or a refusal.
use Rattle.std.proofs.Common.{◌≡◌, ℕ, zero, suc, ◌+◌, ◌^◌, ◌<◌, ◌≤◌, List, [], ◌∷◌, length, map, refl, sym, ap, ◌∙◌, subst, inl, inr}
use Rattle.std.specs.Prelude.{◌⊎◌, IsTrue}
use Rattle.std.specs.List.{AllByRecursion}
use Rattle.std.proofs.lemmas.Bool.{cases_lt}
use Rattle.std.proofs.lemmas.List.{length-map}
use Rattle.mj_schema.specs.declared.schema.Schema.{Schema}
use Rattle.mj_schema.specs.declared.rows.DraftStruct.{DraftStruct}
use Rattle.mj_schema.specs.declared.rows.StructRow.{StructRow}
use Rattle.mj_schema.specs.Layout.{IsLaidOut, draft_of}
use Rattle.mj_schema.specs.Sound.{are_sound, are_texts}
use Rattle.mojom_ast.specs.declared.file.File.{File}
use Rattle.mojom_files.specs.declared.named_file.NamedFile.{NamedFile}
use Rattle.draft_rows.specs.declared.draft.Draft.{Draft}
use Rattle.draft_rows.specs.Drafts.{draft_of as tables_of}
use Rattle.schema_laws.specs.Refused.{HasAnswer}
use Rattle.schema_laws.specs.Whole.{CanBeLaidOut}
use Rattle.schema_laws.proofs.SomeAnswer.{some_answer}
use Rattle.schema_laws.proofs.SomeLayout.{some_layout}
use Rattle.mojom_compile.specs.declared.error.FileRefusal.{FileRefusal}
use Rattle.mojom_compile.specs.declared.schema_error.SchemaError.{SchemaError}
use Rattle.mojom_compile.specs.declared.schema_error.SchemaError.TheVariants.{Unread, Refused}
use Rattle.mojom_compile.specs.declared.source.Source.{Source}
use Rattle.mojom_compile.specs.Compiled.{IsParsed, IsUnread}
use Rattle.mojom_compile.specs.Schemas.{IsTreeOf, AreTreesOf, IsFirstUnread, IsRefusalOf, HaveTables, IsLayoutOf, IsSchemaOfFiles, rows_in, HasTooManyRows}
use Rattle.mojom_compile.proofs.Readings.{one_tree}
use Rattle.mojom_compile.proofs.Sound.{CanBeSchema, can_be}

-- trees

abbrev TreesOrNot : List Source → Type 0
TreesOrNot sources =
    ((files : List NamedFile) × AreTreesOf sources files)
    ⊎ ((file : ℕ) × ((refusal : FileRefusal) × IsFirstUnread sources file refusal))

tree_of : (source : Source) (tree : File) → IsParsed source.bytes tree → (file : NamedFile) × IsTreeOf source file
tree_of source tree parsed = (record { name = source.name; tree = tree }, record { name = refl; parsed = parsed })

before_it : (source : Source) (sources : List Source) → ((tree : File) × IsParsed source.bytes tree) ⊎ ((refusal : FileRefusal) × IsUnread source.bytes refusal)
    → TreesOrNot sources → TreesOrNot (source ∷ sources)
before_it source sources (inr unread) rest =
    inr (zero, (unread.0, record { before = []; trees = tt; source = source; is = refl; unread = unread.1 }))
before_it source sources (inl read) (inl rest) =
    let file = tree_of source read.0 read.1 in
    inl (file.0 ∷ rest.0, (file.1, rest.1))
before_it source sources (inl read) (inr rest) =
    let file = tree_of source read.0 read.1 in
    let first = rest.1.1 in
    inr (
      suc rest.0,
      (
        rest.1.0,
        record {
          before = file.0 ∷ first.before;
          trees = (file.1, first.trees);
          source = first.source;
          is = first.is;
          unread = first.unread;
        },
      ),
    )

-- files have trees, or one of them is the first that has none
some_trees : (sources : List Source) → TreesOrNot sources
some_trees [] = inl ([], tt)
some_trees (source ∷ sources) = before_it source sources (one_tree source.bytes).some (some_trees sources)

-- layouts

some_structs : (drafts : List DraftStruct) → AllByRecursion CanBeLaidOut drafts
    → (rows : List StructRow) × (AllByRecursion IsLaidOut rows × (map draft_of rows ≡ drafts))
some_structs [] can = ([], (tt, refl))
some_structs (draft ∷ drafts) can =
    let one = some_layout draft can.0 in
    let rest = some_structs drafts can.1 in (
      one.0 ∷ rest.0,
      (
        (one.1, rest.1.0),
        ap (λ (row : DraftStruct). row ∷ map draft_of rest.0) one.2 ∙ ap (λ (rows : List DraftStruct). draft ∷ rows) rest.1.1,
      ),
    )

schema_of : (draft : Draft) → CanBeSchema draft → rows_in draft < 2 ^ 32 → (schema : Schema) × IsLayoutOf draft schema
schema_of draft can few =
    let rows = some_structs draft.structs can.whole.structs in
    let count : length rows.0 ≡ length draft.structs = sym (length-map rows.0 draft_of) ∙ ap length rows.1.1 in
    let fits =
    subst
    (λ (n : ℕ). n + length draft.unions + length draft.enums + length draft.interfaces + length draft.consts < 2 ^ 32)
    (sym count) few in
    let schema : Schema = record {
      structs = rows.0;
      unions = draft.unions;
      enums = draft.enums;
      interfaces = draft.interfaces;
      consts = draft.consts;
      order = draft.order;
      few = fits;
      laid_out = rows.1.0;
      well_formed = can.whole.well_formed rows.0 rows.1.1;
      sound =
          subst (λ (ss : List DraftStruct). IsTrue (are_sound ss draft.unions draft.enums draft.interfaces draft.consts draft.order)) (sym rows.1.1)
          can.sound;
      texts = subst (λ (ss : List DraftStruct). IsTrue (are_texts ss draft.consts)) (sym rows.1.1) can.texts;
    } in (
      schema,
      record {
        structs = rows.1.1;
        unions = refl;
        enums = refl;
        interfaces = refl;
        consts = refl;
        order = refl;
      },
    )

module _ (sources : List Source) where
  abbrev Answer : Type 0
  Answer =
      ((schema : Schema) × IsSchemaOfFiles sources schema)
      ⊎ (((error : SchemaError) × IsRefusalOf sources error) ⊎ HasTooManyRows sources)

  few_or_many : (draft : Draft) → HaveTables sources draft → (rows_in draft < 2 ^ 32) ⊎ (2 ^ 32 ≤ rows_in draft) → Answer
  few_or_many draft tables (inl few) =
      let made = schema_of draft (can_be sources tables.files draft tables.trees tables.tables) few in
      inl (made.0, record { draft = draft; tables = tables; layout = made.1 })
  few_or_many draft tables (inr many) = inr (inr (record { draft = draft; tables = tables; many = many }))

  trees_answer : (files : List NamedFile) → AreTreesOf sources files → HasAnswer files → Answer
  trees_answer files are (inr refused) =
      inr (inl (Refused refused.0, record { files = files; trees = are; refused = refused.1 }))
  trees_answer files are (inl passes) =
      let draft = tables_of passes.names.files passes.consts files passes.order in
      let tables : HaveTables sources draft = record {
        files = files;
        trees = are;
        tables = record { order = passes.order; names = passes.names; consts = passes.consts; passed = passes.passed; are = refl };
      } in
      few_or_many draft tables (cases_lt (rows_in draft) (2 ^ 32))

  answer : TreesOrNot sources → Answer
  answer (inl trees) = trees_answer trees.0 trees.1 (some_answer trees.0)
  answer (inr unread) = inr (inl (Unread unread.0 unread.1.0, unread.1.1))

  -- there is an answer
  pub some_schema : Answer
  some_schema = answer (some_trees sources)
