-- The ordinals of methods and the versions of interfaces of files are numbers of 32 bits.
use Rattle.std.proofs.Common.{◌≡◌, ℕ, ◌+◌, ◌<◌, ◌^◌, List, [], ◌∷◌, Option, Some, None, refl, sym, subst, arith}
use Rattle.std.specs.List.{AllByRecursion}
use Rattle.std.specs.Option.{option_map_or}
use Rattle.std.specs.Prelude.{slice_get}
use Rattle.mj_schema.specs.Lookups.{method_in}
use Rattle.mj_schema.specs.declared.rows.InterfaceRow.{InterfaceRow}
use Rattle.mj_schema.specs.declared.rows.MethodRow.{MethodRow}
use Rattle.mj_schema.specs.declared.schema.Schema.{Schema}
use Rattle.mojom_ast.specs.declared.attributes.Attribute.{Attribute}
use Rattle.mojom_ast.specs.declared.definitions.DefinitionItem.{DefinitionItem}
use Rattle.mojom_ast.specs.declared.definitions.DefinitionItem.TheVariants as items
use Rattle.mojom_ast.specs.declared.definitions.Method.{Method}
use Rattle.mojom_ast.specs.declared.names.Number.{Number}
use Rattle.mojom_files.specs.declared.named_file.NamedFile.{NamedFile}
use Rattle.module_resolver.specs.declared.file_names.FileNames.{FileNames}
use Rattle.const_eval.specs.declared.consts.Consts.{Consts}
use Rattle.draft_rows.specs.declared.counts.Counts.{Counts}
use Rattle.draft_rows.specs.declared.counts.FileRows.{FileRows}
use Rattle.draft_rows.specs.declared.draft.Draft.{Draft}
use Rattle.kind_scope.specs.Scopes.{Scope, around, inside}
use Rattle.kind_scope.specs.Members.{held, ordinal_at}
use Rattle.draft_rows.specs.RowCounts.{structs_of, methods_in, no_rows, rows_of}
use Rattle.draft_rows.specs.Rows.{method_rows}
use Rattle.draft_rows.specs.Drafts.{enclosed, draft_of_item, draft_of}
use Rattle.schema_laws.proofs.Among.{each_at, each_append}
use Rattle.schema_laws.proofs.Each.{at_each}
use Rattle.schema_laws.proofs.Lift.{lift}
use Rattle.printed_schemas.proofs.SmallVersions.{version_small}
use Rattle.printed_schemas.proofs.WordMeanings.{method_there}

-- the ordinal is a number of 32 bits
abbrev pub IsSmall : MethodRow → Type 0
IsSmall method = method.ordinal < 2 ^ 32

-- those of an interface are, and so is its version
abbrev pub AreSmall : InterfaceRow → Type 0
AreSmall row = AllByRecursion IsSmall row.methods × (row.version < 2 ^ 32)

-- those of all interfaces of tables are
abbrev HasSmall : Draft → Type 0
HasSmall draft = AllByRecursion AreSmall draft.interfaces

held_small : (n : ℕ) → held n < 2 ^ 32
held_small n = omega arith

ordinal_small : (next : ℕ) (written : Option Number) → next < 2 ^ 32 → ordinal_at next written < 2 ^ 32
ordinal_small next None small = small
ordinal_small next (Some written) small = held_small written.value

methods_small : (next first : ℕ) (ms : List Method) → next < 2 ^ 32 → AllByRecursion IsSmall (method_rows next first ms)
methods_small next first [] small = tt
methods_small next first (m ∷ ms) small = (
  ordinal_small next m.ordinal small,
  methods_small (held (ordinal_at next m.ordinal + 1)) (first + structs_of m) ms (held_small (ordinal_at next m.ordinal + 1)),
)

item_small : (rows : List FileRows) (scope : Scope) (counts : Counts) (full : List ℕ) (attributes : List Attribute) (item : DefinitionItem)
    → HasSmall (draft_of_item rows scope counts full attributes item)
item_small rows scope counts full attributes (items.Interface item) =
    ((methods_small 0 counts.structs (methods_in item.members) (omega arith), version_small (inside scope full) item.members), tt)
item_small rows scope counts full attributes (items.Struct item) = tt
item_small rows scope counts full attributes (items.Union item) = tt
item_small rows scope counts full attributes (items.Enum item) = tt
item_small rows scope counts full attributes (items.Const item) = tt

tables_small : (files : List NamedFile) (order : List ℕ) (names : List FileNames) (consts : Consts) → HasSmall (draft_of names consts files order)
tables_small files order names consts =
    let rows = rows_of files order in
    lift HasSmall rows names consts files order tt
    (λ one two a b. each_append AreSmall one.interfaces two.interfaces a b)
    (λ number among counts d of. item_small rows (enclosed (around names consts number None) d.enclosing) counts d.full d.attributes d.item)
    no_rows

-- a schema with the interfaces of files has ordinals and versions of 32 bits
pub small_of_tables : (files : List NamedFile) (order : List ℕ) (names : List FileNames) (consts : Consts) (schema : Schema)
    → schema.interfaces ≡ (draft_of names consts files order).interfaces → AllByRecursion AreSmall schema.interfaces
small_of_tables files order names consts schema same = subst (AllByRecursion AreSmall) (sym same) (tables_small files order names consts)

module _ (schema : Schema) (small : AllByRecursion AreSmall schema.interfaces) where
  -- so the version of each number is one
  pub versions_small : (interface : ℕ) → option_map_or (λ (row : InterfaceRow). row.version) (slice_get schema.interfaces interface) 0 < 2 ^ 32
  versions_small interface = go (slice_get schema.interfaces interface) refl
    where
      go : (o : Option InterfaceRow) → slice_get schema.interfaces interface ≡ o → option_map_or (λ (row : InterfaceRow). row.version) o 0 < 2 ^ 32
      go None e = omega arith
      go (Some row) e = let own = at_each AreSmall schema.interfaces interface row small e in own.1

  -- and so is the ordinal of each method
  pub ordinals_small : (n ordinal : ℕ) (method : MethodRow) → method_in schema.interfaces n ordinal ≡ Some method → ordinal < 2 ^ 32
  ordinals_small n ordinal method found =
      let m = method_there schema.interfaces n ordinal method found in
      let row = at_each AreSmall schema.interfaces n m.row small m.at in
      subst (λ (k : ℕ). k < 2 ^ 32) m.is (each_at IsSmall m.row.methods method row.0 m.among)
