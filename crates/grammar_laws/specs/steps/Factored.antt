-- The rule of a file put another way: the attributes come first, and the token behind them decides what they belong to.
-- It spells and begins the same lists with the same trees (proofs/Same); by it a file is read.
use Rattle.std.specs.Prelude.{ℕ, zero, suc, List, [], ◌∷◌, Option, Some, None, true}
use Rattle.mojom_ast.specs.declared.classes.TheConstants.{MODULE, IMPORT, STRUCT, UNION, ENUM, INTERFACE, CONST, OPEN_BRACKET}
use Rattle.mojom_ast.specs.declared.names.StringLiteral.{StringLiteral}
use Rattle.mojom_ast.specs.declared.names.Name.{Name}
use Rattle.mojom_ast.specs.declared.attributes.Attribute.{Attribute}
use Rattle.mojom_ast.specs.declared.definitions.Definition.{Definition}
use Rattle.mojom_ast.specs.declared.definitions.DefinitionItem.{DefinitionItem}
use Rattle.mojom_ast.specs.declared.file.File.{File}
use Rattle.mojom_ast.specs.declared.file.Import.{Import}
use Rattle.mojom_ast.specs.Trees.{make_definition, make_module, make_import, make_file}
use Rattle.mojom_ast.specs.Lang.{Lang, ◌▹◌, as_value, ◌or◌, maybe, none, times, any}
use Rattle.mojom_ast.specs.Grammar.{attributes, definition_item, definition, module_name, import_path}

-- imports, and the definitions after them
abbrev pub Statements : Type 0
Statements = List Import × List Definition

-- behind attributes: a definition and those after it, or an import and what comes after it
pub data Statement : Type 0 where
  DefinitionLine : DefinitionItem → List Definition → Statement
  ImportLine : StringLiteral → Statements → Statement

-- behind the first attributes of a file
pub data Opening : Type 0 where
  ModuleLine : Name → Statements → Opening
  OtherLine : Statement → Opening

-- what a statement and its attributes are
abbrev pub attributed : List Attribute → Statement → Statements
attributed as_given (DefinitionLine item after) = ([], make_definition (as_given, item) ∷ after)
attributed as_given (ImportLine path after) = (make_import (as_given, path) ∷ after.0, after.1)

-- what there is of statements: nothing, or the first one and what comes after it
abbrev pub gathered : Option (List Attribute × Statement) → Statements
gathered None = ([], [])
gathered (Some x) = attributed x.0 x.1

-- the file that begins with these attributes and what stands behind them
abbrev pub opened_by : List Attribute → Opening → File
opened_by as_given (ModuleLine name after) = make_file (Some (make_module (as_given, name)), after)
opened_by as_given (OtherLine s) = make_file (None, attributed as_given s)

-- the file of nothing, or of its first attributes and what stands behind them
abbrev pub opened : Option (List Attribute × Opening) → File
opened None = make_file (None, ([], []))
opened (Some x) = opened_by x.0 x.1

-- the classes with which definitions begin
abbrev pub definition_starts : List ℕ
definition_starts = OPEN_BRACKET ∷ STRUCT ∷ UNION ∷ ENUM ∷ INTERFACE ∷ CONST ∷ []

-- the classes with which definitions and imports begin
abbrev pub statement_starts : List ℕ
statement_starts = OPEN_BRACKET ∷ STRUCT ∷ UNION ∷ ENUM ∷ INTERFACE ∷ CONST ∷ IMPORT ∷ []

-- the classes with which files begin
abbrev pub file_starts : List ℕ
file_starts = OPEN_BRACKET ∷ MODULE ∷ STRUCT ∷ UNION ∷ ENUM ∷ INTERFACE ∷ CONST ∷ IMPORT ∷ []

-- the same, with what it begins with written out
abbrev pub marked : Lang Statements → Lang Statements
marked one = record { null = true; starts = statement_starts; followed = one.followed; read = one.read }

-- behind attributes: a definition and at most so many after it
abbrev pub definition_line : ℕ → ℕ → Lang Statement
definition_line l k = as_value (λ x. DefinitionLine x.0 x.1) (definition_item k ▹ times l (definition k))

-- behind attributes: an import and the statements after it
abbrev pub import_line : Lang Statements → Lang Statement
import_line others = as_value (λ x. ImportLine x.0 x.1) (import_path ▹ marked others)

-- behind attributes: either of these
abbrev pub statement : Lang Statements → ℕ → ℕ → Lang Statement
statement others l k = definition_line l k or import_line others

-- behind the first attributes of a file: its module and the statements after it
abbrev pub module_line : Lang Statements → Lang Opening
module_line others = as_value (λ x. ModuleLine x.0 x.1) (module_name ▹ marked others)

-- behind the first attributes of a file: its module, or a statement
abbrev pub first_statement : Lang Statements → ℕ → ℕ → Lang Opening
first_statement others l k = module_line others or as_value OtherLine (statement others l k)

-- at most n imports, and then at most l + 1 definitions
unfoldable pub statements : ℕ → ℕ → ℕ → Lang Statements
statements zero l k = record (none ([], [])) { starts = statement_starts }
statements (suc n) l k = as_value gathered (maybe (attributes ▹ statement (statements n l k) l k))

-- a file of at most n + 1 imports and l + 1 definitions
unfoldable pub opening : ℕ → ℕ → ℕ → Lang File
opening n l k = as_value opened (maybe (attributes ▹ first_statement (statements n l k) l k))

-- a file of however many imports and definitions
unfoldable pub factored : ℕ → Lang File
factored k = any (λ l. any (λ n. opening n l k))
