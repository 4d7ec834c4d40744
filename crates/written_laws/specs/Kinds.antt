-- That kinds are as they are written: which they are, where they may be null, and how long arrays are.
use Rattle.std.specs.Prelude.{ℕ, ◌≡◌, Bool, List, Option, Some, None}
use Rattle.mojom_ast.specs.TypeTrees.{BaseTree, Named, ArrayOf, MapOf, HandleOf, PendingOf, TypeTree}
use Rattle.mojom_ast.specs.declared.names.Number.{Number}
use Rattle.const_eval.specs.Kinds.{basic_of_parts}
use Rattle.mj_schema.specs.KindTrees.{KindTree}
use Rattle.mj_schema.specs.KindTrees as kinds
use Rattle.mj_schema.specs.Sound.{may_be_null}
use Rattle.draft_rows.specs.declared.counts.FileRows.{FileRows}
use Rattle.written_laws.specs.Values.{Site}
use Rattle.written_laws.specs.NamedKinds.{IsNamed, IsHandle, IsOfInterface}

-- the length of an array is the very number that is written, and none where none is
abbrev pub IsLength : Option Number → Option ℕ → Type 0
IsLength None None = Unit {0}
IsLength (Some written) (Some count) = count ≡ written.value
IsLength _ _ = ⊥

-- the kind is the one that is written, where so many rows stand before definitions: at each depth it is the one that the name gives, it may
-- be null exactly where `?` stands, and arrays have the lengths that are written
abbrev pub IsAsWritten : List FileRows → Site → BaseTree → Bool → KindTree → Type 0
IsAsWritten rows site (Named name) nullable kind =
    (may_be_null kind ≡ nullable) × IsNamed rows site (basic_of_parts name.parts) name.parts kind
IsAsWritten rows site (ArrayOf of of_null count) nullable (kinds.ArrayKind element size null) =
    IsAsWritten rows site of of_null element × IsLength count size × (null ≡ nullable)
IsAsWritten rows site (MapOf key key_null value value_null) nullable (kinds.MapKind k v null) =
    IsAsWritten rows site key key_null k × IsAsWritten rows site value value_null v × (null ≡ nullable)
IsAsWritten rows site (HandleOf sort) nullable (kinds.HandleKind s null) = (null ≡ nullable) × IsHandle sort s
IsAsWritten rows site (PendingOf sort interface) nullable kind = (may_be_null kind ≡ nullable) × IsOfInterface rows site sort interface.parts kind
IsAsWritten rows site _ nullable kind = ⊥

-- the kind is that of the type, which is there
abbrev pub IsKind : List FileRows → Site → Option TypeTree → KindTree → Type 0
IsKind rows site None kind = ⊥
IsKind rows site (Some type) kind = IsAsWritten rows site type.base type.nullable kind
