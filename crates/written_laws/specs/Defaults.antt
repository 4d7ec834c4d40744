-- The defaults of enums: a default of an enum is one of its enumerators.
use Rattle.std.specs.Prelude.{ℕ, ◌≡◌, Bool, true, false, List, Option, Some, None}
use Rattle.mojom_ast.specs.TypeTrees.{BaseTree, Named, TypeTree}
use Rattle.mojom_ast.specs.declared.names.Identifier.{Identifier}
use Rattle.mojom_ast.specs.declared.names.Value.{Value}
use Rattle.mojom_ast.specs.declared.names.Value.TheVariants as values
use Rattle.mojom_files.specs.Names.{dotted}
use Rattle.module_resolver.specs.declared.target.Target.TheVariants.{Definition, Enumerator}
use Rattle.module_resolver.specs.LookUp.{look_up}
use Rattle.const_eval.specs.Things.{owner_of}
use Rattle.mj_schema.specs.KindTrees.{KindTree}
use Rattle.mj_schema.specs.KindTrees as kinds
use Rattle.written_laws.specs.Values.{Site}

-- the kind is an enum
abbrev pub is_enum : KindTree → Bool
is_enum (kinds.EnumKind number nullable) = true
is_enum _ = false

-- the one name means a definition of a file, and the other an enumerator of the same file, whose enum is that very definition
pub record NamesEnumerator (site : Site) (type value : List Identifier) : Type 0 where
  pub file : ℕ
  pub definition : ℕ
  pub enumerator : ℕ
  pub type_means : look_up site.names site.file site.enclosing (dotted type) ≡ Some (Definition file definition)
  pub value_means : look_up site.names site.file site.enclosing (dotted value) ≡ Some (Enumerator file enumerator)
  pub owner : owner_of site.consts.files file enumerator ≡ Some definition

-- a value is the name of an enumerator of the enum that a type is
abbrev pub IsEnumeratorOf : Site → BaseTree → Value → Type 0
IsEnumeratorOf site (Named type) (values.Name value) = NamesEnumerator site type.parts value.parts
IsEnumeratorOf site _ _ = ⊥

-- where a default is written, it is one of the enum that the type is
abbrev pub HasEnumerator : Site → Option TypeTree → Option Value → Type 0
HasEnumerator site type None = Unit {0}
HasEnumerator site None (Some value) = ⊥
HasEnumerator site (Some type) (Some value) = IsEnumeratorOf site type.base value
