-- What values are, as they are written, and since which version a member is there.
use Rattle.std.specs.Prelude.{ℕ, ℤ, pos, neg_ℤ, ◌≡◌, Bool, true, false, codes, List, find, Option, Some, None}
use Rattle.std.specs.Option.{option_map}
use Rattle.std.specs.Str.{bytes_eq}
use Rattle.mojom_ast.specs.declared.names.Identifier.{Identifier}
use Rattle.mojom_ast.specs.declared.names.Value.{Value}
use Rattle.mojom_ast.specs.declared.names.Value.TheVariants as values
use Rattle.mojom_ast.specs.declared.attributes.Attribute.{Attribute}
use Rattle.mojom_files.specs.Names.{dotted}
use Rattle.module_resolver.specs.declared.target.Target.{Target}
use Rattle.module_resolver.specs.declared.file_names.FileNames.{FileNames}
use Rattle.module_resolver.specs.LookUp.{look_up}
use Rattle.const_eval.specs.declared.consts.Consts.{Consts}
use Rattle.const_meanings.specs.Known.{Known, TextValue, BoolValue, NumberValue}
use Rattle.const_eval.specs.Consts.{value_of_target}
use Rattle.mj_schema.specs.declared.rows.Literal.{Literal}
use Rattle.mj_schema.specs.declared.rows.Literal.TheVariants as literals

-- where something is written: the names of all files, what constants mean, the number of the file, and the full name of the definition around it
pub record Site : Type 0 where
  pub names : List FileNames
  pub consts : Consts
  pub file : ℕ
  pub enclosing : Option (List ℕ)

-- a name means a constant or an enumerator of this value
pub record MeansValue (site : Site) (parts : List Identifier) (known : Known) : Type 0 where
  pub target : Target
  pub found : look_up site.names site.file site.enclosing (dotted parts) ≡ Some target
  pub is : value_of_target site.consts target ≡ Some known

-- the number of a sign and a magnitude
abbrev pub number_of : Bool → ℕ → ℤ
number_of false magnitude = pos magnitude
number_of true magnitude = neg_ℤ (pos magnitude)

-- what a value is that is written there: a literal is itself, and a name is what it means
abbrev pub IsValue : Site → Value → Known → Type 0
IsValue site (values.String written) known = known ≡ TextValue written.bytes
IsValue site (values.Bool value span) known = known ≡ BoolValue value
IsValue site (values.Number negative magnitude span) known = known ≡ NumberValue (number_of negative magnitude)
IsValue site (values.Name name) known = MeansValue site name.parts known

-- what a literal in a row stands for
abbrev pub known_of : Literal → Known
known_of (literals.Bool value) = BoolValue value
known_of (literals.Whole number) = NumberValue number
known_of (literals.Text bytes) = TextValue bytes

-- the first `MinVersion` among attributes, with its value where it has one
abbrev pub version_in : List Attribute → Option (Option Value)
version_in attributes =
    option_map (λ (a : Attribute). a.value) (find (λ (a : Attribute). bytes_eq a.name.text (codes "MinVersion")) attributes)

-- since which version it is there: 0 where none is written, and else the very number
abbrev pub IsVersion : Site → Option (Option Value) → ℕ → Type 0
IsVersion site None version = version ≡ 0
IsVersion site (Some None) version = ⊥
IsVersion site (Some (Some value)) version = IsValue site value (NumberValue (pos version))

-- a row has a default exactly where one is written, and then the very value that is written or meant
abbrev pub IsDefault : Site → Option Value → Option Literal → Type 0
IsDefault site None row = row ≡ None
IsDefault site (Some value) None = ⊥
IsDefault site (Some value) (Some literal) = IsValue site value (known_of literal)
