-- Where names stand, what a type's name and a value mean there, and refusals there.
use Rattle.std.specs.Prelude.{ℕ, List, Option, Some}
use Rattle.std.specs.Option.{option_map, option_or}
use Rattle.mojom_ast.specs.declared.names.Identifier.{Identifier}
use Rattle.mojom_files.specs.Causes.{Cause}
use Rattle.mojom_files.specs.declared.refusal.Refusal.{Refusal}
use Rattle.mojom_files.specs.Names.{dotted}
use Rattle.module_resolver.specs.declared.file_names.FileNames.{FileNames}
use Rattle.module_resolver.specs.LookUp.{look_up}
use Rattle.const_eval.specs.declared.consts.Consts.{Consts}
use Rattle.const_eval.specs.Kinds.{basic_of_parts}
use Rattle.kind_scope.specs.declared.meant.Meant.{Meant}
use Rattle.kind_scope.specs.declared.meant.Meant.TheVariants.{Basic as basic, Target as target}
use Rattle.mojom_ast.specs.declared.names.Value.{Value}
use Rattle.const_meanings.specs.Known.{Known}
use Rattle.const_eval.specs.Consts.{value_in}

-- where a name stands: the names of all files, what constants mean, the number of the file, and the full name of the definition around it
pub record Scope : Type 0 where
  pub names : List FileNames
  pub consts : Consts
  pub file : ℕ
  pub enclosing : Option (List ℕ)

-- what a type's name means: a basic kind, or else what is found
abbrev pub meant_in : Scope → List Identifier → Option Meant
meant_in scope parts =
    option_or (option_map basic (basic_of_parts parts)) (option_map target (look_up scope.names scope.file scope.enclosing (dotted parts)))

-- a refusal where this identifier stands
abbrev pub refused : Scope → Identifier → Cause → Refusal
refused scope name cause = record { file = scope.file; at = name.span.start; cause = cause }

-- within a definition
abbrev pub inside : Scope → List ℕ → Scope
inside scope full = record { names = scope.names; consts = scope.consts; file = scope.file; enclosing = Some full }

-- what stands around a definition
abbrev pub around : List FileNames → Consts → ℕ → Option (List ℕ) → Scope
around names consts file enclosing = record { names = names; consts = consts; file = file; enclosing = enclosing }

-- what is known of a value that is written here
abbrev pub known_in : Scope → Value → Option Known
known_in scope value = value_in scope.consts scope.names scope.file scope.enclosing value
