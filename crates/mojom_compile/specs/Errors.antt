-- What the errors of the stages become.
use Rattle.import_order.specs.declared.error.ResolveError.{ResolveError}
use Rattle.import_order.specs.declared.error.ResolveError.TheVariants as names
use Rattle.const_eval.specs.declared.error.ConstError.{ConstError}
use Rattle.const_eval.specs.declared.error.ConstError.TheVariants as consts
use Rattle.kind_check.specs.declared.error.KindError.{KindError}
use Rattle.kind_check.specs.declared.error.KindError.TheVariants as kinds
use Rattle.mojom_compile.specs.declared.schema_error.SchemaError.{SchemaError}
use Rattle.mojom_compile.specs.declared.schema_error.SchemaError.TheVariants.{Refused, Memory}

-- an error of order or names
abbrev pub of_names : ResolveError → SchemaError
of_names (names.Refused refusal) = Refused refusal
of_names names.Memory = Memory

-- an error of constants and numbers
abbrev pub of_consts : ConstError → SchemaError
of_consts (consts.Refused refusal) = Refused refusal
of_consts consts.Memory = Memory

-- an error of kinds
abbrev pub of_kinds : KindError → SchemaError
of_kinds (kinds.Refused refusal) = Refused refusal
of_kinds kinds.Memory = Memory
