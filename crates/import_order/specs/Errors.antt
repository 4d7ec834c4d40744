-- What an error of this crate says.
use Rattle.mojom_files.specs.declared.refusal.Refusal.{Refusal}
use Rattle.import_order.specs.declared.error.ResolveError.{ResolveError}
use Rattle.import_order.specs.declared.error.ResolveError.TheVariants.{Refused, Memory}

-- an error is such a refusal, or want of memory
abbrev pub IsFor : (Refusal → Type 0) → ResolveError → Type 0
IsFor Such (Refused refusal) = Such refusal
IsFor Such Memory = Unit {0}
