-- What two files ask for, as far as it is found out.
use Rattle.std.specs.Prelude.{ℕ, ◌≡◌, List}
use Rattle.compat_model.specs.declared.reason.Reason.{Reason}
use Rattle.compat_model.specs.declared.reason.Verdict.{Verdict}
use Rattle.compat_model.specs.declared.reason.Verdict.TheVariants.{Compatible, Broken}
use Rattle.mojom_compile.specs.Schemas.{IsRefusalOf}
use Rattle.mojom_compile.specs.declared.schema_error.SchemaError.{SchemaError}
use Rattle.mojom_compile.specs.declared.source.Source.{Source}
use Rattle.mojo_tool.specs.Work.{Work, Breaks, Reads, unchecked}
use Rattle.mojo_tool.specs.Answers.{refused_work}
use Rattle.mojo_tool.specs.Lines.{compatible_line}
use Rattle.mojo_tool.specs.declared.decide.Stop.{Stop}
use Rattle.mojo_tool.specs.declared.decide.Stop.TheVariants.{Refused, ReadFault, NoMemory}

-- files that have no schema ask for this
abbrev pub Untabled : List Source → Work → Type 0
Untabled sources work = (error : SchemaError) × IsRefusalOf sources error × (work ≡ unchecked sources error)

-- the text is that of files that are compatible, as is asked for
abbrev pub IsReadsText : (Work → Type 0) → List ℕ → Type 0
IsReadsText ask text = (stable : ℕ) × ask (Reads stable) × (text ≡ compatible_line stable)

-- the text is that of a verdict
abbrev pub SaysText : Verdict → List ℕ → Type 0
SaysText verdict text = (stable : ℕ) × (verdict ≡ Compatible stable) × (text ≡ compatible_line stable)

-- there is none, since the verdict has a reason, or there was no memory
abbrev pub SaysBroken : Verdict → Stop → Type 0
SaysBroken verdict (Refused refusal) = (reason : Reason) × (verdict ≡ Broken reason) × (refused_work refusal ≡ Breaks reason)
SaysBroken verdict (ReadFault name) = ⊥
SaysBroken verdict NoMemory = Unit {0}
