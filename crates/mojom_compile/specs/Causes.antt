-- How a refusal's cause stands in a line.
use Rattle.std.specs.Prelude.{ℕ, decimal, ◌++◌, List, codes}
use Rattle.mojom_compile.specs.declared.error.Cause.{Cause}
use Rattle.mojom_compile.specs.declared.error.Cause.TheVariants.{BadUtf8, BadChar, OpenComment, OpenString, LeadingZero, NumberTooLong, Unexpected, TooNested}

-- its name, and then its number where it has one
abbrev pub cause_text : Cause → List ℕ
cause_text (BadUtf8 at) = codes "BadUtf8 " ++ decimal at
cause_text (BadChar at) = codes "BadChar " ++ decimal at
cause_text (OpenComment at) = codes "OpenComment " ++ decimal at
cause_text (OpenString at) = codes "OpenString " ++ decimal at
cause_text (LeadingZero at) = codes "LeadingZero " ++ decimal at
cause_text (NumberTooLong at) = codes "NumberTooLong " ++ decimal at
cause_text (Unexpected at) = codes "Unexpected " ++ decimal at
cause_text (TooNested at) = codes "TooNested " ++ decimal at
