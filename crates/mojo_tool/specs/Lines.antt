-- The lines on standard error, and those of a message, of its value, of a history that is sound and of two files that are compatible.
use Rattle.std.specs.Prelude.{ℕ, decimal, ◌++◌, List, [], ◌∷◌, codes}
use Rattle.std.specs.List.{flat_map}
use Rattle.std.specs.Fmt.{signed_decimal}
use Rattle.compat_model.specs.declared.reason.Change.{Change}
use Rattle.compat_model.specs.declared.reason.Change.TheVariants as changes
use Rattle.compat_model.specs.declared.reason.Reason.{Reason}
use Rattle.compat_model.specs.Words.{word_of}
use Rattle.hex.specs.Hex.{encode_lower}
use Rattle.wire_encoder.specs.declared.refusal.PrepareError.{PrepareError}
use Rattle.wire_encoder.specs.declared.refusal.PrepareError.TheVariants as unfit
use Rattle.history_text.specs.Words.{fault_word}
use Rattle.call_script.specs.declared.script_error.LineRefusal.{LineRefusal}
use Rattle.call_script.specs.declared.script_error.LineRefusal.TheVariants as lines
use Rattle.history_audit.specs.declared.auditing.AuditFinding.{AuditFinding}
use Rattle.history_audit.specs.declared.auditing.AuditFinding.TheVariants as said
use Rattle.mojom_compile.specs.Causes.{cause_text}
use Rattle.mojo_tool.specs.declared.refusal.ToolRefusal.{ToolRefusal}
use Rattle.mojo_tool.specs.declared.refusal.ToolRefusal.TheVariants.{RefusedLine, FileTooLong, Refused, Rejected, UnknownName, BadText, Unfit, BadHex, Faulty}
use Rattle.mojo_tool.specs.declared.refusal.ToolRefusal.TheVariants.{Unsound, Incompatible}
use Rattle.mojo_tool.specs.LanguageCauses.{language_text}
use Rattle.mojo_tool.specs.Work.{line_feed}

-- steps behind the first of a path, with a dot before each
abbrev pub steps_text : List ℕ → List ℕ
steps_text steps = flat_map (λ (step : ℕ). codes "." ++ decimal step) steps

-- the path to a value, with dots between its steps; none to the parameters themselves
abbrev pub path_text : List ℕ → List ℕ
path_text [] = []
path_text (step ∷ steps) = decimal step ++ steps_text steps

-- why a value isn't written; want of memory has no line
abbrev pub unfit_text : PrepareError → List ℕ
unfit_text (unfit.Misfit path) = codes "Misfit " ++ path_text path
unfit_text (unfit.TooDeep path) = codes "TooDeep"
unfit_text (unfit.TooManyHandles path) = codes "TooManyHandles"
unfit_text unfit.TooLong = codes "TooLong"
unfit_text unfit.Memory = []

-- the name of a reason why a line is refused
abbrev pub line_refusal_name : LineRefusal → List ℕ
line_refusal_name lines.BadLine = codes "BadLine"
line_refusal_name lines.DoubleName = codes "DoubleName"
line_refusal_name lines.UnknownName = codes "UnknownName"
line_refusal_name lines.BadValue = codes "BadValue"
line_refusal_name lines.TooManyLines = codes "TooManyLines"

-- why a history's text isn't that of a run; one that is has no line
abbrev pub unsound_text : AuditFinding → List ℕ
unsound_text (said.Sound events) = []
unsound_text (said.Wrong event) = codes "Wrong " ++ decimal event
unsound_text (said.Short events) = codes "Short " ++ decimal events
unsound_text (said.Tail line) = codes "Tail " ++ decimal line

-- the number of a member, a tag or an ordinal behind a change, with a blank before it
abbrev pub number_text : Change → List ℕ
number_text changes.Missing = []
number_text changes.NotStable = []
number_text changes.ExtensibleGone = []
number_text (changes.MemberGone number) = codes " " ++ signed_decimal number
number_text (changes.TagGone tag) = codes " " ++ decimal tag
number_text (changes.MethodGone ordinal) = codes " " ++ decimal ordinal
number_text (changes.ResponseChanged ordinal) = codes " " ++ decimal ordinal
number_text (changes.FieldGone ordinal) = codes " " ++ decimal ordinal
number_text (changes.KindChanged ordinal) = codes " " ++ decimal ordinal
number_text (changes.VersionChanged ordinal) = codes " " ++ decimal ordinal
number_text (changes.EarlyField ordinal) = codes " " ++ decimal ordinal

-- why a newer file doesn't read an older one's messages: the change, and the full name that goes with it
abbrev pub reason_text : Reason → List ℕ
reason_text reason = word_of reason.change ++ (codes " " ++ (reason.name ++ number_text reason.change))

-- a refusal: of a file by the file's name as it was given, for a Mojom file with the byte place; of a line of a script by its number
abbrev pub refusal_text : ToolRefusal → List ℕ
refusal_text (RefusedLine line why) = codes "script " ++ (decimal line ++ (codes ": " ++ line_refusal_name why))
refusal_text (FileTooLong name) = codes "FileTooLong " ++ name.now
refusal_text (Refused name refusal) = name.now ++ (codes ":" ++ (decimal refusal.at ++ (codes ": " ++ cause_text refusal.cause)))
refusal_text (Rejected name at cause) = name.now ++ (codes ":" ++ (decimal at ++ (codes ": " ++ language_text cause)))
refusal_text (UnknownName name) = codes "UnknownName " ++ name.now
refusal_text (BadText at) = codes "BadText " ++ decimal at
refusal_text (Unfit why) = unfit_text why
refusal_text BadHex = codes "BadHex"
refusal_text (Faulty fault) = fault_word fault.kind ++ (codes " " ++ decimal fault.at)
refusal_text (Unsound audit) = unsound_text audit
refusal_text (Incompatible reason) = codes "Incompatible " ++ reason_text reason

-- a line on standard error
abbrev pub error_line : List ℕ → List ℕ
error_line text = codes "error: " ++ (text ++ line_feed ∷ [])

-- a file that could not be read
abbrev pub read_text : List ℕ → List ℕ
read_text name = codes "read " ++ name

-- a message in hexadecimal
abbrev pub hex_line : List ℕ → List ℕ
hex_line bytes = encode_lower bytes ++ line_feed ∷ []

-- a message's method, request id and value
abbrev pub shown_line : List ℕ → List ℕ → ℕ → List ℕ → List ℕ
shown_line interface method request value =
    interface ++ (codes "." ++ (method ++ (codes " " ++ (decimal request ++ (codes " " ++ (value ++ line_feed ∷ []))))))

-- how many events a history has that is sound
abbrev pub sound_line : ℕ → List ℕ
sound_line events = codes "sound " ++ (decimal events ++ line_feed ∷ [])

-- two files that are compatible, with how many definitions of the older one are stable
abbrev pub compatible_line : ℕ → List ℕ
compatible_line stable = codes "compatible " ++ (decimal stable ++ line_feed ∷ [])
