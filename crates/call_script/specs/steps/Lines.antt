-- What the readers of whole lines answer.
use Rattle.std.specs.Prelude.{ℕ, ◌≡◌, ◌≤◌, ◌++◌, Bool, true, List, [], ◌∷◌, reverse, not, Result, Ok, Err}
use Rattle.std.specs.List.{list_all}
use Rattle.mj_base.specs.declared.limits.TheConstants.{MAX_SCRIPT_LINES}
use Rattle.mj_schema.specs.declared.schema.Schema.{Schema}
use Rattle.call_script.specs.declared.commands.Stop.{Stop}
use Rattle.call_script.specs.declared.commands.Stop.TheVariants as stops
use Rattle.call_script.specs.declared.reading.Reader.{Reader}
use Rattle.call_script.specs.declared.script.Script.{Script}
use Rattle.call_script.specs.declared.script_error.ScriptError.{ScriptError}
use Rattle.call_script.specs.declared.script_error.ScriptError.TheVariants as errors
use Rattle.script_forms.specs.Forms.{Form, form_words, header_words, is_setup, sequences, AreThere}
use Rattle.call_script.specs.Script.{is_placed, names_set, methods_answered, line_number, Part, OfLine, OfReply, lines_in, replies_in, AreTaken, IsRefused}
use Rattle.call_script.specs.Script.{AreScript, AreRefused, IsRefusedBehind}
use Rattle.call_script.specs.steps.Names.{IsTable}

-- what has been read where there are so many sequences: the forms so far, the newest first
pub record HasRead (schema : Schema) (seqs : ℕ) (reader : Reader) (past : List Form) : Type 0 where
  pub parts : List Part
  pub taken : AreTaken schema seqs past parts
  pub autos : reader.autos.items ≡ replies_in (reverse parts)
  pub lines : reader.lines.items ≡ lines_in (reverse parts)
  pub table : IsTable reader.names (names_set past)
  pub methods : IsTable reader.methods (methods_answered past)
  pub setup : list_all is_setup past ≡ not reader.started

-- a part is added to its list
abbrev pub Holds : Reader → Reader → Part → Type 0
Holds old new (OfLine line) = (new.autos.items ≡ old.autos.items) × (new.lines.items ≡ old.lines.items ++ line ∷ [])
Holds old new (OfReply reply) = (new.autos.items ≡ old.autos.items ++ reply ∷ []) × (new.lines.items ≡ old.lines.items)

-- the same, and noted as one of a sequence or of the setup
abbrev pub Pushes : Reader → Reader → Part → Bool → Result (Unit {0}) Stop → Type 0
Pushes old new part started (Ok done) =
    (new.names ≡ old.names) × (new.methods ≡ old.methods) × Holds old new part × (new.started ≡ started)
Pushes old new part started (Err (stops.Refused why)) = ⊥
Pushes old new part started (Err stops.Memory) = Unit {0}

-- a line more has been read, of these words
abbrev pub ReadsOn : Schema → ℕ → Reader → Reader → List (List ℕ) → ℕ → Result (Unit {0}) Stop → Type 0
ReadsOn schema seqs old new words number (Ok done) =
    (number ≤ MAX_SCRIPT_LINES)
    × ((past : List Form) → HasRead schema seqs old past → number ≡ line_number past
    → (form : Form) × (words ≡ form_words form) × HasRead schema seqs new (form ∷ past))
ReadsOn schema seqs old new words number (Err (stops.Refused why)) =
    (past : List Form) → HasRead schema seqs old past → number ≡ line_number past → IsRefused schema seqs past words why
ReadsOn schema seqs old new words number (Err stops.Memory) = Unit {0}

-- a line more has been read, of this form, which may stand here, however many sequences there are
abbrev pub TakesForm : Schema → Reader → Reader → Form → ℕ → Result (Unit {0}) Stop → Type 0
TakesForm schema old new form number (Ok done) =
    (number ≤ MAX_SCRIPT_LINES)
    × ((seqs : ℕ) (past : List Form) → AreThere seqs (sequences form) → HasRead schema seqs old past → is_placed past form ≡ true
    → number ≡ line_number past → HasRead schema seqs new (form ∷ past))
TakesForm schema old new form number (Err (stops.Refused why)) =
    (seqs : ℕ) (past : List Form) → AreThere seqs (sequences form) → HasRead schema seqs old past → is_placed past form ≡ true
    → number ≡ line_number past → IsRefused schema seqs past (form_words form) why
TakesForm schema old new form number (Err stops.Memory) = Unit {0}

-- the error of a stop at a line
abbrev pub error_of : ℕ → Stop → ScriptError
error_of number (stops.Refused why) = errors.Refused number why
error_of number stops.Memory = errors.Memory

-- the script of lines, or their first refusal
abbrev pub AnswersAll : Schema → List (List (List ℕ)) → Result Script ScriptError → Type 0
AnswersAll schema texts (Ok script) = AreScript schema texts script
AnswersAll schema texts (Err (errors.Refused line why)) = AreRefused schema texts line why
AnswersAll schema texts (Err errors.Memory) = Unit {0}

-- the same of the lines behind the first, which says how many sequences there are
abbrev pub AnswersBehind : Schema → ℕ → List (List (List ℕ)) → Result Script ScriptError → Type 0
AnswersBehind schema seqs texts (Ok script) = AreScript schema (header_words seqs ∷ texts) script
AnswersBehind schema seqs texts (Err (errors.Refused line why)) = IsRefusedBehind schema (header_words seqs ∷ texts) line why
AnswersBehind schema seqs texts (Err errors.Memory) = Unit {0}
