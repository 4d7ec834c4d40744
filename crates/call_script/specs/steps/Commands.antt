-- What the readers of a line's command answer.
use Rattle.std.specs.Prelude.{ℕ, ◌≡◌, ◌++◌, true, false, List, length, map, Option, Some, None, Result, Ok, Err}
use Rattle.std.specs.List.{list_all}
use Rattle.mj_schema.specs.declared.schema.Schema.{Schema}
use Rattle.wire_model.specs.declared.target.Target.{Target}
use Rattle.wire_encoder.specs.declared.prepared.Prepared.{Prepared}
use Rattle.wire_encoder.specs.declared.refusal.PrepareError.{PrepareError}
use Rattle.call_script.specs.declared.name_table.NameTable.{NameTable}
use Rattle.call_script.specs.declared.name_table.Scope.{Scope}
use Rattle.call_script.specs.declared.script.NameId.{NameId}
use Rattle.call_script.specs.declared.script.AutoReply.{AutoReply}
use Rattle.call_script.specs.declared.script.Command.{Command}
use Rattle.call_script.specs.declared.script_error.LineRefusal.TheVariants as refusals
use Rattle.call_script.specs.declared.commands.Stop.{Stop}
use Rattle.call_script.specs.declared.commands.Stop.TheVariants as stops
use Rattle.call_script.specs.declared.additions.Part.{Part as WrittenPart}
use Rattle.call_script.specs.declared.additions.Part.TheVariants as parts
use Rattle.script_forms.specs.Forms.{Said, Form, Of, sets}
use Rattle.call_script.specs.Script.{finds, knows, meant, is_set, Asks, AreNamed, HasNoValue, IsReason, IsValueOf, IsNoValue, IsReply, Part, OfLine, OfReply}
use Rattle.call_script.specs.Script.{seq_of}
use Rattle.call_script.specs.steps.Names.{IsTable, FindsAt, FindsNone}

-- what a line asks where these names are set before it, or why it is refused
abbrev pub Gives : Schema → List (List ℕ) → Form → Result Command Stop → Type 0
Gives schema names form (Ok command) = (knows schema names form ≡ true) × Asks schema names (names ++ sets form) form command
Gives schema names form (Err (stops.Refused refusals.UnknownName)) = knows schema names form ≡ false
Gives schema names form (Err (stops.Refused refusals.BadValue)) = (knows schema names form ≡ true) × HasNoValue schema form
Gives schema names form (Err (stops.Refused _)) = ⊥
Gives schema names form (Err stops.Memory) = Unit {0}

-- the same where a table has the names, the line's own behind the first so many
abbrev pub Commands : Schema → NameTable → ℕ → Form → Result Command Stop → Type 0
Commands schema table count form result = (names : List (List ℕ)) → IsTable table (names ++ sets form) → count ≡ length names → Gives schema names form result

-- of what is said to a sequence
abbrev pub Says : Schema → Scope → Said → Result Command Stop → Type 0
Says schema scope said result = Commands schema scope.table.now scope.count (Of scope.seq said) result

-- the automatic reply of a line, or why it is refused
abbrev pub Replies : Schema → Form → Result AutoReply Stop → Type 0
Replies schema form (Ok reply) = (finds schema form ≡ true) × IsReply schema form reply
Replies schema form (Err stop) = (names : List (List ℕ)) → Gives schema names form (Err stop)

-- what the line of a number adds, or why it is refused
abbrev pub Parts : Schema → NameTable → ℕ → ℕ → Form → Result WrittenPart Stop → Type 0
Parts schema table count number form (Ok (parts.Line line)) =
    (line.number ≡ number) × (line.seq.0 ≡ seq_of form) × Commands schema table count form (Ok line.command)
Parts schema table count number form (Ok (parts.Reply reply)) = Replies schema form (Ok reply)
Parts schema table count number form (Err stop) = Commands schema table count form (Err stop)

-- parts without where their values lie
abbrev pub part_view : WrittenPart → Part
part_view (parts.Line line) = OfLine line
part_view (parts.Reply reply) = OfReply reply

-- the numbers of all the names that are meant in a line of a sequence, or none where one isn't there
abbrev pub AreFound : List (List ℕ) → List (List ℕ) → ℕ → List (List ℕ) → Option (List NameId) → Type 0
AreFound names own seq words (Some ids) =
    (list_all (is_set names seq) words ≡ true) × AreNamed (names ++ own) ids (map (meant names seq) words)
AreFound names own seq words None = list_all (is_set names seq) words ≡ false

-- the same where a table has the names, the line's own behind the first so many
abbrev pub FindsAll : Scope → List (List ℕ) → Option (List NameId) → Type 0
FindsAll scope words found = (names own : List (List ℕ)) → IsTable scope.table.now (names ++ own) → scope.count ≡ length names
    → AreFound names own scope.seq words found

-- the number of a name that is meant in a line of a sequence, or why there is none
abbrev pub Named : Scope → List ℕ → Result NameId Stop → Type 0
Named scope name (Ok id) = FindsAt scope name id
Named scope name (Err (stops.Refused refusals.UnknownName)) = FindsNone scope name
Named scope name (Err (stops.Refused _)) = ⊥
Named scope name (Err stops.Memory) = Unit {0}

-- the numbers of all the names that are meant in a line of a sequence, or why there are none
abbrev pub AllNamed : Scope → List (List ℕ) → Result (List NameId) Stop → Type 0
AllNamed scope words (Ok ids) = FindsAll scope words (Some ids)
AllNamed scope words (Err (stops.Refused refusals.UnknownName)) = FindsAll scope words None
AllNamed scope words (Err (stops.Refused _)) = ⊥
AllNamed scope words (Err stops.Memory) = Unit {0}

-- the stop for a value that isn't prepared
abbrev pub StopsFor : PrepareError → Stop → Type 0
StopsFor error (stops.Refused refusals.BadValue) = IsReason error
StopsFor error (stops.Refused _) = ⊥
StopsFor error stops.Memory = Unit {0}

-- the value that was prepared, or why the word is none
abbrev pub Values : Schema → Target → ℕ → List ℕ → Result Prepared Stop → Type 0
Values schema target number word (Ok prepared) = (prepared.target ≡ target) × IsValueOf schema number word prepared
Values schema target number word (Err (stops.Refused refusals.BadValue)) = IsNoValue schema target number word
Values schema target number word (Err (stops.Refused _)) = ⊥
Values schema target number word (Err stops.Memory) = Unit {0}
