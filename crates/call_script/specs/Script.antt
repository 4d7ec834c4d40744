-- Which bytes are which script, and the first refusal of those that are none. Lines behind the first are judged one by one, each by
-- those before it, the newest first.
use Rattle.std.specs.Prelude.{ℕ, ◌≡◌, ◌<◌, ◌+◌, ◌++◌, ◌⊎◌, Bool, true, false, ◌&&◌, ◌||◌, not, List, [], ◌∷◌, length, map, reverse, slice_get, if◌then◌else◌}
use Rattle.std.specs.Prelude.{Some, is_some, Ok}
use Rattle.std.specs.List.{list_any, list_all}
use Rattle.std.specs.Str.{bytes_eq}
use Rattle.mj_base.specs.declared.limits.TheConstants.{MAX_SCRIPT_LINES}
use Rattle.mj_schema.specs.declared.schema.Schema.{Schema}
use Rattle.mj_schema.specs.KindTrees.{StructKind}
use Rattle.mj_schema.specs.Lookups.{interface_named}
use Rattle.byte_rules.specs.Lang.{Lang}
use Rattle.byte_rules.specs.Judged.{Spells}
use Rattle.value_text.specs.Brackets.{MAX_BRACKETS}
use Rattle.value_text.specs.Rules.{value}
use Rattle.wire_model.specs.Trees.{Tree, view}
use Rattle.wire_model.specs.declared.target.MessageSide.TheVariants.{Request, Response}
use Rattle.wire_model.specs.declared.target.Target.{Target}
use Rattle.wire_encoder.specs.FirstFailed.{Met}
use Rattle.wire_encoder.specs.Prepared.{IsPrepared, IsPrepareRefusal, verdict}
use Rattle.wire_encoder.specs.declared.prepared.Prepared.{Prepared}
use Rattle.wire_encoder.specs.declared.refusal.PrepareError.{PrepareError}
use Rattle.wire_encoder.specs.declared.refusal.PrepareError.TheVariants.{Memory}
use Rattle.call_script.specs.declared.script.AutoReply.{AutoReply}
use Rattle.call_script.specs.declared.script.NameId.{NameId}
use Rattle.call_script.specs.declared.script.Command.{Command}
use Rattle.call_script.specs.declared.script.Command.TheVariants as commands
use Rattle.call_script.specs.declared.script.Line.{Line}
use Rattle.call_script.specs.declared.script.Script.{Script}
use Rattle.call_script.specs.declared.script_error.LineRefusal.{LineRefusal}
use Rattle.call_script.specs.declared.script_error.LineRefusal.TheVariants.{BadLine, DoubleName, UnknownName, BadValue, TooManyLines}
use Rattle.script_words.specs.Pieces.{text_words}
use Rattle.call_script.specs.Targets.{message_named}
use Rattle.script_words.specs.Letters.{own_word, IsHexOf}
use Rattle.script_forms.specs.Forms.{Form, Join, Auto, Of, Pipe, Mint, Bind, Associate, Attach, Call, Take, Answer, Raw, CloseToken, CloseEndpoint}
use Rattle.script_forms.specs.Forms.{Notify, Pause, Data, Flow, Moved, Put, Get, BeginPut, EndPut, BeginGet, EndGet}
use Rattle.bind_model.specs.declared.flow.Flow.{Flow as FlowType}
use Rattle.bind_model.specs.declared.flow.Flow.TheVariants as flows
use Rattle.script_forms.specs.Forms.{form_words, header_words, AreSequences, IsForm, sequences, AreThere, is_setup, sets, sets_own, answers, needs}

-- ## What stands before a line

-- the names that are set, in order: a name's number is its place here
abbrev pub names_set : List Form → List (List ℕ)
names_set [] = []
names_set (form ∷ past) = names_set past ++ sets form

-- the methods that are answered by themselves, in order
abbrev pub methods_answered : List Form → List (List ℕ)
methods_answered [] = []
methods_answered (form ∷ past) = methods_answered past ++ answers form

-- the number of a line: the first one has number 1
abbrev pub line_number : List Form → ℕ
line_number past = length past + 2

-- the sequence of a line
abbrev pub seq_of : Form → ℕ
seq_of (Join seq other x y) = seq
seq_of (Auto seq method word) = seq
seq_of (Of seq said) = seq

-- whether a name stands in a list
abbrev pub has_name : List (List ℕ) → List ℕ → Bool
has_name names name = list_any (bytes_eq name) names

-- ## Tests of a line

-- whether a line may stand behind these: what is of the setup stands behind nothing else
abbrev pub is_placed : List Form → Form → Bool
is_placed past form = not (is_setup form) || list_all is_setup past

-- the line has this form, which may stand there, in a script of so many sequences
pub record IsFormOf (seqs : ℕ) (past : List Form) (words : List (List ℕ)) (form : Form) : Type 0 where
  pub sound : IsForm form
  pub there : AreThere seqs (sequences form)
  pub placed : is_placed past form ≡ true
  pub spelled : words ≡ form_words form

-- whether one of some more names stands among those before it
abbrev pub doubled : List (List ℕ) → List (List ℕ) → Bool
doubled names [] = false
doubled names (name ∷ more) = has_name names name || doubled (names ++ name ∷ []) more

-- whether a line sets names again, or as its sequence's own one that a join sets
abbrev pub sets_again : List (List ℕ) → Form → Bool
sets_again names form = list_any (has_name names) (sets_own form) || doubled names (sets form)

-- whether a line sets a name again, or lets a method be answered again
abbrev pub doubles : List Form → Form → Bool
doubles past form = sets_again (names_set past) form || doubled (methods_answered past) (answers form)

-- whether the interface that is named is there, or the method, which has a response where one is given
abbrev pub finds : Schema → Form → Bool
finds schema (Of seq (Bind end side interface)) = is_some (interface_named schema.interfaces interface)
finds schema (Of seq (Associate end side interface pending)) = is_some (interface_named schema.interfaces interface)
finds schema (Of seq (Call end id method word tokens moment)) = is_some (message_named schema Request method)
finds schema (Of seq (Answer responder method word tokens moment)) = is_some (message_named schema Response method)
finds schema (Auto seq method word) = is_some (message_named schema Response method)
finds schema form = true

-- the name that is meant by a name in a line of a sequence: a join's, or else the sequence's own
unfoldable pub meant : List (List ℕ) → ℕ → List ℕ → List ℕ
meant names seq name = if has_name names name then name else own_word seq name

-- whether a name that is meant is there
abbrev pub is_set : List (List ℕ) → ℕ → List ℕ → Bool
is_set names seq name = has_name names (meant names seq name)

-- whether all that it names is there, of names those before
abbrev pub knows : Schema → List (List ℕ) → Form → Bool
knows schema names form = finds schema form && list_all (is_set names (seq_of form)) (needs form)

-- the texts of a method's parameters: a struct of this number, with so many brackets open at once at most as a text may have
abbrev pub parameters_rule : Schema → ℕ → Lang Tree
parameters_rule schema number = value schema MAX_BRACKETS (StructKind number false)

-- the word is the value that was prepared, of the struct of this number
abbrev pub IsValueOf : Schema → ℕ → List ℕ → Prepared → Type 0
IsValueOf schema number word prepared = Spells (parameters_rule schema number) (view prepared.value) word × IsPrepared schema prepared

-- for a reason that isn't want of memory
abbrev pub IsReason : PrepareError → Type 0
IsReason Memory = ⊥
IsReason _ = Unit {0}

-- the word is no value of the target's parameters, or one that isn't prepared
abbrev pub IsNoValue : Schema → Target → ℕ → List ℕ → Type 0
IsNoValue schema target number word =
    (tree : Tree) → Spells (parameters_rule schema number) tree word → (error : PrepareError) × IsReason error × IsPrepareRefusal schema target tree error

-- the value is to carry handles or endpoints
abbrev pub WantsTokens : Schema → Target → Tree → Type 0
WantsTokens schema target tree = (met : Met) × (verdict schema target tree ≡ Ok met) × ((0 < met.handles) ⊎ (0 < length met.endpoints))

-- the word is no value of the target's parameters that is prepared and carries nothing
abbrev pub IsNoBareValue : Schema → Target → ℕ → List ℕ → Type 0
IsNoBareValue schema target number word = (tree : Tree) → Spells (parameters_rule schema number) tree word
    → ((error : PrepareError) × IsReason error × IsPrepareRefusal schema target tree error) ⊎ WantsTokens schema target tree

-- the value of a line isn't one
abbrev pub HasNoValue : Schema → Form → Type 0
HasNoValue schema (Of seq (Call end id method word tokens moment)) =
    (target : Target) (number : ℕ) → message_named schema Request method ≡ Some (target, number) → IsNoValue schema target number word
HasNoValue schema (Of seq (Answer responder method word tokens moment)) =
    (target : Target) (number : ℕ) → message_named schema Response method ≡ Some (target, number) → IsNoValue schema target number word
HasNoValue schema (Auto seq method word) =
    (target : Target) (number : ℕ) → message_named schema Response method ≡ Some (target, number) → IsNoBareValue schema target number word
HasNoValue schema form = ⊥

-- ## What a line asks

-- the name of this number
abbrev pub IsNamed : List (List ℕ) → NameId → List ℕ → Type 0
IsNamed names id name = slice_get names id.0 ≡ Some name

-- the names of these numbers, in order
abbrev pub AreNamed : List (List ℕ) → List NameId → List (List ℕ) → Type 0
AreNamed names [] [] = Unit {0}
AreNamed names (id ∷ ids) (name ∷ rest) = IsNamed names id name × AreNamed names ids rest
AreNamed names _ _ = ⊥

-- what is moved, with the bytes that its word spells
abbrev pub IsFlowOf : Moved → FlowType → Type 0
IsFlowOf (Put word all) (flows.Put bytes all') = IsHexOf word bytes × (all' ≡ all)
IsFlowOf (Get n all) (flows.Get n' all') = (n' ≡ n) × (all' ≡ all)
IsFlowOf BeginPut flows.BeginPut = Unit {0}
IsFlowOf (EndPut word) (flows.EndPut bytes) = IsHexOf word bytes
IsFlowOf BeginGet flows.BeginGet = Unit {0}
IsFlowOf (EndGet n) (flows.EndGet n') = n' ≡ n
IsFlowOf moved flow = ⊥

-- the command that a line's form asks, with names, interfaces and methods by their numbers and its value prepared, where names were set
-- before it and there are these with its own
abbrev pub Asks : Schema → List (List ℕ) → List (List ℕ) → Form → Command → Type 0
Asks schema before names (Join seq other x y) (commands.Join other' first second) =
    (other'.0 ≡ other) × IsNamed names first x × IsNamed names second y
Asks schema before names (Of seq (Pipe x y)) (commands.Pipe first second) = IsNamed names first (own_word seq x) × IsNamed names second (own_word seq y)
Asks schema before names (Of seq (Mint sort x)) (commands.Mint sort' name) = (sort' ≡ sort) × IsNamed names name (own_word seq x)
Asks schema before names (Of seq (Bind x side interface)) (commands.Bind end side' number) =
    IsNamed names end (meant before seq x) × (side' ≡ side) × (interface_named schema.interfaces interface ≡ Some number)
Asks schema before names (Of seq (Associate x side interface p)) (commands.Associate end side' number pending) =
    IsNamed names end (meant before seq x) × (side' ≡ side) × (interface_named schema.interfaces interface ≡ Some number)
    × IsNamed names pending (own_word seq p)
Asks schema before names (Of seq (Attach p other)) (commands.Attach pending other') = IsNamed names pending (meant before seq p) × (other'.0 ≡ other)
Asks schema before names (Of seq (Call x id method word ts moment)) (commands.Call end id' prepared tokens moment') =
    IsNamed names end (meant before seq x) × (id' ≡ id) × AreNamed names tokens (map (meant before seq) ts)
    × ((number : ℕ) × (message_named schema Request method ≡ Some (prepared.target, number)) × IsValueOf schema number word prepared)
    × (moment' ≡ moment)
Asks schema before names (Of seq (Take x ns)) (commands.Take end got) =
    IsNamed names end (meant before seq x) × AreNamed names got (map (own_word seq) ns)
Asks schema before names (Of seq (Answer x method word ts moment)) (commands.Answer responder prepared tokens moment') =
    IsNamed names responder (meant before seq x) × AreNamed names tokens (map (meant before seq) ts)
    × ((number : ℕ) × (message_named schema Response method ≡ Some (prepared.target, number)) × IsValueOf schema number word prepared)
    × (moment' ≡ moment)
Asks schema before names (Of seq (Raw x word ts)) (commands.Raw end bytes tokens) =
    IsNamed names end (meant before seq x) × IsHexOf word bytes × AreNamed names tokens (map (meant before seq) ts)
Asks schema before names (Of seq (CloseToken x)) (commands.CloseToken token) = IsNamed names token (meant before seq x)
Asks schema before names (Of seq (CloseEndpoint x id)) (commands.CloseEndpoint end id') = IsNamed names end (meant before seq x) × (id' ≡ id)
Asks schema before names (Of seq (Notify x notice)) (commands.Notify end notice') = IsNamed names end (meant before seq x) × (notice' ≡ notice)
Asks schema before names (Of seq (Pause x y flush)) (commands.Pause end other flush') =
    IsNamed names end (meant before seq x) × IsNamed names other (meant before seq y) × (flush' ≡ flush)
Asks schema before names (Of seq (Data size x y)) (commands.Data size' producer consumer) =
    (size' ≡ size) × IsNamed names producer (own_word seq x) × IsNamed names consumer (own_word seq y)
Asks schema before names (Of seq (Flow x moved)) (commands.Flow token flow) = IsNamed names token (meant before seq x) × IsFlowOf moved flow
Asks schema before names form command = ⊥

-- the line of a form behind these
pub record IsLine (schema : Schema) (past : List Form) (form : Form) (line : Line) : Type 0 where
  pub number : line.number ≡ line_number past
  pub seq : line.seq.0 ≡ seq_of form
  pub command : Asks schema (names_set past) (names_set (form ∷ past)) form line.command

-- the automatic reply of a form: the response of a method with this value, which carries nothing
pub record IsAuto (schema : Schema) (asker : ℕ) (method word : List ℕ) (reply : AutoReply) : Type 0 where
  pub seq : reply.seq.0 ≡ asker
  pub number : ℕ
  pub target : message_named schema Response method ≡ Some (reply.prepared.target, number)
  pub value : IsValueOf schema number word reply.prepared
  pub handles : reply.prepared.handles ≡ 0
  pub endpoints : reply.prepared.endpoints.items ≡ []

-- the automatic reply that a form adds, where it is a form of one
abbrev pub IsReply : Schema → Form → AutoReply → Type 0
IsReply schema (Auto seq method word) reply = IsAuto schema seq method word reply
IsReply schema form reply = ⊥

-- what a form adds to a script
pub data Part : Type 0 where
  OfLine : Line → Part
  OfReply : AutoReply → Part

-- the part that a form adds to a script, behind these forms
abbrev pub IsPart : Schema → List Form → Form → Part → Type 0
IsPart schema past form (OfLine line) = IsLine schema past form line
IsPart schema past form (OfReply reply) = IsReply schema form reply

-- the lines of parts, in order
abbrev pub lines_in : List Part → List Line
lines_in [] = []
lines_in (OfLine line ∷ parts) = line ∷ lines_in parts
lines_in (OfReply reply ∷ parts) = lines_in parts

-- the automatic replies of parts, in order
abbrev pub replies_in : List Part → List AutoReply
replies_in [] = []
replies_in (OfLine line ∷ parts) = replies_in parts
replies_in (OfReply reply ∷ parts) = reply ∷ replies_in parts

-- no name is set and no method answered again, all that is named is there, and the part is what the form adds
pub record IsTaken (schema : Schema) (seqs : ℕ) (past : List Form) (form : Form) (part : Part) : Type 0 where
  pub placed : is_placed past form ≡ true
  pub sound : IsForm form
  pub there : AreThere seqs (sequences form)
  pub single : doubles past form ≡ false
  pub known : knows schema (names_set past) form ≡ true
  pub means : IsPart schema past form part

-- the parts of these forms, the newest first as well
abbrev pub AreTaken : Schema → ℕ → List Form → List Part → Type 0
AreTaken schema seqs [] [] = Unit {0}
AreTaken schema seqs (form ∷ past) (part ∷ parts) = IsTaken schema seqs past form part × AreTaken schema seqs past parts
AreTaken schema seqs _ _ = ⊥

-- ## The script, and its refusals

-- the lines are the script's: the first says how many sequences there are, and the others are its parts, 65,536 lines at most in all
pub record AreScript (schema : Schema) (texts : List (List (List ℕ))) (script : Script) : Type 0 where
  pub forms : List Form
  pub parts : List Part
  pub count : AreSequences script.seqs
  pub spelled : texts ≡ header_words script.seqs ∷ map form_words (reverse forms)
  pub taken : AreTaken schema script.seqs forms parts
  pub autos : script.autos ≡ replies_in (reverse parts)
  pub lines : script.lines ≡ lines_in (reverse parts)
  pub names : script.names ≡ length (names_set forms)
  pub few : length forms < MAX_SCRIPT_LINES

-- the bytes are the script
abbrev pub IsScriptOf : Schema → List ℕ → Script → Type 0
IsScriptOf schema bytes script = AreScript schema (text_words bytes) script

-- a line of these words behind those is refused, where there are so many sequences; of several reasons the first in this order is meant
abbrev pub IsRefused : Schema → ℕ → List Form → List (List ℕ) → LineRefusal → Type 0
IsRefused schema seqs past words BadLine = (form : Form) → IsFormOf seqs past words form → ⊥
IsRefused schema seqs past words DoubleName = (form : Form) × IsFormOf seqs past words form × (doubles past form ≡ true)
IsRefused schema seqs past words UnknownName =
    (form : Form) × IsFormOf seqs past words form × (doubles past form ≡ false) × (knows schema (names_set past) form ≡ false)
IsRefused schema seqs past words BadValue =
    (form : Form) × IsFormOf seqs past words form × (doubles past form ≡ false) × (knows schema (names_set past) form ≡ true) × HasNoValue schema form
IsRefused schema seqs past words TooManyLines =
    (form : Form) × (part : Part) × (words ≡ form_words form) × IsTaken schema seqs past form part × (MAX_SCRIPT_LINES < line_number past)

-- the line of this number is the first that is refused
pub record IsRefusedBehind (schema : Schema) (texts : List (List (List ℕ))) (line : ℕ) (why : LineRefusal) : Type 0 where
  pub seqs : ℕ
  pub forms : List Form
  pub parts : List Part
  pub words : List (List ℕ)
  pub rest : List (List (List ℕ))
  pub count : AreSequences seqs
  pub spelled : texts ≡ header_words seqs ∷ (map form_words (reverse forms) ++ words ∷ rest)
  pub taken : AreTaken schema seqs forms parts
  pub few : length forms < MAX_SCRIPT_LINES
  pub number : line ≡ line_number forms
  pub refused : IsRefused schema seqs forms words why

-- the first line doesn't say how many sequences there are, or there is none
abbrev pub HasNoHeader : List (List (List ℕ)) → Type 0
HasNoHeader texts = (seqs : ℕ) (rest : List (List (List ℕ))) → AreSequences seqs → texts ≡ header_words seqs ∷ rest → ⊥

-- the first refusal of these lines
abbrev pub AreRefused : Schema → List (List (List ℕ)) → ℕ → LineRefusal → Type 0
AreRefused schema texts line why = ((line ≡ 1) × (why ≡ BadLine) × HasNoHeader texts) ⊎ IsRefusedBehind schema texts line why

-- the first refusal of the bytes
abbrev pub IsFirstRefusal : Schema → List ℕ → ℕ → LineRefusal → Type 0
IsFirstRefusal schema bytes line why = AreRefused schema (text_words bytes) line why
