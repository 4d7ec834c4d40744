-- The forms of a script's lines, with names, interfaces, methods and values as words.
use Rattle.std.specs.Prelude.{ℕ, ℤ, ◌≡◌, ◌<◌, ◌≤◌, ◌^◌, ◌++◌, Bool, true, false, List, [], ◌∷◌, length, map, codes, decimal}
use Rattle.std.specs.Prelude.{FitsSigned, IfSome, Option, Some, None}
use Rattle.std.specs.Fmt.{signed_decimal}
use Rattle.std.specs.Int.{w64}
use Rattle.std.specs.List.{AllByRecursion}
use Rattle.bind_model.specs.declared.asked.Notice.{Notice}
use Rattle.bind_model.specs.declared.asked.Notice.TheVariants.{Query, Require, Flush}
use Rattle.handle_table.specs.declared.thing.TokenSort.{TokenSort}
use Rattle.handle_table.specs.declared.thing.TokenSort.TheVariants.{SharedBuffer, Platform}
use Rattle.wire_encoder.specs.declared.endpoint.EndpointSide.{EndpointSide}
use Rattle.wire_encoder.specs.declared.endpoint.EndpointSide.TheVariants.{Remote, Receiver}
use Rattle.script_forms.specs.declared.sequences.TheConstants.{MAX_SEQUENCES}
use Rattle.script_words.specs.Letters.{endpoint_word, own_word, is_name, are_names, is_interface_word, is_method_word, IsHexWord}

-- what is moved at a token of a data pipe, with bytes as a word
pub data Moved : Type 0 where
  Put : (bytes : List ℕ) (all : Bool) → Moved
  Get : (count : ℕ) (all : Bool) → Moved
  BeginPut : Moved
  EndPut : (bytes : List ℕ) → Moved
  BeginGet : Moved
  EndGet : (count : ℕ) → Moved

-- what a sequence is told to do
pub data Said : Type 0 where
  Pipe : (first second : List ℕ) → Said
  Mint : (sort : TokenSort) (name : List ℕ) → Said
  Bind : (end : List ℕ) (side : EndpointSide) (interface : List ℕ) → Said
  Associate : (end : List ℕ) (side : EndpointSide) (interface pending : List ℕ) → Said
  Attach : (pending : List ℕ) (seq : ℕ) → Said
  Call : (end : List ℕ) (id : ℕ) (method value : List ℕ) (tokens : List (List ℕ)) (moment : Option ℤ) → Said
  Take : (end : List ℕ) (names : List (List ℕ)) → Said
  Answer : (responder method value : List ℕ) (tokens : List (List ℕ)) (moment : Option ℤ) → Said
  Raw : (end bytes : List ℕ) (tokens : List (List ℕ)) → Said
  CloseToken : (token : List ℕ) → Said
  CloseEndpoint : (end : List ℕ) (id : ℕ) → Said
  Notify : (end : List ℕ) (notice : Notice) → Said
  Pause : (end other : List ℕ) (flush : ℕ) → Said
  Data : (size : ℕ) (producer consumer : List ℕ) → Said
  Flow : (token : List ℕ) (moved : Moved) → Said

-- a line behind the first: of the setup, or of a sequence
pub data Form : Type 0 where
  Join : (seq other : ℕ) (first second : List ℕ) → Form
  Auto : (seq : ℕ) (method value : List ℕ) → Form
  Of : (seq : ℕ) (said : Said) → Form

-- the word for a sort of token
abbrev pub sort_word : TokenSort → List ℕ
sort_word SharedBuffer = codes "shared_buffer"
sort_word Platform = codes "platform"

-- the word for a side of an endpoint
abbrev pub side_word : EndpointSide → List ℕ
side_word Remote = codes "remote"
side_word Receiver = codes "receiver"

-- what a call begins with: its word, or `call-at` and the moment
abbrev pub call_start : Option ℤ → List (List ℕ)
call_start None = codes "call" ∷ []
call_start (Some moment) = codes "call-at" ∷ signed_decimal moment ∷ []

-- what an answer begins with: its word, or `answer-at` and the moment
abbrev pub answer_start : Option ℤ → List (List ℕ)
answer_start None = codes "answer" ∷ []
answer_start (Some moment) = codes "answer-at" ∷ signed_decimal moment ∷ []

-- a control that is written from an end
abbrev pub notice_words : List ℕ → Notice → List (List ℕ)
notice_words end (Query id) = codes "query" ∷ endpoint_word end id ∷ []
notice_words end (Require id version) = codes "require" ∷ endpoint_word end id ∷ decimal version ∷ []
notice_words end Flush = codes "flush" ∷ end ∷ []

-- the word for what is moved, where bytes go in: all, or as many as there is room for
abbrev pub put_word : Bool → List ℕ
put_word false = codes "put"
put_word true = codes "put-all"

-- and where bytes come out: all, or as many as are held
abbrev pub get_word : Bool → List ℕ
get_word false = codes "get"
get_word true = codes "get-all"

-- the word for what is moved
abbrev pub move_word : Moved → List ℕ
move_word (Put bytes all) = put_word all
move_word (Get count all) = get_word all
move_word BeginPut = codes "begin-put"
move_word (EndPut bytes) = codes "end-put"
move_word BeginGet = codes "begin-get"
move_word (EndGet count) = codes "end-get"

-- the words behind the token
abbrev pub move_tail : Moved → List (List ℕ)
move_tail (Put bytes all) = bytes ∷ []
move_tail (Get count all) = decimal count ∷ []
move_tail BeginPut = []
move_tail (EndPut bytes) = bytes ∷ []
move_tail BeginGet = []
move_tail (EndGet count) = decimal count ∷ []

-- the words behind the sequence
abbrev pub said_words : Said → List (List ℕ)
said_words (Pipe first second) = codes "pipe" ∷ first ∷ second ∷ []
said_words (Mint sort name) = codes "mint" ∷ sort_word sort ∷ name ∷ []
said_words (Bind end side interface) = codes "bind" ∷ end ∷ side_word side ∷ interface ∷ []
said_words (Associate end side interface pending) = codes "associate" ∷ end ∷ side_word side ∷ interface ∷ pending ∷ []
said_words (Attach pending seq) = codes "attach" ∷ pending ∷ decimal seq ∷ []
said_words (Call end id method value tokens moment) = call_start moment ++ (endpoint_word end id ∷ method ∷ value ∷ tokens)
said_words (Take end names) = codes "take" ∷ end ∷ names
said_words (Answer responder method value tokens moment) = answer_start moment ++ (responder ∷ method ∷ value ∷ tokens)
said_words (Raw end bytes tokens) = codes "raw" ∷ end ∷ bytes ∷ tokens
said_words (CloseToken token) = codes "close" ∷ token ∷ []
said_words (CloseEndpoint end id) = codes "close" ∷ endpoint_word end id ∷ []
said_words (Notify end notice) = notice_words end notice
said_words (Pause end other flush) = codes "pause" ∷ end ∷ other ∷ decimal flush ∷ []
said_words (Data size producer consumer) = codes "data" ∷ decimal size ∷ producer ∷ consumer ∷ []
said_words (Flow token moved) = move_word moved ∷ token ∷ move_tail moved

-- the words of a line
abbrev pub form_words : Form → List (List ℕ)
form_words (Join seq other first second) = codes "join" ∷ decimal seq ∷ decimal other ∷ first ∷ second ∷ []
form_words (Auto seq method value) = codes "auto" ∷ decimal seq ∷ method ∷ value ∷ []
form_words (Of seq said) = (decimal seq ++ codes ":") ∷ said_words said

-- a script has so many sequences
abbrev pub AreSequences : ℕ → Type 0
AreSequences seqs = (0 < seqs) × (seqs ≤ MAX_SEQUENCES)

-- the words of the first line, which says how many there are
abbrev pub header_words : ℕ → List (List ℕ)
header_words seqs = codes "seqs" ∷ decimal seqs ∷ []

-- a moment has 64 bits, one of them its sign
abbrev pub IsMoment : Option ℤ → Type 0
IsMoment moment = IfSome moment (FitsSigned w64)

-- the numbers of a control have 32 bits
abbrev pub IsNotice : Notice → Type 0
IsNotice (Query id) = id < 2 ^ 32
IsNotice (Require id version) = (id < 2 ^ 32) × (version < 2 ^ 32)
IsNotice Flush = Unit {0}

-- bytes are spelled in hexadecimal, and how many are got has 32 bits
abbrev pub IsMoved : Moved → Type 0
IsMoved (Put bytes all) = IsHexWord bytes
IsMoved (Get count all) = count < 2 ^ 32
IsMoved BeginPut = Unit {0}
IsMoved (EndPut bytes) = IsHexWord bytes
IsMoved BeginGet = Unit {0}
IsMoved (EndGet count) = count < 2 ^ 32

-- names are names, numbers are in their range, and what names an interface or a method has the letters of one
abbrev pub IsSaid : Said → Type 0
IsSaid (Pipe first second) = (is_name first ≡ true) × (is_name second ≡ true)
IsSaid (Mint sort name) = is_name name ≡ true
IsSaid (Bind end side interface) = (is_name end ≡ true) × (is_interface_word interface ≡ true)
IsSaid (Associate end side interface pending) = (is_name end ≡ true) × (is_interface_word interface ≡ true) × (is_name pending ≡ true)
IsSaid (Attach pending seq) = is_name pending ≡ true
IsSaid (Call end id method value tokens moment) =
    (is_name end ≡ true) × (id < 2 ^ 32) × (is_method_word method ≡ true) × (0 < length value) × (are_names tokens ≡ true) × IsMoment moment
IsSaid (Take end names) = (is_name end ≡ true) × (are_names names ≡ true)
IsSaid (Answer responder method value tokens moment) =
    (is_name responder ≡ true) × (is_method_word method ≡ true) × (0 < length value) × (are_names tokens ≡ true) × IsMoment moment
IsSaid (Raw end bytes tokens) = (is_name end ≡ true) × IsHexWord bytes × (are_names tokens ≡ true)
IsSaid (CloseToken token) = is_name token ≡ true
IsSaid (CloseEndpoint end id) = (is_name end ≡ true) × (id < 2 ^ 32)
IsSaid (Notify end notice) = (is_name end ≡ true) × IsNotice notice
IsSaid (Pause end other flush) = (is_name end ≡ true) × (is_name other ≡ true) × (flush < 2 ^ 32)
IsSaid (Data size producer consumer) = (is_name producer ≡ true) × (is_name consumer ≡ true) × (size < 2 ^ 32)
IsSaid (Flow token moved) = (is_name token ≡ true) × IsMoved moved

-- what is said is said right
abbrev pub IsForm : Form → Type 0
IsForm (Join seq other first second) = (is_name first ≡ true) × (is_name second ≡ true)
IsForm (Auto seq method value) = (is_method_word method ≡ true) × (0 < length value)
IsForm (Of seq said) = IsSaid said

-- the sequences that are named by what is said
abbrev pub said_sequences : Said → List ℕ
said_sequences (Attach pending seq) = seq ∷ []
said_sequences said = []

-- the sequences that a line names
abbrev pub sequences : Form → List ℕ
sequences (Join seq other first second) = seq ∷ other ∷ []
sequences (Auto seq method value) = seq ∷ []
sequences (Of seq said) = seq ∷ said_sequences said

-- they are among so many
abbrev pub AreThere : ℕ → List ℕ → Type 0
AreThere seqs named = AllByRecursion (λ seq. seq < seqs) named

-- whether a line is of the setup
abbrev pub is_setup : Form → Bool
is_setup (Join seq other first second) = true
is_setup (Auto seq method value) = true
is_setup (Of seq said) = false

-- the names that are set by what is said
abbrev pub said_sets : Said → List (List ℕ)
said_sets (Pipe first second) = first ∷ second ∷ []
said_sets (Mint sort name) = name ∷ []
said_sets (Bind end side interface) = []
said_sets (Associate end side interface pending) = pending ∷ []
said_sets (Attach pending seq) = []
said_sets (Call end id method value tokens moment) = []
said_sets (Take end names) = names
said_sets (Answer responder method value tokens moment) = []
said_sets (Raw end bytes tokens) = []
said_sets (CloseToken token) = []
said_sets (CloseEndpoint end id) = []
said_sets (Notify end notice) = []
said_sets (Pause end other flush) = []
said_sets (Data size producer consumer) = producer ∷ consumer ∷ []
said_sets (Flow token moved) = []

-- the names of its sequence's own that a line sets
abbrev pub sets_own : Form → List (List ℕ)
sets_own (Join seq other first second) = []
sets_own (Auto seq method value) = []
sets_own (Of seq said) = said_sets said

-- the names that a line sets: those of a join are the script's, and the others have their sequence before them
abbrev pub sets : Form → List (List ℕ)
sets (Join seq other first second) = first ∷ second ∷ []
sets (Auto seq method value) = []
sets (Of seq said) = map (own_word seq) (said_sets said)

-- the methods that a line lets be answered by themselves, with their sequence before them
abbrev pub answers : Form → List (List ℕ)
answers (Join seq other first second) = []
answers (Auto seq method value) = own_word seq method ∷ []
answers (Of seq said) = []

-- the names that are needed by what is said
abbrev pub said_needs : Said → List (List ℕ)
said_needs (Pipe first second) = []
said_needs (Mint sort name) = []
said_needs (Bind end side interface) = end ∷ []
said_needs (Associate end side interface pending) = end ∷ []
said_needs (Attach pending seq) = pending ∷ []
said_needs (Call end id method value tokens moment) = end ∷ tokens
said_needs (Take end names) = end ∷ []
said_needs (Answer responder method value tokens moment) = responder ∷ tokens
said_needs (Raw end bytes tokens) = end ∷ tokens
said_needs (CloseToken token) = token ∷ []
said_needs (CloseEndpoint end id) = end ∷ []
said_needs (Notify end notice) = end ∷ []
said_needs (Pause end other flush) = end ∷ other ∷ []
said_needs (Data size producer consumer) = []
said_needs (Flow token moved) = token ∷ []

-- the names that a line needs
abbrev pub needs : Form → List (List ℕ)
needs (Join seq other first second) = []
needs (Auto seq method value) = []
needs (Of seq said) = said_needs said
