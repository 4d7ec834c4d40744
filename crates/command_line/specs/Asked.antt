-- What the words of the command line ask for.
use Rattle.std.specs.Prelude.{ℕ, List, [], ◌∷◌, map, Option, Some, None, unwrap_or, option_and_then, option_map, codes, if◌then◌else◌}
use Rattle.std.specs.Prelude.{Bool, ◌≡◌, ◌⊎◌, ◌^◌, ◌&&◌, nat_le, nat_lt}
use Rattle.std.specs.Borrow.{Bor}
use Rattle.std.specs.Fmt.{decimal}
use Rattle.std.specs.Option.{option_map_or}
use Rattle.std.specs.Str.{bytes_eq}
use Rattle.std.specs.Str.Parse.{digits_value}
use Rattle.clap.specs.Walk.{byte_or_zero}
use Rattle.clap.specs.Words.{Kinds, Row, Text, all_of, fault_of, first_of, subcommand_of}
use Rattle.command_line.specs.Definition.{tool}
use Rattle.command_line.specs.declared.asked.Command.{Command as Read}
use Rattle.command_line.specs.declared.asked.Command.TheVariants as read
use Rattle.command_line.specs.declared.asked.MessageCount.{MessageCount}
use Rattle.command_line.specs.declared.asked.RunAtOnce.{RunAtOnce}
use Rattle.command_line.specs.declared.asked.Side.{Side}
use Rattle.command_line.specs.declared.asked.Side.TheVariants.{Request, Response}
use Rattle.command_line.specs.declared.asked.Words.{Words}
use Rattle.command_line.specs.declared.asked.Words.TheVariants as sorts
use Rattle.command_line.specs.declared.asked.WordsError.{WordsError}
use Rattle.command_line.specs.declared.asked.WordsError.TheVariants.{WrongUse, Memory}

-- the names, and the number that decides which sequence goes on, in `run --script SCRIPT [--order ORDER] [--threads] FILE..`; there is no such
-- number where `--threads` stands
pub record RunWords : Type 0 where
  pub script : List ℕ
  pub order : Option ℕ
  pub files : List (List ℕ)

-- these words of `run`
abbrev pub run_words : List ℕ → Option ℕ → List (List ℕ) → RunWords
run_words script order files = record { script = script; order = order; files = files }

-- the method, which of its messages, and the names of files in `encode --method METHOD [--response] --value VALUE FILE..`
pub record EncodeWords : Type 0 where
  pub method : List ℕ
  pub side : Side
  pub value : List ℕ
  pub files : List (List ℕ)

-- these words of `encode`
abbrev pub encode_words : List ℕ → Side → List ℕ → List (List ℕ) → EncodeWords
encode_words method side value files = record { method = method; side = side; value = value; files = files }

-- the interface, which side's message, the number of its handles, and the names of files in
-- `decode --interface INTERFACE [--response] --handles HANDLES --message MESSAGE FILE..`
pub record DecodeWords : Type 0 where
  pub interface : List ℕ
  pub side : Side
  pub handles : ℕ
  pub message : List ℕ
  pub files : List (List ℕ)

-- these words of `decode`
abbrev pub decode_words : List ℕ → Side → ℕ → List ℕ → List (List ℕ) → DecodeWords
decode_words interface side handles message files =
    record { interface = interface; side = side; handles = handles; message = message; files = files }

-- the number that others are drawn behind, and how many messages there are, in `load --seed SEED --messages MESSAGES`
pub record LoadWords : Type 0 where
  pub seed : ℕ
  pub messages : ℕ

-- these words of `load`
abbrev pub load_words : ℕ → ℕ → LoadWords
load_words seed messages = record { seed = seed; messages = messages }

-- the names in `audit --script SCRIPT --history HISTORY FILE..`
pub record AuditWords : Type 0 where
  pub script : List ℕ
  pub history : List ℕ
  pub files : List (List ℕ)

-- these words of `audit`
abbrev pub audit_words : List ℕ → List ℕ → List (List ℕ) → AuditWords
audit_words script history files = record { script = script; history = history; files = files }

-- what the words ask for: a run, the text of a file, `print FILE`, the tables of files, `check FILE..`, the message of a
-- value, the value of a message, a load, what is said of a history's text, or whether one file reads what another writes, `compat OLD NEW`
pub data Command : Type 0 where
  Run : RunWords → Command
  Print : (file : List ℕ) → Command
  Check : (files : List (List ℕ)) → Command
  Encode : EncodeWords → Command
  Decode : DecodeWords → Command
  Load : LoadWords → Command
  Audit : AuditWords → Command
  Compat : (old new : List ℕ) → Command

-- the value under a name; each that is asked for below is there, so the empty text stands for none
abbrev pub text_at : Text → List Row → Text
text_at name rows = unwrap_or (first_of name rows) []

-- the values under a name, in the order given
abbrev pub texts_at : Text → List Row → List Text
texts_at name rows = unwrap_or (all_of name rows) []

-- the response where `--response` stands, else the request
abbrev pub side_in : List Row → Side
side_in rows = if bytes_eq (text_at (codes "response") rows) (codes "true") then Response else Request

-- the number of 64 bits whose decimal digits, with no sign and no leading zero, are the text
abbrev pub order_of : Text → Option ℕ
order_of text = let n = digits_value 10 text in if bytes_eq (decimal n) text && nat_lt n (2 ^ 64) then Some n else None

-- the order among these values, where it is one: 0 where none is given
abbrev pub order_in : List Row → Option ℕ
order_in rows = option_map_or order_of (first_of (codes "order") rows) (Some 0)

-- `--threads` stands
abbrev pub is_at_once : List Row → Bool
is_at_once rows = bytes_eq (text_at (codes "threads") rows) (codes "true")

-- the order, where `--threads` doesn't stand
abbrev pub turns_in : List Row → ℕ → Option ℕ
turns_in rows order = if is_at_once rows then None else Some order

-- `run` with these values and this order
abbrev pub run_with : List Row → ℕ → Command
run_with rows order = Run (run_words (text_at (codes "script") rows) (turns_in rows order) (texts_at (codes "FILE") rows))

-- `run` with these values, where the order is one
abbrev pub run_in : List Row → Option Command
run_in rows = option_map (run_with rows) (order_in rows)

-- the number from 0 to 64 whose decimal digits, with no sign and no leading zero, are the text
abbrev pub handles_of : Text → Option ℕ
handles_of text = let n = byte_or_zero text in if bytes_eq (decimal n) text && nat_le n 64 then Some n else None

-- the number of handles among these values, where it is one
abbrev pub handles_in : List Row → Option ℕ
handles_in rows = handles_of (text_at (codes "handles") rows)

-- `encode` with these values
abbrev pub encode_in : List Row → Command
encode_in rows =
    Encode (encode_words (text_at (codes "method") rows) (side_in rows) (text_at (codes "value") rows) (texts_at (codes "FILE") rows))

-- `decode` with these values and this number of handles
abbrev pub decode_with : List Row → ℕ → Command
decode_with rows handles =
    Decode (decode_words (text_at (codes "interface") rows) (side_in rows) handles (text_at (codes "message") rows)
    (texts_at (codes "FILE") rows))

-- `decode` with these values, where the number of handles is one
abbrev pub decode_in : List Row → Option Command
decode_in rows = option_map (decode_with rows) (handles_in rows)

-- a number from 1 to 1,000,000
abbrev pub in_load : ℕ → Option ℕ
in_load n = if nat_le 1 n && nat_le n 1000000 then Some n else None

-- such a number whose decimal digits, with no sign and no leading zero, are the text
abbrev pub messages_of : Text → Option ℕ
messages_of text = option_and_then in_load (order_of text)

-- how many messages that is, where it is one
abbrev pub counted : Option MessageCount → Option ℕ
counted = option_map (λ (messages : MessageCount). messages.count)

-- the seed among these values, where it is a number of 64 bits
abbrev pub seed_in : List Row → Option ℕ
seed_in rows = order_of (text_at (codes "seed") rows)

-- the number of messages among them, where it is one
abbrev pub messages_in : List Row → Option ℕ
messages_in rows = messages_of (text_at (codes "messages") rows)

-- `load` with this seed and so many messages
abbrev pub load_with : ℕ → ℕ → Command
load_with seed messages = Load (load_words seed messages)

-- `load` with these values, where both numbers are such
abbrev pub load_in : List Row → Option Command
load_in rows = option_and_then (λ (seed : ℕ). option_map (load_with seed) (messages_in rows)) (seed_in rows)

-- `audit` with these values
abbrev pub audit_in : List Row → Command
audit_in rows =
    Audit (audit_words (text_at (codes "script") rows) (text_at (codes "history") rows) (texts_at (codes "FILE") rows))

-- the command of this name with these values; there are eight, and `run`, `decode` and `load` alone can be none, by their numbers
abbrev pub command_in : Text × List Row → Option Command
command_in (name, rows) =
    if bytes_eq name (codes "run") then run_in rows
    else if bytes_eq name (codes "print") then Some (Print (text_at (codes "FILE") rows))
    else if bytes_eq name (codes "check") then Some (Check (texts_at (codes "FILE") rows))
    else if bytes_eq name (codes "encode") then Some (encode_in rows)
    else if bytes_eq name (codes "decode") then decode_in rows
    else if bytes_eq name (codes "audit") then Some (audit_in rows)
    else if bytes_eq name (codes "compat") then Some (Compat (text_at (codes "OLD") rows) (text_at (codes "NEW") rows))
    else load_in rows

-- where `clap` finds a fault in the words, or a call for help, they ask for nothing
abbrev pub unless_fault : Kinds → Option Command → Option Command
unless_fault [] asked = asked
unless_fault (fault ∷ faults) asked = None

-- what the words, the program's name first, ask for
abbrev pub command_of : List (List ℕ) → Option Command
command_of words = unless_fault (fault_of tool words) (option_and_then command_in (subcommand_of tool words))

-- the words are `run` with `--threads`
abbrev pub AsksThreads : Option Command → Type 0
AsksThreads None = ⊥
AsksThreads (Some (Run words)) = words.order ≡ None
AsksThreads (Some (Print file)) = ⊥
AsksThreads (Some (Check files)) = ⊥
AsksThreads (Some (Encode words)) = ⊥
AsksThreads (Some (Decode words)) = ⊥
AsksThreads (Some (Load words)) = ⊥
AsksThreads (Some (Audit words)) = ⊥
AsksThreads (Some (Compat old new)) = ⊥

-- the words are `run` with an order that is no number of 64 bits, `decode` with a number of handles that is no number from 0 to 64, or `load`
-- with a seed that is no number of 64 bits or a number of messages that is none from 1 to 1,000,000
abbrev pub HasWrongNumber : Option (Text × List Row) → Type 0
HasWrongNumber None = ⊥
HasWrongNumber (Some (name, rows)) =
    ((name ≡ codes "run") × (order_in rows ≡ None))
    ⊎ (((name ≡ codes "decode") × (handles_in rows ≡ None))
    ⊎ ((name ≡ codes "load") × ((seed_in rows ≡ None) ⊎ (messages_in rows ≡ None))))

-- what these borrowed texts say
abbrev pub texts : List (Bor Text) → List Text
texts = map (λ text. text.now)

-- what the command that was read asks for
abbrev pub asked_of : Read → Command
asked_of (read.Run script order files) = Run (run_words script.now (Some order) (texts files.items))
asked_of (read.Print file) = Print file.now
asked_of (read.Check files) = Check (texts files.items)
asked_of (read.Encode method side value files) = Encode (encode_words method.now side value.now (texts files.items))
asked_of (read.Decode interface side handles message files) =
    Decode (decode_words interface.now side handles message.now (texts files.items))
asked_of (read.Load seed messages) = Load (load_words seed messages.count)
asked_of (read.Audit script history files) = Audit (audit_words script.now history.now (texts files.items))
asked_of (read.Compat old new) = Compat old.now new.now

-- what a run with threads that was read asks for
abbrev pub at_once_of : RunAtOnce → Command
at_once_of run = Run (run_words run.script.now None (texts run.files.items))

-- what the words that were read ask for
abbrev pub asked_by : Words → Command
asked_by (sorts.AtOnce run) = at_once_of run
asked_by (sorts.Alone command) = asked_of command

-- an error other than want of memory comes only where this holds
abbrev pub OnWrongUse : Type 0 → WordsError → Type 0
OnWrongUse Such (WrongUse text) = Such
OnWrongUse Such Memory = Unit {0}
