-- The commands, as `clap` defines the reading of words: a command has rules for its options and positional words.
use Rattle.std.specs.Prelude.{true, Some, codes}
use Rattle.clap.specs.Words.{App, Rule, Text, new_app, new_rule, with_rule, with_subcommand}
use Rattle.clap.specs.declared.builder.action.ArgAction.TheVariants.{Append, Set, SetTrue}

-- an argument that `--name` stands for
abbrev pub long : Text → Rule
long name = record (new_rule name) { long = Some name }

-- `--name VALUE` or `--name=VALUE`, just once
abbrev pub option : Text → Rule
option name = record (long name) { required = true; action = Some Set }

-- the same, once or not at all
abbrev pub free_option : Text → Rule
free_option name = record (long name) { action = Some Set }

-- `--name`, once or not at all
abbrev pub flag : Text → Rule
flag name = record (long name) { action = Some SetTrue }

-- a word that stands just once, by its place
abbrev pub one_word : Text → Rule
one_word name = record (new_rule name) { required = true; action = Some Set }

-- just one file
abbrev pub one_file : Rule
one_file = one_word (codes "FILE")

-- one file or more
abbrev pub files : Rule
files = record (new_rule (codes "FILE")) { required = true; action = Some Append }

-- `run` with its script and its order
abbrev pub run_start : App
run_start = with_rule (with_rule (new_app (codes "run")) (option (codes "script"))) (free_option (codes "order"))

-- `run --script SCRIPT [--order ORDER] [--threads] FILE..`
abbrev pub run : App
run = with_rule (with_rule run_start (flag (codes "threads"))) files

-- `print FILE`
abbrev pub print : App
print = with_rule (new_app (codes "print")) one_file

-- `check FILE..`
abbrev pub check : App
check = with_rule (new_app (codes "check")) files

-- `encode` with its method and its flag
abbrev pub encode_start : App
encode_start = with_rule (with_rule (new_app (codes "encode")) (option (codes "method"))) (flag (codes "response"))

-- `encode --method METHOD [--response] --value VALUE FILE..`
abbrev pub encode : App
encode = with_rule (with_rule encode_start (option (codes "value"))) files

-- `decode` with its interface and its flag
abbrev pub decode_start : App
decode_start = with_rule (with_rule (new_app (codes "decode")) (option (codes "interface"))) (flag (codes "response"))

-- with its number of handles and its message
abbrev pub decode_middle : App
decode_middle = with_rule (with_rule decode_start (option (codes "handles"))) (option (codes "message"))

-- `decode --interface INTERFACE [--response] --handles HANDLES --message MESSAGE FILE..`
abbrev pub decode : App
decode = with_rule decode_middle files

-- `load --seed SEED --messages MESSAGES`
abbrev pub load : App
load = with_rule (with_rule (new_app (codes "load")) (option (codes "seed"))) (option (codes "messages"))

-- `audit` with its script and its history
abbrev pub audit_start : App
audit_start = with_rule (with_rule (new_app (codes "audit")) (option (codes "script"))) (option (codes "history"))

-- `audit --script SCRIPT --history HISTORY FILE..`
abbrev pub audit : App
audit = with_rule audit_start files

-- `compat OLD NEW`
abbrev pub compat : App
compat = with_rule (with_rule (new_app (codes "compat")) (one_word (codes "OLD"))) (one_word (codes "NEW"))

-- the program alone: a command is wanted
abbrev pub bare : App
bare = let app = new_app (codes "mojo") in record app { top = record app.top { subcommand_required = true } }

-- the program with its first two commands
abbrev pub two_commands : App
two_commands = with_subcommand (with_subcommand bare run.top) print.top

-- and with the next two
abbrev pub four_commands : App
four_commands = with_subcommand (with_subcommand two_commands check.top) encode.top

-- and with `decode`
abbrev pub five_commands : App
five_commands = with_subcommand four_commands decode.top

-- and with `load`
abbrev pub six_commands : App
six_commands = with_subcommand five_commands load.top

-- and with `audit`
abbrev pub seven_commands : App
seven_commands = with_subcommand six_commands audit.top

-- the program with all its commands
abbrev pub tool : App
tool = with_subcommand seven_commands compat.top
