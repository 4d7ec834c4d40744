-- Which status comes where nothing failed.
use Rattle.std.proofs.Common.{◌≡◌, ℕ, List, [], Some, None, refl, sym, ap, ◌∙◌, ◌++◌, subst, inl, inr}
use Rattle.std.specs.Prelude.{Option, ◌⊎◌, codes, decimal}
use Rattle.mj_io.specs.Outside.{Named, Rose}
use Rattle.command_line.specs.Asked.{Command, Run, Print, Check, Encode, Decode, Load, Audit, Compat, command_of}
use Rattle.history_audit.proofs.Printed.{AnyOrder}
use Rattle.history_text.specs.Words.{fault_word}
use Rattle.mojom_compile.specs.Causes.{cause_text}
use Rattle.mojo_tool.specs.LanguageCauses.{language_text}
use Rattle.mojo_tool.specs.Work.{Work, WrongWords, Missing, TooLong, Refuses, Rejects, RefusesLine, UnknownName, BadText, Unfit, BadHex, Faulty, Breaks}
use Rattle.mojo_tool.specs.Work.{Runs, Prints, Checks, Encodes, Decodes, Loads, Sounds, Unsounds, Reads, AskedFor, IsWork}
use Rattle.mojo_tool.specs.Answers.{Seen, Answers, asked_by, IsTextFor, IsRightText, ReadFailed, WroteOrFailed, refused_work}
use Rattle.mojo_tool.specs.Lines.{refusal_text, line_refusal_name, unfit_text, unsound_text, reason_text, error_line, read_text}
use Rattle.mojo_tool.specs.Complete.{CanBeDone, CanBeServed, IsAsked, IsDoable, IsDoneOrShort, IsRefusedOrShort, IsUnreadOrShort, IsComplete}
use Rattle.mojo_tool.proofs.OneWork.{one_work}
use Rattle.mojo_tool.specs.declared.refusal.ToolRefusal.{ToolRefusal}
use Rattle.mojo_tool.specs.declared.refusal.ToolRefusal.TheVariants as refusals
use Rattle.mojo_tool.specs.declared.status.Status.{Status}
use Rattle.mojo_tool.specs.declared.status.Status.TheVariants.{Done, Refused, WrongUse, ReadFault, WriteFault, NoMemory}

-- over files that say what they hold, what is asked for is asked of them
asked_of : (held : Option (List Named)) (files : List Named) (ask : List Named → Work → Type 0) (work : Work) → held ≡ Some files
    → AskedFor held ask work → ask files work
asked_of held files ask work t asked = subst (λ (o : Option (List Named)). AskedFor o ask work) t asked

not_refused : (s : Seen) (can : CanBeDone s) (refusal : ToolRefusal) → AskedFor s.files_before.held (asked_by s) (refused_work refusal) → ⊥
not_refused s can (refusals.RefusedLine line why) asked =
    can.readable line why (asked_of s.files_before.held can.files (asked_by s) (RefusesLine line why) can.held asked)
not_refused s can (refusals.FileTooLong name) asked =
    can.short name.now (asked_of s.files_before.held can.files (asked_by s) (TooLong name.now) can.held asked)
not_refused s can (refusals.Refused name refusal) asked =
    can.compiled name.now refusal (asked_of s.files_before.held can.files (asked_by s) (Refuses name.now refusal) can.held asked)
not_refused s can (refusals.Rejected name at cause) asked =
    can.checked name.now at cause (asked_of s.files_before.held can.files (asked_by s) (Rejects name.now at cause) can.held asked)
not_refused s can (refusals.UnknownName name) asked =
    can.known name.now (asked_of s.files_before.held can.files (asked_by s) (UnknownName name.now) can.held asked)
not_refused s can (refusals.BadText at) asked =
    can.spelled at (asked_of s.files_before.held can.files (asked_by s) (BadText at) can.held asked)
not_refused s can (refusals.Unfit why) asked =
    can.fit why (asked_of s.files_before.held can.files (asked_by s) (Unfit why) can.held asked)
not_refused s can refusals.BadHex asked =
    can.hexadecimal (asked_of s.files_before.held can.files (asked_by s) BadHex can.held asked)
not_refused s can (refusals.Faulty fault) asked =
    can.sound fault (asked_of s.files_before.held can.files (asked_by s) (Faulty fault) can.held asked)
not_refused s can (refusals.Unsound answer) asked =
    can.whole answer (asked_of s.files_before.held can.files (asked_by s) (Unsounds answer) can.held asked)
not_refused s can (refusals.Incompatible reason) asked =
    can.compatible reason (asked_of s.files_before.held can.files (asked_by s) (Breaks reason) can.held asked)

-- a fetch that failed, though no file that is there did, is of a name that isn't there
missed : (s : Seen) (files : List Named) (name : List ℕ) → s.files_before.held ≡ Some files → ¬ Rose s.files_before.faults_on_present s.files.faults_on_present
    → ReadFailed s.files_before.held (asked_by s) name s.files_before.faults_on_present s.files.faults_on_present → asked_by s files (Missing name)
missed s files name held steady failed =
    go (subst (λ (o : Option (List Named)). ReadFailed o (asked_by s) name s.files_before.faults_on_present s.files.faults_on_present) held failed)
  where
    go : asked_by s files (Missing name) ⊎ Rose s.files_before.faults_on_present s.files.faults_on_present → asked_by s files (Missing name)
    go (inl asked) = asked
    go (inr rose) = absurd (steady rose)

no_words : (words : Option Command) (files : List Named) → words ≡ None → IsWork words files WrongWords
no_words None files e = refl
no_words (Some words) files e = absurd cc

is_done : (s : Seen) (status : Status) → Answers s status → CanBeDone s → IsDoneOrShort status
is_done s Done a can = inl refl
is_done s Refused a can = absurd (not_refused s can a.refusal a.asked)
is_done s WrongUse a can = absurd (can.words (no_words (command_of s.words) can.files a.wrong))
is_done s ReadFault a can = absurd (can.present a.name (missed s can.files a.name can.held can.steady a.failed))
is_done s WriteFault a can = absurd (can.written a.rose)
is_done s NoMemory a can = inr refl

-- what has the text of a message, of its value or of an audit is one of these
message_doable : (work : Work) (text : List ℕ) → IsTextFor work text → IsDoable work
message_doable WrongWords text is = absurd is
message_doable (Missing name) text is = absurd is
message_doable (TooLong name) text is = absurd is
message_doable (Refuses name refusal) text is = absurd is
message_doable (Rejects name at cause) text is = absurd is
message_doable (RefusesLine line why) text is = absurd is
message_doable (UnknownName name) text is = absurd is
message_doable (BadText at) text is = absurd is
message_doable (Unfit why) text is = absurd is
message_doable BadHex text is = absurd is
message_doable (Faulty fault) text is = absurd is
message_doable (Breaks reason) text is = absurd is
message_doable (Checks schema) text is = absurd is
message_doable (Prints tree) text is = absurd is
message_doable (Runs schema script order) text is = absurd is
message_doable (Encodes message) text is = tt
message_doable (Decodes interface method request value) text is = tt
message_doable (Loads schema seed messages) text is = absurd is
message_doable (Sounds events) text is = tt
message_doable (Unsounds answer) text is = absurd is
message_doable (Reads stable) text is = absurd is

-- a text that is right is that of a run, a tree, a schema, a message, its value, a load, a sound history or files that are compatible, as is
-- asked for
text_work : (command : Option Command) (before now : List Named) (held : Option (List Named)) (files : List Named)
    (ask : List Named → Work → Type 0) (text : List ℕ) → held ≡ Some files
    → IsRightText command before now held ask text → (work : Work) × IsDoable work × ask files work
text_work None before now held files ask text e right = absurd right
text_work (Some (Run words)) before now held files ask text e right =
    (Runs right.schema right.bytes words.order, tt, asked_of held files ask (Runs right.schema right.bytes words.order) e right.asked)
text_work (Some (Print file)) before now held files ask text e right = (Prints right.tree, tt, asked_of held files ask (Prints right.tree) e right.asked)
text_work (Some (Check names)) before now held files ask text e right = (Checks right.schema, tt, asked_of held files ask (Checks right.schema) e right.asked)
text_work (Some (Encode words)) before now held files ask text e right =
    (right.work, message_doable right.work text right.text_of, asked_of held files ask right.work e right.asked)
text_work (Some (Decode words)) before now held files ask text e right =
    (right.work, message_doable right.work text right.text_of, asked_of held files ask right.work e right.asked)
text_work (Some (Load words)) before now held files ask text e right =
    let load = Loads right.schema words.seed words.messages in (load, tt, asked_of held files ask load e right.asked)
text_work (Some (Audit words)) before now held files ask text e right =
    (Sounds right.events, tt, asked_of held files ask (Sounds right.events) e right.asked)
text_work (Some (Compat old new)) before now held files ask text e right =
    (Reads right.stable, tt, asked_of held files ask (Reads right.stable) e right.asked)

-- the line of a refusal that is asked for
abbrev line_of : Work → List ℕ
line_of WrongWords = []
line_of (Missing name) = []
line_of (TooLong name) = codes "FileTooLong " ++ name
line_of (Refuses name refusal) = name ++ (codes ":" ++ (decimal refusal.at ++ (codes ": " ++ cause_text refusal.cause)))
line_of (Rejects name at cause) = name ++ (codes ":" ++ (decimal at ++ (codes ": " ++ language_text cause)))
line_of (RefusesLine line why) = codes "script " ++ (decimal line ++ (codes ": " ++ line_refusal_name why))
line_of (UnknownName name) = codes "UnknownName " ++ name
line_of (BadText at) = codes "BadText " ++ decimal at
line_of (Unfit why) = unfit_text why
line_of BadHex = codes "BadHex"
line_of (Faulty fault) = fault_word fault.kind ++ (codes " " ++ decimal fault.at)
line_of (Breaks reason) = codes "Incompatible " ++ reason_text reason
line_of (Checks schema) = []
line_of (Prints tree) = []
line_of (Runs schema script order) = []
line_of (Encodes message) = []
line_of (Decodes interface method request value) = []
line_of (Loads schema seed messages) = []
line_of (Sounds events) = []
line_of (Unsounds answer) = unsound_text answer
line_of (Reads stable) = []

its_line : (refusal : ToolRefusal) → refusal_text refusal ≡ line_of (refused_work refusal)
its_line (refusals.RefusedLine line why) = refl
its_line (refusals.FileTooLong name) = refl
its_line (refusals.Refused name refusal) = refl
its_line (refusals.Rejected name at cause) = refl
its_line (refusals.UnknownName name) = refl
its_line (refusals.BadText at) = refl
its_line (refusals.Unfit why) = refl
its_line refusals.BadHex = refl
its_line (refusals.Faulty fault) = refl
its_line (refusals.Unsound answer) = refl
its_line (refusals.Incompatible reason) = refl

-- equal refusals have one line
same_text : (a b : ToolRefusal) → refused_work a ≡ refused_work b → refusal_text a ≡ refusal_text b
same_text a b e = its_line a ∙ ap line_of e ∙ sym (its_line b)

-- a refusal is none of the other works
not_doable : (refusal : ToolRefusal) → IsDoable (refused_work refusal) → ⊥
not_doable (refusals.RefusedLine line why) doable = doable
not_doable (refusals.FileTooLong name) doable = doable
not_doable (refusals.Refused name refusal) doable = doable
not_doable (refusals.Rejected name at cause) doable = doable
not_doable (refusals.UnknownName name) doable = doable
not_doable (refusals.BadText at) doable = doable
not_doable (refusals.Unfit why) doable = doable
not_doable refusals.BadHex doable = doable
not_doable (refusals.Faulty fault) doable = doable
not_doable (refusals.Unsound answer) doable = doable
not_doable (refusals.Incompatible reason) doable = doable

not_missing : (refusal : ToolRefusal) (name : List ℕ) → Missing name ≡ refused_work refusal → ⊥
not_missing (refusals.RefusedLine line why) name e = absurd cc
not_missing (refusals.FileTooLong other) name e = absurd cc
not_missing (refusals.Refused other refusal) name e = absurd cc
not_missing (refusals.Rejected other at cause) name e = absurd cc
not_missing (refusals.UnknownName other) name e = absurd cc
not_missing (refusals.BadText at) name e = absurd cc
not_missing (refusals.Unfit why) name e = absurd cc
not_missing refusals.BadHex name e = absurd cc
not_missing (refusals.Faulty fault) name e = absurd cc
not_missing (refusals.Unsound answer) name e = absurd cc
not_missing (refusals.Incompatible reason) name e = absurd cc

not_wrong : (refusal : ToolRefusal) → WrongWords ≡ refused_work refusal → ⊥
not_wrong (refusals.RefusedLine line why) e = absurd cc
not_wrong (refusals.FileTooLong other) e = absurd cc
not_wrong (refusals.Refused other refusal) e = absurd cc
not_wrong (refusals.Rejected other at cause) e = absurd cc
not_wrong (refusals.UnknownName other) e = absurd cc
not_wrong (refusals.BadText at) e = absurd cc
not_wrong (refusals.Unfit why) e = absurd cc
not_wrong refusals.BadHex e = absurd cc
not_wrong (refusals.Faulty fault) e = absurd cc
not_wrong (refusals.Unsound answer) e = absurd cc
not_wrong (refusals.Incompatible reason) e = absurd cc

module _ (law : AnyOrder) (s : Seen) (work : Work) (is : IsAsked s work) where
  -- whatever else is asked for is that work
  one : (other : Work) → asked_by s is.files other → other ≡ work
  one other asked = one_work law (command_of s.words) is.files other work asked is.asked

  asked_here : (other : Work) → AskedFor s.files_before.held (asked_by s) other → other ≡ work
  asked_here other asked = one other (asked_of s.files_before.held is.files (asked_by s) other is.held asked)

  -- a work that has a text is a run, a tree, a schema, a message or its value, a load, a sound history or files that are compatible
  has_text : (text : List ℕ) → IsRightText (command_of s.words) s.files_before.read s.files.read s.files_before.held (asked_by s) text → IsDoable work
  has_text text right =
      let t = text_work (command_of s.words) s.files_before.read s.files.read s.files_before.held is.files (asked_by s) text is.held right in
      subst IsDoable (one t.0 t.2) t.1

  wrong_words : command_of s.words ≡ None → WrongWords ≡ work
  wrong_words e = one WrongWords (no_words (command_of s.words) is.files e)

  unfetched : (name : List ℕ) → ReadFailed s.files_before.held (asked_by s) name s.files_before.faults_on_present s.files.faults_on_present
      → Missing name ≡ work
  unfetched name failed = one (Missing name) (missed s is.files name is.held is.steady failed)

-- where a refusal is asked for, it is answered
is_refused : AnyOrder → (s : Seen) (status : Status) → Answers s status → (refusal : ToolRefusal) → IsAsked s (refused_work refusal)
    → IsRefusedOrShort s status refusal
is_refused law s Done a refusal is = absurd (not_doable refusal (has_text law s (refused_work refusal) is a.text a.right))
is_refused law s Refused a refusal is = inl (record {
  ended = refl;
  wrote = subst (λ (text : List ℕ). WroteOrFailed s.err_before s.err (error_line text))
      (same_text a.refusal refusal (asked_here law s (refused_work refusal) is (refused_work a.refusal) a.asked)) a.wrote;
})
is_refused law s WrongUse a refusal is = absurd (not_wrong refusal (wrong_words law s (refused_work refusal) is a.wrong))
is_refused law s ReadFault a refusal is = absurd (not_missing refusal a.name (unfetched law s (refused_work refusal) is a.name a.failed))
is_refused law s WriteFault a refusal is = absurd (not_doable refusal (has_text law s (refused_work refusal) is a.text a.right))
is_refused law s NoMemory a refusal is = inr refl

-- where a name isn't there, it is answered
is_unread : AnyOrder → (s : Seen) (status : Status) → Answers s status → (name : List ℕ) → IsAsked s (Missing name) → IsUnreadOrShort s status name
is_unread law s Done a name is = absurd (has_text law s (Missing name) is a.text a.right)
is_unread law s Refused a name is = absurd (not_missing a.refusal name (sym (asked_here law s (Missing name) is (refused_work a.refusal) a.asked)))
is_unread law s WrongUse a name is = let e : WrongWords ≡ Missing name = wrong_words law s (Missing name) is a.wrong in absurd cc
is_unread law s ReadFault a name is =
    let e : Missing a.name ≡ Missing name = unfetched law s (Missing name) is a.name a.failed in
    let f : a.name ≡ name = cc in
    inl (record { ended = refl; wrote = subst (λ (n : List ℕ). WroteOrFailed s.err_before s.err (error_line (read_text n))) f a.wrote })
is_unread law s WriteFault a name is = absurd (has_text law s (Missing name) is a.text a.right)
is_unread law s NoMemory a name is = inr refl

-- where a run, a text, tables, a message or its value, a load, a sound history or compatible files are asked for, nothing is refused or missing
can_be_done : AnyOrder → (s : Seen) → CanBeServed s → CanBeDone s
can_be_done law s can = record {
  files = can.asked.files;
  held = can.asked.held;
  words = only WrongWords;
  present = λ name. only (Missing name);
  short = λ name. only (TooLong name);
  compiled = λ name refusal. only (Refuses name refusal);
  checked = λ name at cause. only (Rejects name at cause);
  readable = λ line why. only (RefusesLine line why);
  known = λ name. only (UnknownName name);
  spelled = λ at. only (BadText at);
  fit = λ why. only (Unfit why);
  hexadecimal = only BadHex;
  sound = λ fault. only (Faulty fault);
  whole = λ answer. only (Unsounds answer);
  compatible = λ reason. only (Breaks reason);
  steady = can.asked.steady;
  written = can.written;
}
  where
    only : (w : Work) → asked_by s can.asked.files w → IsDoable w
    only w asked = subst IsDoable (sym (one law s can.work can.asked w asked)) can.doable

-- each answer is complete
pub completes : AnyOrder → (s : Seen) (status : Status) → Answers s status → IsComplete s status
completes law s status a = record {
  done = is_done s status a;
  served = λ can. is_done s status a (can_be_done law s can);
  refused = is_refused law s status a;
  missing = is_unread law s status a;
}
