-- Numbers of their widths in the lines of a script.
use Rattle.std.proofs.Common.{◌≡◌, ◌<◌, ◌≤◌, ℕ, suc, ◌+◌, ◌^◌, List, [], ◌∷◌, length, arith, subst, sym}
use Rattle.std.specs.Prelude.{ℤ, pos, negsuc, Option, Some, None, reverse}
use Rattle.hex.specs.Hex.{IsBytes}
use Rattle.mj_schema.specs.declared.schema.Schema.{Schema}
use Rattle.wire_encoder.specs.Prepared.{IsPrepared}
use Rattle.wire_encoder.specs.declared.prepared.Prepared.{Prepared}
use Rattle.bind_model.specs.declared.asked.Notice.{Notice}
use Rattle.bind_model.specs.declared.asked.Notice.TheVariants.{Query, Require, Flush}
use Rattle.bind_model.specs.declared.flow.Flow.{Flow as FlowType}
use Rattle.bind_model.specs.declared.flow.Flow.TheVariants as flows
use Rattle.call_script.specs.declared.script.AutoReply.{AutoReply}
use Rattle.call_script.specs.declared.script.Command.{Command}
use Rattle.call_script.specs.declared.script.Command.TheVariants as commands
use Rattle.call_script.specs.declared.script.Line.{Line}
use Rattle.call_script.specs.declared.script.Script.{Script}
use Rattle.script_forms.specs.Forms.{Form, Join, Auto, Of, Pipe, Mint, Bind, Associate, Attach, Call, Take, Answer, Raw, CloseToken, CloseEndpoint}
use Rattle.script_forms.specs.Forms.{Notify, Pause, Data, Flow, Moved, Put, Get, BeginPut, EndPut, BeginGet, EndGet}
use Rattle.script_forms.specs.Forms.{AreThere, IsForm, IsMoment as IsTimed, IsMoved, IsNotice as IsNarrow, sequences}
use Rattle.call_script.specs.Script.{Asks, IsFlowOf, Part, OfLine, OfReply, IsPart, IsScriptOf, AreTaken, lines_in, replies_in, names_set}
use Rattle.history_reader.specs.Printable.{IsFlow, IsSmall, IsMoment, IsNotice, IsSequence, AreAll, AreBytes}
use Rattle.printed_histories.proofs.SmallLists.{all_reversed}

-- sequences, ids, bytes, moments and the numbers of controls and of data pipes in a command, and parameters of which this holds
abbrev pub IsSmallCommand : (Prepared → Type 0) → Command → Type 0
IsSmallCommand G (commands.Join other first second) = IsSequence other
IsSmallCommand G (commands.Pipe first second) = Unit {0}
IsSmallCommand G (commands.Mint sort name) = Unit {0}
IsSmallCommand G (commands.Bind end side interface) = Unit {0}
IsSmallCommand G (commands.Associate end side interface pending) = Unit {0}
IsSmallCommand G (commands.Attach pending other) = IsSequence other
IsSmallCommand G (commands.Call end id prepared names moment) = IsSmall id × G prepared × IsMoment moment
IsSmallCommand G (commands.Take end names) = Unit {0}
IsSmallCommand G (commands.Answer responder prepared names moment) = G prepared × IsMoment moment
IsSmallCommand G (commands.Raw end bytes names) = AreBytes bytes
IsSmallCommand G (commands.CloseToken name) = Unit {0}
IsSmallCommand G (commands.CloseEndpoint end id) = IsSmall id
IsSmallCommand G (commands.Notify end notice) = IsNotice notice
IsSmallCommand G (commands.Pause end other flush) = IsSmall flush
IsSmallCommand G (commands.Data size producer consumer) = IsSmall size
IsSmallCommand G (commands.Flow token flow) = IsFlow flow

-- a line whose number and command are
abbrev pub IsSmallLine : (Prepared → Type 0) → Line → Type 0
IsSmallLine G line = IsSmall line.number × IsSmallCommand G line.command

-- an automatic reply whose parameters are
abbrev pub IsSmallReply : (Prepared → Type 0) → AutoReply → Type 0
IsSmallReply G reply = G reply.prepared

bytes_small : (bytes : List ℕ) → IsBytes bytes → AreBytes bytes
bytes_small [] are = tt
bytes_small (b ∷ bytes) are = (are 0, bytes_small bytes (λ i. are (suc i)))

moment_small : (moment : Option ℤ) → IsTimed moment → IsMoment moment
moment_small None fits = tt
moment_small (Some (pos n)) fits = fits.sfits
moment_small (Some (negsuc n)) fits = fits.sfits

notice_small : (notice : Notice) → IsNarrow notice → IsNotice notice
notice_small (Query id) i = i
notice_small (Require id version) i = i
notice_small Flush i = tt

-- what is moved
flow_small : (f : Moved) (g : FlowType) → IsMoved f → IsFlowOf f g → IsFlow g
flow_small (Put word all) (flows.Put bytes part) i is = bytes_small bytes is.0.0
flow_small (Get n all) (flows.Get m part) i is = let same : m ≡ n = is.0 in omega (arith, i, same)
flow_small BeginPut flows.BeginPut i is = tt
flow_small (EndPut word) (flows.EndPut bytes) i is = bytes_small bytes is.0
flow_small BeginGet flows.BeginGet i is = tt
flow_small (EndGet n) (flows.EndGet m) i is = let same : m ≡ n = is in omega (arith, i, same)
flow_small f g i is = absurd is

-- what the numbers of a form give, in a script of not too many sequences
command_small : (schema : Schema) (seqs : ℕ) (before names : List (List ℕ)) (form : Form) (command : Command) → seqs < 2 ^ 32 → IsForm form
    → AreThere seqs (sequences form) → Asks schema before names form command → IsSmallCommand (IsPrepared schema) command
command_small schema seqs before names (Join seq other x y) (commands.Join o f g) few sound there asks =
    let below : other < seqs = there.1.0 in let same : o.0 ≡ other = asks.0 in omega (arith, few, below, same)
command_small schema seqs before names (Of seq (Call x id method word ts at)) (commands.Call i n p tokens m) few sound there asks =
    let below : id < 2 ^ 32 = sound.1 in
    let same : n ≡ id = asks.1 in (omega (arith, below, same), asks.3.2.1, subst IsMoment (sym asks.4) (moment_small at sound.5))
command_small schema seqs before names (Of seq (Answer x method word ts at)) (commands.Answer i p tokens m) few sound there asks =
    (asks.2.2.1, subst IsMoment (sym asks.3) (moment_small at sound.4))
command_small schema seqs before names (Of seq (Pipe x y)) (commands.Pipe f g) few sound there asks = tt
command_small schema seqs before names (Of seq (Mint sort x)) (commands.Mint s i) few sound there asks = tt
command_small schema seqs before names (Of seq (Take x ns)) (commands.Take i got) few sound there asks = tt
command_small schema seqs before names (Of seq (Bind x side word)) (commands.Bind i s n) few sound there asks = tt
command_small schema seqs before names (Of seq (Associate x side word p)) (commands.Associate i s n q) few sound there asks = tt
command_small schema seqs before names (Of seq (Attach p other)) (commands.Attach q o) few sound there asks =
    let below : other < seqs = there.1.0 in let same : o.0 ≡ other = asks.1 in omega (arith, few, below, same)
command_small schema seqs before names (Of seq (Raw x word ts)) (commands.Raw i bytes tokens) few sound there asks = bytes_small bytes asks.1.0
command_small schema seqs before names (Of seq (CloseToken x)) (commands.CloseToken i) few sound there asks = tt
command_small schema seqs before names (Of seq (CloseEndpoint x id)) (commands.CloseEndpoint i n) few sound there asks =
    let below : id < 2 ^ 32 = sound.1 in let same : n ≡ id = asks.1 in omega (arith, below, same)
command_small schema seqs before names (Of seq (Notify x notice)) (commands.Notify i n) few sound there asks =
    subst IsNotice (sym asks.1) (notice_small notice sound.1)
command_small schema seqs before names (Of seq (Pause x y flush)) (commands.Pause i j k) few sound there asks =
    let below : flush < 2 ^ 32 = sound.2 in let same : k ≡ flush = asks.2 in omega (arith, below, same)
command_small schema seqs before names (Of seq (Data n x y)) (commands.Data k i j) few sound there asks =
    let below : n < 2 ^ 32 = sound.2 in let same : k ≡ n = asks.0 in omega (arith, below, same)
command_small schema seqs before names (Of seq (Flow x f)) (commands.Flow i g) few sound there asks = flow_small f g sound.1 asks.1
command_small schema seqs before names form command few sound there asks = absurd asks

-- what a form adds is
abbrev IsSmallPart : Schema → Part → Type 0
IsSmallPart schema (OfLine line) = IsSmallLine (IsPrepared schema) line
IsSmallPart schema (OfReply reply) = IsSmallReply (IsPrepared schema) reply

part_small : (schema : Schema) (seqs : ℕ) (past : List Form) (form : Form) (part : Part) → seqs < 2 ^ 32 → length past < 2 ^ 31 → IsForm form
    → AreThere seqs (sequences form) → IsPart schema past form part → IsSmallPart schema part
part_small schema seqs past form (OfLine line) some few sound there means = (
  let number : line.number ≡ length past + 2 = means.number in omega (arith, few, number),
  command_small schema seqs (names_set past) (names_set (form ∷ past)) form line.command some sound there means.command,
)
part_small schema seqs past (Auto seq method word) (OfReply reply) some few sound there means = means.value.1
part_small schema seqs past form (OfReply reply) some few sound there means = absurd means

parts_small : (schema : Schema) (seqs : ℕ) (forms : List Form) (parts : List Part) → seqs < 2 ^ 32 → length forms < 2 ^ 31
    → AreTaken schema seqs forms parts → AreAll (IsSmallPart schema) parts
parts_small schema seqs [] [] some few taken = tt
parts_small schema seqs [] (part ∷ parts) some few taken = absurd taken
parts_small schema seqs (form ∷ past) [] some few taken = absurd taken
parts_small schema seqs (form ∷ past) (part ∷ parts) some few taken = (
  part_small schema seqs past form part some (omega (arith, few)) taken.0.sound taken.0.there taken.0.means,
  parts_small schema seqs past parts some (omega (arith, few)) taken.1,
)

lines_small : (schema : Schema) (parts : List Part) → AreAll (IsSmallPart schema) parts → AreAll (IsSmallLine (IsPrepared schema)) (lines_in parts)
lines_small schema [] a = tt
lines_small schema (OfLine line ∷ parts) a = (a.0, lines_small schema parts a.1)
lines_small schema (OfReply reply ∷ parts) a = lines_small schema parts a.1

replies_small : (schema : Schema) (parts : List Part) → AreAll (IsSmallPart schema) parts → AreAll (IsSmallReply (IsPrepared schema)) (replies_in parts)
replies_small schema [] a = tt
replies_small schema (OfLine line ∷ parts) a = replies_small schema parts a.1
replies_small schema (OfReply reply ∷ parts) a = (a.0, replies_small schema parts a.1)

-- a script whose numbers are of their widths
pub record IsSmallScript (G : Prepared → Type 0) (script : Script) : Type 0 where
  pub lines : AreAll (IsSmallLine G) script.lines
  pub autos : AreAll (IsSmallReply G) script.autos

pub small_script : (schema : Schema) (bytes : List ℕ) (script : Script) → IsScriptOf schema bytes script → IsSmallScript (IsPrepared schema) script
small_script schema bytes script is =
    let few : length is.forms < 65536 = is.few in
    let most : script.seqs ≤ 16 = is.count.1 in
    let parts = all_reversed (IsSmallPart schema) is.parts
    (parts_small schema script.seqs is.forms is.parts (omega (arith, most)) (omega (arith, few)) is.taken) in
    record {
      lines = subst (λ (ls : List Line). AreAll (IsSmallLine (IsPrepared schema)) ls) (sym is.lines) (lines_small schema (reverse is.parts) parts);
      autos = subst (λ (rs : List AutoReply). AreAll (IsSmallReply (IsPrepared schema)) rs) (sym is.autos) (replies_small schema (reverse is.parts) parts);
    }
