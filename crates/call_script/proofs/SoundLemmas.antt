-- The lines of a script are sound.
use Rattle.std.proofs.Common.{◌≡◌, ◌<◌, ◌≤◌, ℕ, zero, suc, List, [], ◌∷◌, ◌++◌, length, refl, sym, ap, subst, arith, length-append, Ok, Err}
use Rattle.std.specs.Prelude.{Some, slice_get, reverse, Result, IfOk}
use Rattle.std.specs.List.{AllByRecursion}
use Rattle.std.proofs.lemmas.List.{reverse-append, length-reverse}
use Rattle.mj_schema.specs.declared.schema.Schema.{Schema}
use Rattle.wire_model.specs.declared.target.MessageSide.TheVariants.{Response}
use Rattle.call_script.specs.declared.script.NameId.{NameId}
use Rattle.call_script.specs.declared.script.Command.{Command}
use Rattle.call_script.specs.declared.script.Command.TheVariants as commands
use Rattle.call_script.specs.declared.script.Script.{Script}
use Rattle.call_script.specs.declared.script_error.ScriptError.{ScriptError}
use Rattle.mj_base.specs.declared.ids.SeqId.{SeqId}
use Rattle.script_forms.specs.Forms.{Form, Join, Auto, Of, Pipe, Mint, Bind, Associate, Attach, Call, Take, Answer, Raw, CloseToken, CloseEndpoint}
use Rattle.script_forms.specs.Forms.{Notify, Pause, Data, Flow, Moved, Put, Get, BeginPut, EndPut, BeginGet, EndGet}
use Rattle.bind_model.specs.declared.flow.Flow.{Flow as FlowType}
use Rattle.bind_model.specs.declared.flow.Flow.TheVariants as flows
use Rattle.script_forms.specs.Forms.{sequences, AreThere, sets as line_sets}
use Rattle.call_script.specs.Script.{names_set, seq_of, IsNamed, AreNamed, Asks, IsPart, Part, OfLine, OfReply, lines_in, replies_in, AreTaken, AreScript, IsFlowOf}
use Rattle.call_script.specs.Sound.{sets, needs, others, AreWithin, IsReadWith, PutsBytes, IsLine, IsReply, IsScript}
use Rattle.call_script.specs.steps.Lines.{AnswersAll}
use Rattle.call_script.proofs.AutoLemmas.{message_side}
use Rattle.call_script.proofs.Sending.{all_letters, script_sends}

-- what has a name is among the names
named_within : (names : List (List ℕ)) (n : ℕ) (q : List ℕ) → slice_get names n ≡ Some q → n < length names
named_within [] n q e = absurd cc
named_within (x ∷ names) zero q e = omega arith
named_within (x ∷ names) (suc n) q e = let inner = named_within names n q e in omega (arith, inner)

-- names that are numbered are among those that there will be
module _ (names : List (List ℕ)) (count : ℕ) (few : length names ≤ count) where
  one_within : (id : NameId) (q : List ℕ) → IsNamed names id q → id.0 < count
  one_within id q named = let inner = named_within names id.0 q named in omega (arith, inner, few)

  all_within : (ids : List NameId) (qs : List (List ℕ)) → AreNamed names ids qs → AreWithin count ids
  all_within [] [] named = tt
  all_within [] (q ∷ qs) named = absurd named
  all_within (id ∷ ids) [] named = absurd named
  all_within (id ∷ ids) (q ∷ qs) named = (one_within id q named.0, all_within ids qs named.1)

  -- the names of what a form asks
  sets_within : (schema : Schema) (before : List (List ℕ)) (form : Form) (command : Command) → Asks schema before names form command
      → AreWithin count (sets command)
  sets_within schema before (Join seq other x y) (commands.Join o f g) asks = (one_within f _ asks.1, (one_within g _ asks.2, tt))
  sets_within schema before (Of seq (Pipe x y)) (commands.Pipe f g) asks = (one_within f _ asks.0, (one_within g _ asks.1, tt))
  sets_within schema before (Of seq (Mint sort x)) (commands.Mint s i) asks = (one_within i _ asks.1, tt)
  sets_within schema before (Of seq (Take x ns)) (commands.Take i got) asks = all_within got _ asks.1
  sets_within schema before (Of seq (Bind x side word)) (commands.Bind i s n) asks = tt
  sets_within schema before (Of seq (Associate x side word y)) (commands.Associate i s n p) asks = (one_within p _ asks.3, tt)
  sets_within schema before (Of seq (Attach x other)) (commands.Attach i o) asks = tt
  sets_within schema before (Of seq (Raw x word ts)) (commands.Raw i bytes tokens) asks = tt
  sets_within schema before (Of seq (Call x id method word ts at)) (commands.Call i n p tokens m) asks = tt
  sets_within schema before (Of seq (Answer x method word ts at)) (commands.Answer i p tokens m) asks = tt
  sets_within schema before (Of seq (CloseToken x)) (commands.CloseToken i) asks = tt
  sets_within schema before (Of seq (CloseEndpoint x n)) (commands.CloseEndpoint i m) asks = tt
  sets_within schema before (Of seq (Notify x notice)) (commands.Notify i m) asks = tt
  sets_within schema before (Of seq (Pause x y flush)) (commands.Pause i j k) asks = tt
  sets_within schema before (Of seq (Data n x y)) (commands.Data k i j) asks = (one_within i _ asks.1, (one_within j _ asks.2, tt))
  sets_within schema before (Of seq (Flow x f)) (commands.Flow i g) asks = tt
  sets_within schema before form command asks = absurd asks

  needs_within : (schema : Schema) (before : List (List ℕ)) (form : Form) (command : Command) → Asks schema before names form command
      → AreWithin count (needs command)
  needs_within schema before (Join seq other x y) (commands.Join o f g) asks = tt
  needs_within schema before (Of seq (Pipe x y)) (commands.Pipe f g) asks = tt
  needs_within schema before (Of seq (Mint sort x)) (commands.Mint s i) asks = tt
  needs_within schema before (Of seq (Take x ns)) (commands.Take i got) asks = (one_within i _ asks.0, tt)
  needs_within schema before (Of seq (Bind x side word)) (commands.Bind i s n) asks = (one_within i _ asks.0, tt)
  needs_within schema before (Of seq (Associate x side word y)) (commands.Associate i s n p) asks = (one_within i _ asks.0, tt)
  needs_within schema before (Of seq (Attach x other)) (commands.Attach i o) asks = (one_within i _ asks.0, tt)
  needs_within schema before (Of seq (Raw x word ts)) (commands.Raw i bytes tokens) asks = (one_within i _ asks.0, all_within tokens _ asks.2)
  needs_within schema before (Of seq (Call x id method word ts at)) (commands.Call i n p tokens m) asks = (one_within i _ asks.0, all_within tokens _ asks.2)
  needs_within schema before (Of seq (Answer x method word ts at)) (commands.Answer i p tokens m) asks = (one_within i _ asks.0, all_within tokens _ asks.1)
  needs_within schema before (Of seq (CloseToken x)) (commands.CloseToken i) asks = (one_within i _ asks, tt)
  needs_within schema before (Of seq (CloseEndpoint x n)) (commands.CloseEndpoint i m) asks = (one_within i _ asks.0, tt)
  needs_within schema before (Of seq (Notify x notice)) (commands.Notify i m) asks = (one_within i _ asks.0, tt)
  needs_within schema before (Of seq (Pause x y flush)) (commands.Pause i j k) asks = (one_within i _ asks.0, (one_within j _ asks.1, tt))
  needs_within schema before (Of seq (Data n x y)) (commands.Data k i j) asks = tt
  needs_within schema before (Of seq (Flow x f)) (commands.Flow i g) asks = (one_within i _ asks.0, tt)
  needs_within schema before form command asks = absurd asks

-- the bytes that are put in
flow_bytes : (f : Moved) (g : FlowType) → IsFlowOf f g → PutsBytes g
flow_bytes (Put word all) (flows.Put bytes part) h = h.0.0
flow_bytes (Get n all) (flows.Get m part) h = tt
flow_bytes BeginPut flows.BeginPut h = tt
flow_bytes (EndPut word) (flows.EndPut bytes) h = h.0
flow_bytes BeginGet flows.BeginGet h = tt
flow_bytes (EndGet n) (flows.EndGet m) h = tt
flow_bytes f g h = absurd h

-- its value or its bytes
read_with : (schema : Schema) (before names : List (List ℕ)) (form : Form) (command : Command) → Asks schema before names form command
    → IsReadWith schema command
read_with schema before names (Of seq (Call x id method word ts at)) (commands.Call i n p tokens m) asks = asks.3.2.1
read_with schema before names (Of seq (Answer x method word ts at)) (commands.Answer i p tokens m) asks = asks.2.2.1
read_with schema before names (Join seq other x y) (commands.Join o f g) asks = tt
read_with schema before names (Of seq (Pipe x y)) (commands.Pipe f g) asks = tt
read_with schema before names (Of seq (Mint sort x)) (commands.Mint s i) asks = tt
read_with schema before names (Of seq (Associate x side word y)) (commands.Associate i s n p) asks = tt
read_with schema before names (Of seq (Attach x other)) (commands.Attach i o) asks = tt
read_with schema before names (Of seq (Raw x word ts)) (commands.Raw i bytes tokens) asks = asks.1.0
read_with schema before names (Of seq (Take x ns)) (commands.Take i got) asks = tt
read_with schema before names (Of seq (Bind x side word)) (commands.Bind i s n) asks = tt
read_with schema before names (Of seq (CloseToken x)) (commands.CloseToken i) asks = tt
read_with schema before names (Of seq (CloseEndpoint x n)) (commands.CloseEndpoint i m) asks = tt
read_with schema before names (Of seq (Notify x notice)) (commands.Notify i m) asks = tt
read_with schema before names (Of seq (Pause x y flush)) (commands.Pause i j k) asks = tt
read_with schema before names (Of seq (Data n x y)) (commands.Data k i j) asks = tt
read_with schema before names (Of seq (Flow x f)) (commands.Flow i g) asks = flow_bytes f g asks.1
read_with schema before names form command asks = absurd asks

-- its sequence
seq_within : (seqs : ℕ) (form : Form) → AreThere seqs (sequences form) → seq_of form < seqs
seq_within seqs (Join seq other x y) there = there.0
seq_within seqs (Auto seq method word) there = there.0
seq_within seqs (Of seq said) there = there.0

-- and those that it names
abbrev AllBelow : ℕ → List SeqId → Type 0
AllBelow seqs named = AllByRecursion (λ (seq : SeqId). seq.0 < seqs) named

others_within : (schema : Schema) (seqs : ℕ) (before names : List (List ℕ)) (form : Form) (command : Command) → AreThere seqs (sequences form)
    → Asks schema before names form command → AllBelow seqs (others command)
others_within schema seqs before names (Join seq other x y) (commands.Join o f g) there asks = (rw asks.0 there.1.0, tt)
others_within schema seqs before names (Of seq (Attach x other)) (commands.Attach i o) there asks = (rw asks.1 there.1.0, tt)
others_within schema seqs before names (Of seq (Pipe x y)) (commands.Pipe f g) there asks = tt
others_within schema seqs before names (Of seq (Mint sort x)) (commands.Mint s i) there asks = tt
others_within schema seqs before names (Of seq (Bind x side word)) (commands.Bind i s n) there asks = tt
others_within schema seqs before names (Of seq (Associate x side word y)) (commands.Associate i s n p) there asks = tt
others_within schema seqs before names (Of seq (Call x id method word ts at)) (commands.Call i n p tokens m) there asks = tt
others_within schema seqs before names (Of seq (Take x ns)) (commands.Take i got) there asks = tt
others_within schema seqs before names (Of seq (Answer x method word ts at)) (commands.Answer i p tokens m) there asks = tt
others_within schema seqs before names (Of seq (Raw x word ts)) (commands.Raw i bytes tokens) there asks = tt
others_within schema seqs before names (Of seq (CloseToken x)) (commands.CloseToken i) there asks = tt
others_within schema seqs before names (Of seq (CloseEndpoint x n)) (commands.CloseEndpoint i m) there asks = tt
others_within schema seqs before names (Of seq (Notify x notice)) (commands.Notify i m) there asks = tt
others_within schema seqs before names (Of seq (Pause x y flush)) (commands.Pause i j k) there asks = tt
others_within schema seqs before names (Of seq (Data n x y)) (commands.Data k i j) there asks = tt
others_within schema seqs before names (Of seq (Flow x f)) (commands.Flow i g) there asks = tt
others_within schema seqs before names form command there asks = absurd asks

-- what a form adds, where there are so many sequences and so many names are set at last
abbrev IsSound : Schema → ℕ → ℕ → Part → Type 0
IsSound schema seqs count (OfLine line) = IsLine schema seqs count line
IsSound schema seqs count (OfReply reply) = IsReply schema seqs reply

part_sound : (schema : Schema) (seqs : ℕ) (past : List Form) (form : Form) (part : Part) (count : ℕ) → length (names_set (form ∷ past)) ≤ count
    → AreThere seqs (sequences form) → IsPart schema past form part → IsSound schema seqs count part
part_sound schema seqs past form (OfLine line) count few there means = record {
  seq = rw means.seq (seq_within seqs form there);
  others = others_within schema seqs (names_set past) (names_set (form ∷ past)) form line.command there means.command;
  sets = sets_within (names_set (form ∷ past)) count few schema (names_set past) form line.command means.command;
  needs = needs_within (names_set (form ∷ past)) count few schema (names_set past) form line.command means.command;
  read = read_with schema (names_set past) (names_set (form ∷ past)) form line.command means.command;
}
part_sound schema seqs past (Auto seq method word) (OfReply reply) count few there means = record {
  seq = rw means.seq there.0;
  side = message_side schema Response method reply.prepared.target means.number means.target;
  read = means.value.1;
  handles = means.handles;
  endpoints = means.endpoints;
}
part_sound schema seqs past form (OfReply reply) count few there means = absurd means

parts_sound : (schema : Schema) (seqs : ℕ) (forms : List Form) (parts : List Part) (count : ℕ) → length (names_set forms) ≤ count
    → AreTaken schema seqs forms parts → AllByRecursion (IsSound schema seqs count) parts
parts_sound schema seqs [] [] count few taken = tt
parts_sound schema seqs [] (part ∷ parts) count few taken = absurd taken
parts_sound schema seqs (form ∷ past) [] count few taken = absurd taken
parts_sound schema seqs (form ∷ past) (part ∷ parts) count few taken =
    let fewer : length (names_set past) ≤ count = omega (arith, few, length-append (names_set past) (line_sets form)) in
    (part_sound schema seqs past form part count few taken.0.there taken.0.means, parts_sound schema seqs past parts count fewer taken.1)

-- as many as there are forms
parts_count : (schema : Schema) (seqs : ℕ) (forms : List Form) (parts : List Part) → AreTaken schema seqs forms parts → length parts ≡ length forms
parts_count schema seqs [] [] taken = refl
parts_count schema seqs [] (part ∷ parts) taken = absurd taken
parts_count schema seqs (form ∷ past) [] taken = absurd taken
parts_count schema seqs (form ∷ past) (part ∷ parts) taken = ap suc (parts_count schema seqs past parts taken.1)

-- in either order
all_joined : (P : Part → Type 0) (xs ys : List Part) → AllByRecursion P xs → AllByRecursion P ys → AllByRecursion P (xs ++ ys)
all_joined P [] ys a b = b
all_joined P (x ∷ xs) ys a b = (a.0, all_joined P xs ys a.1 b)

all_reverse : (P : Part → Type 0) (xs : List Part) → AllByRecursion P xs → AllByRecursion P (reverse xs)
all_reverse P [] a = tt
all_reverse P (x ∷ xs) a =
    subst (AllByRecursion P) (sym (reverse-append (x ∷ []) xs)) (all_joined P (reverse xs) (x ∷ []) (all_reverse P xs a.1) (a.0, tt))

-- the lines and the automatic replies among them
sound_lines : (schema : Schema) (seqs count : ℕ) (parts : List Part) → AllByRecursion (IsSound schema seqs count) parts
    → AllByRecursion (IsLine schema seqs count) (lines_in parts)
sound_lines schema seqs count [] a = tt
sound_lines schema seqs count (OfLine line ∷ parts) a = (a.0, sound_lines schema seqs count parts a.1)
sound_lines schema seqs count (OfReply reply ∷ parts) a = sound_lines schema seqs count parts a.1

sound_replies : (schema : Schema) (seqs count : ℕ) (parts : List Part) → AllByRecursion (IsSound schema seqs count) parts
    → AllByRecursion (IsReply schema seqs) (replies_in parts)
sound_replies schema seqs count [] a = tt
sound_replies schema seqs count (OfLine line ∷ parts) a = sound_replies schema seqs count parts a.1
sound_replies schema seqs count (OfReply reply ∷ parts) a = (a.0, sound_replies schema seqs count parts a.1)

fewer_lines : (parts : List Part) → length (lines_in parts) ≤ length parts
fewer_lines [] = omega arith
fewer_lines (OfLine line ∷ parts) = let inner = fewer_lines parts in omega (arith, inner)
fewer_lines (OfReply reply ∷ parts) = let inner = fewer_lines parts in omega (arith, inner)

-- a script is sound
pub script_sound : (schema : Schema) (texts : List (List (List ℕ))) (script : Script) → AreScript schema texts script
    → all_letters texts ≤ script.bytes → IsScript schema script
script_sound schema texts script is enough = record {
  seqs = is.count;
  autos = rw is.autos (sound_replies schema script.seqs script.names (reverse is.parts) sound);
  lines = rw is.lines (sound_lines schema script.seqs script.names (reverse is.parts) sound);
  few =
      let count = parts_count schema script.seqs is.forms is.parts is.taken in
      let turned = length-reverse is.parts in
      let fewer = fewer_lines (reverse is.parts) in
      let whole = ap length is.lines in
      let few = is.few in omega (arith, count, turned, fewer, whole, few);
  sent = omega (arith, script_sends schema texts script is, enough);
}
  where
    sound : AllByRecursion (IsSound schema script.seqs script.names) (reverse is.parts)
    sound =
        all_reverse (IsSound schema script.seqs script.names) is.parts
        (parts_sound schema script.seqs is.forms is.parts script.names (let n = is.names in omega (arith, n)) is.taken)

-- and so is one that was read from so many bytes
pub read_sound : (schema : Schema) (texts : List (List (List ℕ))) (bytes : ℕ) (result : Result Script ScriptError) → AnswersAll schema texts result
    → all_letters texts ≤ bytes → IfOk result (λ script. script.bytes ≡ bytes) → IfOk result (IsScript schema)
read_sound schema texts bytes (Ok script) is enough counted = script_sound schema texts script is (omega (arith, enough, counted))
read_sound schema texts bytes (Err error) is enough counted = tt
