-- Bytes are one script.
use Rattle.std.proofs.Common.{◌≡◌, ℕ, List, [], ◌∷◌, ◌++◌, length, refl, sym, ◌∙◌, ap, subst}
use Rattle.std.specs.Prelude.{reverse, Some}
use Rattle.std.proofs.lemmas.List.{reverse-append}
use Rattle.mj_schema.specs.declared.schema.Schema.{Schema}
use Rattle.call_script.specs.declared.script.AutoReply.{AutoReply}
use Rattle.call_script.specs.declared.script.Command.{Command}
use Rattle.call_script.specs.declared.script.Command.TheVariants as commands
use Rattle.call_script.specs.declared.script.Script.{Script}
use Rattle.script_words.specs.Pieces.{text_words}
use Rattle.script_forms.specs.Forms.{Form, Join, Auto, Of, Pipe, Mint, Bind, Associate, Attach, Call, Take, Answer, Raw, CloseToken, CloseEndpoint}
use Rattle.script_forms.specs.Forms.{Notify, Pause, Data, Flow, Moved, Put, Get, BeginPut, EndPut, BeginGet, EndGet}
use Rattle.bind_model.specs.declared.flow.Flow.{Flow as FlowType}
use Rattle.bind_model.specs.declared.flow.Flow.TheVariants as flows
use Rattle.call_script.specs.Same.{SameCommand, SameLine, SameLines, SameReply, SameReplies, SameScript}
use Rattle.call_script.specs.Script.{names_set, IsFlowOf, IsValueOf, Asks, IsAuto, Part, OfLine, OfReply, IsPart, lines_in, replies_in, AreTaken, AreScript, IsScriptOf}
use Rattle.script_forms.proofs.Hexes.{hex_one}
use Rattle.call_script.proofs.OneName.{Numbered, numbered, id_one, ids_one}
use Rattle.call_script.proofs.OneValue.{one_found, prepared_one}
use Rattle.call_script.proofs.OneAnswer.{same_forms}

-- what is moved is one
flow_one : (f : Moved) (g h : FlowType) → IsFlowOf f g → IsFlowOf f h → g ≡ h
flow_one (Put w all) (flows.Put b a) (flows.Put b' a') one also =
    let bytes = hex_one b b' one.0.0 also.0.0 (sym one.0.1 ∙ also.0.1) in
    let parts = one.1 ∙ sym also.1 in cc
flow_one (Put w all) (flows.Put b a) h one also = absurd also
flow_one (Put w all) g h one also = absurd one
flow_one (Get n all) (flows.Get m a) (flows.Get m' a') one also =
    let many = one.0 ∙ sym also.0 in
    let parts = one.1 ∙ sym also.1 in cc
flow_one (Get n all) (flows.Get m a) h one also = absurd also
flow_one (Get n all) g h one also = absurd one
flow_one BeginPut flows.BeginPut flows.BeginPut one also = refl
flow_one BeginPut flows.BeginPut h one also = absurd also
flow_one BeginPut g h one also = absurd one
flow_one (EndPut w) (flows.EndPut b) (flows.EndPut b') one also = ap flows.EndPut (hex_one b b' one.0 also.0 (sym one.1 ∙ also.1))
flow_one (EndPut w) (flows.EndPut b) h one also = absurd also
flow_one (EndPut w) g h one also = absurd one
flow_one BeginGet flows.BeginGet flows.BeginGet one also = refl
flow_one BeginGet flows.BeginGet h one also = absurd also
flow_one BeginGet g h one also = absurd one
flow_one (EndGet n) (flows.EndGet m) (flows.EndGet m') one also = ap flows.EndGet (one ∙ sym also)
flow_one (EndGet n) (flows.EndGet m) h one also = absurd also
flow_one (EndGet n) g h one also = absurd one

-- a form asks one thing
module _ (schema : Schema) (before names : List (List ℕ)) (all : Numbered names) where
  same_command : (form : Form) (a b : Command) → Asks schema before names form a → Asks schema before names form b → SameCommand a b
  same_command (Join seq other x y) (commands.Join o f g) (commands.Join o' f' g') one also =
      let first = id_one names all f f' _ one.1 also.1 in
      let second = id_one names all g g' _ one.2 also.2 in
      let seqs : o ≡ o' = ap (λ (n : ℕ). record { 0 = n }) (one.0 ∙ sym also.0) in cc
  same_command (Join seq other x y) (commands.Join o f g) b one also = absurd also
  same_command (Join seq other x y) a b one also = absurd one
  same_command (Auto seq method word) a b one also = absurd one
  same_command (Of seq (Pipe x y)) (commands.Pipe f g) (commands.Pipe f' g') one also =
      let first = id_one names all f f' _ one.0 also.0 in
      let second = id_one names all g g' _ one.1 also.1 in cc
  same_command (Of seq (Pipe x y)) (commands.Pipe f g) b one also = absurd also
  same_command (Of seq (Pipe x y)) a b one also = absurd one
  same_command (Of seq (Mint sort x)) (commands.Mint s i) (commands.Mint s' i') one also =
      let id = id_one names all i i' _ one.1 also.1 in
      let sorts = one.0 ∙ sym also.0 in cc
  same_command (Of seq (Mint sort x)) (commands.Mint s i) b one also = absurd also
  same_command (Of seq (Mint sort x)) a b one also = absurd one
  same_command (Of seq (Bind x side word)) (commands.Bind i s n) (commands.Bind i' s' n') one also =
      let id = id_one names all i i' _ one.0 also.0 in
      let sides = one.1 ∙ sym also.1 in
      let numbers : Some n ≡ Some n' = sym one.2 ∙ also.2 in cc
  same_command (Of seq (Bind x side word)) (commands.Bind i s n) b one also = absurd also
  same_command (Of seq (Bind x side word)) a b one also = absurd one
  same_command (Of seq (Associate x side word y)) (commands.Associate i s n j) (commands.Associate i' s' n' j') one also =
      let id = id_one names all i i' _ one.0 also.0 in
      let sides = one.1 ∙ sym also.1 in
      let numbers : Some n ≡ Some n' = sym one.2 ∙ also.2 in
      let pending = id_one names all j j' _ one.3 also.3 in cc
  same_command (Of seq (Associate x side word y)) (commands.Associate i s n j) b one also = absurd also
  same_command (Of seq (Associate x side word y)) a b one also = absurd one
  same_command (Of seq (Attach x other)) (commands.Attach i o) (commands.Attach i' o') one also =
      let id = id_one names all i i' _ one.0 also.0 in
      let seqs : o ≡ o' = ap (λ (n : ℕ). record { 0 = n }) (one.1 ∙ sym also.1) in cc
  same_command (Of seq (Attach x other)) (commands.Attach i o) b one also = absurd also
  same_command (Of seq (Attach x other)) a b one also = absurd one
  same_command (Of seq (Raw x word ts)) (commands.Raw i bytes tokens) (commands.Raw i' bytes' tokens') one also =
      let id = id_one names all i i' _ one.0 also.0 in
      let same = hex_one bytes bytes' one.1.0 also.1.0 (sym one.1.1 ∙ also.1.1) in
      let ids = ids_one names all tokens tokens' _ one.2 also.2 in cc
  same_command (Of seq (Raw x word ts)) (commands.Raw i bytes tokens) b one also = absurd also
  same_command (Of seq (Raw x word ts)) a b one also = absurd one
  same_command (Of seq (Call x id method word ts at)) (commands.Call i n p tokens m) (commands.Call i' n' p' tokens' m') one also =
      let value = one.3 in
      let other = also.3 in
      let found = one_found p.target p'.target value.0 other.0 (sym value.1 ∙ other.1) in (
        id_one names all i i' _ one.0 also.0,
        one.1 ∙ sym also.1,
        prepared_one schema value.0 word p p' found.0 value.2 (subst (λ (n : ℕ). IsValueOf schema n word p') (sym found.1) other.2),
        ids_one names all tokens tokens' _ one.2 also.2,
        one.4 ∙ sym also.4,
      )
  same_command (Of seq (Call x id method word ts at)) (commands.Call i n p tokens m) b one also = absurd also
  same_command (Of seq (Call x id method word ts at)) a b one also = absurd one
  same_command (Of seq (Take x ns)) (commands.Take i got) (commands.Take i' got') one also =
      let id = id_one names all i i' _ one.0 also.0 in
      let ids = ids_one names all got got' _ one.1 also.1 in cc
  same_command (Of seq (Take x ns)) (commands.Take i got) b one also = absurd also
  same_command (Of seq (Take x ns)) a b one also = absurd one
  same_command (Of seq (Answer x method word ts at)) (commands.Answer i p tokens m) (commands.Answer i' p' tokens' m') one also =
      let value = one.2 in
      let other = also.2 in
      let found = one_found p.target p'.target value.0 other.0 (sym value.1 ∙ other.1) in (
        id_one names all i i' _ one.0 also.0,
        prepared_one schema value.0 word p p' found.0 value.2 (subst (λ (n : ℕ). IsValueOf schema n word p') (sym found.1) other.2),
        ids_one names all tokens tokens' _ one.1 also.1,
        one.3 ∙ sym also.3,
      )
  same_command (Of seq (Answer x method word ts at)) (commands.Answer i p tokens m) b one also = absurd also
  same_command (Of seq (Answer x method word ts at)) a b one also = absurd one
  same_command (Of seq (CloseToken x)) (commands.CloseToken i) (commands.CloseToken i') one also = let id = id_one names all i i' _ one also in cc
  same_command (Of seq (CloseToken x)) (commands.CloseToken i) b one also = absurd also
  same_command (Of seq (CloseToken x)) a b one also = absurd one
  same_command (Of seq (CloseEndpoint x n)) (commands.CloseEndpoint i m) (commands.CloseEndpoint i' m') one also =
      let id = id_one names all i i' _ one.0 also.0 in
      let ids = one.1 ∙ sym also.1 in cc
  same_command (Of seq (CloseEndpoint x n)) (commands.CloseEndpoint i m) b one also = absurd also
  same_command (Of seq (CloseEndpoint x n)) a b one also = absurd one
  same_command (Of seq (Notify x notice)) (commands.Notify i m) (commands.Notify i' m') one also =
      let id = id_one names all i i' _ one.0 also.0 in
      let notices = one.1 ∙ sym also.1 in cc
  same_command (Of seq (Notify x notice)) (commands.Notify i m) b one also = absurd also
  same_command (Of seq (Notify x notice)) a b one also = absurd one
  same_command (Of seq (Pause x y flush)) (commands.Pause i j k) (commands.Pause i' j' k') one also =
      let first = id_one names all i i' _ one.0 also.0 in
      let second = id_one names all j j' _ one.1 also.1 in
      let flushes = one.2 ∙ sym also.2 in cc
  same_command (Of seq (Pause x y flush)) (commands.Pause i j k) b one also = absurd also
  same_command (Of seq (Pause x y flush)) a b one also = absurd one
  same_command (Of seq (Data n x y)) (commands.Data k i j) (commands.Data k' i' j') one also =
      let sizes = one.0 ∙ sym also.0 in
      let first = id_one names all i i' _ one.1 also.1 in
      let second = id_one names all j j' _ one.2 also.2 in cc
  same_command (Of seq (Data n x y)) (commands.Data k i j) b one also = absurd also
  same_command (Of seq (Data n x y)) a b one also = absurd one
  same_command (Of seq (Flow x f)) (commands.Flow i g) (commands.Flow i' g') one also =
      let id = id_one names all i i' _ one.0 also.0 in
      let same = flow_one f g g' one.1 also.1 in cc
  same_command (Of seq (Flow x f)) (commands.Flow i g) b one also = absurd also
  same_command (Of seq (Flow x f)) a b one also = absurd one

-- an automatic reply is one
same_auto : (schema : Schema) (asker : ℕ) (method word : List ℕ) (a b : AutoReply) → IsAuto schema asker method word a → IsAuto schema asker method word b
    → SameReply a b
same_auto schema asker method word a b one also =
    let found = one_found a.prepared.target b.prepared.target one.number also.number (sym one.target ∙ also.target) in
    record {
      seq = ap (λ (n : ℕ). record { 0 = n }) (one.seq ∙ sym also.seq);
      prepared =
          prepared_one schema one.number word a.prepared b.prepared found.0 one.value
          (subst (λ (n : ℕ). IsValueOf schema n word b.prepared) (sym found.1) also.value);
    }

-- a form adds one part
abbrev SamePart : Part → Part → Type 0
SamePart (OfLine a) (OfLine b) = SameLine a b
SamePart (OfReply a) (OfReply b) = SameReply a b
SamePart _ _ = ⊥

same_part : (schema : Schema) (past : List Form) (form : Form) (a b : Part) → Numbered (names_set (form ∷ past)) → IsPart schema past form a
    → IsPart schema past form b → SamePart a b
same_part schema past form (OfLine a) (OfLine b) all one also = record {
  number = one.number ∙ sym also.number;
  seq = ap (λ (n : ℕ). record { 0 = n }) (one.seq ∙ sym also.seq);
  command = same_command schema (names_set past) (names_set (form ∷ past)) all form a.command b.command one.command also.command;
}
same_part schema past (Auto seq method word) (OfReply a) (OfReply b) all one also = same_auto schema seq method word a b one also
same_part schema past form (OfReply a) (OfReply b) all one also = absurd one
same_part schema past (Auto seq method word) (OfLine a) (OfReply b) all one also = absurd one.command
same_part schema past form (OfLine a) (OfReply b) all one also = absurd also
same_part schema past (Auto seq method word) (OfReply a) (OfLine b) all one also = absurd also.command
same_part schema past form (OfReply a) (OfLine b) all one also = absurd one

-- forms have one list of parts
abbrev SameParts : List Part → List Part → Type 0
SameParts [] [] = Unit {0}
SameParts (part ∷ parts) (part' ∷ parts') = SamePart part part' × SameParts parts parts'
SameParts _ _ = ⊥

parts_same : (schema : Schema) (seqs : ℕ) (forms : List Form) (xs ys : List Part) → AreTaken schema seqs forms xs → AreTaken schema seqs forms ys
    → SameParts xs ys
parts_same schema seqs [] [] [] one other = tt
parts_same schema seqs [] [] (y ∷ ys) one other = absurd other
parts_same schema seqs [] (x ∷ xs) ys one other = absurd one
parts_same schema seqs (form ∷ past) [] ys one other = absurd one
parts_same schema seqs (form ∷ past) (x ∷ xs) [] one other = absurd other
parts_same schema seqs (form ∷ past) (x ∷ xs) (y ∷ ys) one other = (
  same_part schema past form x y (numbered schema seqs (form ∷ past) (x ∷ xs) one) one.0.means other.0.means,
  parts_same schema seqs past xs ys one.1 other.1,
)

-- one by one in the other order
same_joined : (xs ys us vs : List Part) → SameParts xs ys → SameParts us vs → SameParts (xs ++ us) (ys ++ vs)
same_joined [] [] us vs s t = t
same_joined [] (y ∷ ys) us vs s t = absurd s
same_joined (x ∷ xs) [] us vs s t = absurd s
same_joined (x ∷ xs) (y ∷ ys) us vs s t = (s.0, same_joined xs ys us vs s.1 t)

same_reverse : (xs ys : List Part) → SameParts xs ys → SameParts (reverse xs) (reverse ys)
same_reverse [] [] s = tt
same_reverse [] (y ∷ ys) s = absurd s
same_reverse (x ∷ xs) [] s = absurd s
same_reverse (x ∷ xs) (y ∷ ys) s =
    subst (λ l. SameParts l (reverse (y ∷ ys))) (sym (reverse-append (x ∷ []) xs))
    (subst (λ l. SameParts (reverse xs ++ x ∷ []) l) (sym (reverse-append (y ∷ []) ys))
    (same_joined (reverse xs) (reverse ys) (x ∷ []) (y ∷ []) (same_reverse xs ys s.1) (s.0, tt)))

-- the lines and the replies among them
same_lines : (xs ys : List Part) → SameParts xs ys → SameLines (lines_in xs) (lines_in ys)
same_lines [] [] s = tt
same_lines [] (y ∷ ys) s = absurd s
same_lines (x ∷ xs) [] s = absurd s
same_lines (OfLine a ∷ xs) (OfLine b ∷ ys) s = (s.0, same_lines xs ys s.1)
same_lines (OfReply a ∷ xs) (OfReply b ∷ ys) s = same_lines xs ys s.1
same_lines (OfLine a ∷ xs) (OfReply b ∷ ys) s = absurd s.0
same_lines (OfReply a ∷ xs) (OfLine b ∷ ys) s = absurd s.0

same_replies : (xs ys : List Part) → SameParts xs ys → SameReplies (replies_in xs) (replies_in ys)
same_replies [] [] s = tt
same_replies [] (y ∷ ys) s = absurd s
same_replies (x ∷ xs) [] s = absurd s
same_replies (OfLine a ∷ xs) (OfLine b ∷ ys) s = same_replies xs ys s.1
same_replies (OfReply a ∷ xs) (OfReply b ∷ ys) s = (s.0, same_replies xs ys s.1)
same_replies (OfLine a ∷ xs) (OfReply b ∷ ys) s = absurd s.0
same_replies (OfReply a ∷ xs) (OfLine b ∷ ys) s = absurd s.0

same_script : (schema : Schema) (texts : List (List (List ℕ))) (one other : Script) → AreScript schema texts one → AreScript schema texts other
    → SameScript one other
same_script schema texts one other is also =
    let same = same_forms schema texts one other is also in
    let forms : also.forms ≡ is.forms = sym same.1 in
    let so_many : AreTaken schema one.seqs also.forms also.parts =
    subst (λ (n : ℕ). AreTaken schema n also.forms also.parts) (sym same.0) also.taken in
    let taken : AreTaken schema one.seqs is.forms also.parts = subst (λ (l : List Form). AreTaken schema one.seqs l also.parts) forms so_many in
    let parts = same_reverse is.parts also.parts (parts_same schema one.seqs is.forms is.parts also.parts is.taken taken) in
    record {
      seqs = same.0;
      names = is.names ∙ (ap (λ (l : List Form). length (names_set l)) (sym forms) ∙ sym also.names);
      autos = rw (is.autos, also.autos) (same_replies (reverse is.parts) (reverse also.parts) parts);
      lines = rw (is.lines, also.lines) (same_lines (reverse is.parts) (reverse also.parts) parts);
    }

pub one_script : (schema : Schema) (bytes : List ℕ) (one other : Script) → IsScriptOf schema bytes one → IsScriptOf schema bytes other → SameScript one other
one_script schema bytes one other is also = same_script schema (text_words bytes) one other is also
