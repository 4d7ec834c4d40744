-- The text of a history is read back; a history has one text, and a text is of one history.
use Rattle.std.proofs.Common.{◌≡◌, ℕ, suc, ◌≤◌, ◌++◌, false, List, [], ◌∷◌, map, Some, Result, Ok, Err, refl, sym, ap, ◌∙◌, subst}
use Rattle.std.specs.Prelude.{length, decimal, codes}
use Rattle.std.specs.List.{flat_map}
use Rattle.mj_schema.specs.KindTrees.{KindTree, StructKind}
use Rattle.mj_schema.specs.declared.schema.Schema.{Schema}
use Rattle.wire_model.specs.Depth.{IsOfKind}
use Rattle.wire_model.specs.Trees.{Tree}
use Rattle.wire_model.specs.declared.target.MessageSide.{MessageSide}
use Rattle.wire_model.specs.declared.target.Target.{Target}
use Rattle.handle_table.specs.declared.thing.Thing.{Thing}
use Rattle.bind_model.specs.declared.asked.Asked.{Asked}
use Rattle.bind_model.specs.declared.asked.Asked.TheVariants as askeds
use Rattle.bind_model.specs.declared.asked.Closing.{Closing}
use Rattle.bind_model.specs.declared.asked.Closing.TheVariants as closings
use Rattle.bind_model.specs.declared.event.Event.{Event}
use Rattle.byte_rules.specs.Lang.{Read}
use Rattle.byte_rules.specs.Judged.{Spells}
use Rattle.byte_rules.proofs.Judging.{reads}
use Rattle.value_text.specs.Brackets.{MAX_BRACKETS, brackets}
use Rattle.value_text.specs.Rules.{value}
use Rattle.value_text.specs.Spelling.{spell}
use Rattle.value_text.proofs.Shows as shows
use Rattle.value_text.specs.declared.text_error.TextError.{TextError}
use Rattle.value_text.specs.declared.text_error.TextError.TheVariants as errors
use Rattle.history_text.specs.declared.notes.Note.{Note}
use Rattle.history_text.specs.History.{closing_text, asked_text, told_text, event_line, event_lines, note_line, left_line, done_line, history_text}
use Rattle.history_text.specs.Names.{method_text}
use Rattle.line_parts.specs.Names.{names_of, messages_of, meaning}
use Rattle.history_reader.specs.Printable.{IsMessage, IsPrintable, printed_text}
use Rattle.history_reader.specs.Said.{said_closing, said_asked, said_event, said}
use Rattle.history_reader.specs.Texts.{Tells, ReadsBack}
use Rattle.history_reader.specs.Whole.{history}
use Rattle.history_reader.specs.declared.printed.Printed.{Printed}
use Rattle.line_parts.specs.declared.names.Message.{Message}
use Rattle.line_parts.proofs.MessageTexts.{kind_is}
use Rattle.history_reader.proofs.WholeLaws.{good_history}
use Rattle.history_reader.proofs.WholeTexts.{spelled, its_text}

-- a value of the struct of its method's parameters can be said
pub message_fits : (schema : Schema) (side : MessageSide) (target : Target) (t : Tree) (number : ℕ)
    → meaning (messages_of (names_of schema) side) (method_text schema target.interface target.method) ≡ Some (record { target = target; parameters = number })
    → IsOfKind schema (StructKind number false) t → brackets t ≤ MAX_BRACKETS → IsMessage schema side target t
message_fits schema side target t number means fits depth =
    let m : Message = record { target = target; parameters = number } in
    record {
      number = number;
      means = means;
      spells = subst (λ (kind : KindTree). Spells (value schema MAX_BRACKETS (StructKind number false)) t (spell schema kind t))
          (sym (kind_is schema side m means)) (shows.spelled schema MAX_BRACKETS (StructKind number false) t fits depth);
    }

-- what is said of a command has its text
closing_said : (c : Closing) → closing_text (said_closing c) ≡ closing_text c
closing_said (closings.Handle x) = refl
closing_said (closings.Pending p) = refl
closing_said (closings.Responder r) = refl
closing_said (closings.Endpoint x id) = refl

module _ (schema : Schema) where
  asked_said : (a : Asked) → asked_text schema (said_asked a) ≡ asked_text schema a
  asked_said askeds.Pipe = refl
  asked_said (askeds.Join t) = refl
  asked_said (askeds.Mint s) = refl
  asked_said (askeds.Bind x side n) = refl
  asked_said (askeds.Associate x side n) = refl
  asked_said (askeds.Attach p t) = refl
  asked_said (askeds.Call x id o) = refl
  asked_said (askeds.Answer r o) = refl
  asked_said (askeds.Raw x bytes handles) = refl
  asked_said (askeds.Take x) = refl
  asked_said (askeds.Close c) = ap (λ (l : List ℕ). codes "close " ++ l) (closing_said c)
  asked_said (askeds.Notify x notice) = refl
  asked_said (askeds.Pause x other flush) = refl
  asked_said (askeds.Data size) = refl
  asked_said (askeds.Flow x flow) = refl
  asked_said (askeds.Skip line) = refl

  pub line_said : (k : ℕ) (e : Event) → event_line schema k (said_event e) ≡ event_line schema k e
  line_said k e = ap (λ (l : List ℕ). decimal k ++ (codes " " ++ (decimal e.seq.0 ++ (codes " "
      ++ (l ++ (codes " -> " ++ (told_text schema e.told ++ codes "\n"))))))) (asked_said e.asked)

  lines_said : (k : ℕ) (events : List Event) → event_lines schema k (map said_event events) ≡ event_lines schema k events
  lines_said k [] = refl
  lines_said k (e ∷ events) = ap (λ (l : List ℕ). l ++ event_lines schema (suc k) (map said_event events)) (line_said k e)
      ∙ ap (λ (l : List ℕ). event_line schema k e ++ l) (lines_said (suc k) events)

  text_said : (events : List Event) (notes : List Note) (left : List Thing)
      → printed_text schema (said events notes left) ≡ history_text schema events notes left
  text_said events notes left =
      ap (λ (l : List ℕ). l ++ (flat_map note_line notes ++ (flat_map left_line left ++ done_line (length events)))) (lines_said 0 events)

  -- what is said of a history is spelled by its text
  pub its_spelled : (events : List Event) (notes : List Note) (left : List Thing) → IsPrintable schema (said events notes left)
      → Spells (history schema) (said events notes left) (history_text schema events notes left)
  its_spelled events notes left h = subst (λ (l : List ℕ). Spells (history schema) (said events notes left) l) (text_said events notes left)
      (spelled schema (said events notes left) h)

printed_in : Printed → Read Printed → Printed
printed_in other (Ok x) = x.0
printed_in other (Err n) = other

-- what bytes say has them for its text
pub own_text : (schema : Schema) (p : Printed) (bytes : List ℕ) → Spells (history schema) p bytes → IsPrintable schema p × (bytes ≡ printed_text schema p)
own_text schema = its_text schema

-- two texts that say the same are the same
pub same_text : (schema : Schema) (p : Printed) (one other : List ℕ) → Spells (history schema) p one → Spells (history schema) p other → one ≡ other
same_text schema p one other h g = (its_text schema p one h).1 ∙ sym (its_text schema p other g).1

-- two histories with one text say the same
pub same_history : (schema : Schema) (events others : List Event) (notes more : List Note) (left rest : List Thing)
    → IsPrintable schema (said events notes left) → IsPrintable schema (said others more rest)
    → history_text schema events notes left ≡ history_text schema others more rest → said events notes left ≡ said others more rest
unfolding printed_in
same_history schema events others notes more left rest h g e =
    let first = said events notes left in
    let second = said others more rest in
    let one = reads (history schema) (good_history schema) (history_text schema events notes left) first (its_spelled schema events notes left h) in
    let two = reads (history schema) (good_history schema) (history_text schema others more rest) second (its_spelled schema others more rest g) in
    ap (printed_in first) (sym one ∙ ap (history schema).read e ∙ two)

pub reads_back : (schema : Schema) (events : List Event) (notes : List Note) (left : List Thing) (read : Result Printed TextError)
    → IsPrintable schema (said events notes left) → Tells (history schema) (history_text schema events notes left) read
    → ReadsBack (said events notes left) read
reads_back schema events notes left (Ok printed) h t = sym (t.1 (said events notes left) (its_spelled schema events notes left h))
reads_back schema events notes left (Err (errors.BadText at)) h t = t.none (said events notes left) (its_spelled schema events notes left h)
reads_back schema events notes left (Err errors.Memory) h t = tt
