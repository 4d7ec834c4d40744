-- What the events of a script call and answer is a value of its method's struct, and what they write raw is bytes.
use Rattle.std.proofs.Common.{◌≡◌, ◌<◌, ◌≤◌, ◌^◌, ℕ, suc, Bool, true, false, List, [], ◌∷◌, ◌++◌, length, Option, Some, None, refl, sym, ap, subst}
use Rattle.std.specs.Int.{w64}
use Rattle.std.specs.Prelude.{ℤ, FitsSigned, IfSome, reverse, slice_get, is_some, if◌then◌else◌, option_and_then}
use Rattle.std.specs.List.{AllByRecursion}
use Rattle.std.specs.Option.{option_map}
use Rattle.std.proofs.lemmas.List.Elements.{All-nil, All-cons}
use Rattle.hex.specs.Hex.{IsBytes}
use Rattle.mj_base.specs.declared.ids.EndId.{EndId}
use Rattle.mj_base.specs.declared.ids.SeqId.{SeqId}
use Rattle.mj_schema.specs.declared.schema.Schema.{Schema}
use Rattle.wire_model.specs.Tight.{MAX_PAYLOAD_BYTES}
use Rattle.wire_model.specs.Trees.{view}
use Rattle.wire_model.specs.declared.target.MessageSide.{MessageSide}
use Rattle.wire_model.specs.declared.target.MessageSide.TheVariants.{Request, Response}
use Rattle.wire_encoder.specs.declared.prepared.Prepared.{Prepared}
use Rattle.handle_table.specs.declared.thing.Thing.{Thing}
use Rattle.message_laws.specs.Filled.{AreBytes}
use Rattle.bind_model.specs.Ready.{ready}
use Rattle.bind_model.specs.Replies.{legal}
use Rattle.bind_model.specs.Seen.{own_of}
use Rattle.bind_model.specs.Wire.{Wire}
use Rattle.bind_model.specs.WireOf.{wire_of}
use Rattle.bind_model.specs.declared.asked.Asked.{Asked}
use Rattle.bind_model.specs.declared.asked.Asked.TheVariants as asks
use Rattle.bind_model.specs.declared.asked.Closing.TheVariants as closings
use Rattle.bind_model.specs.declared.asked.Outgoing.{Outgoing}
use Rattle.bind_model.specs.declared.endpoint.PendingId.{PendingId}
use Rattle.bind_model.specs.declared.endpoint.ResponderId.{ResponderId}
use Rattle.bind_model.specs.declared.event.Event.{Event}
use Rattle.script_forms.specs.Forms.{Form, Join, Auto, Of, Pipe, Mint, Bind, Associate, Attach, Call, Take, Answer, Raw, CloseToken, CloseEndpoint}
use Rattle.script_forms.specs.Forms.{Notify, Pause, Data, Flow, AreThere, IsForm, sequences}
use Rattle.call_script.specs.Script.{names_set, Asks, IsValueOf, IsPart, Part, OfLine, OfReply, lines_in, replies_in, AreTaken, IsScriptOf}
use Rattle.call_script.specs.Targets.{message_named}
use Rattle.call_script.specs.declared.script.AutoReply.{AutoReply}
use Rattle.call_script.specs.declared.script.Command.{Command}
use Rattle.call_script.specs.declared.script.Command.TheVariants as commands
use Rattle.call_script.specs.declared.script.Line.{Line}
use Rattle.call_script.specs.declared.script.Script.{Script}
use Rattle.script_names.specs.Autos.{Due, due, line_at, lines_done}
use Rattle.script_names.specs.Names.{Named, has_name, pendings_named, things_named, unnamed}
use Rattle.script_run.specs.OfScript.{Next, GoesOn, PastInSomeOrder, PastOfScript, joins_by, names_of, next_join, next_of, next_take}
use Rattle.script_names.specs.Asking.{all_held, as_end, asked_by, asked_for, closed_of}
use Rattle.script_run.specs.OfScript.{replied, reply_first, reply_or}
use Rattle.script_names.specs.Asking.{or_skip, outgoing}
use Rattle.script_run.specs.Order.{is_join, is_own, joins_of, lines_of}
use Rattle.printed_histories.specs.Asked.{AllAskSaid, AsksSaid, IsNamedInterface, IsSending}
use Rattle.printed_histories.proofs.ValueLists.{both, turned}
use Rattle.printed_histories.proofs.ValueSent.{PassedIsEncodable}
use Rattle.printed_runs.proofs.OwnEvents.{MiddleAsks, newest, rest_asks}
use Rattle.printed_runs.proofs.SentWords.{named_parameters, sent_value}
use Rattle.printed_runs.proofs.SomeOrder.{in_some_order, legal_behind, legal_there}
use Rattle.printed_runs.proofs.ValueTurns.{IsOneOf, due_in, filtered, found_at, taken_within}

bytes_of : (bytes : List ℕ) → IsBytes bytes → AreBytes bytes
bytes_of [] are = All-nil (λ (n : ℕ). n < 2 ^ 8)
bytes_of (b ∷ bytes) are = All-cons (λ (n : ℕ). n < 2 ^ 8) b bytes (are 0) (bytes_of bytes (λ i. are (suc i)))

-- ## What lines and automatic replies send

module _ (law : PassedIsEncodable) (schema : Schema) where
  sending : (side : MessageSide) (method word : List ℕ) (prepared : Prepared) (number : ℕ)
      → message_named schema side method ≡ Some (prepared.target, number) → IsValueOf schema number word prepared
      → IsSending schema side prepared.target (view prepared.value)
  sending side method word prepared number found value =
      let is = named_parameters schema side method prepared.target number found in
      record {
        number = number;
        sided = is.1;
        parameters = is.0;
        said = sent_value law schema number word prepared value is.0;
        met = record { handles = prepared.handles; endpoints = prepared.endpoints.items };
        passes = value.1.passes;
        short = subst (λ (bs : List ℕ). length bs ≤ MAX_PAYLOAD_BYTES) value.1.payload prepared.short;
      }

  -- what a command sends
  abbrev CommandSaid : Command → Type 0
  CommandSaid (commands.Call x id prepared tokens moment) =
      IsSending schema Request prepared.target (view prepared.value) × IfSome moment (FitsSigned w64)
  CommandSaid (commands.Answer x prepared tokens moment) =
      IsSending schema Response prepared.target (view prepared.value) × IfSome moment (FitsSigned w64)
  CommandSaid (commands.Bind name side interface) = IsNamedInterface schema interface
  CommandSaid (commands.Associate name side interface pending) = IsNamedInterface schema interface
  CommandSaid (commands.Raw name bytes tokens) = AreBytes bytes
  CommandSaid command = Unit {0}

  -- with a moment of 64 bits
  timed : (moment at : Option ℤ) → moment ≡ at → IfSome at (FitsSigned w64) → IfSome moment (FitsSigned w64)
  timed moment at same fits = subst (λ (o : Option ℤ). IfSome o (FitsSigned w64)) (sym same) fits

  command_said : (before names : List (List ℕ)) (form : Form) (command : Command) → IsForm form → Asks schema before names form command
      → CommandSaid command
  command_said before names (Of seq (Call x id method word ts at)) (commands.Call i n p tokens m) sound asked =
      (sending Request method word p asked.3.0 asked.3.1 asked.3.2, timed m at asked.4 sound.5)
  command_said before names (Of seq (Answer x method word ts at)) (commands.Answer i p tokens m) sound asked =
      (sending Response method word p asked.2.0 asked.2.1 asked.2.2, timed m at asked.3 sound.4)
  command_said before names (Join seq other x y) (commands.Join o f g) sound asked = tt
  command_said before names (Of seq (Pipe x y)) (commands.Pipe f g) sound asked = tt
  command_said before names (Of seq (Mint sort x)) (commands.Mint s i) sound asked = tt
  command_said before names (Of seq (Take x ns)) (commands.Take i got) sound asked = tt
  command_said before names (Of seq (Bind x side word)) (commands.Bind i s n) sound asked = (word, asked.2)
  command_said before names (Of seq (Associate x side word p)) (commands.Associate i s n q) sound asked = (word, asked.2)
  command_said before names (Of seq (Attach p other)) (commands.Attach q o) sound asked = tt
  command_said before names (Of seq (Raw x word ts)) (commands.Raw i bytes tokens) sound asked = bytes_of bytes asked.1.0
  command_said before names (Of seq (CloseToken x)) (commands.CloseToken i) sound asked = tt
  command_said before names (Of seq (CloseEndpoint x n)) (commands.CloseEndpoint i m) sound asked = tt
  command_said before names (Of seq (Notify x notice)) (commands.Notify i n) sound asked = tt
  command_said before names (Of seq (Pause x y flush)) (commands.Pause i j k) sound asked = tt
  command_said before names (Of seq (Data n x y)) (commands.Data k i j) sound asked = tt
  command_said before names (Of seq (Flow x f)) (commands.Flow i g) sound asked = tt
  command_said before names form command sound asked = absurd asked

  -- what a line sends
  abbrev LineSaid : Line → Type 0
  LineSaid line = CommandSaid line.command

  -- what an automatic reply sends
  abbrev ReplySaid : AutoReply → Type 0
  ReplySaid reply = IsSending schema Response reply.prepared.target (view reply.prepared.value)

  -- what a form adds, in a script of so many sequences
  abbrev PartSaid : ℕ → Part → Type 0
  PartSaid seqs (OfLine line) = LineSaid line
  PartSaid seqs (OfReply reply) = ReplySaid reply × IsOneOf seqs reply.seq

  part_said : (seqs : ℕ) (past : List Form) (form : Form) (part : Part) → IsForm form → AreThere seqs (sequences form) → IsPart schema past form part
      → PartSaid seqs part
  part_said seqs past form (OfLine line) sound there means = command_said (names_set past) (names_set (form ∷ past)) form line.command sound means.command
  part_said seqs past (Auto seq method word) (OfReply reply) sound there means = (
    sending Response method word reply.prepared means.number means.target means.value,
    subst (λ (n : ℕ). n < seqs) (sym means.seq) there.0,
  )
  part_said seqs past form (OfReply reply) sound there means = absurd means

  parts_said : (seqs : ℕ) (forms : List Form) (parts : List Part) → AreTaken schema seqs forms parts → AllByRecursion (PartSaid seqs) parts
  parts_said seqs [] [] taken = tt
  parts_said seqs [] (part ∷ parts) taken = absurd taken
  parts_said seqs (form ∷ past) [] taken = absurd taken
  parts_said seqs (form ∷ past) (part ∷ parts) taken =
      (part_said seqs past form part taken.0.sound taken.0.there taken.0.means, parts_said seqs past parts taken.1)

  lines_said : (seqs : ℕ) (parts : List Part) → AllByRecursion (PartSaid seqs) parts → AllByRecursion LineSaid (lines_in parts)
  lines_said seqs [] all = tt
  lines_said seqs (OfLine line ∷ parts) all = (all.0, lines_said seqs parts all.1)
  lines_said seqs (OfReply reply ∷ parts) all = lines_said seqs parts all.1

  replies_said : (seqs : ℕ) (parts : List Part) → AllByRecursion (PartSaid seqs) parts → AllByRecursion ReplySaid (replies_in parts)
  replies_said seqs [] all = tt
  replies_said seqs (OfLine line ∷ parts) all = replies_said seqs parts all.1
  replies_said seqs (OfReply reply ∷ parts) all = (all.0.0, replies_said seqs parts all.1)

  replies_within : (seqs : ℕ) (parts : List Part) → AllByRecursion (PartSaid seqs) parts
      → AllByRecursion (λ (reply : AutoReply). IsOneOf seqs reply.seq) (replies_in parts)
  replies_within seqs [] all = tt
  replies_within seqs (OfLine line ∷ parts) all = replies_within seqs parts all.1
  replies_within seqs (OfReply reply ∷ parts) all = (all.0.1, replies_within seqs parts all.1)

  -- ## What commands ask

  module _ (names : Named) (n : ℕ) where
    of_thing : (f : Thing → Asked) → ((x : Thing) → AsksSaid schema (f x)) → (o : Option Thing) → AsksSaid schema (or_skip n (option_map f o))
    of_thing f said None = tt
    of_thing f said (Some x) = said x

    of_end : (f : EndId → Asked) → ((x : EndId) → AsksSaid schema (f x)) → (o : Option EndId) → AsksSaid schema (or_skip n (option_map f o))
    of_end f said None = tt
    of_end f said (Some x) = said x

    of_pending : (seq : SeqId) (o : Option PendingId) → AsksSaid schema (or_skip n (option_map (λ (p : PendingId). asks.Attach p seq) o))
    of_pending seq None = tt
    of_pending seq (Some p) = tt

    of_call : (id : ℕ) (p : Prepared) (moment : Option ℤ) → IsSending schema Request p.target (view p.value) × IfSome moment (FitsSigned w64)
        → (o : Option EndId) (things : Option (List Thing)) (pendings : Option (List PendingId))
        → AsksSaid schema (or_skip n (option_and_then (λ (y : EndId). option_map (λ (sent : Outgoing). asks.Call y id sent)
        (option_and_then (λ (xs : List Thing). option_map (λ (ps : List PendingId). outgoing p xs ps moment) pendings) things)) o))
    of_call id p moment said None things pendings = tt
    of_call id p moment said (Some y) None pendings = tt
    of_call id p moment said (Some y) (Some xs) None = tt
    of_call id p moment said (Some y) (Some xs) (Some ps) = said

    of_answer : (p : Prepared) (moment : Option ℤ) → IsSending schema Response p.target (view p.value) × IfSome moment (FitsSigned w64)
        → (o : Option ResponderId) (things : Option (List Thing)) (pendings : Option (List PendingId))
        → AsksSaid schema (or_skip n (option_and_then (λ (r : ResponderId). option_map (λ (sent : Outgoing). asks.Answer r sent)
        (option_and_then (λ (xs : List Thing). option_map (λ (ps : List PendingId). outgoing p xs ps moment) pendings) things)) o))
    of_answer p moment said None things pendings = tt
    of_answer p moment said (Some r) None pendings = tt
    of_answer p moment said (Some r) (Some xs) None = tt
    of_answer p moment said (Some r) (Some xs) (Some ps) = said

    of_raw : (bytes : List ℕ) → AreBytes bytes → (twice : Bool) (o : Option Thing) (things : Option (List Thing))
        → AsksSaid schema (or_skip n (if twice then None else option_and_then
        (λ (x : Thing). option_map (λ (xs : List Thing). asks.Raw x bytes xs) things) o))
    of_raw bytes are true o things = tt
    of_raw bytes are false None things = tt
    of_raw bytes are false (Some x) None = tt
    of_raw bytes are false (Some x) (Some xs) = are

    of_closing : (o : Option Thing) (pending : Option PendingId) (responder : Option ResponderId)
        → AsksSaid schema (or_skip n (closed_of o pending responder))
    of_closing (Some x) pending responder = tt
    of_closing None (Some p) responder = tt
    of_closing None None None = tt
    of_closing None None (Some r) = tt

    of_pause : (flush : ℕ) (o q : Option EndId)
        → AsksSaid schema (or_skip n (option_and_then (λ (b : EndId). option_map (λ (a : EndId). asks.Pause b a flush) q) o))
    of_pause flush None q = tt
    of_pause flush (Some b) None = tt
    of_pause flush (Some b) (Some a) = tt

    of_command : (command : Command) → CommandSaid command → AsksSaid schema (or_skip n (asked_for names command))
    of_command (commands.Join other first second) said = tt
    of_command (commands.Pipe first second) said = tt
    of_command (commands.Mint sort name) said = tt
    of_command (commands.Bind name side interface) said = of_thing (λ (x : Thing). asks.Bind x side interface) (λ x. said) (names.handle name)
    of_command (commands.Associate name side interface pending) said =
        of_end (λ (y : EndId). asks.Associate y side interface) (λ y. said) (as_end (names.stands name))
    of_command (commands.Attach name seq) said = of_pending seq (names.pending name)
    of_command (commands.Call name id prepared list moment) said = of_call id prepared moment said (as_end (names.stands name))
        (all_held names.handle (things_named names.stands list)) (all_held names.pending (pendings_named names.stands list))
    of_command (commands.Take name list) said = of_end asks.Take (λ x. tt) (as_end (names.stands name))
    of_command (commands.Answer name prepared list moment) said = of_answer prepared moment said (names.responder name)
        (all_held names.handle (things_named names.stands list)) (all_held names.pending (pendings_named names.stands list))
    of_command (commands.Raw name bytes list) said = of_raw bytes said (has_name list name) (names.handle name) (all_held names.handle list)
    of_command (commands.CloseToken name) said = of_closing (names.handle name) (names.pending name) (names.responder name)
    of_command (commands.CloseEndpoint name id) said =
        of_end (λ (y : EndId). asks.Close (closings.Endpoint y id)) (λ y. tt) (as_end (names.stands name))
    of_command (commands.Notify name notice) said = of_end (λ (y : EndId). asks.Notify y notice) (λ y. tt) (as_end (names.stands name))
    of_command (commands.Pause name other flush) said = of_pause flush (as_end (names.stands name)) (as_end (names.stands other))
    of_command (commands.Data size first second) said = tt
    of_command (commands.Flow name flow) said = of_thing (λ (x : Thing). asks.Flow x flow) (λ x. tt) (names.handle name)

  -- ## What is next

  -- what is asked, or another
  abbrev asked_in : Asked → Option Asked → Asked
  asked_in other None = other
  asked_in other (Some asked) = asked

  asked_is : (one other : Asked) → ◌≡◌ {A = Option Asked} (Some one) (Some other) → AsksSaid schema one → AsksSaid schema other
  asked_is one other e said = subst (AsksSaid schema) (ap (asked_in one) e) said

  -- what is asked next, or another
  abbrev next_in : Asked → Option Next → Asked
  next_in other None = other
  next_in other (Some next) = next.1

  next_is : (a b : SeqId) (one other : Asked) → ◌≡◌ {A = Option Next} (Some (a, one)) (Some (b, other)) → AsksSaid schema one → AsksSaid schema other
  next_is a b one other e said = subst (AsksSaid schema) (ap (next_in one) e) said

  module _ (wire : Wire) (script : Script) (replies : AllByRecursion ReplySaid script.autos) (lines : AllByRecursion LineSaid script.lines) where
    of_reply : (past : List Event) (d : Due) → due wire script.autos past ≡ Some d → AsksSaid schema (replied d)
    of_reply past (r, reply) found = (due_in ReplySaid wire script.autos past r reply replies found, tt)

    of_join : (own : List Event) (seq : SeqId) (asked : Asked) → next_join script own ≡ Some (seq, asked) → AsksSaid schema asked
    of_join own seq asked e = go (slice_get (joins_of script) (length own)) refl e
      where
        go : (l : Option Line) → slice_get (joins_of script) (length own) ≡ l → option_map joins_by l ≡ Some (seq, asked) → AsksSaid schema asked
        go None at f = absurd cc
        go (Some line) at f =
            next_is line.seq seq (asked_by unnamed line) asked f
            (of_command unnamed line.number line.command
            (found_at LineSaid (joins_of script) (length own) line (filtered LineSaid (λ (one : Line). is_join one.command) script.lines lines) at))

    of_own : (after_joins : List Event) (s : SeqId) (own : List Event) (asked : Asked) → next_of wire script after_joins s own ≡ Some asked
        → AsksSaid schema asked
    of_own after_joins s own asked e = go (due wire script.autos own) refl (line_at wire script.autos (lines_of script s) own) refl e
      where
        line_in : (line : Line) (b : Bool) → (if b then None else slice_get (lines_of script s) (lines_done wire script.autos own)) ≡ Some line → LineSaid line
        line_in line true f = absurd cc
        line_in line false f =
            found_at LineSaid (lines_of script s) (lines_done wire script.autos own) line (filtered LineSaid (is_own s) script.lines lines) f

        go : (d : Option Due) → due wire script.autos own ≡ d → (l : Option Line) → line_at wire script.autos (lines_of script s) own ≡ l
            → reply_first d (option_map (asked_by (names_of wire script after_joins s own)) l) ≡ Some asked → AsksSaid schema asked
        go (Some d) is l at f = asked_is (replied d) asked f (of_reply own d is)
        go None is None at f = absurd cc
        go None is (Some line) at f =
            asked_is (asked_by (names_of wire script after_joins s own) line) asked f
            (of_command (names_of wire script after_joins s own) line.number line.command (line_in line (is_some (due wire script.autos own)) at))

    of_take : (before own : List Event) (seq : SeqId) (asked : Asked) → next_take wire script.autos before own ≡ Some (seq, asked) → AsksSaid schema asked
    of_take before own seq asked e = go (due wire script.autos (own ++ before)) refl (ready wire (own ++ before)) e
      where
        go : (d : Option Due) → due wire script.autos (own ++ before) ≡ d → (turn : Option (SeqId × EndId))
            → reply_or d (option_map (λ (turn : SeqId × EndId). (turn.0, asks.Take turn.1)) turn) ≡ Some (seq, asked) → AsksSaid schema asked
        go (Some d) is turn f = next_is d.1.seq seq (replied d) asked f (of_reply (own ++ before) d is)
        go None is None f = absurd cc
        go None is (Some turn) f = next_is turn.0 seq (asks.Take turn.1) asked f tt

  -- ## Events

  -- events of which each asks what is next
  all_next : (next : List Event → Option Next)
      → ((own : List Event) (seq : SeqId) (asked : Asked) → next own ≡ Some (seq, asked) → AsksSaid schema asked)
      → (own : List Event) → GoesOn next own → AllAskSaid schema own
  all_next next said [] all = tt
  all_next next said (event ∷ own) all = (said own event.seq event.asked all.0, all_next next said own all.1)

  -- of which each asks what is next for its sequence
  all_own : (seqs : ℕ) (next : SeqId → List Event → Option Asked)
      → ((s : SeqId) (own : List Event) (asked : Asked) → next s own ≡ Some asked → AsksSaid schema asked)
      → (middle : List Event) → AllByRecursion (λ (event : Event). IsOneOf seqs event.seq) middle → MiddleAsks seqs next middle → AllAskSaid schema middle
  all_own seqs next said [] within asks = tt
  all_own seqs next said (event ∷ middle) within asks = (
    said event.seq (own_of event.seq middle) event.asked (newest seqs next event middle asks within.0),
    all_own seqs next said middle within.1 (rest_asks seqs next event middle asks),
  )

  -- what the events of a script call and answer, where those of its lines are of sequences that are there
  asks_within : (bytes : List ℕ) (script : Script) (past : List Event) → IsScriptOf schema bytes script → (run : PastInSomeOrder schema script past)
      → AllByRecursion (λ (event : Event). IsOneOf script.seqs event.seq) run.middle → AllAskSaid schema past
  asks_within bytes script past is run there =
      let parts = turned (PartSaid script.seqs) is.parts (parts_said script.seqs is.forms is.parts is.taken) in
      let replies : AllByRecursion ReplySaid script.autos =
      subst (AllByRecursion ReplySaid) (sym is.autos) (replies_said script.seqs (reverse is.parts) parts) in
      let lines : AllByRecursion LineSaid script.lines =
      subst (AllByRecursion LineSaid) (sym is.lines) (lines_said script.seqs (reverse is.parts) parts) in
      let wire = wire_of schema in
      let asked = λ (event : Event). AsksSaid schema event.asked in
      let first = all_next (next_join script) (of_join wire script replies lines) run.joins.own run.joins.asks in
      let joins : AllAskSaid schema run.after_joins = subst (AllAskSaid schema) (sym run.joins.whole) (both asked run.joins.own [] first tt) in
      let middle = all_own script.seqs (next_of wire script run.after_joins) (of_own wire script replies lines run.after_joins) run.middle there
      (λ s w. (run.lines s w).asks) in
      let before = run.middle ++ run.after_joins in
      let last = all_next (next_take wire script.autos before) (of_take wire script replies lines before) run.drain.own run.drain.asks in
      subst (AllAskSaid schema) (sym run.drain.whole)
      (both asked run.drain.own before last (both asked run.middle run.after_joins middle joins))

  -- so they are where they come in turns, or side by side
  pub script_asks : (bytes : List ℕ) (script : Script) (order : Option ℕ) (past : List Event) → IsScriptOf schema bytes script
      → PastOfScript schema script order past → AllAskSaid schema past
  script_asks bytes script order past is run =
      let parts = turned (PartSaid script.seqs) is.parts (parts_said script.seqs is.forms is.parts is.taken) in
      let within : AllByRecursion (λ (reply : AutoReply). IsOneOf script.seqs reply.seq) script.autos =
      subst (AllByRecursion (λ (reply : AutoReply). IsOneOf script.seqs reply.seq)) (sym is.autos) (replies_within script.seqs (reverse is.parts) parts) in
      asks_within bytes script past is (in_some_order schema script order past run)
      (taken_within (wire_of schema) script order within run.middle run.turns)

  -- and where the history is legal
  pub legal_asks : (bytes : List ℕ) (script : Script) (past : List Event) → IsScriptOf schema bytes script → legal (wire_of schema) script.seqs past
      → PastInSomeOrder schema script past → AllAskSaid schema past
  legal_asks bytes script past is h run =
      asks_within bytes script past is run
      (legal_there (wire_of schema) script.seqs run.middle run.after_joins
      (legal_behind (wire_of schema) script.seqs run.drain.own (run.middle ++ run.after_joins)
      (subst (legal (wire_of schema) script.seqs) run.drain.whole h)))
