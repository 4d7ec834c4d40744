-- What an audit asks for: first the Mojom files, then the script, and then the history.
use Rattle.std.proofs.Common.{◌≡◌, ◌≤◌, ℕ, List, [], ◌∷◌, ◌++◌, length, refl, sym, ap, ◌∙◌, subst, inl, inr, Some, None, append_assoc}
use Rattle.std.specs.Prelude.{Option, Result, Ok, Err, IfOk, IfErr, ◌⊎◌}
use Rattle.mj_base.specs.declared.limits.TheConstants.{MAX_FILE_BYTES}
use Rattle.mj_io.specs.Outside.{Named, FilesState, FilesGoOn}
use Rattle.mj_schema.specs.declared.schema.Schema.{Schema}
use Rattle.call_script.specs.declared.script.Script.{Script}
use Rattle.call_script.specs.Script.{IsScriptOf}
use Rattle.command_line.specs.Asked.{AuditWords, Audit}
use Rattle.history_audit.specs.Audited.{Audits, IsSound}
use Rattle.history_audit.specs.declared.auditing.AuditFinding.{AuditFinding as Said}
use Rattle.history_audit.specs.declared.auditing.AuditFinding.TheVariants as said
use Rattle.history_audit.specs.declared.auditing.AuditError.TheVariants as unsaid
use Rattle.mojo_tool.specs.Work.{Work, Sounds, Unsounds, Leads, Scripted, Historying, AuditingAll, Auditing, Gathering, AskedFor, IsAmong}
use Rattle.mojo_tool.specs.Work.{HasSchemaAt, HasScriptAt, ComesTo, audited}
use Rattle.mojo_tool.specs.Answers.{AreRefused, FileAsks, HasRefusedLine, HistoryAsks, IsSchemaRead, IsSoundText, IsTextFor, LastAsks, RefusedFrom}
use Rattle.mojo_tool.specs.Lines.{sound_line}
use Rattle.mojo_tool.specs.steps.Audits.{HasSource, IsEither, IsLateSound, LateAsks}
use Rattle.mojo_tool.specs.steps.Fetches.{HaveSchemaOver}
use Rattle.mojo_tool.specs.steps.Made.{StoppedFrom}
use Rattle.mojo_tool.specs.steps.Messages.{Passes, IsFileText, IsTextOfWork}
use Rattle.mojo_tool.specs.steps.Stops.{Stops, StopsAt, IsOf, HasBytes, NoScript}
use Rattle.mojo_tool.specs.declared.decide.Stop.{Stop}
use Rattle.mojo_tool.specs.declared.decide.Stop.TheVariants.{Refused, ReadFault, NoMemory}
use Rattle.mojo_tool.specs.declared.refusal.ToolRefusal.TheVariants as refusals
use Rattle.mojo_tool.proofs.Fetching.{schema_leads}
use Rattle.mojo_tool.proofs.From.{from_goes}
use Rattle.mojo_tool.proofs.Messages.{passed, later, stops_at, of_stops}

-- ## What an audit says

-- a text of what is asked of a history says that it is sound
pub record SaysSound (schema : Schema) (script : Script) (bytes text : List ℕ) (work : Work) : Type 0 where
  pub events : ℕ
  pub sound : IsSound schema script bytes events
  pub text_of : text ≡ sound_line events
  pub work_is : work ≡ Sounds events

sound_answer : (schema : Schema) (script : Script) (bytes text : List ℕ) (work : Work) (answer : Said) → Audits schema script bytes (Ok answer)
    → work ≡ audited answer → IsTextFor (audited answer) text → SaysSound schema script bytes text work
sound_answer schema script bytes text work (said.Sound events) is e text_of = record { events = events; sound = is; text_of = text_of; work_is = e }
sound_answer schema script bytes text work (said.Wrong event) is e text_of = absurd text_of
sound_answer schema script bytes text work (said.Short events) is e text_of = absurd text_of
sound_answer schema script bytes text work (said.Tail line) is e text_of = absurd text_of

pub says_sound : (schema : Schema) (script : Script) (bytes text : List ℕ) (work : Work) → Auditing schema script bytes work → IsTextFor work text
    → SaysSound schema script bytes text work
says_sound schema script bytes text work (inl a) is =
    sound_answer schema script bytes text work a.0 a.1 a.2 (subst (λ (w : Work). IsTextFor w text) a.2 is)
says_sound schema script bytes text work (inr a) is = absurd (subst (λ (w : Work). IsTextFor w text) a.2 is)

-- the line of a history that is sound
pub sound_text : (schema : Schema) (script : Script) (bytes text : List ℕ) (answer : Said) (events : ℕ) → answer ≡ said.Sound events
    → text ≡ sound_line events → Audits schema script bytes (Ok answer) → IsTextOfWork (Auditing schema script bytes) text
sound_text schema script bytes text answer events is e audits = record {
  work = Sounds events;
  asked = inl (answer, audits, sym (ap audited is));
  text_of = e;
}

-- what isn't sound is said so
pub wrong_is : (answer : Said) (event : ℕ) → answer ≡ said.Wrong event → Unsounds answer ≡ audited answer
wrong_is answer event e = subst (λ (a : Said). Unsounds a ≡ audited a) (sym e) refl

pub short_is : (answer : Said) (events : ℕ) → answer ≡ said.Short events → Unsounds answer ≡ audited answer
short_is answer events e = subst (λ (a : Said). Unsounds a ≡ audited a) (sym e) refl

pub tail_is : (answer : Said) (line : ℕ) → answer ≡ said.Tail line → Unsounds answer ≡ audited answer
tail_is answer line e = subst (λ (a : Said). Unsounds a ≡ audited a) (sym e) refl

-- the refusal of one that isn't
pub unsound_stops : (schema : Schema) (script : Script) (bytes : List ℕ) (answer : Said) (stop : Stop) → stop ≡ Refused (refusals.Unsound answer)
    → Unsounds answer ≡ audited answer → Audits schema script bytes (Ok answer) → StopsAt (Auditing schema script bytes) stop
unsound_stops schema script bytes answer stop is e audits =
    subst (λ (s : Stop). StopsAt (Auditing schema script bytes) s) (sym is) (inl (answer, audits, e))

pub unsound_names : (answer : Said) (stop : Stop) → stop ≡ Refused (refusals.Unsound answer) → IsOf (λ name. ⊥) stop
unsound_names answer stop is = subst (λ (s : Stop). IsOf (λ name. ⊥) s) (sym is) tt

-- a text that is no history's
pub bad_stops : (schema : Schema) (script : Script) (bytes : List ℕ) (at : ℕ) → Audits schema script bytes (Err (unsaid.BadText at))
    → StopsAt (Auditing schema script bytes) (Refused (refusals.BadText at))
bad_stops schema script bytes at is = inr (at, is, refl)

-- what is told of whatever an answer is of is told of what it is of
pub said_text : {A E : Type 0} (P : Schema → Script → List ℕ → A → Type 0) (answer : Said) (schema : Schema) (script : Script) (bytes : List ℕ)
    (r : Result A E) → Audits schema script bytes (Ok answer)
    → IfOk r (λ x. (s : Schema) (t : Script) (b : List ℕ) → Audits s t b (Ok answer) → P s t b x) → IfOk r (λ x. P schema script bytes x)
said_text P answer schema script bytes (Ok x) is so = so schema script bytes is
said_text P answer schema script bytes (Err e) is so = tt

-- and so is the error
pub said_stop : {A E : Type 0} (P : Schema → Script → List ℕ → E → Type 0) (answer : Said) (schema : Schema) (script : Script) (bytes : List ℕ)
    (r : Result A E) → Audits schema script bytes (Ok answer)
    → IfErr r (λ e. (s : Schema) (t : Script) (b : List ℕ) → Audits s t b (Ok answer) → P s t b e) → IfErr r (λ e. P schema script bytes e)
said_stop P answer schema script bytes (Ok x) is so = tt
said_stop P answer schema script bytes (Err e) is so = so schema script bytes is

-- ## The script, and the history behind it

module _ (script history : List ℕ) (schema : Schema) where
  -- a script's first line that is refused
  pub refused_line : (bytes : List ℕ) (stop : Stop) → NoScript schema bytes stop → StopsAt (HasRefusedLine schema bytes) stop
  refused_line bytes (Refused refusal) not = not
  refused_line bytes (ReadFault name) not = absurd not
  refused_line bytes NoMemory not = tt

  line_leads : (held : Option (List Named)) (bytes : List ℕ) → HasBytes held script bytes → length bytes ≤ MAX_FILE_BYTES
      → Passes held (λ files. HasRefusedLine schema bytes) (λ files w. AuditingAll files script history schema w)
  line_leads None bytes has short = tt
  line_leads (Some files) bytes has short = λ work asked.
      subst (λ (found : Option (List ℕ)). Leads script (Scripted schema (λ read w. Historying files history schema read w)) found work) (sym has)
      (inr (short, inr asked))

  -- a script leads on to its history
  history_leads : (held : Option (List Named)) (bytes : List ℕ) (read : Script) → HasBytes held script bytes → length bytes ≤ MAX_FILE_BYTES
      → IsScriptOf schema bytes read
      → Passes held (λ files w. Historying files history schema read w) (λ files w. AuditingAll files script history schema w)
  history_leads None bytes read has short is = tt
  history_leads (Some files) bytes read has short is = λ work asked.
      subst (λ (found : Option (List ℕ)). Leads script (Scripted schema (λ read w. Historying files history schema read w)) found work) (sym has)
      (inr (short, inl (read, is, asked)))

  pub line_stops : (before now : FilesState) (bytes : List ℕ) (stop : Stop) → HasBytes before.held script bytes → length bytes ≤ MAX_FILE_BYTES
      → NoScript schema bytes stop → Stops before now (λ files w. AuditingAll files script history schema w) stop
  line_stops before now bytes stop has short not =
      stops_at before now (HasRefusedLine schema bytes) (λ files w. AuditingAll files script history schema w) stop
      (line_leads before.held bytes has short) (refused_line bytes stop not)

  pub history_stops : (before mid now : FilesState) (bytes : List ℕ) (read : Script) (stop : Stop) → FilesGoOn before mid
      → HasBytes before.held script bytes → length bytes ≤ MAX_FILE_BYTES → IsScriptOf schema bytes read
      → Stops mid now (λ files w. Historying files history schema read w) stop
      → Stops before now (λ files w. AuditingAll files script history schema w) stop
  history_stops before mid now bytes read stop on has short is stops =
      later before mid now (λ files w. Historying files history schema read w) (λ files w. AuditingAll files script history schema w) stop on
      (history_leads before.held bytes read has short is) stops

  -- two files that came, one behind the other
  both_came : (before mid now : List Named) (source bytes : List ℕ) → mid ≡ before ++ record { name = script; bytes = source } ∷ []
      → now ≡ mid ++ record { name = history; bytes = bytes } ∷ []
      → now ≡ before ++ record { name = script; bytes = source } ∷ record { name = history; bytes = bytes } ∷ []
  both_came before mid now source bytes first second =
      second ∙ ap (λ (xs : List Named). xs ++ record { name = history; bytes = bytes } ∷ []) first
      ∙ append_assoc before (record { name = script; bytes = source } ∷ []) (record { name = history; bytes = bytes } ∷ [])

  pub late_text : (before mid : FilesState) (now : List Named) (source text : List ℕ) (read : Script) → FilesGoOn before mid
      → HasBytes before.held script source → length source ≤ MAX_FILE_BYTES → mid.read ≡ before.read ++ record { name = script; bytes = source } ∷ []
      → IsScriptOf schema source read
      → IsFileText history (Auditing schema read) mid.read now mid.held (λ files w. Historying files history schema read w) text
      → IsLateSound script history schema before.read now before.held (λ files w. AuditingAll files script history schema w) text
  late_text before mid now source text read on has short came is file =
      let says = says_sound schema read file.bytes text file.work file.made file.text_of in
      let here : AskedFor before.held (λ files w. Historying files history schema read w) file.work =
      subst (λ (held : Option (List Named)). AskedFor held (λ files w. Historying files history schema read w) file.work) on.same file.asked in
      record {
        source = source;
        bytes = file.bytes;
        read = read;
        events = says.events;
        asked = subst (λ (w : Work). AskedFor before.held (λ files u. AuditingAll files script history schema u) w) says.work_is
            (passed before.held (λ files w. Historying files history schema read w) (λ files w. AuditingAll files script history schema w) file.work
            (history_leads before.held source read has short is) here);
        both = record { came = both_came before.read mid.read now source file.bytes came file.came; is = is };
        sound = says.sound;
        text_of = says.text_of;
      }

  -- the script, or the history where there is a script
  pub has_source : (held : Option (List Named)) (source : List ℕ) (read : Script) → HasBytes held script source → IsScriptOf schema source read
      → HasSource held script schema
  has_source None source read has is = tt
  has_source (Some files) source read has is = record { source = source; found = has; script = read; is = is }

  pub first_named : (held : Option (List Named)) (stop : Stop) → IsOf (λ name. name ≡ script) stop → IsOf (IsEither script history held schema) stop
  first_named held stop named = of_stops (λ name. name ≡ script) (IsEither script history held schema) stop (λ name e. inl e) named

  pub second_named : (held : Option (List Named)) (source : List ℕ) (read : Script) (stop : Stop) → HasBytes held script source
      → IsScriptOf schema source read → IsOf (λ name. name ≡ history) stop → IsOf (IsEither script history held schema) stop
  second_named held source read stop has is named =
      of_stops (λ name. name ≡ history) (IsEither script history held schema) stop (λ name e. inr (e, has_source held source read has is)) named

  -- what came is what a refusal is of
  pub line_from : (before now : List Named) (source : List ℕ) (stop : Stop) → now ≡ before ++ record { name = script; bytes = source } ∷ []
      → NoScript schema source stop → StoppedFrom (LateAsks script history schema before now) stop
  line_from before now source (Refused refusal) came not = inr (inl (source, came, not))
  line_from before now source (ReadFault name) came not = tt
  line_from before now source NoMemory came not = tt

  pub history_from : (before mid now : List Named) (source : List ℕ) (read : Script) (stop : Stop)
      → mid ≡ before ++ record { name = script; bytes = source } ∷ [] → IsScriptOf schema source read
      → StoppedFrom (FileAsks history (Auditing schema read) mid now) stop → StoppedFrom (LateAsks script history schema before now) stop
  history_from before mid now source read stop came is from =
      from_goes (FileAsks history (Auditing schema read) mid now) (LateAsks script history schema before now) stop
      (λ w asked. inr (record {
        source = source;
        bytes = asked.0;
        read = read;
        both = record { came = both_came before mid now source asked.0 came asked.1; is = is };
        made = asked.2;
      })) from

  pub late_from : {A : Type 0} (r : Result A Stop) (before mid now : List Named) (source : List ℕ) (read : Script)
      → mid ≡ before ++ record { name = script; bytes = source } ∷ [] → IsScriptOf schema source read
      → IfErr r (StoppedFrom (FileAsks history (Auditing schema read) mid now)) → IfErr r (StoppedFrom (LateAsks script history schema before now))
  late_from (Ok text) before mid now source read came is from = tt
  late_from (Err stop) before mid now source read came is from = history_from before mid now source read stop came is from

-- ## The Mojom files

module _ (words : AuditWords) where
  -- what files that have a schema lead on to
  abbrev behind : List Named → Schema → Work → Type 0
  behind files schema work = AuditingAll files words.script words.history schema work

  pub audit_stops : (before mid now : FilesState) (schema : Schema) (stop : Stop) → FilesGoOn before mid → HaveSchemaOver before.held words.files schema
      → Stops mid now (λ files w. AuditingAll files words.script words.history schema w) stop
      → Stops before now (λ files w. Gathering files words.files (AuditingAll files words.script words.history) w) stop
  audit_stops before mid now schema stop on have stops =
      later before mid now (λ files w. AuditingAll files words.script words.history schema w)
      (λ files w. Gathering files words.files (AuditingAll files words.script words.history) w) stop on
      (schema_leads before.held words.files schema behind have) stops

  pub audit_text : (before mid : FilesState) (now : List Named) (schema : Schema) (text : List ℕ) → FilesGoOn before mid
      → HaveSchemaOver before.held words.files schema → IsSchemaRead words.files before.read mid.read schema
      → IsLateSound words.script words.history schema mid.read now mid.held (λ files w. AuditingAll files words.script words.history schema w) text
      → IsSoundText words before.read now before.held (λ files w. Gathering files words.files (AuditingAll files words.script words.history) w) text
  audit_text before mid now schema text on have first late = record {
    schema = schema;
    source = late.source;
    script = late.read;
    bytes = late.bytes;
    events = late.events;
    asked = passed before.held (λ files w. AuditingAll files words.script words.history schema w)
        (λ files w. Gathering files words.files (AuditingAll files words.script words.history) w) (Sounds late.events)
        (schema_leads before.held words.files schema behind have)
        (subst (λ (held : Option (List Named)). AskedFor held (λ files w. AuditingAll files words.script words.history schema w) (Sounds late.events))
        on.same late.asked);
    from = record { mid = mid.read; first = first; came = late.both.came };
    read = late.both.is;
    sound = late.sound;
    text_of = late.text_of;
  }

  has_schema : (held : Option (List Named)) (schema : Schema) → HaveSchemaOver held words.files schema → HasSchemaAt held words.files
  has_schema None schema have = tt
  has_schema (Some files) schema have = (schema, have)

  has_script : (held : Option (List Named)) (schema : Schema) → HaveSchemaOver held words.files schema → HasSource held words.script schema
      → HasScriptAt held words
  has_script None schema have source = tt
  has_script (Some files) schema have source = record {
    schema = schema;
    have = have;
    source = source.source;
    found = source.found;
    script = source.script;
    is = source.is;
  }

  -- a call comes to a script where the Mojom files have a schema, and to a history where there is a script
  pub audit_reached : (held later : Option (List Named)) (schema : Schema) (stop : Stop) → later ≡ held → HaveSchemaOver held words.files schema
      → IsOf (IsEither words.script words.history later schema) stop → IsOf (ComesTo (Some (Audit words)) held) stop
  audit_reached held later schema stop same have named =
      of_stops (IsEither words.script words.history held schema) (ComesTo (Some (Audit words)) held) stop (λ name is. inr (either name is))
      (subst (λ (h : Option (List Named)). IsOf (IsEither words.script words.history h schema) stop) same named)
    where
      either : (name : List ℕ) → IsEither words.script words.history held schema name
          → ((name ≡ words.script) × HasSchemaAt held words.files) ⊎ ((name ≡ words.history) × HasScriptAt held words)
      either name (inl e) = inl (e, has_schema held schema have)
      either name (inr is) = inr (is.0, has_script held schema have is.1)

  pub audit_among : (held : Option (List Named)) (stop : Stop) → IsOf (IsAmong words.files) stop → IsOf (ComesTo (Some (Audit words)) held) stop
  audit_among held stop among = of_stops (IsAmong words.files) (ComesTo (Some (Audit words)) held) stop (λ name is. inl is) among

  -- what came is what a refusal is of
  pub audit_early : (before now : List Named) (stop : Stop) → StoppedFrom (AreRefused words.files before now) stop
      → StoppedFrom (RefusedFrom (Some (Audit words)) before now) stop
  audit_early before now stop from =
      from_goes (AreRefused words.files before now) (RefusedFrom (Some (Audit words)) before now) stop (λ w is. inl is) from

  pub audit_from : (before mid now : List Named) (schema : Schema) (stop : Stop) → IsSchemaRead words.files before mid schema
      → StoppedFrom (LateAsks words.script words.history schema mid now) stop → StoppedFrom (RefusedFrom (Some (Audit words)) before now) stop
  audit_from before mid now schema stop first from =
      from_goes (LateAsks words.script words.history schema mid now) (RefusedFrom (Some (Audit words)) before now) stop (λ w asked. inr (by w asked)) from
    where
      by : (w : Work) → LateAsks words.script words.history schema mid now w
          → LastAsks words.files words.script HasRefusedLine before now w ⊎ HistoryAsks words before now w
      by w (inl asked) = inl (record {
        schema = schema;
        bytes = asked.0;
        from = record { mid = mid; first = first; came = asked.1 };
        made = asked.2;
      })
      by w (inr asked) = inr (record {
        schema = schema;
        source = asked.source;
        script = asked.read;
        bytes = asked.bytes;
        from = record { mid = mid; first = first; came = asked.both.came };
        read = asked.both.is;
        made = asked.made;
      })
