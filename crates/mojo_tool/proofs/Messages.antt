-- What is asked for further on, and so from the start.
use Rattle.std.proofs.Common.{◌≡◌, ◌≤◌, ℕ, List, [], ◌∷◌, ◌++◌, length, sym, subst, arith, inl, inr, Some, None}
use Rattle.std.specs.Prelude.{Option, IfSome}
use Rattle.mj_base.specs.declared.limits.TheConstants.{MAX_FILE_BYTES}
use Rattle.mj_io.specs.Outside.{Named, FilesState, FilesGoOn}
use Rattle.mojo_tool.specs.Work.{Work, UnknownName, Missing, Fetching, Finding, Leads, AskedFor}
use Rattle.mj_schema.specs.declared.schema.Schema.{Schema}
use Rattle.mojo_tool.specs.Answers.{ReadFailed, refused_work, refused_name, IsMessageText, IsSchemaRead}
use Rattle.mojo_tool.specs.steps.Messages.{Passes, IsTextOfWork, IsFileText}
use Rattle.mojo_tool.specs.steps.Stops.{Stops, StopsAt, IsOf, HasBytes}
use Rattle.mojo_tool.specs.declared.decide.Stop.{Stop}
use Rattle.mojo_tool.specs.declared.decide.Stop.TheVariants.{Refused, ReadFault, NoMemory}

-- one work
pub passed : (held : Option (List Named)) (further ask : List Named → Work → Type 0) (work : Work) → Passes held further ask → AskedFor held further work
    → AskedFor held ask work
passed None further ask work passes asked = tt
passed (Some files) further ask work passes asked = passes work asked

-- a fault of a file
passed_lost : (held : Option (List Named)) (further ask : List Named → Work → Type 0) (name : List ℕ) (mid before now : ℕ) → Passes held further ask
    → before ≤ mid → ReadFailed held further name mid now → ReadFailed held ask name before now
passed_lost None further ask name mid before now passes le failed = tt
passed_lost (Some files) further ask name mid before now passes le (inl asked) = inl (passes (Missing name) asked)
passed_lost (Some files) further ask name mid before now passes le (inr rose) = inr (omega (arith, rose, le))

-- why there is no text further on
pub later : (before mid now : FilesState) (further ask : List Named → Work → Type 0) (stop : Stop) → FilesGoOn before mid → Passes before.held further ask
    → Stops mid now further stop → Stops before now ask stop
later before mid now further ask (Refused refusal) on passes stops =
    passed before.held further ask (refused_work refusal) passes
    (subst (λ (held : Option (List Named)). AskedFor held further (refused_work refusal)) on.same stops)
later before mid now further ask (ReadFault name) on passes stops = record {
  rose = omega (arith, stops.rose, on.faults);
  failed = passed_lost before.held further ask name.now mid.faults_on_present before.faults_on_present now.faults_on_present passes on.faults_on_present
      (subst (λ (held : Option (List Named)). ReadFailed held further name.now mid.faults_on_present now.faults_on_present) on.same stops.failed);
}
later before mid now further ask NoMemory on passes stops = tt

-- a text further on
pub text_later : (before mid : FilesState) (now : List Named) (further ask : List Named → Work → Type 0) (names : List (List ℕ)) (name text : List ℕ)
    (next : List ℕ → Work → Type 0) (From : Schema → List ℕ → Work → Type 0) (schema : Schema) → FilesGoOn before mid → Passes before.held further ask
    → IsSchemaRead names before.read mid.read schema → ((bytes : List ℕ) (work : Work) → next bytes work → From schema bytes work)
    → IsFileText name next mid.read now mid.held further text → IsMessageText names name From before.read now before.held ask text
text_later before mid now further ask names name text next From schema on passes first from is = record {
  schema = schema;
  bytes = is.bytes;
  work = is.work;
  asked = passed before.held further ask is.work passes (subst (λ (held : Option (List Named)). AskedFor held further is.work) on.same is.asked);
  from = record { mid = mid.read; first = first; came = is.came };
  made = from is.bytes is.work is.made;
  text_of = is.text_of;
}

-- what bytes ask for
at_once : (held : Option (List Named)) (further : Work → Type 0) (ask : List Named → Work → Type 0) (work : Work) → Passes held (λ files. further) ask
    → further work → AskedFor held ask work
at_once None further ask work passes asked = tt
at_once (Some files) further ask work passes asked = passes work asked

pub stops_at : (before now : FilesState) (further : Work → Type 0) (ask : List Named → Work → Type 0) (stop : Stop)
    → Passes before.held (λ files. further) ask → StopsAt further stop → Stops before now ask stop
stops_at before now further ask (Refused refusal) passes stops = at_once before.held further ask (refused_work refusal) passes stops
stops_at before now further ask (ReadFault name) passes stops = absurd stops
stops_at before now further ask NoMemory passes stops = tt

pub text_at : (held : Option (List Named)) (before now : List Named) (name bytes : List ℕ) (next : List ℕ → Work → Type 0)
    (ask : List Named → Work → Type 0) (text : List ℕ) → Passes held (λ files. next bytes) ask → now ≡ before ++ record { name = name; bytes = bytes } ∷ []
    → IsTextOfWork (next bytes) text → IsFileText name next before now held ask text
text_at held before now name bytes next ask text passes came is = record {
  bytes = bytes;
  work = is.work;
  asked = at_once held (next bytes) ask is.work passes is.asked;
  came = came;
  made = is.asked;
  text_of = is.text_of;
}

-- the bytes of a file lead on
pub bytes_lead : (held : Option (List Named)) (name bytes : List ℕ) (next : List ℕ → Work → Type 0) → HasBytes held name bytes
    → length bytes ≤ MAX_FILE_BYTES → Passes held (λ files. next bytes) (λ files w. Fetching files name next w)
bytes_lead None name bytes next has short = tt
bytes_lead (Some files) name bytes next has short =
    λ work asked. subst (λ (found : Option (List ℕ)). Leads name next found work) (sym has) (inr (short, asked))

-- one leads on to what another leads on to
pub both_pass : (held : Option (List Named)) (last further ask : List Named → Work → Type 0) → Passes held last further → Passes held further ask
    → Passes held last ask
both_pass None last further ask first second = tt
both_pass (Some files) last further ask first second = λ work asked. second work (first work asked)

-- what a look-up found leads on
pub found_leads : {A : Type 0} (held : Option (List Named)) (word : List ℕ) (next : List Named → A → Work → Type 0) (found : Option A) (x : A)
    → found ≡ Some x → Passes held (λ files. next files x) (λ files w. Finding word (next files) found w)
found_leads None word next found x e = tt
found_leads (Some files) word next found x e =
    λ work asked. subst (λ (o : Option _). Finding word (next files) o work) (sym e) asked

-- a word that is unknown
pub unknown_leads : {A : Type 0} (held : Option (List Named)) (word : List ℕ) (next : List Named → A → Work → Type 0) (found : Option A)
    → found ≡ None → Passes held (λ files w. w ≡ UnknownName word) (λ files w. Finding word (next files) found w)
unknown_leads None word next found e = tt
unknown_leads (Some files) word next found e = λ work asked. subst (λ (o : Option _). Finding word (next files) o work) (sym e) asked

-- what bytes ask for further on
pub work_text : (further ask : Work → Type 0) (text : List ℕ) → ((work : Work) → further work → ask work) → IsTextOfWork further text
    → IsTextOfWork ask text
work_text further ask text leads is = record { work = is.work; asked = leads is.work is.asked; text_of = is.text_of }

pub work_stops : (further ask : Work → Type 0) (stop : Stop) → ((work : Work) → further work → ask work) → StopsAt further stop → StopsAt ask stop
work_stops further ask (Refused refusal) leads stops = leads (refused_work refusal) stops
work_stops further ask (ReadFault name) leads stops = absurd stops
work_stops further ask NoMemory leads stops = tt

-- names that are of one sort are of another

of_names : (P Q : List ℕ → Type 0) (name : Option (List ℕ)) → ((n : List ℕ) → P n → Q n) → IfSome name P → IfSome name Q
of_names P Q None leads is = tt
of_names P Q (Some name) leads is = leads name is

pub of_stops : (P Q : List ℕ → Type 0) (stop : Stop) → ((n : List ℕ) → P n → Q n) → IsOf P stop → IsOf Q stop
of_stops P Q (Refused refusal) leads is = of_names P Q (refused_name refusal) leads is
of_stops P Q (ReadFault name) leads is = leads name.now is
of_stops P Q NoMemory leads is = tt

-- a stop that names no file names only such
pub of_none : (Q : List ℕ → Type 0) (stop : Stop) → IsOf (λ name. ⊥) stop → IsOf Q stop
of_none Q stop is = of_stops (λ name. ⊥) Q stop (λ name no. absurd no) is

-- want of memory
pub memory_stops : (ask : Work → Type 0) (stop : Stop) → stop ≡ NoMemory → StopsAt ask stop
memory_stops ask stop e = subst (StopsAt ask) (sym e) tt

pub memory_names : (Q : List ℕ → Type 0) (stop : Stop) → stop ≡ NoMemory → IsOf Q stop
memory_names Q stop e = subst (IsOf Q) (sym e) tt
