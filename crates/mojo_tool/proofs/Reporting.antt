-- The answers of the last steps.
use Rattle.std.proofs.Common.{◌≡◌, ℕ, List, Some, None, ◌++◌, refl, sym, ◌∙◌, subst}
use Rattle.std.specs.Prelude.{Option, ◌⊎◌}
use Rattle.std.proofs.lemmas.Option.{none-some}
use Rattle.mj_io.specs.Outside.{FilesState, SinkState, Fetch}
use Rattle.command_line.specs.Asked.{AsksThreads, Command, asked_of, at_once_of, command_of}
use Rattle.command_line.specs.declared.asked.Command.{Command as Read}
use Rattle.command_line.specs.declared.asked.Command.TheVariants as read
use Rattle.command_line.specs.declared.asked.RunAtOnce.{RunAtOnce}
use Rattle.mojo_tool.specs.Work.{Missing, ComesTo, IsWork}
use Rattle.mojo_tool.specs.Answers.{Answers, IsRightText, IsTooLong, RefusedFrom, refused_work}
use Rattle.mojo_tool.specs.Fetched.{FetchedAll, FetchedFront, AllFetched, FetchedUpTo, PartFetched, mojoms_of, last_of}
use Rattle.mojo_tool.specs.steps.Made.{StoppedAfter, StoppedFrom}
use Rattle.mojo_tool.specs.steps.Stops.{Stops, IsOf}
use Rattle.mojo_tool.specs.steps.Reports.{Printed, Reported}
use Rattle.mojo_tool.specs.declared.decide.Stop.{Stop}
use Rattle.mojo_tool.specs.declared.decide.Stop.TheVariants as stop
use Rattle.mojo_tool.specs.declared.status.Status.{Status}
use Rattle.mojo_tool.specs.declared.status.Status.TheVariants.{Done, Refused, WrongUse, ReadFault, WriteFault, NoMemory}
use Rattle.mojo_tool.proofs.Made.{front_none, front_for}

-- nothing was fetched
pub part_none : (asked : Option Command) (fetches : List Fetch) → PartFetched asked fetches fetches
part_none None fetches = refl
part_none (Some command) fetches = front_none (mojoms_of command ++ last_of command) fetches fetches refl

-- want of memory for the words
pub short_at_once : (words : List (List ℕ)) (fb : FilesState) (ob eb : SinkState)
    → Answers (record { words = words; files_before = fb; files = fb; out_before = ob; out = ob; err_before = eb; err = eb }) NoMemory
short_at_once words fb ob eb = record { fetched = part_none (command_of words) fb.fetches; quiet = refl; silent = refl }

module _ (words : List (List ℕ)) (command : Command) (e : Some command ≡ command_of words) (fb f : FilesState) (ob eb : SinkState) where
  -- of this command
  part : FetchedFront (mojoms_of command ++ last_of command) fb.fetches f.fetches → PartFetched (command_of words) fb.fetches f.fetches
  part front = subst (λ (asked : Option Command). PartFetched asked fb.fetches f.fetches) e front

  -- the text was printed
  pub printed : (o : SinkState) (text : List ℕ) (status : Status)
      → IsRightText (Some command) fb.read f.read fb.held (λ files w. IsWork (Some command) files w) text
      → FetchedAll (mojoms_of command ++ last_of command) fb.fetches f.fetches → Printed ob o text status
      → Answers (record { words = words; files_before = fb; files = f; out_before = ob; out = o; err_before = eb; err = eb }) status
  printed o text Done right all wrote = record {
    text = text;
    fetched = subst (λ (asked : Option Command). AllFetched asked fb.fetches f.fetches) e all;
    wrote = wrote;
    right = subst (λ (asked : Option Command). IsRightText asked fb.read f.read fb.held (λ files w. IsWork asked files w) text) e right;
    silent = refl;
  }
  printed o text WriteFault right all part = record {
    text = text;
    fetched = subst (λ (asked : Option Command). AllFetched asked fb.fetches f.fetches) e all;
    part = part.0;
    rose = part.1;
    right = subst (λ (asked : Option Command). IsRightText asked fb.read f.read fb.held (λ files w. IsWork asked files w) text) e right;
    silent = refl;
  }
  printed o text Refused right all wrong = absurd wrong
  printed o text WrongUse right all wrong = absurd wrong
  printed o text ReadFault right all wrong = absurd wrong
  printed o text NoMemory right all wrong = absurd wrong

  -- it was said why there is no text
  pub reported : (er : SinkState) (why : Stop) (status : Status) → Stops fb f (λ files w. IsWork (Some command) files w) why
      → IsOf (ComesTo (Some command) fb.held) why → StoppedAfter (mojoms_of command) (last_of command) fb.fetches f.fetches why
      → StoppedFrom (RefusedFrom (Some command) fb.read f.read) why → Reported why eb er status
      → Answers (record { words = words; files_before = fb; files = f; out_before = ob; out = ob; err_before = eb; err = er }) status
  reported er (stop.Refused refusal) Refused stops of after from said = record {
    refusal = refusal;
    fetched = subst (λ (asked : Option Command). FetchedUpTo asked (refused_work refusal) fb.fetches f.fetches) e after;
    from = subst (λ (asked : Option Command). IsTooLong (refused_work refusal) ⊎ RefusedFrom asked fb.read f.read (refused_work refusal)) e from;
    reached = subst (λ (asked : Option Command). IsOf (ComesTo asked fb.held) (stop.Refused refusal)) e of;
    quiet = refl;
    asked = subst (λ (asked : Option Command). Stops fb f (λ files w. IsWork asked files w) (stop.Refused refusal)) e stops;
    wrote = said.1;
  }
  reported er (stop.Refused refusal) NoMemory stops of after from said =
      record { fetched = part (front_for (mojoms_of command) (last_of command) (refused_work refusal) fb.fetches f.fetches after); quiet = refl; silent = said }
  reported er (stop.Refused refusal) Done stops of after from said = absurd (let s = said.0 in cc)
  reported er (stop.Refused refusal) WrongUse stops of after from said = absurd (let s = said.0 in cc)
  reported er (stop.Refused refusal) ReadFault stops of after from said = absurd (let s = said.0 in cc)
  reported er (stop.Refused refusal) WriteFault stops of after from said = absurd (let s = said.0 in cc)
  reported er (stop.ReadFault name) ReadFault stops of after from said = record {
    name = name.now;
    fetched = subst (λ (asked : Option Command). FetchedUpTo asked (Missing name.now) fb.fetches f.fetches) e after;
    reached = subst (λ (asked : Option Command). IsOf (ComesTo asked fb.held) (stop.ReadFault name)) e of;
    quiet = refl;
    rose = stops.rose;
    failed = (subst (λ (asked : Option Command). Stops fb f (λ files w. IsWork asked files w) (stop.ReadFault name)) e stops).failed;
    wrote = said.1;
  }
  reported er (stop.ReadFault name) NoMemory stops of after from said =
      record { fetched = part (front_for (mojoms_of command) (last_of command) (Missing name.now) fb.fetches f.fetches after); quiet = refl; silent = said }
  reported er (stop.ReadFault name) Done stops of after from said = absurd (let s = said.0 in cc)
  reported er (stop.ReadFault name) WrongUse stops of after from said = absurd (let s = said.0 in cc)
  reported er (stop.ReadFault name) Refused stops of after from said = absurd (let s = said.0 in cc)
  reported er (stop.ReadFault name) WriteFault stops of after from said = absurd (let s = said.0 in cc)
  reported er stop.NoMemory NoMemory stops of after from said = record { fetched = part after; quiet = refl; silent = said.1 }
  reported er stop.NoMemory Done stops of after from said = absurd (let s = said.0 in cc)
  reported er stop.NoMemory WrongUse stops of after from said = absurd (let s = said.0 in cc)
  reported er stop.NoMemory Refused stops of after from said = absurd (let s = said.0 in cc)
  reported er stop.NoMemory WriteFault stops of after from said = absurd (let s = said.0 in cc)
  reported er stop.NoMemory ReadFault stops of after from said = absurd (let s = said.0 in cc)

-- ## Runs with threads

-- words that are a command aren't none
pub none_wrong : (command : Command) (asked : Option Command) → Some command ≡ asked → asked ≡ None → ⊥
none_wrong command asked is none = none-some command (sym (is ∙ none))

-- what one thread does is no run with threads
pub never_threads : (words : List (List ℕ)) (command : Read) → Some (asked_of command) ≡ command_of words → AsksThreads (command_of words) → ⊥
never_threads words command is asks = go command (subst AsksThreads (sym is) asks)
  where
    go : (c : Read) → AsksThreads (Some (asked_of c)) → ⊥
    go (read.Run script order files) e = none-some order (sym e)
    go (read.Print file) e = e
    go (read.Check files) e = e
    go (read.Encode method side value files) e = e
    go (read.Decode interface side handles message files) e = e
    go (read.Load seed messages) e = e
    go (read.Audit script history files) e = e
    go (read.Compat old new) e = e

-- and one that was read is
pub asks_at_once : (words : List (List ℕ)) (run : RunAtOnce) → Some (at_once_of run) ≡ command_of words → AsksThreads (command_of words)
asks_at_once words run is = subst AsksThreads is refl

-- where nothing was fetched or written before
pub from_same : (words : List (List ℕ)) (fb mid f : FilesState) (ob om o eb em er : SinkState) (status : Status) → mid ≡ fb → om ≡ ob → em ≡ eb
    → Answers (record { words = words; files_before = mid; files = f; out_before = om; out = o; err_before = em; err = er }) status
    → Answers (record { words = words; files_before = fb; files = f; out_before = ob; out = o; err_before = eb; err = er }) status
from_same words fb mid f ob om o eb em er status same_f same_o same_e answers =
    subst (λ (x : FilesState). Answers (record { words = words; files_before = x; files = f; out_before = ob; out = o; err_before = eb; err = er }) status)
    same_f
    (subst (λ (x : SinkState). Answers (record { words = words; files_before = mid; files = f; out_before = x; out = o; err_before = eb; err = er }) status)
    same_o
    (subst (λ (x : SinkState). Answers (record { words = words; files_before = mid; files = f; out_before = om; out = o; err_before = x; err = er }) status)
    same_e answers))
