-- Which files a call fetches: those that the words name, in the order of the words, once for each word, and none behind one that it can't go on with.
use Rattle.std.specs.Prelude.{ℕ, ◌≡◌, ◌⊎◌, List, [], ◌∷◌, ◌++◌, map, take, Option, Some, None, Result, Ok, Err}
use Rattle.mj_io.specs.Outside.{Fetch, fetch_of}
use Rattle.mj_io.specs.declared.Fetched.{Fetched}
use Rattle.mj_io.specs.declared.Fetched.TheVariants.{Whole, Longer}
use Rattle.mj_io.specs.declared.FilesError.{FilesError}
use Rattle.mj_io.specs.declared.FilesError.TheVariants.{Failed}
use Rattle.command_line.specs.Asked.{Command, Run, Print, Check, Encode, Decode, Load, Audit, Compat}
use Rattle.mojo_tool.specs.Work.{Work, WrongWords, Missing, TooLong, Refuses, Rejects, RefusesLine, UnknownName}

-- the Mojom files that a command names, in the order of the words
abbrev pub mojoms_of : Command → List (List ℕ)
mojoms_of (Run words) = words.files
mojoms_of (Print file) = file ∷ []
mojoms_of (Check files) = files
mojoms_of (Encode words) = words.files
mojoms_of (Decode words) = words.files
mojoms_of (Load words) = []
mojoms_of (Audit words) = words.files
mojoms_of (Compat old new) = old ∷ new ∷ []

-- the files that come behind them: a script, a value or a message, or a script and a history
abbrev pub last_of : Command → List (List ℕ)
last_of (Run words) = words.script ∷ []
last_of (Print file) = []
last_of (Check files) = []
last_of (Encode words) = words.value ∷ []
last_of (Decode words) = words.message ∷ []
last_of (Load words) = []
last_of (Audit words) = words.script ∷ words.history ∷ []
last_of (Compat old new) = []

-- a fetch of this name that got the whole file
abbrev pub whole : List ℕ → Fetch
whole name = fetch_of name (Ok Whole)

-- of each of these names one fetch was made, in their order, that got the whole file, and no other fetch
abbrev pub FetchedAll : List (List ℕ) → List Fetch → List Fetch → Type 0
FetchedAll names before now = now ≡ before ++ map whole names

-- the names before this one were fetched so, then this one, with this answer, and nothing behind it
pub record EndedAt (names : List (List ℕ)) (name : List ℕ) (answer : Result Fetched FilesError) (before now : List Fetch) : Type 0 where
  pub first : List (List ℕ)
  pub left : List (List ℕ)
  pub all : names ≡ first ++ name ∷ left
  pub made : now ≡ before ++ (map whole first ++ fetch_of name answer ∷ [])

-- the first of these names were fetched so
pub record FetchedSome (names : List (List ℕ)) (before now : List Fetch) : Type 0 where
  pub first : List (List ℕ)
  pub left : List (List ℕ)
  pub all : names ≡ first ++ left
  pub made : FetchedAll first before now

-- the first of these names were fetched so, and nothing behind them, but perhaps the next, whatever it answered
abbrev pub FetchedFront : List (List ℕ) → List Fetch → List Fetch → Type 0
FetchedFront names before now =
    FetchedSome names before now ⊎ ((name : List ℕ) × (answer : Result Fetched FilesError) × EndedAt names name answer before now)

-- what was fetched where this work was found out, of these Mojom files and these files behind them
abbrev pub FetchedFor : List (List ℕ) → List (List ℕ) → Work → List Fetch → List Fetch → Type 0
FetchedFor mojoms last WrongWords before now = now ≡ before
-- a file that isn't there, or that failed, is the last one, and so is one that is too long
FetchedFor mojoms last (Missing name) before now = EndedAt (mojoms ++ last) name (Err Failed) before now
FetchedFor mojoms last (TooLong name) before now = EndedAt (mojoms ++ last) name (Ok Longer) before now
-- what is found out of all Mojom files is found out before the files behind them are fetched
FetchedFor mojoms last (Refuses name refusal) before now = FetchedAll mojoms before now
FetchedFor mojoms last (Rejects name at cause) before now = FetchedAll mojoms before now
FetchedFor mojoms last (UnknownName name) before now = FetchedAll mojoms before now
-- a line of a script is found out before the file behind it is fetched
FetchedFor mojoms last (RefusesLine line why) before now = FetchedAll (mojoms ++ take 1 last) before now
-- all else is found out of all files
FetchedFor mojoms last _ before now = FetchedAll (mojoms ++ last) before now

-- what the call of a command has fetched that does all
abbrev pub AllFetched : Option Command → List Fetch → List Fetch → Type 0
AllFetched None before now = now ≡ before
AllFetched (Some command) before now = FetchedAll (mojoms_of command ++ last_of command) before now

-- what it has fetched where it finds out this work
abbrev pub FetchedUpTo : Option Command → Work → List Fetch → List Fetch → Type 0
FetchedUpTo None work before now = now ≡ before
FetchedUpTo (Some command) work before now = FetchedFor (mojoms_of command) (last_of command) work before now

-- what it has fetched where it wants for memory
abbrev pub PartFetched : Option Command → List Fetch → List Fetch → Type 0
PartFetched None before now = now ≡ before
PartFetched (Some command) before now = FetchedFront (mojoms_of command ++ last_of command) before now
