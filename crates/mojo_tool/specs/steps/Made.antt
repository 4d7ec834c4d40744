-- What was fetched, a file at a time.
use Rattle.std.specs.Prelude.{ℕ, ◌≡◌, ◌≤◌, ◌⊎◌, List, [], ◌∷◌, ◌++◌, length, Option, Ok, Err}
use Rattle.mj_base.specs.declared.limits.TheConstants.{MAX_FILE_BYTES}
use Rattle.mj_io.specs.Outside.{Named, Fetch, fetch_of}
use Rattle.mj_io.specs.declared.Fetched.TheVariants.{Longer}
use Rattle.mj_io.specs.declared.FilesError.TheVariants.{Failed, Memory}
use Rattle.mojom_compile.specs.declared.source.Source.{Source}
use Rattle.mojo_tool.specs.Work.{Work, WrongWords, Missing, TooLong, Refuses, Rejects, RefusesLine, UnknownName, BadText, Sounds, Unsounds}
use Rattle.mojo_tool.specs.Answers.{refused_work, IsTooLong}
use Rattle.mojo_tool.specs.Fetched.{FetchedAll, EndedAt, FetchedFront, FetchedFor}
use Rattle.mojo_tool.specs.steps.Stops.{HasBytes}
use Rattle.mojo_tool.specs.declared.decide.Stop.{Stop}
use Rattle.mojo_tool.specs.declared.decide.Stop.TheVariants.{Refused, ReadFault, NoMemory}

-- a file behind others, with the bytes that were fetched
pub record IsFetchedOnto (held : Option (List Named)) (before now : List Named) (name : List ℕ) (old new : List Source) : Type 0 where
  pub bytes : List ℕ
  pub has : HasBytes held name bytes
  pub short : length bytes ≤ MAX_FILE_BYTES
  pub whole : new ≡ old ++ record { name = name; bytes = bytes } ∷ []
  pub came : now ≡ before ++ record { name = name; bytes = bytes } ∷ []

-- one fetch was made, of this name, and stopped the call
abbrev pub EndedWith : List ℕ → Stop → List Fetch → List Fetch → Type 0
EndedWith name (Refused refusal) before now = (refused_work refusal ≡ TooLong name) × (now ≡ before ++ fetch_of name (Ok Longer) ∷ [])
EndedWith name (ReadFault other) before now = (other.now ≡ name) × (now ≡ before ++ fetch_of name (Err Failed) ∷ [])
EndedWith name NoMemory before now = now ≡ before ++ fetch_of name (Err Memory) ∷ []

-- one of these names was not fetched
abbrev pub Unfetched : List (List ℕ) → Work → List Fetch → List Fetch → Type 0
Unfetched names work before now =
    ((name : List ℕ) × (work ≡ Missing name) × EndedAt names name (Err Failed) before now)
    ⊎ ((name : List ℕ) × (work ≡ TooLong name) × EndedAt names name (Ok Longer) before now)

-- found out of the Mojom files alone
abbrev pub IsOfMojoms : Work → Type 0
IsOfMojoms (Refuses name refusal) = Unit {0}
IsOfMojoms (Rejects name at cause) = Unit {0}
IsOfMojoms (UnknownName name) = Unit {0}
IsOfMojoms _ = ⊥

-- found out of all files
abbrev pub IsOfAll : Work → Type 0
IsOfAll WrongWords = ⊥
IsOfAll (Missing name) = ⊥
IsOfAll (TooLong name) = ⊥
IsOfAll (Refuses name refusal) = ⊥
IsOfAll (Rejects name at cause) = ⊥
IsOfAll (UnknownName name) = ⊥
IsOfAll _ = Unit {0}

-- what was found out of these Mojom files, and what was fetched of them
abbrev pub EarlyFor : List (List ℕ) → List Fetch → List Fetch → Work → Type 0
EarlyFor names before now work = Unfetched names work before now ⊎ (IsOfMojoms work × FetchedAll names before now)

-- what was found out of the file behind them
abbrev pub LateFor : List ℕ → List Fetch → List Fetch → Work → Type 0
LateFor name before now work = Unfetched (name ∷ []) work before now ⊎ (IsOfAll work × FetchedAll (name ∷ []) before now)

-- a line of a script that is refused
abbrev pub IsOfLine : Work → Type 0
IsOfLine (RefusesLine line why) = Unit {0}
IsOfLine _ = ⊥

-- found out of a history
abbrev pub IsOfHistory : Work → Type 0
IsOfHistory (BadText at) = Unit {0}
IsOfHistory (Sounds events) = Unit {0}
IsOfHistory (Unsounds answer) = Unit {0}
IsOfHistory _ = ⊥

-- what was found out of a history behind its script
abbrev pub HistoryFor : List ℕ → List Fetch → List Fetch → Work → Type 0
HistoryFor name before now work = Unfetched (name ∷ []) work before now ⊎ (IsOfHistory work × FetchedAll (name ∷ []) before now)

-- what was found out of a script and a history behind the Mojom files, or of the script alone
abbrev pub BothFor : List ℕ → List ℕ → List Fetch → List Fetch → Work → Type 0
BothFor script history before now work =
    Unfetched (script ∷ history ∷ []) work before now
    ⊎ ((IsOfLine work × FetchedAll (script ∷ []) before now) ⊎ (IsOfHistory work × FetchedAll (script ∷ history ∷ []) before now))

-- why there is no text, by the work that was found out; or there was no memory
abbrev pub StoppedSo : (Work → Type 0) → Type 0 → Stop → Type 0
StoppedSo Found Short (Refused refusal) = Found (refused_work refusal)
StoppedSo Found Short (ReadFault name) = Found (Missing name.now)
StoppedSo Found Short NoMemory = Short

-- in these Mojom files
abbrev pub StoppedEarly : List (List ℕ) → List Fetch → List Fetch → Stop → Type 0
StoppedEarly names before now stop = StoppedSo (EarlyFor names before now) (FetchedFront names before now) stop

-- in the file behind them
abbrev pub StoppedLate : List ℕ → List Fetch → List Fetch → Stop → Type 0
StoppedLate name before now stop = StoppedSo (LateFor name before now) (FetchedFront (name ∷ []) before now) stop

-- in a history behind its script
abbrev pub StoppedHistory : List ℕ → List Fetch → List Fetch → Stop → Type 0
StoppedHistory name before now stop = StoppedSo (HistoryFor name before now) (FetchedFront (name ∷ []) before now) stop

-- in a script or in the history behind it
abbrev pub StoppedBoth : List ℕ → List ℕ → List Fetch → List Fetch → Stop → Type 0
StoppedBoth script history before now stop =
    StoppedSo (BothFor script history before now) (FetchedFront (script ∷ history ∷ []) before now) stop

-- in all of them
abbrev pub StoppedAfter : List (List ℕ) → List (List ℕ) → List Fetch → List Fetch → Stop → Type 0
StoppedAfter mojoms last before now stop =
    StoppedSo (λ work. FetchedFor mojoms last work before now) (FetchedFront (mojoms ++ last) before now) stop

-- a refusal that the files give that came, unless it is that one is too long
abbrev pub StoppedFrom : (Work → Type 0) → Stop → Type 0
StoppedFrom From (Refused refusal) = IsTooLong (refused_work refusal) ⊎ From (refused_work refusal)
StoppedFrom From (ReadFault name) = Unit {0}
StoppedFrom From NoMemory = Unit {0}
