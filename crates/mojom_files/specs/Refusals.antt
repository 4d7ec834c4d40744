-- Which of several refusals is answered.
use Rattle.std.specs.Prelude.{ℕ, ◌≡◌, ◌==◌, nat_lt, Bool, false, ◌||◌, ◌&&◌, if◌then◌else◌, List, [], ◌∷◌, Option, Some, None, ◌⊎◌}
use Rattle.std.specs.List.{fold}
use Rattle.std.specs.Option.{option_or}
use Rattle.mojom_files.specs.Causes as causes
use Rattle.mojom_files.specs.declared.refusal.Refusal.{Refusal}

-- the order of causes at one place
abbrev pub rank : causes.Cause → ℕ
rank (causes.NoFile path) = 0
rank (causes.CircularImport names) = 1
rank (causes.DuplicateName name) = 2
rank (causes.UnknownName name) = 3
rank (causes.WrongSort name) = 4
rank (causes.CircularConst name) = 5
rank (causes.WrongLiteral name) = 6
rank (causes.OutOfRange kind value) = 7
rank (causes.TooManyFields name) = 8
rank (causes.EmptyEnum name) = 9
rank (causes.DoubleDefault name) = 10
rank (causes.FloatField name) = 11
rank (causes.BadMapKey name) = 12
rank (causes.NullableKey name) = 13
rank (causes.BadNullable name) = 14
rank (causes.ZeroLengthArray name) = 15
rank (causes.OrdinalDouble name ordinal) = 16
rank (causes.OrdinalGap name ordinal) = 17
rank (causes.VersionFalls name before here) = 18
rank (causes.LateNotNullable name) = 19

-- of two refusals of one file the earlier place comes first, and at one place the lesser rank
abbrev pub comes_before : Refusal → Refusal → Bool
comes_before one two = nat_lt one.at two.at || ((one.at == two.at) && nat_lt (rank one.cause) (rank two.cause))

-- it is one of these
abbrev pub IsAmong : List Refusal → Refusal → Type 0
IsAmong [] one = ⊥
IsAmong (other ∷ others) one = (other ≡ one) ⊎ IsAmong others one

-- one of these, and none of them comes before it
pub record IsFirst (refusals : List Refusal) (first : Refusal) : Type 0 where
  pub among : IsAmong refusals first
  pub least : (other : Refusal) → IsAmong refusals other → comes_before other first ≡ false

-- the first is answered, and none exactly where there is none
abbrev pub IsAnswered : Option Refusal → List Refusal → Type 0
IsAnswered None refusals = refusals ≡ []
IsAnswered (Some first) refusals = IsFirst refusals first

-- the one that comes first of the best so far and the next
abbrev pub sooner : Option Refusal → Refusal → Option Refusal
sooner None next = Some next
sooner (Some best) next = if comes_before next best then Some next else Some best

-- the one that comes first of the best so far and of these; of two with one place and one rank the earlier in the list
abbrev pub best_of : Option Refusal → List Refusal → Option Refusal
best_of best refusals = fold sooner best refusals

-- the refusal, where the test says so
abbrev pub where_true : Bool → Refusal → List Refusal
where_true test refusal = if test then refusal ∷ [] else []

-- what is found at the first of these where something is found
abbrev pub first_of : {A B : Type 0} → (A → Option B) → List A → Option B
first_of look [] = None
first_of look (x ∷ xs) = option_or (look x) (first_of look xs)

-- the first refusal of files in their order: the first one of the first file that has any
abbrev pub first_refusal : (ℕ → List Refusal) → List ℕ → Option Refusal
first_refusal refusals order = first_of (λ (file : ℕ). best_of None (refusals file)) order
