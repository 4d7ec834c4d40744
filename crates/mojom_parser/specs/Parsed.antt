-- What a list of tokens is answered.
use Rattle.std.specs.Prelude.{◌≡◌, ℕ, ◌+◌, ◌<◌, ◌≤◌, List, length, take, Result, Ok, Err}
use Rattle.mojom_ast.specs.declared.token.Token.{Token}
use Rattle.mojom_ast.specs.declared.file.File.{File}
use Rattle.mojom_ast.specs.Parsed.{Spells, Begins, EndsTooDeep}
use Rattle.mojom_parser.specs.declared.error.ParseError.{ParseError}
use Rattle.mojom_parser.specs.declared.error.ParseError.TheVariants as errors

-- A refusal has its cause. Unexpected: the first token with which no beginning goes on, or the end where nothing is
-- spelled. TooNested: a beginning whose last token begins a type inside 32 others.
abbrev pub Blames : ParseError → List Token → Type 0
Blames errors.Memory ts = Unit {0}
Blames (errors.Unexpected at) ts = (at ≤ length ts) × Begins (take at ts)
    × (at < length ts → Begins (take (at + 1) ts) → ⊥) × (at ≡ length ts → (tree : File) → Spells tree ts → ⊥)
Blames (errors.TooNested at) ts = (at < length ts) × Begins (take (at + 1) ts) × EndsTooDeep (take (at + 1) ts)

-- The answer to tokens that spell this tree: it, but for want of memory and for types that nest too deep.
abbrev pub Answers : File → Result File ParseError → Type 0
Answers tree (Ok f) = f ≡ tree
Answers tree (Err errors.Memory) = Unit {0}
Answers tree (Err (errors.Unexpected at)) = ⊥
Answers tree (Err (errors.TooNested at)) = Unit {0}

-- The answer where a type stands inside 32 others at this token.
abbrev pub AnswersDeep : ℕ → Result File ParseError → Type 0
AnswersDeep at (Ok f) = ⊥
AnswersDeep at (Err errors.Memory) = Unit {0}
AnswersDeep at (Err (errors.Unexpected n)) = ⊥
AnswersDeep at (Err (errors.TooNested n)) = n ≡ at

-- The answer where no beginning goes on at this token, or nothing is spelled and it is the end: types may nest too
-- deep before it.
abbrev pub AnswersAt : ℕ → Result File ParseError → Type 0
AnswersAt at (Ok f) = ⊥
AnswersAt at (Err errors.Memory) = Unit {0}
AnswersAt at (Err (errors.Unexpected n)) = n ≡ at
AnswersAt at (Err (errors.TooNested n)) = n < at

-- No type stands inside 32 others.
abbrev pub IsShallow : List Token → Type 0
IsShallow tokens = (at : ℕ) → at < length tokens → EndsTooDeep (take (at + 1) tokens) → ⊥

-- The one refusal of tokens: at a type inside 32 others, where a front ends with one; else where no beginning goes on,
-- or at the end.
abbrev pub IsFault : List Token → ParseError → Type 0
IsFault tokens (errors.Unexpected at) = Blames (errors.Unexpected at) tokens × IsShallow tokens
IsFault tokens (errors.TooNested at) = Blames (errors.TooNested at) tokens
    × ((other : ℕ) → other < length tokens → EndsTooDeep (take (other + 1) tokens) → other ≡ at)
IsFault tokens errors.Memory = ⊥

-- What the grammar alone answers: the tree that is spelled, or the place of a refusal.
abbrev pub IsAnswer : List Token → Result File ParseError → Type 0
IsAnswer tokens (Ok tree) = Spells tree tokens × IsShallow tokens
IsAnswer tokens (Err error) = IsFault tokens error

-- Tokens have an answer, and no other.
pub record OneAnswer (tokens : List Token) : Type 0 where
  pub given : (answer : Result File ParseError) × IsAnswer tokens answer
  pub once : (one other : Result File ParseError) → IsAnswer tokens one → IsAnswer tokens other → one ≡ other
