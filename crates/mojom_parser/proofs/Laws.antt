-- Tokens have one answer: what reading by the rule of a file says of them.
use Rattle.std.proofs.Common.{◌≡◌, ℕ, ◌+◌, ◌<◌, List, [], ◌∷◌, length, take, refl, sym, ◌∙◌, subst, inl, inr}
use Rattle.std.specs.Prelude.{Result, Ok, Err, ◌⊎◌}
use Rattle.std.proofs.Math.Nat.{eq-or-lt_of_le}
use Rattle.std.proofs.Math.Seq.{take-length}
use Rattle.mj_base.specs.declared.limits.TheConstants.{MAX_NESTED_TYPES}
use Rattle.mojom_ast.specs.declared.token.Token.{Token}
use Rattle.mojom_ast.specs.declared.file.File.{File}
use Rattle.mojom_ast.specs.declared.fault.Fault.TheVariants.{Unexpected, TooNested}
use Rattle.mojom_ast.specs.Lang.{Read}
use Rattle.mojom_ast.specs.Parsed.{Spells, Begins, EndsTooDeep}
use Rattle.grammar_laws.specs.steps.Factored.{factored}
use Rattle.mojom_parser.specs.declared.error.ParseError.{ParseError}
use Rattle.mojom_parser.specs.declared.error.ParseError.TheVariants as errors
use Rattle.mojom_parser.specs.Parsed.{Answers, AnswersAt, AnswersDeep, IsShallow, IsFault, IsAnswer, OneAnswer}
use Rattle.mojom_parser.specs.steps.Verdict.{verdict, Agrees}
use Rattle.mojom_parser.proofs.Places.{is_spelled, is_blamed, is_answered, is_exact, is_end, is_too_deep}

-- what reading by the rule of a file says of the tokens
abbrev pub reading : List Token → Result File ParseError
reading ts = verdict (length ts) ((factored MAX_NESTED_TYPES).read ts)

agrees : (v : Result File ParseError) → Agrees v v
agrees (Ok f) = refl
agrees (Err errors.Memory) = tt
agrees (Err (errors.Unexpected at)) = refl
agrees (Err (errors.TooNested at)) = refl

never_memory : (n : ℕ) (r : Read File) → verdict n r ≡ Err errors.Memory → ⊥
never_memory n (Ok (f, [])) e = absurd cc
never_memory n (Ok (f, t ∷ ts)) e = absurd cc
never_memory n (Err (Unexpected l)) e = absurd cc
never_memory n (Err (TooNested l)) e = absurd cc

-- a front that ends too deep is the one that reading names
deep_answers : (ts : List Token) (v : Result File ParseError) → reading ts ≡ v → (at : ℕ) → at < length ts → EndsTooDeep (take (at + 1) ts) → AnswersDeep at v
deep_answers ts v e at lt d = is_too_deep ts at v lt d (subst (Agrees v) (sym e) (agrees v))

-- reading answers
pub is_given : (ts : List Token) (v : Result File ParseError) → reading ts ≡ v → IsAnswer ts v
is_given ts (Ok f) e = (is_spelled ts f e, deep_answers ts (Ok f) e)
is_given ts (Err errors.Memory) e = absurd (never_memory (length ts) ((factored MAX_NESTED_TYPES).read ts) e)
is_given ts (Err (errors.Unexpected n)) e = (is_blamed ts (errors.Unexpected n) e, deep_answers ts (Err (errors.Unexpected n)) e)
is_given ts (Err (errors.TooNested n)) e = (is_blamed ts (errors.TooNested n) e, λ at lt d. sym (deep_answers ts (Err (errors.TooNested n)) e at lt d))

-- a tree whose types nest no deeper is what is read
pub tree_is : (ts : List Token) (tree : File) → Spells tree ts → IsShallow ts → reading ts ≡ Ok tree
tree_is ts tree spells shallow = go (reading ts) refl (is_answered ts tree (reading ts) spells (agrees (reading ts)))
  where
    go : (v : Result File ParseError) → reading ts ≡ v → Answers tree v → reading ts ≡ Ok tree
    go (Ok f) e a = subst (λ (g : File). ◌≡◌ {A = Result File ParseError} (reading ts) (Ok g)) a e
    go (Err errors.Memory) e a = absurd (never_memory (length ts) ((factored MAX_NESTED_TYPES).read ts) e)
    go (Err (errors.Unexpected at)) e a = absurd a
    go (Err (errors.TooNested at)) e a = let blames = is_blamed ts (errors.TooNested at) e in absurd (shallow at blames.0 blames.2)

-- where nothing goes on is what is read
at_is : (ts : List Token) (at : ℕ) → AnswersAt at (reading ts) → IsShallow ts → reading ts ≡ Err (errors.Unexpected at)
at_is ts at answers shallow = go (reading ts) refl answers
  where
    go : (v : Result File ParseError) → reading ts ≡ v → AnswersAt at v → reading ts ≡ Err (errors.Unexpected at)
    go (Ok f) e a = absurd a
    go (Err errors.Memory) e a = absurd (never_memory (length ts) ((factored MAX_NESTED_TYPES).read ts) e)
    go (Err (errors.Unexpected n)) e a = subst (λ (k : ℕ). ◌≡◌ {A = Result File ParseError} (reading ts) (Err (errors.Unexpected k))) a e
    go (Err (errors.TooNested n)) e a = let blames = is_blamed ts (errors.TooNested n) e in absurd (shallow n blames.0 blames.2)

-- where a type nests too deep is what is read
deep_is : (ts : List Token) (at : ℕ) → AnswersDeep at (reading ts) → reading ts ≡ Err (errors.TooNested at)
deep_is ts at answers = go (reading ts) refl answers
  where
    go : (v : Result File ParseError) → reading ts ≡ v → AnswersDeep at v → reading ts ≡ Err (errors.TooNested at)
    go (Ok f) e a = absurd a
    go (Err errors.Memory) e a = absurd (never_memory (length ts) ((factored MAX_NESTED_TYPES).read ts) e)
    go (Err (errors.Unexpected n)) e a = absurd a
    go (Err (errors.TooNested n)) e a = subst (λ (k : ℕ). ◌≡◌ {A = Result File ParseError} (reading ts) (Err (errors.TooNested k))) a e

fault_is : (ts : List Token) (e : ParseError) → IsFault ts e → reading ts ≡ Err e
fault_is ts errors.Memory f = absurd f
fault_is ts (errors.TooNested at) f = deep_is ts at (is_too_deep ts at (reading ts) f.0.0 f.0.2 (agrees (reading ts)))
fault_is ts (errors.Unexpected at) f = go (eq-or-lt_of_le f.0.0)
  where
    go : (at ≡ length ts) ⊎ (at < length ts) → reading ts ≡ Err (errors.Unexpected at)
    go (inr lt) = at_is ts at (is_exact ts at (reading ts) lt f.0.1 (f.0.2 lt) (agrees (reading ts))) f.1
    go (inl e) =
        let all : Begins ts = subst Begins (rw e (take-length ts)) f.0.1 in
        at_is ts at (subst (λ (k : ℕ). AnswersAt k (reading ts)) (sym e) (is_end ts (reading ts) all (f.0.3 e) (agrees (reading ts)))) f.1

-- an answer is what is read
answer_is : (ts : List Token) (v : Result File ParseError) → IsAnswer ts v → reading ts ≡ v
answer_is ts (Ok tree) a = tree_is ts tree a.0 a.1
answer_is ts (Err e) a = fault_is ts e a

-- for the law of this name, and for those of the crates above
pub one_answer : (tokens : List Token) → OneAnswer tokens
one_answer tokens = record {
  given = (reading tokens, is_given tokens (reading tokens) refl);
  once = λ one other a b. sym (answer_is tokens one a) ∙ answer_is tokens other b;
}
