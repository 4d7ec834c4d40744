-- One reading of a file: its tree, or its refusal.
use Rattle.std.proofs.Common.{◌≡◌, ℕ, ◌+◌, ◌<◌, List, length, take, refl, sym, ◌∙◌, ap, subst, inl, inr}
use Rattle.std.specs.Prelude.{Result, Ok, Err, ◌⊎◌}
use Rattle.mojom_ast.specs.declared.token.Token.{Token}
use Rattle.mojom_ast.specs.declared.file.File.{File}
use Rattle.mojom_ast.specs.Parsed.{EndsTooDeep}
use Rattle.mojom_lexer.specs.declared.error.LexError.{LexError}
use Rattle.mojom_lexer.specs.declared.error.LexError.TheVariants as lex
use Rattle.mojom_lexer.specs.Lexed.{AreTokens, IsLexicalRefusal, OneReading}
use Rattle.mojom_lexer.proofs.Laws.{one_reading}
use Rattle.mojom_parser.specs.declared.error.ParseError.{ParseError}
use Rattle.mojom_parser.specs.declared.error.ParseError.TheVariants as parse
use Rattle.mojom_parser.specs.Parsed.{AnswersDeep, Blames, IsFault, IsAnswer}
use Rattle.mojom_parser.proofs.Laws.{one_answer}
use Rattle.mojom_compile.specs.declared.error.Cause.TheVariants as causes
use Rattle.mojom_compile.specs.declared.error.FileRefusal.{FileRefusal}
use Rattle.mojom_compile.specs.declared.error.CompileError.{CompileError}
use Rattle.mojom_compile.specs.declared.error.CompileError.TheVariants.{Refused}
use Rattle.mojom_compile.specs.Compiled.{IsParsed, lexical, place_of_token, grammatical, IsNoText, IsNoFile, IsUnread, IsFor, OneTree}

-- for `read`: what the parser blames is a refusal of the file
pub unread : (bytes : List ℕ) (tokens : List Token) (error : ParseError) → AreTokens bytes tokens → Blames error tokens
    → ((at : ℕ) → at < length tokens → EndsTooDeep (take (at + 1) tokens) → AnswersDeep at (Err error))
    → IsFor (IsUnread bytes) (grammatical bytes tokens error)
unread bytes tokens parse.Memory are blames deep = tt
unread bytes tokens (parse.Unexpected n) are blames deep =
    inr (record { tokens = tokens; error = parse.Unexpected n; are = are; fault = (blames, deep); named = refl })
unread bytes tokens (parse.TooNested n) are blames deep =
    inr (record { tokens = tokens; error = parse.TooNested n; are = are; fault = (blames, λ k lt d. sym (deep k lt d)); named = refl })

refused_once : (one two : CompileError) (refusal other : FileRefusal) → one ≡ two → one ≡ Refused refusal → two ≡ Refused other → refusal ≡ other
refused_once one two refusal other same e g = let h : Refused refusal ≡ Refused other = sym e ∙ (same ∙ g) in cc

module _ (bytes : List ℕ) where
  once : OneReading bytes
  once = one_reading bytes

  no_text_no_file : (one two : FileRefusal) → IsNoText bytes one → IsNoFile bytes two → ⊥
  no_text_no_file one two text file = once.never_both file.tokens text.error file.are text.refused

  one_text : (one two : FileRefusal) → IsNoText bytes one → IsNoText bytes two → one ≡ two
  one_text one two a b =
      let same : a.error ≡ b.error = once.one_refusal a.error b.error a.refused b.refused in
      refused_once (lexical a.error) (lexical b.error) one two (ap lexical same) a.named b.named

  one_file : (one two : FileRefusal) → IsNoFile bytes one → IsNoFile bytes two → one ≡ two
  one_file one two a b =
      let same : a.tokens ≡ b.tokens = once.one_list a.tokens b.tokens a.are b.are in
      let fault : IsFault b.tokens a.error = subst (λ (ts : List Token). IsFault ts a.error) same a.fault in
      let answers : ◌≡◌ {A = Result File ParseError} (Err a.error) (Err b.error) =
      (one_answer b.tokens).once (Err a.error) (Err b.error) fault b.fault in
      let error : a.error ≡ b.error = cc in
      let refusals = ap (λ (ts : List Token). grammatical bytes ts a.error) same ∙ ap (grammatical bytes b.tokens) error in
      refused_once (grammatical bytes a.tokens a.error) (grammatical bytes b.tokens b.error) one two refusals a.named b.named

  one_unread : (one two : FileRefusal) → IsUnread bytes one → IsUnread bytes two → one ≡ two
  one_unread one two (inl a) (inl b) = one_text one two a b
  one_unread one two (inl a) (inr b) = absurd (no_text_no_file one two a b)
  one_unread one two (inr a) (inl b) = absurd (no_text_no_file two one b a)
  one_unread one two (inr a) (inr b) = one_file one two a b

  -- the tree of these tokens is their answer
  answers_tree : (tree : File) (a : IsParsed bytes tree) (tokens : List Token) → a.tokens ≡ tokens → IsAnswer tokens (Ok tree)
  answers_tree tree a tokens same = subst (λ (ts : List Token). IsAnswer ts (Ok tree)) same (a.spelled, a.shallow)

  one_parsed : (tree other : File) → IsParsed bytes tree → IsParsed bytes other → tree ≡ other
  one_parsed tree other a b =
      let same : a.tokens ≡ b.tokens = once.one_list a.tokens b.tokens a.are b.are in
      let trees : ◌≡◌ {A = Result File ParseError} (Ok tree) (Ok other) =
      (one_answer b.tokens).once (Ok tree) (Ok other) (answers_tree tree a b.tokens same) (b.spelled, b.shallow) in
      cc

  parsed_or_not : (tree : File) (refusal : FileRefusal) → IsParsed bytes tree → IsUnread bytes refusal → ⊥
  parsed_or_not tree refusal a (inl b) = once.never_both a.tokens b.error a.are b.refused
  parsed_or_not tree refusal a (inr b) =
      let same : a.tokens ≡ b.tokens = once.one_list a.tokens b.tokens a.are b.are in
      let both : ◌≡◌ {A = Result File ParseError} (Ok tree) (Err b.error) =
      (one_answer b.tokens).once (Ok tree) (Err b.error) (answers_tree tree a b.tokens same) b.fault in
      absurd cc

  -- bytes that are no tokens are refused
  no_text : (error : LexError) → IsLexicalRefusal bytes error → (refusal : FileRefusal) × IsNoText bytes refusal
  no_text (lex.BadUtf8 at) r =
      (record { at = at; cause = causes.BadUtf8 at }, record { error = lex.BadUtf8 at; refused = r; named = refl })
  no_text (lex.BadChar at) r =
      (record { at = at; cause = causes.BadChar at }, record { error = lex.BadChar at; refused = r; named = refl })
  no_text (lex.OpenComment at) r =
      (record { at = at; cause = causes.OpenComment at }, record { error = lex.OpenComment at; refused = r; named = refl })
  no_text (lex.OpenString at) r =
      (record { at = at; cause = causes.OpenString at }, record { error = lex.OpenString at; refused = r; named = refl })
  no_text (lex.LeadingZero at) r =
      (record { at = at; cause = causes.LeadingZero at }, record { error = lex.LeadingZero at; refused = r; named = refl })
  no_text (lex.NumberTooLong at) r =
      (record { at = at; cause = causes.NumberTooLong at }, record { error = lex.NumberTooLong at; refused = r; named = refl })
  no_text lex.Memory r = absurd r.refuses

  -- tokens have a tree or are refused
  tree_or_fault : (tokens : List Token) → AreTokens bytes tokens → (answer : Result File ParseError) → IsAnswer tokens answer
      → ((tree : File) × IsParsed bytes tree) ⊎ ((refusal : FileRefusal) × IsUnread bytes refusal)
  tree_or_fault tokens are (Ok tree) a = inl (tree, record { tokens = tokens; are = are; shallow = a.1; spelled = a.0 })
  tree_or_fault tokens are (Err parse.Memory) a = absurd a
  tree_or_fault tokens are (Err (parse.Unexpected at)) a =
      inr (
        record { at = place_of_token bytes tokens at; cause = causes.Unexpected at },
        inr (record { tokens = tokens; error = parse.Unexpected at; are = are; fault = a; named = refl }),
      )
  tree_or_fault tokens are (Err (parse.TooNested at)) a =
      inr (
        record { at = place_of_token bytes tokens at; cause = causes.TooNested at },
        inr (record { tokens = tokens; error = parse.TooNested at; are = are; fault = a; named = refl }),
      )

  -- bytes have a tree or a refusal
  tree_or_refusal : ((tokens : List Token) × AreTokens bytes tokens) ⊎ ((error : LexError) × IsLexicalRefusal bytes error)
      → ((tree : File) × IsParsed bytes tree) ⊎ ((refusal : FileRefusal) × IsUnread bytes refusal)
  tree_or_refusal (inl read) = let given = (one_answer read.0).given in tree_or_fault read.0 read.1 given.0 given.1
  tree_or_refusal (inr refused) = let found = no_text refused.0 refused.1 in inr (found.0, inl found.1)

  -- for the law of this name, and for that of schemas
  pub one_tree : OneTree bytes
  one_tree = record { some = tree_or_refusal once.some; one_tree = one_parsed; one_refusal = one_unread; never_both = parsed_or_not }
