use Rattle.std.proofs.Common.{ap, sym, refl, true, inl, inr, map, List, [], ◌∷◌, Option, None, ◌≡◌, ◌∙◌}
use Rattle.std.specs.Prelude.{option_and_then, string_bytes}
use Rattle.std.proofs.lemmas.Result.{IfErr-weaker, IfOk-weaker}
use Rattle.clap.specs.Words.{App, HasKind, Kinds, Row, Text, fault_of, is_simple, is_simple_and_free, kind_of, subcommand_of}
use Rattle.clap.specs.declared.error.Error.{Error}
use Rattle.clap.specs.declared.error.kind.ErrorKind.TheVariants.{OutOfMemory}
use Rattle.clap.proofs.OnLiterals.{clap_on_literals}
use Rattle.command_line.specs.Asked.{Command, OnWrongUse, command_in, command_of, unless_fault}
use Rattle.command_line.specs.Definition.{tool}
use Rattle.command_line.specs.declared.asked.WordsError.{WordsError}
use Rattle.command_line.specs.declared.asked.WordsError.TheVariants.{Memory, WrongUse}
use Rattle.command_line.proofs.read.read_words.Goals as goal

-- the definition of the commands is one that `clap` has an exact definition for
simple : is_simple tool ≡ true
unfolding clap_on_literals
simple = refl

free : is_simple_and_free tool ≡ true
unfolding clap_on_literals
free = refl

-- without a fault, what was found is what the words ask for
is_asked : (words : List Text) (found : Option (Text × List Row)) → found ≡ subcommand_of tool words → fault_of tool words ≡ []
    → option_and_then command_in found ≡ command_of words
is_asked words found e f =
    ap (option_and_then command_in) e
    ∙ sym (ap (λ (k : Kinds). unless_fault k (option_and_then command_in (subcommand_of tool words))) f)

-- an error that is no want of memory is a fault
refused : (asked : Option Command) (kinds : Kinds) (e : Error) → HasKind kinds e → (kind_of e ≡ OutOfMemory → ⊥) → unless_fault kinds asked ≡ None
refused asked [] e (inl h) n = absurd (n h)
refused asked [] e (inr h) n = absurd h
refused asked (k ∷ ks) e h n = refl

weaker : (e : WordsError) (P Q : Type 0) → (P → Q) → OnWrongUse P e → OnWrongUse Q e
weaker (WrongUse text) P Q f h = f h
weaker Memory P Q f h = h

pub returns-in-Ok-clause-ok : goal.returns-in-Ok-clause-ok
returns-in-Ok-clause-ok c =
    let app = c.in_ok-tool.ensures.app in
    let found = (c.in-Ok.ensures.matches (ap is_simple app ∙ simple)).1
    ∙ ap (λ (a : App). subcommand_of a (map string_bytes c.args.words.now)) app in
    let faultless = sym (ap (λ (a : App). fault_of a (map string_bytes c.args.words.now)) app)
    ∙ c.in-Ok.ensures.kinds (ap is_simple_and_free app ∙ free) in
    IfOk-weaker c.found_command.result _ _ (λ a h. h ∙ is_asked (map string_bytes c.args.words.now) _ found faultless) c.found_command.ensures.ok

pub returns-in-Ok-clause-wrong_use : goal.returns-in-Ok-clause-wrong_use
returns-in-Ok-clause-wrong_use c =
    let app = c.in_ok-tool.ensures.app in
    let found = (c.in-Ok.ensures.matches (ap is_simple app ∙ simple)).1
    ∙ ap (λ (a : App). subcommand_of a (map string_bytes c.args.words.now)) app in
    let faultless = sym (ap (λ (a : App). fault_of a (map string_bytes c.args.words.now)) app)
    ∙ c.in-Ok.ensures.kinds (ap is_simple_and_free app ∙ free) in
    IfErr-weaker c.found_command.result _ _
    (λ e h. weaker e _ _ (λ none. sym (is_asked (map string_bytes c.args.words.now) _ found faultless) ∙ none) h) c.found_command.ensures.wrong_use

pub returns-in-Err-clause-wrong_use : goal.returns-in-Err-clause-wrong_use
returns-in-Err-clause-wrong_use c =
    let app = c.in_ok-tool.ensures.app in
    let faults = ap (λ (a : App). fault_of a (map string_bytes c.args.words.now)) app in
    let kinds = c.in-Err.ensures.kinds (ap is_simple_and_free app ∙ free) in
    let asked = option_and_then command_in (subcommand_of tool (map string_bytes c.args.words.now)) in
    weaker c.refusal.result _ _ (λ n. sym (ap (λ (k : Kinds). unless_fault k asked) faults) ∙ refused asked _ c.in-Err.error kinds n) c.refusal.ensures
