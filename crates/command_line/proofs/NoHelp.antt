-- Words without a fault never stop at `help`: that word is itself a fault.
use Rattle.std.proofs.Common.{Bool, true, false, List, Option, Some, None, [], ◌∷◌, ◌≡◌, ◌&&◌, ℕ, codes, refl, subst, sym, if◌then◌else◌}
use Rattle.std.specs.Prelude.{fold, is_some, not, ⊤}
use Rattle.std.specs.Str.{bytes_eq}
use Rattle.clap.specs.Words.{Kinds, Rule, Shape, Text}
use Rattle.clap.specs.Kinds.{or_else}
use Rattle.clap.specs.Faults.{other_fault, step_fault, turn_fault, walk_fault, word_fault}
use Rattle.clap.specs.Lexer.{long_of, short_of}
use Rattle.clap.specs.Walk.{Held, Names, Outcome, Step, Waiting, Walk, done, idle, next, option, plain, positional, refused, subcommand, trailing, value, waits}
use Rattle.clap.specs.Walk.{after_flag, after_step, arg_by_index, arg_by_long, bundle, long_met, long_or_other, plain_word, short_or_plain}
use Rattle.clap.specs.Walk.{subcommand_met, subcommand_or_other, to_positional, walked, walked_from, word_met}

abbrev pub IsNone : Kinds → Type 0
IsNone [] = ⊤
IsNone (k ∷ ks) = ⊥

pub earlier : (a b : Kinds) → or_else a b ≡ [] → a ≡ []
earlier [] b e = refl
earlier (k ∷ ks) b e = absurd (subst IsNone (sym e) tt)

pub later : (a b : Kinds) → or_else a b ≡ [] → b ≡ []
later [] b e = e
later (k ∷ ks) b e = absurd (subst IsNone (sym e) tt)

-- a walk hasn't stopped at the word `help`
abbrev pub IsNoHelp : Option (Text × List Text) → Type 0
IsNoHelp None = ⊤
IsNoHelp (Some stop) = bytes_eq stop.0 (codes "help") ≡ false

-- a word doesn't stop it there
abbrev IsNoHelpStep : Step → Type 0
IsNoHelpStep (next waiting) = ⊤
IsNoHelpStep (trailing position) = ⊤
IsNoHelpStep (subcommand name) = bytes_eq name (codes "help") ≡ false
IsNoHelpStep value = ⊤

plain_step : (c : List Rule) (waiting : Waiting) (word : Text) (h : Held) → IsNoHelpStep (plain_word c waiting word h).1
plain_step c idle word h = tt
plain_step c (option id) word h = tt
plain_step c positional word h = tt

flag_step : (c : List Rule) (waiting : Waiting) (word : Text) (h : Held) (outcome : Outcome) → IsNoHelpStep (after_flag c waiting word h outcome).1
flag_step c waiting word h done = tt
flag_step c waiting word h (waits id) = tt
flag_step c waiting word h plain = plain_step c waiting word h
flag_step c waiting word h refused = plain_step c waiting word h

short_step : (c : List Rule) (waiting : Waiting) (word : Text) (flags : Option Text) (h : Held) → IsNoHelpStep (short_or_plain c waiting word flags h).1
short_step c waiting word (Some flags) h = flag_step c waiting word (bundle c flags h).0 (bundle c flags h).1
short_step c waiting word None h = plain_step c waiting word h

long_step : (c : List Rule) (waiting : Waiting) (word : Text) (found : Option (Text × Option Text)) (h : Held)
    → IsNoHelpStep (long_or_other c waiting word found h).1
long_step c waiting word (Some p) h =
    flag_step c waiting word (long_met c (arg_by_long c p.0) p.1 h).0 (long_met c (arg_by_long c p.0) p.1 h).1
long_step c waiting word None h = short_step c waiting word (short_of word) h

dashes_step : (c : List Rule) (waiting : Waiting) (position : ℕ) (word : Text) (h : Held) (dashes : Bool)
    → IsNoHelpStep (if dashes then (h, trailing position) else long_or_other c waiting word (long_of word) h).1
dashes_step c waiting position word h true = tt
dashes_step c waiting position word h false = long_step c waiting word (long_of word) h

name_step : (is_help is_off : Bool) (kinds : Kinds) → (IsNone kinds → ⊥) → is_off ≡ false → (if is_help && not is_off then kinds else []) ≡ []
    → is_help ≡ false
name_step false is_off kinds some off e = refl
name_step true true kinds some off e = absurd cc
name_step true false kinds some off e = absurd (some (subst IsNone (sym e) tt))

met_step : (s : Shape) (met : Option Text) (waiting : Waiting) (position : ℕ) (word : Text) (h : Held) → s.disable_help_subcommand ≡ false
    → other_fault s met word h ≡ [] → IsNoHelpStep (subcommand_or_other s.rules met waiting position word h).1
met_step s (Some name) waiting position word h off e =
    name_step (bytes_eq name (codes "help")) s.disable_help_subcommand _ (λ none. none) off e
met_step s None waiting position word h off e = dashes_step s.rules waiting position word h (bytes_eq word (45 ∷ 45 ∷ []))

word_step : (s : Shape) (names : Names) (is_trailing : Bool) (waiting : Waiting) (position : ℕ) (word : Text) (h : Held)
    → s.disable_help_subcommand ≡ false → word_fault s names is_trailing waiting word h ≡ []
    → IsNoHelpStep (word_met s.rules names is_trailing waiting position word h).1
word_step s names true waiting position word h off e = tt
word_step s names false waiting position word h off e = met_step s (subcommand_met names waiting word) waiting position word h off e

at_positional : (c : List Rule) (a : Option Rule) (word : Text) (w : Walk) (h : Held) → IsNoHelp w.stopped → IsNoHelp (to_positional c a word w h).stopped
at_positional c None word w h fine = fine
at_positional c (Some a) word w h fine = tt

after : (c : List Rule) (word : Text) (w : Walk) (h : Held) (step : Step) → IsNoHelp w.stopped → IsNoHelpStep step
    → IsNoHelp (after_step c word w h step).stopped
after c word w h (next waiting) fine is = fine
after c word w h (trailing position) fine is = fine
after c word w h (subcommand name) fine is = is
after c word w h value fine is = at_positional c (arg_by_index c w.position) word w h fine

turn : (s : Shape) (names : Names) (w : Walk) (word : Text) (stopped : Option (Text × List Text)) → s.disable_help_subcommand ≡ false
    → IsNoHelp w.stopped → IsNoHelp stopped
    → (if is_some stopped then [] else or_else (word_fault s names w.is_trailing w.waiting word w.held)
    (step_fault s w.position (word_met s.rules names w.is_trailing w.waiting w.position word w.held).0
    (word_met s.rules names w.is_trailing w.waiting w.position word w.held).1)) ≡ []
    → IsNoHelp (walked_from s.rules names stopped w word).stopped
turn s names w word (Some p) off fine stop e = stop
turn s names w word None off fine stop e =
    let met = word_met s.rules names w.is_trailing w.waiting w.position word w.held in
    after s.rules word w met.0 met.1 fine
    (word_step s names w.is_trailing w.waiting w.position word w.held off
    (earlier (word_fault s names w.is_trailing w.waiting word w.held) (step_fault s w.position met.0 met.1) e))

-- a walk without a fault never stops at `help`
pub no_help : (s : Shape) (names : Names) (w : Walk) (words : List Text) → s.disable_help_subcommand ≡ false → IsNoHelp w.stopped
    → walk_fault s names w words ≡ [] → IsNoHelp (fold (walked s.rules names) w words).stopped
unfolding walked walk_fault
no_help s names w [] off fine e = fine
no_help s names w (word ∷ words) off fine e =
    no_help s names (walked s.rules names w word) words off
    (turn s names w word w.stopped off fine fine
    (earlier (turn_fault s names w word) (walk_fault s names (walked s.rules names w word) words) e))
    (later (turn_fault s names w word) (walk_fault s names (walked s.rules names w word) words) e)
