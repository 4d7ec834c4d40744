use Rattle.std.proofs.Common.{Bool, true, false, List, Option, Some, None, [], ◌∷◌, ◌≡◌, ◌∙◌, ◌||◌, cond, ℕ, codes, refl, subst, sym, true≢false, inl, inr}
use Rattle.std.specs.Prelude.{◌⊎◌, find, is_some, option_and_then, option_map, ⊤}
use Rattle.std.specs.Str.{bytes_eq}
use Rattle.std.proofs.lemmas.Option.{none-some}
use Rattle.std.proofs.lemmas.Slice.Eq.{bytes_eq-Decides}
use Rattle.clap.specs.Words.{Kinds, Row, Shape, Text, built, fault_of, subcommand_of}
use Rattle.clap.specs.Kinds.{or_else}
use Rattle.clap.specs.Faults.{check_fault, defaults_fault, entered_fault, level_fault, settle_fault, walk_fault}
use Rattle.clap.specs.Simple.{argument_words, built_leaf, entered, inherited, label_of, marked_built, names_of, on_top, rows_at, with_leaf_noted}
use Rattle.clap.specs.Walk.{Held, Names, answers_to, finished, nothing_held, settled, walk, walk_from}
use Rattle.command_line.specs.Asked.{Command, HasWrongNumber, command_in, decode_with, handles_in, load_with, messages_in, order_in, run_with, seed_in}
use Rattle.command_line.specs.Asked.{unless_fault}
use Rattle.command_line.specs.Definition.{decode, load, run, tool}
use Rattle.command_line.proofs.NoHelp.{IsNoHelp, IsNone, earlier, later, no_help}
use Rattle.command_line.proofs.law.taken_words_have_a_command.Goals as goal

missing : (found : Option (Text × List Row)) (rows : List Row) → check_fault (built tool).top rows (is_some found) ≡ [] → found ≡ None → ⊥
missing None rows e n = subst IsNone (sym e) tt
missing (Some x) rows e n = none-some x (sym n)

level : (s : Shape) (names : Names) (h : Held) (words : List Text) (has_subcommand : Bool) (below : Kinds)
    → level_fault s names h words has_subcommand below ≡ [] → check_fault s (finished s.rules (walk s.rules names h words).held) has_subcommand ≡ []
level s names h words has_subcommand below e =
    let end = (walk s.rules names h words).held in
    let last = check_fault s (finished s.rules end) has_subcommand in
    let defaults = defaults_fault (settled s.rules end).rows s.rules in
    let settle = settle_fault s.rules s.args_override_self end in
    later defaults last (later settle (or_else defaults last) (later below (or_else settle (or_else defaults last))
    (later (walk_fault s names (walk_from h) words) (or_else below (or_else settle (or_else defaults last))) e)))

unfaulted : (kinds : Kinds) (found : Option Command) → kinds ≡ [] → unless_fault kinds found ≡ None → found ≡ None
unfaulted [] found e n = n
unfaulted (k ∷ ks) found e n = absurd (subst IsNone (sym e) tt)

-- words of this command that ask for nothing have a wrong number
abbrev IsNumbered : List Text → Shape → Type 0
IsNumbered words s = command_in (rows_at s words) ≡ None → HasWrongNumber (Some (rows_at s words))

abbrev AllOf : (Shape → Type 0) → List Shape → Type 0
AllOf Q [] = ⊤
AllOf Q (s ∷ rest) = Q s × AllOf Q rest

abbrev OfFound : (Shape → Type 0) → Option Shape → Type 0
OfFound Q None = ⊤
OfFound Q (Some s) = Q s

found_first : (Q : Shape → Type 0) (s : Shape) (other : Option Shape) (b : Bool) → (b ≡ true → Q s) → OfFound Q other → OfFound Q (cond b (Some s) other)
found_first Q s other true here there = here refl
found_first Q s other false here there = there

each : (Q : Shape → Type 0) (test : Shape → Bool) (all : List Shape) → AllOf (λ s. test s ≡ true → Q s) all → OfFound Q (find test all)
each Q test [] h = tt
each Q test (s ∷ rest) h = found_first Q s (find test rest) (test s) h.0 (each Q test rest h.1)

-- a command that is none lacks its number
no_number : (with : ℕ → Command) (number : Option ℕ) → option_map with number ≡ None → number ≡ None
no_number with None e = refl
no_number with (Some n) e = absurd (none-some (with n) (sym e))

-- nor is one that lacks one of its two numbers
no_both : (with : ℕ → ℕ → Command) (one two : Option ℕ) → option_and_then (λ (a : ℕ). option_map (with a) two) one ≡ None
    → (one ≡ None) ⊎ (two ≡ None)
no_both with None two e = inl refl
no_both with (Some a) None e = inr refl
no_both with (Some a) (Some b) e = absurd (none-some (with a b) (sym e))

-- what building makes of `run`
abbrev running : Shape
running = built_leaf (inherited (on_top with_leaf_noted (on_top marked_built tool)).top run.top)

-- what building makes of `decode`
abbrev decoding : Shape
decoding = built_leaf (inherited (on_top with_leaf_noted (on_top marked_built tool)).top decode.top)

-- what building makes of `load`
abbrev loading : Shape
loading = built_leaf (inherited (on_top with_leaf_noted (on_top marked_built tool)).top load.top)

either_false : (b : Bool) → (b || false) ≡ true → b ≡ true
either_false true e = e
either_false false e = e

-- each command but `run`, `decode` and `load` asks for something, and `help` isn't met
numbered : (word : Text) (words : List Text) → bytes_eq word (codes "help") ≡ false
    → AllOf (λ s. answers_to word (label_of s) ≡ true → IsNumbered words s) (built tool).subs
numbered word words fine = (
  λ t none. inl (refl, no_number (run_with (rows_at running words).1) (order_in (rows_at running words).1) none),
  (
    λ t none. absurd (none-some _ (sym none)),
    (
      λ t none. absurd (none-some _ (sym none)),
      (
        λ t none. absurd (none-some _ (sym none)),
        (
          λ t none. inr (inl (refl, no_number (decode_with (rows_at decoding words).1) (handles_in (rows_at decoding words).1) none)),
          (
            λ t none. inr (inr (refl, no_both load_with (seed_in (rows_at loading words).1) (messages_in (rows_at loading words).1) none)),
            (
              λ t none. absurd (none-some _ (sym none)),
              (
                λ t none. absurd (none-some _ (sym none)),
                (
                  λ t none. let same : codes "help" ≡ word = (bytes_eq-Decides (codes "help") word).0 (either_false _ t) in
                      absurd (true≢false (sym ((bytes_eq-Decides word (codes "help")).1 (sym same)) ∙ fine)),
                  tt,
                ),
              ),
            ),
          ),
        ),
      ),
    ),
  ),
)

found_number : (words : List Text) (found : Option Shape) → OfFound (IsNumbered words) found
    → (option_map (λ (s : Shape). rows_at s words) found ≡ None → ⊥)
    → option_and_then command_in (option_map (λ (s : Shape). rows_at s words) found) ≡ None
    → HasWrongNumber (option_map (λ (s : Shape). rows_at s words) found)
found_number words None h some none = absurd (some refl)
found_number words (Some s) h some none = h none

entered_number : (stop : Option (Text × List Text)) → IsNoHelp stop → (entered (built tool) stop ≡ None → ⊥)
    → option_and_then command_in (entered (built tool) stop) ≡ None → HasWrongNumber (entered (built tool) stop)
entered_number None fine some none = absurd (some refl)
entered_number (Some p) fine some none =
    found_number p.1 (find (λ (s : Shape). answers_to p.0 (label_of s)) (built tool).subs)
    (each (IsNumbered p.1) (λ (s : Shape). answers_to p.0 (label_of s)) (built tool).subs (numbered p.0 p.1 fine)) some none

pub returns : goal.returns
returns c = λ words e n.
    let args = argument_words tool words in
    let names = names_of (built tool) in
    let end = walk (built tool).top.rules names nothing_held args in
    let some = missing (entered (built tool) end.stopped) (finished (built tool).top.rules end.held)
    (level (built tool).top names nothing_held args (is_some (entered (built tool) end.stopped)) (entered_fault (built tool) end.stopped) e) in
    entered_number end.stopped (no_help (built tool).top names (walk_from nothing_held) args refl tt (earlier _ _ e)) some
    (unfaulted (fault_of tool words) (option_and_then command_in (subcommand_of tool words)) e n)
