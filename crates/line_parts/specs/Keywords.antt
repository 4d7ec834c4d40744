-- Words that are known beforehand.
use Rattle.std.specs.Prelude.{ℕ, List, [], ◌∷◌}
use Rattle.byte_rules.specs.Lang.{Lang, as_value, words}
use Rattle.byte_rules.specs.Among.{among_words}

-- one of the words of a table, no two of which are the same, with the value there; the byte behind it is none that a word has
abbrev pub keyword : {A : Type 0} → List (A × List ℕ) → Lang A
keyword {A} table = as_value (λ (entry : A × List ℕ). entry.0) (words (among_words (λ (entry : A × List ℕ). entry.1) table))

-- this word
abbrev pub word : List ℕ → Lang (Unit {0})
word text = keyword ((tt, text) ∷ [])
