-- The words of a line as they are written.
use Rattle.std.specs.Prelude.{ℕ, List, map}
use Rattle.script_words.specs.declared.splitting.Words.{Words}

-- the bytes of each word
abbrev pub words_now : Words → List (List ℕ)
words_now line = map (λ word. word.now) line.words.items
