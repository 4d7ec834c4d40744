use Rattle.std.proofs.Common.{◌≡◌, ◌≤◌, ◌-◌, ◌++◌, take, drop}
use Rattle.std.specs.Prelude.{map}
use Rattle.script_words.specs.Pieces.{line_words, words_at, onto}
use Rattle.script_words.specs.steps.Pieces.{place_view}
use Rattle.script_words.proofs.splitting.words_of.Given as goal

abbrev pub invariant-loop-at : goal.invariant-loop-at
invariant-loop-at l = record {
  within : l.from ≤ l.at;
  words : line_words l.line ≡ map (λ word. word.now) l.words.items
      ++ onto (take (l.at - l.from) (drop l.from l.line)) (words_at (place_view l.place) (drop l.at l.line));
}
