use Rattle.std.proofs.Common.{◌≡◌, take}
use Rattle.std.specs.Prelude.{map}
use Rattle.script_words.specs.Pieces.{line_words}
use Rattle.script_words.specs.Words.{words_now}
use Rattle.script_words.proofs.splitting.split_each.Given as goal

abbrev pub invariant-loop-line : goal.invariant-loop-line
invariant-loop-line l = map words_now l.each.items ≡ map line_words (map (λ line. line.now) (take l.line-index l.lines))
