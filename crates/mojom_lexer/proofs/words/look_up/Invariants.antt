use Rattle.std.proofs.Common.{◌≡◌, drop, map}
use Rattle.mojom_lexer.specs.Words.{keyword_in}
use Rattle.mojom_lexer.proofs.words.look_up.Given as goal

abbrev pub invariant-loop-text : goal.invariant-loop-text
invariant-loop-text l =
    keyword_in (map (λ entry. (entry.0.now, entry.1)) (drop l.text-index l.table)) l.word ≡ keyword_in (map (λ entry. (entry.0.now, entry.1)) l.table) l.word
