use Rattle.std.proofs.Common.{◌≡◌, ℕ, List, Bor, take, true}
use Rattle.std.specs.List.{list_all}
use Rattle.script_words.specs.Letters.{is_name}
use Rattle.script_words.proofs.letters.are_names.Given as goal

abbrev pub invariant-loop-word : goal.invariant-loop-word
invariant-loop-word l = list_all (λ (word : Bor (List ℕ)). is_name word.now) (take l.word-index l.words) ≡ true
