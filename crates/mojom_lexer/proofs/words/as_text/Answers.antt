use Rattle.mojom_lexer.proofs.Runs.{word_utf8}
use Rattle.mojom_lexer.proofs.words.as_text.Goals as goal

pub unreachable-requires : goal.unreachable-requires
unreachable-requires c = c.in-Err.ensures.cases.0 (word_utf8 c.args.word.now c.requires)
