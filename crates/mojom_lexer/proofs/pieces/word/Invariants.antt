use Rattle.mojom_lexer.specs.Bytes.{goes_on}
use Rattle.mojom_lexer.proofs.pieces.word.Given as goal

-- the test that the run passes
abbrev pub ghost-run_len : goal.ghost-run_len
ghost-run_len a = goes_on
