use Rattle.mojom_lexer.specs.Bytes.{stays_on_line}
use Rattle.mojom_lexer.proofs.pieces.comment.Given as goal

-- the test that the run passes
abbrev pub ghost-run_len : goal.ghost-run_len
ghost-run_len a = stays_on_line
