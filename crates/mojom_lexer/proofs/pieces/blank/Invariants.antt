use Rattle.mojom_lexer.specs.Bytes.{is_blank}
use Rattle.mojom_lexer.proofs.pieces.blank.Given as goal

-- the test that the run passes
abbrev pub ghost-run_len : goal.ghost-run_len
ghost-run_len a = is_blank
