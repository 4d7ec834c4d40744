use Rattle.mojom_lexer.specs.Bytes.{is_digit, is_hex_digit}
use Rattle.mojom_lexer.proofs.numbers.number_len.Given as goal

-- the test that each run passes
abbrev pub ghost-run_len : goal.ghost-run_len
ghost-run_len a = is_hex_digit

abbrev pub ghost-run_len-2 : goal.ghost-run_len-2
ghost-run_len-2 a = is_digit
